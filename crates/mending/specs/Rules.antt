-- "The mended pack passes restart": it keeps the disk rules, if its parents are lower.
use Rattle.std.proofs.Math.Path.{◌≡◌, ap, sym}
use Rattle.std.specs.Prelude.{refl, ◌⊎◌, replicate}
use Rattle.std.proofs.Common.{◌∙◌, mod-lt, div-lt_iff_lt-mul, div-add-mod'}
use Rattle.std.proofs.Math.Logic.{inl, inr}
use Prim.Native.Nat.{ℕ, suc, ◌/◌, ◌%◌, ◌<◌, ◌≤◌}
use native.Mathlib.Omega.{arith}
use Rattle.std.proofs.Math.Decide.{ℕ_discrete, dec_lt}
use Rattle.tables.specs.Base.{at}
use Rattle.tables.specs.Laws.{at_zeros}
use Rattle.tables.specs.Rule.{Rule, Holds}
use Rattle.model.specs.declared.sizes.Sizes.{Sizes}
use Rattle.model.specs.State.{Disk, Memory, State, all_pages, page_of, slot_of}
use Rattle.model.specs.Rules.{lower, disk_rules}
use Rattle.model.specs.Laws.Ruled.{disk_ruled, rules_disk}
use Rattle.model.specs.Restart.{raised, restarted}
use Rattle.model.specs.Laws.Own.{refusal, first_yes, first_no_holds}
use Rattle.model.specs.Step.{outcome, disk_lengths, memory_lengths, all_fit, restart}
use Rattle.model.specs.Sizes.{sizes_fit}
use Rattle.model.specs.Laws.Fit.{disk_fit, fit_disk}
use Rattle.tables.specs.Questions.{none, ask, first_no}
use Rattle.mending.specs.Mend.{Pack, Place, number, account, entry, slot_at, held, wants, after, mended, pack_of, with_pack}
use Rattle.mending.specs.Places.{PackFit, In, after_fit, after_held, down, stays_zero}

-- an entry by the number of its page in the table
module _ (z : Sizes) (pos : 0 < z.pages) (i : ℕ) (h : i < all_pages z) where
  abbrev its : Place
  its = entry (i / z.pages) (i % z.pages)

  its_in : In z its
  its_in = ((div-lt_iff_lt-mul pos).1 h, mod-lt i pos)

  its_page : page_of z (i / z.pages) (i % z.pages) ≡ i
  its_page = div-add-mod' i z.pages

-- the disk part with a pack in it, and any memory
abbrev pub state_with : Disk → Pack → Memory → State
state_with d p m = record { disk = with_pack d p; memory = m }

-- ── the mended pack keeps the disk rules ──
module _ (z : Sizes) (d : Pack) (f : PackFit z d) (q : 0 < z.accounts) where
  abbrev num : ℕ → ℕ → ℕ
  num k s = at (after z d k).numbers s

  abbrev acc : ℕ → ℕ → ℕ
  acc k s = at (after z d k).accounts s

  abbrev map : ℕ → ℕ → ℕ
  map k i = at (after z d k).maps i

  -- step 2 changes no number: it is of slots whose number is 0
  number_2 : (s : ℕ) → s < z.slots → num 2 s ≡ num 1 s
  unfolding wants
  number_2 s h = elim (after_held z d 1 f (number s) h) [ inl a ↦ absurd (a.0.0 a.0.1) | inr a ↦ a.1 ]

  number_5 : (s : ℕ) → s < z.slots → num 5 s ≡ num 1 s
  unfolding wants
  number_5 s h =
      let a : num 3 s ≡ num 2 s = elim (after_held z d 2 f (number s) h) [ inl a ↦ absurd a.0.1 | inr a ↦ a.1 ] in
      let b : num 4 s ≡ num 3 s = elim (after_held z d 3 f (number s) h) [ inl a ↦ absurd a.0.1 | inr a ↦ a.1 ] in
      let c : num 5 s ≡ num 4 s = elim (after_held z d 4 f (number s) h) [ inl a ↦ absurd a.0.1 | inr a ↦ a.1 ] in
      c ∙ b ∙ a ∙ number_2 s h

  -- of two slots with one number the upper is emptied
  upper_gone : (s t : ℕ) → s < t → t < z.slots → ¬ (num 1 t ≡ 0) → ¬ (num 1 s ≡ num 1 t)
  unfolding wants after
  upper_gone s t l h nz e = elim (after_held z d 0 f (number t) h) [
    | inl a ↦ nz a.1
    | inr a ↦ elim (after_held z d 0 f (number s) (omega (arith, l, h))) [
      | inl b ↦ nz (sym e ∙ b.1)
      | inr b ↦ let g : ¬ (at d.numbers t ≡ 0) = λ w. nz (a.1 ∙ w) in a.0 (g, (g, (s, l, sym b.1 ∙ e ∙ a.1)))
    ]
  ]

  pub number_once_holds : (s : ℕ) → s < z.slots → (t : ℕ) → t < z.slots → (r : ℕ) → num 5 s ≡ suc r → num 5 t ≡ suc r → s ≡ t
  number_once_holds s h t k r a b =
      let a' : num 1 s ≡ suc r = sym (number_5 s h) ∙ a in
      let b' : num 1 t ≡ suc r = sym (number_5 t k) ∙ b in
      elim (dec_lt s t) [
        | yes l ↦ absurd (upper_gone s t l k (λ w. omega (arith, w, b')) (a' ∙ sym b'))
        | no l ↦ elim (dec_lt t s) [ yes m ↦ absurd (upper_gone t s m h (λ w. omega (arith, w, a')) (b' ∙ sym a')) | no m ↦ omega (arith, l, m) ]
      ]

  -- a place of an empty slot that is not its number is 0 from step 2 on
  empty_2 : (x : Place) → In z x → num 1 (slot_at x) ≡ 0 → held z (after z d 2) x ≡ 0
  unfolding wants
  empty_2 x h e = elim (after_held z d 1 f x h) [
    | inl a ↦ a.1
    | inr a ↦ elim (ℕ_discrete (held z (after z d 1) x) 0) [ yes w ↦ a.1 ∙ w | no w ↦ absurd (a.0 (w, e)) ]
  ]

  pub empty_account_holds : (s : ℕ) → s < z.slots → num 5 s ≡ 0 → acc 5 s ≡ 0
  empty_account_holds s h e = stays_zero z d f (account s) h 2 3 (empty_2 (account s) h (sym (number_5 s h) ∙ e))

  pub empty_map_holds : (i : ℕ) → i < all_pages z → num 5 (slot_of z i) ≡ 0 → map 5 i ≡ 0
  empty_map_holds i h e =
      let n = its_in z f.pages i h in
      rw (its_page z f.pages i h) at (stays_zero z d f (its z f.pages i h) n 2 3 (empty_2 (its z f.pages i h) n (sym (number_5 (slot_of z i) n.0) ∙ e)))

  account_3 : (s : ℕ) → s < z.slots → acc 3 s < z.accounts
  unfolding wants
  account_3 s h = elim (after_held z d 2 f (account s) h) [
    | inl a ↦ rw a.1 q
    | inr a ↦ elim (dec_lt (acc 2 s) z.accounts) [ yes w ↦ rw a.1 w | no w ↦ absurd (a.0 (λ e. w (rw e q), w)) ]
  ]

  pub account_fit_holds : (s : ℕ) → s < z.slots → acc 5 s < z.accounts
  account_fit_holds s h = elim (down z d f (account s) h 3 2) [ inl a ↦ rw a q | inr a ↦ rw a (account_3 s h) ]

  pub entry_4 : (x : Place) → In z x → (s p : ℕ) → x ≡ entry s p → held z (after z d 4) x ≤ z.records
  unfolding wants
  entry_4 (number s) h t p e = absurd (other e)
    where
      other : number s ≡ entry t p → ⊥
      other c = let w : ◌≡◌ {A = ℕ} 0 1 = cc in omega arith
  entry_4 (account s) h t p e = absurd (other e)
    where
      other : account s ≡ entry t p → ⊥
      other c = let w : ◌≡◌ {A = ℕ} 0 1 = cc in omega arith
  entry_4 (entry s r) h t p e = elim (after_held z d 3 f (entry s r) h) [
    | inl a ↦ rw a.1 (omega arith)
    | inr a ↦ elim (dec_lt z.records (map 3 (page_of z s r))) [ yes w ↦ absurd (a.0 (λ o. omega (arith, w, o), w)) | no w ↦ rw a.1 (omega (arith, w)) ]
  ]

  pub map_fit_4 : (i : ℕ) → i < all_pages z → map 4 i ≤ z.records
  map_fit_4 i h = rw (its_page z f.pages i h) at (entry_4 (its z f.pages i h) (its_in z f.pages i h) (i / z.pages) (i % z.pages) refl)

  -- what stands after step 5 stood before it
  stood : (i : ℕ) → i < all_pages z → (map 5 i ≡ 0) ⊎ (map 5 i ≡ map 4 i)
  stood i h = rw (its_page z f.pages i h) at (down z d f (its z f.pages i h) (its_in z f.pages i h) 4 1)

  pub map_fit_holds : (i : ℕ) → i < all_pages z → (r : ℕ) → map 5 i ≡ suc r → r < z.records
  map_fit_holds i h r e = elim (stood i h) [ inl a ↦ absurd (omega (arith, a, e)) | inr a ↦ omega (arith, a, e, map_fit_4 i h) ]

  -- two entries that name one record: step 5 wants the first of them
  named_twice : (i : ℕ) → i < all_pages z → (j : ℕ) → j < all_pages z → (r : ℕ) → ¬ (i ≡ j) → map 4 i ≡ suc r → map 4 j ≡ suc r → map 5 i ≡ 0
  unfolding wants
  named_twice i h j k r n a b =
      let x = its z f.pages i h in
      let g : held z (after z d 4) x ≡ suc r = ap (map 4) (its_page z f.pages i h) ∙ a in
      let w : held z (after z d 5) x ≡ 0 = elim (after_held z d 4 f x (its_in z f.pages i h)) [
        | inl c ↦ c.1
        | inr c ↦ absurd (c.0 (λ o. omega (arith, o, g), (r, g, (i, h, (j, k, (n, (a, b)))))))
      ] in
      rw (its_page z f.pages i h) at w

  pub map_once_holds : (i : ℕ) → i < all_pages z → (j : ℕ) → j < all_pages z → (r : ℕ) → map 5 i ≡ suc r → map 5 j ≡ suc r → i ≡ j
  map_once_holds i h j k r a b = elim (ℕ_discrete i j) [
    | yes e ↦ e
    | no e ↦ elim (stood i h) [
      | inl c ↦ absurd (omega (arith, a, c))
      | inr c ↦ elim (stood j k) [ inl o ↦ absurd (omega (arith, b, o)) | inr o ↦ absurd (omega (arith, a, named_twice i h j k r e (sym c ∙ a) (sym o ∙ b))) ]
    ]
  ]

-- the lengths of a disk part that passes question 1
pub pack_fit : (z : Sizes) (d : Disk) → Holds (sizes_fit z) → Holds (disk_lengths z d) → PackFit z (pack_of d)
pack_fit z d s l = let f = disk_fit z d l in record { pages = s.1.1.1.1.0.0; numbers = f.numbers; accounts = f.accounts; maps = f.maps }

module _ (z : Sizes) (d : Disk) (fits : Holds (sizes_fit z)) (long : Holds (disk_lengths z d)) where
  abbrev f : PackFit z (pack_of d)
  f = pack_fit z d fits long

  abbrev q : 0 < z.accounts
  q = fits.1.1.1.1.1.0.0

  abbrev low : Rule
  low = lower z.accounts (at d.parents)

  -- "The mended pack passes restart": it keeps the disk rules, if its parents are lower: mending leaves these as they are ..
  pub mended_rules : Holds low → (m : Memory) → Holds (disk_rules z (state_with d (mended z (pack_of d)) m))
  mended_rules l m = rules_disk z (state_with d (mended z (pack_of d)) m) (record {
    empty_account_holds = empty_account_holds z (pack_of d) f q;
    empty_map_holds = empty_map_holds z (pack_of d) f q;
    map_fit_holds = map_fit_holds z (pack_of d) f q;
    map_once_holds = map_once_holds z (pack_of d) f q;
    number_once_holds = number_once_holds z (pack_of d) f q;
    account_fit_holds = account_fit_holds z (pack_of d) f q;
    parent_lower_holds = l;
  })

  -- .. and the lengths
  pub mended_lengths : Holds (disk_lengths z (with_pack d (mended z (pack_of d))))
  mended_lengths = let g = after_fit z (pack_of d) 5 f in let o = disk_fit z d long in
      fit_disk z (with_pack d (mended z (pack_of d))) (record { records = o.records; numbers = g.numbers; accounts = g.accounts; maps = g.maps; limits = o.limits; parents = o.parents; highest = o.highest })

  -- .. so restart is carried out, whatever memory holds
  pub restarts : Holds low → (m : Memory) → Holds (memory_lengths z m) → restart z (state_with d (mended z (pack_of d)) m) ≡ refusal 0 (restarted z (raised z (with_pack d (mended z (pack_of d)))))
  unfolding restart all_fit first_no
  restarts h m l = let st = state_with d (mended z (pack_of d)) m in
      ap (λ (n : ℕ). outcome n 0 st (restarted z (raised z st.disk)))
      (first_yes 1 (all_fit z st) (ask 2 (disk_rules z st) none) (fits, (mended_lengths, l)) ∙ first_yes 2 (disk_rules z st) none (mended_rules h m))

  -- "A parent that is not lower gets 2 where 2 is asked, even on a mended pack."
  pub not_lower : ¬ (Holds low) → (m : Memory) → Holds (memory_lengths z m) → (let st = state_with d (mended z (pack_of d)) m in restart z st ≡ refusal 2 st)
  unfolding restart all_fit first_no
  not_lower n m l = let st = state_with d (mended z (pack_of d)) m in
      ap (λ (k : ℕ). outcome k 0 st (restarted z (raised z st.disk)))
      (first_yes 1 (all_fit z st) (ask 2 (disk_rules z st) none) (fits, (mended_lengths, l)) ∙ first_no_holds 2 (disk_rules z st) none (λ h. n (disk_ruled z st h).parent_lower_holds))

-- "older packs have 0 there": these are lower
pub older_lower : (n : ℕ) → Holds (lower n (at (replicate n 0)))
older_lower n a h pos = omega (arith, pos, at_zeros n a)
