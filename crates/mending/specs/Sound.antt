-- A pack that keeps the disk rules: "mending again lists no change, and a sound pack is unchanged."
use Rattle.std.specs.Prelude.{◌≡◌, Bool, [], T}
use Rattle.std.proofs.Math.Path.{refl}
use Rattle.std.proofs.Common.{◌∙◌, arith}
use Prim.Native.Nat.{ℕ, zero, suc, ◌<◌}
use Rattle.std.proofs.Math.Arith.{digits_div}
use Rattle.tables.specs.Base.{at}
use Rattle.tables.specs.Laws.{¬T→false}
use Rattle.tables.specs.Rule.{Holds, test, sound}
use Rattle.model.specs.declared.sizes.Sizes.{Sizes}
use Rattle.model.specs.State.{Disk, State, all_pages, page_of, slot_of}
use Rattle.model.specs.Rules.{disk_rules}
use Rattle.model.specs.Laws.Ruled.{disk_ruled}
use Rattle.model.specs.Step.{disk_lengths}
use Rattle.model.specs.Sizes.{sizes_fit}
use Rattle.mending.specs.Mend.{Pack, Place, number, account, entry, slot_at, place_at, all_places, held, doubled, wants, changes, listed, gather, after, listed_by, mended, all_changes, pack_of}
use Rattle.mending.specs.Places.{PackFit, In, page_inside, place_in, cleared_none, after_fit}
use Rattle.mending.specs.Rules.{pack_fit, number_once_holds, empty_account_holds, empty_map_holds, account_fit_holds, map_fit_holds, map_once_holds}

module _ (z : Sizes) (d : Pack) (f : PackFit z d) where
  -- the rules, of the pack's look-ups
  pub record Sound : Type 0 where
    pub empty_account_holds : (s : ℕ) → s < z.slots → at d.numbers s ≡ 0 → at d.accounts s ≡ 0
    pub empty_map_holds : (i : ℕ) → i < all_pages z → at d.numbers (slot_of z i) ≡ 0 → at d.maps i ≡ 0
    pub map_fit_holds : (i : ℕ) → i < all_pages z → (r : ℕ) → at d.maps i ≡ suc r → r < z.records
    pub map_once_holds : (i : ℕ) → i < all_pages z → (j : ℕ) → j < all_pages z → (r : ℕ) → at d.maps i ≡ suc r → at d.maps j ≡ suc r → i ≡ j
    pub number_once_holds : (s : ℕ) → s < z.slots → (t : ℕ) → t < z.slots → (r : ℕ) → at d.numbers s ≡ suc r → at d.numbers t ≡ suc r → s ≡ t
    pub account_fit_holds : (s : ℕ) → s < z.slots → at d.accounts s < z.accounts

  module _ (o : Sound) where
    slot_in : (x : Place) → In z x → slot_at x < z.slots
    slot_in (number s) h = h
    slot_in (account s) h = h
    slot_in (entry s p) h = h.0

    not_doubled : (s : ℕ) → s < z.slots → ¬ (Holds (doubled z d s))
    not_doubled s h (nz, (t, l, e)) = go (at d.numbers s) refl
      where
        go : (n : ℕ) → at d.numbers s ≡ n → ⊥
        go zero w = nz w
        go (suc r) w = omega (arith, l, o.number_once_holds s h t (omega (arith, l, h)) r w (e ∙ w))

    -- a place of a slot whose number is 0 is 0
    empty : (x : Place) → In z x → at d.numbers (slot_at x) ≡ 0 → held z d x ≡ 0
    empty (number s) h e = e
    empty (account s) h e = o.empty_account_holds s h e
    empty (entry s p) h e = o.empty_map_holds (page_of z s p) (page_inside z s p h.0 h.1) (rw (digits_div s h.1) e)

    -- no step wants a place that is not 0
    pub none_changes : (k : ℕ) (x : Place) → In z x → ¬ (Holds (changes z d k x))
    unfolding wants
    none_changes zero x h c = not_doubled (slot_at x) (slot_in x h) c.1
    none_changes (suc zero) x h c = c.0 (empty x h c.1)
    none_changes (suc (suc zero)) (number s) h c = c.1
    none_changes (suc (suc zero)) (account s) h c = c.1 (o.account_fit_holds s h)
    none_changes (suc (suc zero)) (entry s p) h c = c.1
    none_changes (suc (suc (suc zero))) (number s) h c = c.1
    none_changes (suc (suc (suc zero))) (account s) h c = c.1
    none_changes (suc (suc (suc zero))) (entry s p) h c = go (at d.maps (page_of z s p)) refl
      where
        go : (n : ℕ) → at d.maps (page_of z s p) ≡ n → ⊥
        go zero w = c.0 w
        go (suc r) w = omega (arith, w, c.1, o.map_fit_holds (page_of z s p) (page_inside z s p h.0 h.1) r w)
    none_changes (suc (suc (suc (suc k)))) (number s) h c = c.1
    none_changes (suc (suc (suc (suc k)))) (account s) h c = c.1
    none_changes (suc (suc (suc (suc k)))) (entry s p) h (nz, (r, e, (i, a, (j, b, (n, (u, v)))))) = n (o.map_once_holds i a j b r u v)

    gather_none : {A : Type 0} (n : ℕ) (p : ℕ → Bool) (g : ℕ → A) → ((i : ℕ) → i < n → ¬ (T (p i))) → gather n p g ≡ []
    unfolding gather
    gather_none zero p g h = refl
    gather_none (suc n) p g h = rw (gather_none n p g (λ i l. h i (omega arith)), ¬T→false (p n) (h n (omega arith)))

    pub listed_none : (k n : ℕ) → listed z d n (changes z d k) ≡ []
    unfolding listed
    listed_none k n = gather_none (all_places z) (λ i. test (changes z d k (place_at z i))) _ (λ i h t. none_changes k (place_at z i) (place_in z i h) (sound (changes z d k (place_at z i)) t))

    pub after_same : (k : ℕ) → after z d k ≡ d
    unfolding after
    after_same zero = refl
    after_same (suc k) = rw (after_same k) (cleared_none z d (changes z d k) f (none_changes k))

    pub listed_same : (k : ℕ) → listed_by z d k ≡ []
    unfolding listed_by
    listed_same zero = refl
    listed_same (suc k) = rw (listed_same k, after_same k) (listed_none k (suc k))

pub sound_pack : (z : Sizes) (st : State) (f : PackFit z (pack_of st.disk)) → Holds (disk_rules z st) → Sound z (pack_of st.disk) f
sound_pack z st f h = let o = disk_ruled z st h in record {
  empty_account_holds = o.empty_account_holds;
  empty_map_holds = o.empty_map_holds;
  map_fit_holds = o.map_fit_holds;
  map_once_holds = o.map_once_holds;
  number_once_holds = o.number_once_holds;
  account_fit_holds = o.account_fit_holds;
}

-- "and a sound pack is unchanged", with no change listed
pub sound_same : (z : Sizes) (st : State) → Holds (sizes_fit z) → Holds (disk_lengths z st.disk) → Holds (disk_rules z st) → (mended z (pack_of st.disk) ≡ pack_of st.disk) × (all_changes z (pack_of st.disk) ≡ [])
sound_same z st fits long h = let f = pack_fit z st.disk fits long in let o = sound_pack z st f h in
    (after_same z (pack_of st.disk) f o 5, listed_same z (pack_of st.disk) f o 5)

-- "mending again lists no change", and changes none, whatever the parents
pub mended_again : (z : Sizes) (d : Disk) → Holds (sizes_fit z) → Holds (disk_lengths z d) → (let e = mended z (pack_of d) in (mended z e ≡ e) × (all_changes z e ≡ []))
mended_again z d fits long = let f = pack_fit z d fits long in let g = after_fit z (pack_of d) 5 f in let q = fits.1.1.1.1.1.0.0 in
    let o : Sound z (mended z (pack_of d)) g = record {
      empty_account_holds = empty_account_holds z (pack_of d) f q;
      empty_map_holds = empty_map_holds z (pack_of d) f q;
      map_fit_holds = map_fit_holds z (pack_of d) f q;
      map_once_holds = map_once_holds z (pack_of d) f q;
      number_once_holds = number_once_holds z (pack_of d) f q;
      account_fit_holds = account_fit_holds z (pack_of d) f q;
    } in
    (after_same z (mended z (pack_of d)) g o 5, listed_same z (mended z (pack_of d)) g o 5)
