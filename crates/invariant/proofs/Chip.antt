-- The chip: what goes in and what is dropped keep its rules and its lengths; a copy's words are its record's.
use mathlib.Core.Path.{◌≡◌, refl, ap, sym, ◌∙◌, subst}
use mathlib.Core.Logic.{◌⊎◌, inl, inr}
use mathlib.Core.List.{List}
use Prim.Native.Nat.{ℕ, suc, ◌+◌, ◌*◌, ◌/◌, ◌%◌, ◌<◌}
use native.Mathlib.Nat.{mod-lt}
use native.Mathlib.Omega.{arith}
use native.Mathlib.Decide.{ℕ_discrete, dec_lt}
use lib.Dec.{T, eqb, eqb→eq}
use lib.ListN.{length, set, length-set, length-replicate, get_or-eq_default}
use lib.Seq.{get_or-set_same}
use Rattle.tables.specs.Base.{at, find}
use Rattle.tables.specs.Laws.{found, Found, eq→T, if_elim, at_zeros}
use Rattle.tables.specs.Rule.{Holds, test, decided, told, untold}
use Rattle.tables.specs.Store.{Split, store, at_store, length_store, choose_none}
use Rattle.model.specs.declared.sizes.Sizes.{Sizes}
use Rattle.model.specs.Lines.{LIVE}
use Rattle.model.specs.State.{Chip}
use Rattle.model.specs.Rules
use Rattle.model.specs.Laws.Ruled.{OfChip}
use Rattle.model.specs.Laws.Fit.{ChipFit}
use Rattle.model.specs.Laws.Index.{split_set}
use Rattle.model.specs.Parts.{set_part}
use Rattle.model.specs.Chip.{has_copy, place_of, place_for, copied, stale, only_live, empty_chip}
use Rattle.invariant.proofs.FrameParts.{part_of, part_fit, part_set, part_other}

-- the rules, but for copies of records that are not live: what is left before these are dropped
pub record Sound (z : Sizes) (state word : ℕ → ℕ) (k : Chip) : Type 0 where
  pub next : Holds (Rules.next_fit z state word k)
  pub once : Holds (Rules.copy_once z state word k)
  pub empty : Holds (Rules.copy_empty z state word k)
  pub words : (b : ℕ) → b < z.chip → (r : ℕ) → at k.copies b ≡ suc r → state r ≡ LIVE → (w : ℕ) → w < z.words → at k.words (b * z.words + w) ≡ word (r * z.words + w)

module _ (z : Sizes) (k : Chip) (fit : ChipFit z k) where
  -- ── the chip as it was, whatever became of the records' states ──
  pub sound_same : (state state' word : ℕ → ℕ) → OfChip z state word k → Sound z state' word k
  sound_same state state' word o = record { next = o.next; once = o.once; empty = o.empty; words = λ b h r e l w lw. (o.live b h r e).1 w lw }

  -- ── a copy is dropped where its record is not live ──
  module _ (state : ℕ → ℕ) where
    copy_at : (b : ℕ) → b < z.chip → Split (Holds (stale z state k b)) (at (only_live z state k).copies b) 0 (at k.copies b)
    unfolding only_live
    copy_at b h = at_store k.copies (stale z state k) (λ j. 0) b (rw fit.copies h)

    word_at : (b : ℕ) → b < z.chip → (w : ℕ) → w < z.words → Split (Holds (stale z state k b)) (at (only_live z state k).words (b * z.words + w)) 0 (at k.words (b * z.words + w))
    unfolding only_live
    word_at b h w lw = subst (λ (c : ℕ). Split (Holds (stale z state k c)) (at (store k.words (λ j. stale z state k (j / z.words)) (λ j. 0)) (b * z.words + w)) 0 (at k.words (b * z.words + w)))
        (part_of b w z.words lw) (at_store k.words (λ j. stale z state k (j / z.words)) (λ j. 0) (b * z.words + w) (rw fit.words (part_fit b z.chip w z.words h lw)))

    -- a place that is not empty then was not stale
    kept : (b : ℕ) → b < z.chip → (r : ℕ) → at (only_live z state k).copies b ≡ suc r → (¬ (Holds (stale z state k b))) × (at k.copies b ≡ suc r)
    kept b h r e = elim (copy_at b h) [ inl x ↦ absurd (omega (arith, x.1, e)) | inr x ↦ (x.0, sym x.1 ∙ e) ]

    pub only_live_holds : (word : ℕ → ℕ) → Sound z state word k → OfChip z state word (only_live z state k)
    unfolding only_live
    only_live_holds word o = record {
      next = o.next;
      once = λ i hi j hj r p q. o.once i hi j hj r (kept i hi r p).1 (kept j hj r q).1;
      empty = λ b h e w lw. elim (word_at b h w lw) [
        | inl x ↦ x.1
        | inr x ↦ x.1 ∙ elim (copy_at b h) [ inl y ↦ absurd (x.0 y.0) | inr y ↦ o.empty b h (sym y.1 ∙ e) w lw ]
      ];
      live = λ b h r e. let c = kept b h r e in let l = alive b r c.1 c.0 in
          (l, λ w lw. elim (word_at b h w lw) [ inl x ↦ absurd (c.0 x.0) | inr x ↦ x.1 ∙ o.words b h r c.1 l w lw ]);
    }
      where
        alive : (b r : ℕ) → at k.copies b ≡ suc r → ¬ (Holds (stale z state k b)) → state r ≡ LIVE
        alive b r e n = elim (ℕ_discrete (state r) LIVE) [ yes l ↦ l | no d ↦ absurd (n (r, e, d)) ]

    pub only_live_fit : ChipFit z (only_live z state k)
    unfolding only_live
    only_live_fit = record { words = length_store k.words _ _ ∙ fit.words; copies = length_store k.copies _ _ ∙ fit.copies; next = fit.next }

    -- where every copy's record is live, nothing is dropped
    pub nothing_dropped : ((b : ℕ) → b < z.chip → (r : ℕ) → at k.copies b ≡ suc r → state r ≡ LIVE) → only_live z state k ≡ k
    unfolding only_live store
    nothing_dropped alive = λ i. record { words = sym (choose_none k.words (λ j. stale z state k (j / z.words)) (λ j. 0) (λ j. fresh (j / z.words))) i; copies = sym (choose_none k.copies (stale z state k) (λ b. 0) fresh) i; next = k.next }
      where
        fresh : (b : ℕ) → ¬ (Holds (stale z state k b))
        fresh b t = elim (dec_lt b z.chip) [ yes h ↦ t.2 (alive b h t.0 t.1) | no d ↦ absurd (omega (arith, t.1, get_or-eq_default k.copies 0 {n = b} (rw fit.copies (omega (arith, d))))) ]

  -- ── where a record's copy is ──
  pub place_of_holds : (r : ℕ) → Holds (has_copy z k r) → (place_of z k r < z.chip) × (at k.copies (place_of z k r) ≡ suc r)
  unfolding place_of
  place_of_holds r h =
      let f : Found z.chip (λ b. eqb (at k.copies b) (suc r)) 0 (find z.chip (λ b. eqb (at k.copies b) (suc r)) 0) = found z.chip (λ b. eqb (at k.copies b) (suc r)) 0 h.0 (omega arith) (omega (arith, h.1)) (eq→T h.2) in
      (omega (arith, f.inside), eqb→eq _ _ f.passes)

  -- ── a record's words go in ──
  module _ (state word : ℕ → ℕ) (o : OfChip z state word k) (pos : 0 < z.chip) (r : ℕ) where
    abbrev p : ℕ
    p = place_for z k r

    inside : p < z.chip
    unfolding place_for
    inside = elim (decided (has_copy z k r)) [ yes h ↦ rw (told (has_copy z k r) h) (place_of_holds r h).0 | no h ↦ rw (untold (has_copy z k r) h) o.next ]

    -- no other place has its copy
    alone : (b : ℕ) → b < z.chip → at k.copies b ≡ suc r → b ≡ p
    unfolding place_for
    alone b h e = elim (decided (has_copy z k r)) [
      | yes c ↦ rw (told (has_copy z k r) c) (let q = place_of_holds r c in o.once b h (place_of z k r) q.0 r e q.1)
      | no c ↦ absurd (c (b, h, e))
    ]

    copies_at : (b : ℕ) → Split (b ≡ p) (at (set k.copies p (suc r)) b) (suc r) (at k.copies b)
    copies_at b = split_set k.copies p (suc r) b (rw fit.copies inside)

    was : (b : ℕ) → ¬ (b ≡ p) → (q : ℕ) → at (set k.copies p (suc r)) b ≡ suc q → at k.copies b ≡ suc q
    was b n q e = elim (copies_at b) [ inl x ↦ absurd (n x.0) | inr x ↦ sym x.1 ∙ e ]

    mine : (b : ℕ) → b ≡ p → (q : ℕ) → at (set k.copies p (suc r)) b ≡ suc q → q ≡ r
    mine b n q e = elim (copies_at b) [ inl x ↦ omega (arith, x.1, e) | inr x ↦ absurd (x.0 n) ]

    -- word': the records' words once the event is carried out; those of r are the ones that go in, and no other live record changes
    pub copied_sound : (state' word' new : ℕ → ℕ) → ((w : ℕ) → w < z.words → new w ≡ word' (r * z.words + w))
        → ((q : ℕ) → ¬ (q ≡ r) → state q ≡ LIVE → (w : ℕ) → w < z.words → word (q * z.words + w) ≡ word' (q * z.words + w)) → Sound z state' word' (copied z r new k)
    unfolding copied
    copied_sound state' word' new here others = record {
      next = if_elim (λ (x : List ℕ). at x 0 < z.chip) (test (has_copy z k r)) k.next (set k.next 0 (suc p % z.chip)) (λ t. o.next)
          (λ t. rw (get_or-set_same k.next 0 (suc p % z.chip) 0 (omega (arith, fit.next))) (mod-lt (suc p) pos));
      once = λ i hi j hj q a b. elim (ℕ_discrete i p) [
        | yes e ↦ elim (ℕ_discrete j p) [ yes f ↦ e ∙ sym f | no f ↦ absurd (f (alone j hj (was j f q b ∙ ap suc (mine i e q a)))) ]
        | no e ↦ elim (ℕ_discrete j p) [ yes f ↦ absurd (e (alone i hi (was i e q a ∙ ap suc (mine j f q b)))) | no f ↦ o.once i hi j hj q (was i e q a) (was j f q b) ]
      ];
      empty = λ b h e w lw. elim (copies_at b) [
        | inl x ↦ absurd (omega (arith, x.1, e))
        | inr x ↦ part_other z z.chip k.words fit.words p new w lw b h x.0 ∙ o.empty b h (sym x.1 ∙ e) w lw
      ];
      words = λ b h q e l w lw. elim (ℕ_discrete b p) [
        | yes n ↦ ap (λ (c : ℕ). at (set_part z p new k.words) (c * z.words + w)) n ∙ part_set z z.chip k.words fit.words p new w lw inside ∙ here w lw
            ∙ ap (λ (c : ℕ). word' (c * z.words + w)) (sym (mine b n q e))
        | no n ↦ let a = was b n q e in let y = o.live b h q a in
            part_other z z.chip k.words fit.words p new w lw b h n ∙ y.1 w lw ∙ others q (λ c. n (alone b h (a ∙ ap suc c))) y.0 w lw
      ];
    }

    -- what it holds then: the record's own copy, and what it held
    pub copied_holds : (new : ℕ → ℕ) (b q : ℕ) → at (copied z r new k).copies b ≡ suc q → (q ≡ r) ⊎ (at k.copies b ≡ suc q)
    unfolding copied
    copied_holds new b q e = elim (ℕ_discrete b p) [ yes n ↦ inl (mine b n q e) | no n ↦ inr (was b n q e) ]

    pub copied_fit : (new : ℕ → ℕ) → ChipFit z (copied z r new k)
    unfolding copied
    copied_fit new = record {
      words = length_store k.words _ _ ∙ fit.words;
      copies = length-set k.copies p (suc r) ∙ fit.copies;
      next = if_elim (λ (x : List ℕ). length x ≡ 1) (test (has_copy z k r)) k.next (set k.next 0 (suc p % z.chip)) (λ t. fit.next) (λ t. length-set k.next 0 (suc p % z.chip) ∙ fit.next);
    }

-- ── nothing in it ──
module _ (z : Sizes) where
  pub empty_chip_holds : (state word : ℕ → ℕ) → 0 < z.chip → OfChip z state word (empty_chip z)
  unfolding empty_chip
  empty_chip_holds state word pos = record {
    next = pos;
    once = λ i hi j hj r a b. absurd (omega (arith, at_zeros z.chip i, a));
    empty = λ b h e w lw. at_zeros (z.chip * z.words) (b * z.words + w);
    live = λ b h r e. absurd (omega (arith, at_zeros z.chip b, e));
  }

  pub empty_fit : ChipFit z (empty_chip z)
  unfolding empty_chip
  empty_fit = record { words = length-replicate (z.chip * z.words) 0; copies = length-replicate z.chip 0; next = refl }
