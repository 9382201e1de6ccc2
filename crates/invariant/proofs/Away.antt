-- Which numbers send a request away: 4, 8 or 19.
use mathlib.Core.Path.{◌≡◌, refl, ap, sym, ◌∙◌, subst}
use mathlib.Core.Logic.{◌⊎◌, inl, inr}
use Prim.Native.Nat.{ℕ, suc, ◌*◌, ◌%◌, ◌<◌}
use native.Mathlib.Omega.{arith}
use Rattle.tables.specs.QueueLaws.{first_below}
use Rattle.tables.specs.Questions.{Questions, none, ask, first_no}
use Rattle.tables.specs.Rule.{Rule, Holds, decided}
use Rattle.model.specs.declared.sizes.Sizes.{Sizes}
use Rattle.model.specs.State.{State, frames, page_of, slot_of, framed}
use Rattle.model.specs.Laws.Index.{page_again, place_below, slot_below}
use Rattle.model.specs.Questions.{sends_away, next_page, next_fault, page_questions}
use Rattle.model.specs.Laws.LineLaws.{Treats, away}
use Rattle.model.specs.Laws.Own.{first_yes, first_no_holds}
use Rattle.model.specs.Laws.Ruled.{Ruled, ruled}
use Rattle.model.specs.Laws.Fit.{Fit, fit}
use Rattle.model.specs.Terms.{Good}

-- a question that is answered yes is passed; one that may say no gives its number
on : (n m : ℕ) (r : Rule) (q : Questions) → Holds r → first_no (ask n r q) ≡ m → first_no q ≡ m
on n m r q h e = sym (first_yes n r q h) ∙ e

or : (n m : ℕ) (r : Rule) (q : Questions) → first_no (ask n r q) ≡ m → (m ≡ n) ⊎ (first_no q ≡ m)
or n m r q e = elim (decided r) [ yes h ↦ inr (on n m r q h e) | no h ↦ inl (sym e ∙ first_no_holds n r q h) ]

-- the questions of a fault whose 3, 14 and 15 say yes
chain : (n : ℕ) (r3 r4 r8 r14 r15 r19 r20 : Rule) → first_no (ask 3 r3 (ask 4 r4 (ask 8 r8 (ask 14 r14 (ask 15 r15 (ask 19 r19 (ask 20 r20 none))))))) ≡ n → Holds r3 → Holds r14 → Holds r15
    → ¬ (n ≡ 0) → ¬ (n ≡ 20) → (n ≡ 4) ⊎ ((n ≡ 8) ⊎ (n ≡ 19))
unfolding first_no
chain n r3 r4 r8 r14 r15 r19 r20 e h3 h14 h15 a b =
    let q20 : Questions = ask 20 r20 none in
    let q19 : Questions = ask 19 r19 q20 in
    let q15 : Questions = ask 15 r15 q19 in
    let q14 : Questions = ask 14 r14 q15 in
    let q8 : Questions = ask 8 r8 q14 in
    let e4 : first_no (ask 4 r4 q8) ≡ n = on 3 n r3 (ask 4 r4 q8) h3 e in
    elim (or 4 n r4 q8 e4) [
      | inl x ↦ inl x
      | inr x ↦ elim (or 8 n r8 q14 x) [
        | inl y ↦ inr (inl y)
        | inr y ↦ (let e19 : first_no q19 ≡ n = on 15 n r15 q19 h15 (on 14 n r14 q15 h14 y) in elim (or 19 n r19 q20 e19) [
          | inl t ↦ inr (inr t)
          | inr t ↦ elim (or 20 n r20 none t) [ inl u ↦ absurd (b u) | inr u ↦ absurd (a (sym u)) ]
        ])
      ]
    ]

-- The number that sends a request away is 4, 8 or 19.
pub sent_by : (z : Sizes) (st : State) → Good z st → (n : ℕ) → Treats z st (sends_away n) → (n ≡ 4) ⊎ ((n ≡ 8) ⊎ (n ≡ 19))
sent_by z st g n (away w i _ e a b) = chain n _ _ _ _ _ _ _ e (slot_below z f.sizes.pages (next_page z st) page, place_below z f.sizes.pages (next_page z st)) (λ h l q. absurd (unframed (h, l, q))) unframed a b
  where
    f : Fit z st
    f = fit z st g.0

    r : Ruled z st
    r = ruled z st g.1

    page : next_page z st < z.slots * z.pages
    page = first_below st.memory.line f.memory.line r.line w

    same_page : page_of z (slot_of z (next_page z st)) (next_page z st % z.pages) ≡ next_page z st
    same_page = page_again z f.sizes.pages (slot_of z (next_page z st)) (next_page z st) refl

    unframed : ¬ Holds (framed z (frames st) (page_of z (slot_of z (next_page z st)) (next_page z st % z.pages)))
    unframed h = i (subst (λ (j : ℕ). Holds (framed z (frames st) j)) same_page h)
