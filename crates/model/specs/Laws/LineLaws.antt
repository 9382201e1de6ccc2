-- What a turn's treatment of the first request says of the tables.
use Rattle.std.specs.Prelude.{◌≡◌, refl, ℕ, ◌<◌}
use Rattle.std.proofs.Common.{arith, eq-eqb, ne_eqb}
use Rattle.std.proofs.Math.Decide.{ℕ_discrete}
use Rattle.tables.specs.Queue.{size}
use Rattle.tables.specs.Questions.{Asked, first_no, all_yes}
use Rattle.tables.specs.Rule.{Holds, decided, told, untold}
use Rattle.model.specs.declared.sizes.Sizes.{Sizes}
use Rattle.model.specs.State.{State, frames, framed}
use Rattle.model.specs.Questions.{Turning, nobody, serves, goes_back, faults, claims, sends_away, still, next_page, next_fault, by_fault, turning, page_questions}

module _ (z : Sizes) (st : State) where
  -- the number that the fault of the first request's page gives
  abbrev pub fault_number : ℕ
  fault_number = first_no (page_questions z st (next_fault z st))

  abbrev pub Waiting : Type 0
  Waiting = 0 < size st.memory.line

  abbrev pub InFrame : Type 0
  InFrame = Holds (framed z (frames st) (next_page z st))

  pub data Treats : Turning → Type 0 where
    empty : size st.memory.line ≡ 0 → Treats nobody
    served : Waiting → InFrame → Holds (still z st (next_page z st)) → Treats serves
    back : Waiting → InFrame → ¬ Holds (still z st (next_page z st)) → Treats goes_back
    faulting : Waiting → ¬ InFrame → Asked (page_questions z st (next_fault z st)) → Treats faults
    claiming : Waiting → ¬ InFrame → fault_number ≡ 20 → Treats claims
    away : Waiting → ¬ InFrame → (n : ℕ) → fault_number ≡ n → ¬ (n ≡ 0) → ¬ (n ≡ 20) → Treats (sends_away n)

  by_fault_holds : Waiting → ¬ InFrame → (n : ℕ) → fault_number ≡ n → Treats (by_fault z st n)
  by_fault_holds w i n e = elim (ℕ_discrete n 0) [
    | yes h ↦ rw (eq-eqb n 0 h) (faulting w i (all_yes 2 (page_questions z st (next_fault z st)) tt (omega (arith, e, h))))
    | no h ↦ rw (ne_eqb n 0 h) (elim (ℕ_discrete n 20) [
      | yes t ↦ rw (eq-eqb n 20 t) (claiming w i (omega (arith, e, t)))
      | no t ↦ rw (ne_eqb n 20 t) (away w i n e h t)
    ])
  ]

  pub treats : Treats (turning z st)
  unfolding turning
  treats = elim (ℕ_discrete (size st.memory.line) 0) [
    | yes e ↦ rw (eq-eqb (size st.memory.line) 0 e) (empty e)
    | no e ↦ let w : Waiting = omega (arith, e) in rw (ne_eqb (size st.memory.line) 0 e) (elim (decided (framed z (frames st) (next_page z st))) [
      | yes i ↦ rw (told (framed z (frames st) (next_page z st)) i) (elim (decided (still z st (next_page z st))) [
        | yes s ↦ rw (told (still z st (next_page z st)) s) (served w i s)
        | no s ↦ rw (untold (still z st (next_page z st)) s) (back w i s)
      ])
      | no i ↦ rw (untold (framed z (frames st) (next_page z st)) i) (by_fault_holds w i fault_number refl)
    ])
  ]
