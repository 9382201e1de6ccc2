-- What a fault, a claim and a done report leave, by their cases: what each case leaves so, the event leaves so.
use mathlib.Core.Bool.{Bool, not}
use Prim.Native.Nat.{ℕ}
use lib.Dec.{T, eqb}
use lib.ListN.{set}
use Rattle.tables.specs.Base.{if}
use Rattle.tables.specs.Laws.{if_elim}
use Rattle.tables.specs.Rule.{test, same}
use Rattle.model.specs.declared.sizes.Sizes.{Sizes}
use Rattle.model.specs.Lines.{NULLED}
use Rattle.model.specs.State.{State, files, frames, READING, WRITING, page_of, live}
use Rattle.model.specs.Setters.{on_core, on_held, set_states, set_transfer, counted}
use Rattle.model.specs.Parts.{pick}
use Rattle.model.specs.Pages
use Rattle.model.specs.Pages.{on_frame, fault_frame, begin_read, serve_zeros, take_record}
use Rattle.model.specs.Writeback
use Rattle.model.specs.Writeback.{looking, looked, begins_write, record_in, free_frame, read_good, read_failed, write_good, write_failed}

module _ (z : Sizes) (st : State) (P : State → Type 0) where
  abbrev Counts : State → Type 0
  Counts x = P (counted z x)

  -- a state chosen twice
  chosen : (a b : Bool) (x y w : State) → (T a → Counts x) → (T (not a) → T b → Counts y) → (T (not a) → T (not b) → Counts w) → Counts (if a x (if b y w))
  chosen a b x y w f g h = if_elim Counts a x (if b y w) f (λ t. if_elim Counts b y w (g t) (h t))

  pub fault_by : (s p : ℕ) → (let i = page_of z s p in let f = fault_frame st in
      Counts (begin_read z st i f) → ((r : ℕ) → Counts (serve_zeros z (take_record z st i r) i f)) → Counts (serve_zeros z st i f) → P (Pages.fault z st s p))
  unfolding Pages.fault
  fault_by s p a b c =
      let i = page_of z s p in let f = fault_frame st in let r = pick z (files st).address (files st).state st.memory.held.pool.hand i in
      chosen (test (live (files st) i)) (test (same ((files st).address i) 0)) (begin_read z st i f) (serve_zeros z (take_record z st i r) i f) (serve_zeros z st i f) (λ t. a) (λ t u. b r) (λ t u. c)

  pub claim_by : (let f = (looking z st).taken in
      Counts (on_core (λ c. on_frame f (set_transfer WRITING) c) (looked z st)) → Counts (free_frame f (on_held (λ h. set_states (set h.states (record_in z st f) NULLED) h) (looked z st)))
      → Counts (free_frame f (looked z st)) → P (Writeback.claim z st))
  unfolding Writeback.claim
  claim_by a b c =
      let f = (looking z st).taken in
      chosen (begins_write z st) (eqb ((frames st).frame f).modified 1) (on_core (λ c. on_frame f (set_transfer WRITING) c) (looked z st))
      (free_frame f (on_held (λ h. set_states (set h.states (record_in z st f) NULLED) h) (looked z st))) (free_frame f (looked z st)) (λ t. a) (λ t u. b) (λ t u. c)

  pub page_done_by : (f good : ℕ) → (let reading = eqb ((frames st).frame f).transfer READING in
      (T reading → T (eqb good 1) → Counts (read_good z st f)) → (T reading → T (not (eqb good 1)) → Counts (read_failed z st f))
      → (T (not reading) → T (eqb good 1) → Counts (write_good z st f)) → (T (not reading) → T (not (eqb good 1)) → Counts (write_failed z st f)) → P (Writeback.page_done z st f good))
  unfolding Writeback.page_done
  page_done_by f good a b c d =
      let g = eqb good 1 in
      if_elim Counts (eqb ((frames st).frame f).transfer READING) (if g (read_good z st f) (read_failed z st f)) (if g (write_good z st f) (write_failed z st f))
      (λ t. if_elim Counts g (read_good z st f) (read_failed z st f) (a t) (b t)) (λ t. if_elim Counts g (write_good z st f) (write_failed z st f) (c t) (d t))
