-- "In lists of demand 3, from restarts of like disks to the next cut, a read accepted with and without it shows the same word, if the accepted writes, truncations, creates and imports before it were the same list."
use mathlib.Core.Path.{◌≡◌, refl, subst}
use mathlib.Core.List.{List, [], ◌∷◌}
use Prim.Native.Nat.{ℕ}
use native.Mathlib.Omega.{arith}
use lib.Dec.{T}
use Rattle.tables.specs.Laws.{at_zeros, if_elim}
use Rattle.tables.specs.Rule.{Holds, test, sound}
use Rattle.model.specs.declared.sizes.Sizes.{Sizes}
use Rattle.model.specs.declared.event.Event.{Event}
use Rattle.model.specs.State.{Disk, Memory, Core, Chip, State}
use Rattle.model.specs.Setters.{on_core}
use Rattle.model.specs.Pages.{fault_frame}
use Rattle.model.specs.Writeback.{record_in}
use Rattle.model.specs.Chip.{has_copy, found, arrives, empty_chip}
use Rattle.model.specs.Step.{carried, is_fault, supplied, whole}
use Rattle.model.specs.Acts.{Act, World, start}
use Rattle.invariant.proofs.Chip.{empty_chip_holds, empty_fit}
use Rattle.invariant.proofs.Kept.{fit_beside, ruled_beside}
use Rattle.woven.specs.Woven.{act_by, run_by, legal_by}
use Rattle.woven.specs.Without.{itself, without, Pack, SameSeen, ChipUnseen}
use Rattle.woven.proofs.Unseen.{run_itself, legal_itself, Keeps, itself_keeps, List', unseen, unseen_looks}

-- ── without the chip ──
-- no record has a copy then
pub no_copy : (z : Sizes) (r : ℕ) → ¬ (Holds (has_copy z (empty_chip z) r))
unfolding empty_chip
no_copy z r (b, h, e) = omega (arith, at_zeros z.chip b, e)

-- and so it is after every act
pub always_empty : (z : Sizes) (w : World) (a : Act) (acts : List Act) → (run_by z (without z) w (a ∷ acts)).state.memory.chip ≡ empty_chip z
unfolding run_by act_by
always_empty z w a [] = refl
always_empty z w a (b ∷ acts) = always_empty z (act_by z (without z) w a) b acts

-- so an event does its own work there, and no more
pub own_work : (z : Sizes) (st : State) → st.memory.chip ≡ empty_chip z → (e : Event) → without z (whole z st e) ≡ without z (carried z st e)
unfolding whole supplied arrives
own_work z st h e = let x = carried z st e in let f = fault_frame st in
    if_elim (λ (c : Core). without z (on_core (λ o. c) x) ≡ without z x) (is_fault z st e) _ x.memory.core
    (λ t. if_elim (λ (c : Core). without z (on_core (λ o. c) x) ≡ without z x) (test (found z st.memory.chip x f)) _ x.memory.core
    (λ u. absurd (no_copy z _ (subst (λ (k : Chip). Holds (has_copy z k (record_in z x f))) h (sound (found z st.memory.chip x f) u).1))) (λ u. refl)) (λ t. refl)

pub without_keeps : (z : Sizes) → Keeps z (without z)
without_keeps z w k = record {
  fit = fit_beside z w.state (empty_chip z) k.fit;
  rules = k.rules;
  disk = record { designs = k.disk.designs; listing = k.disk.listing };
  ruled = λ u. ruled_beside z w.state (empty_chip z) (k.ruled u);
  copies = λ u. record { fit = empty_fit z; rules = empty_chip_holds z _ _ k.fit.sizes.chip };
  memory = λ u. let m = k.memory u in record { named = m.named; begun = m.begun; lives = m.lives; alive = m.alive; framed = m.framed; away = m.away; filed = m.filed; kept = m.kept };
  closed = k.closed;
}

-- ── with and without ──
module _ (z : Sizes) where
  abbrev listed : (tidy : State → State) → Keeps z tidy → (pack : Disk) (junk : Memory) (acts : List Act) → Pack z pack junk → T (legal_by z tidy (start z pack junk) acts) → List' z
  listed tidy h pack junk acts k t = record { tidy = tidy; keeps = h; pack = pack; junk = junk; acts = acts; sizes = k.sizes; lengths = k.lengths; memory = k.memory; rules = k.rules; lawful = t }

pub chip_unseen : ChipUnseen
chip_unseen z pack pack' junk junk' acts acts' k k' t t' u u' d l =
    let a = listed z itself (itself_keeps z) pack junk acts k (rw (legal_itself z acts (start z pack junk)) t) in
    let b = listed z (without z) (without_keeps z) pack' junk' acts' k' t' in
    let w' = run_by z (without z) (start z pack' junk') acts' in
    subst (λ (w : World). T w.up → SameSeen z w w') (run_itself z acts (start z pack junk))
    (λ v. record { reads = λ s p n. unseen z a b v u' d l s p n; looks = λ s p. unseen_looks z a b v u' d l s p }) u
