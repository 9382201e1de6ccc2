-- Restart once its questions are asked: the tables that its work leaves make the restarted state.
use Rattle.std.specs.Prelude.{◌≡◌, true, List, ℕ, length, take}
use Rattle.std.proofs.Common.{ap, ◌∙◌}
use Rattle.std.proofs.lemmas.List.{length-replicate}
use Rattle.tables.specs.Rule.{test}
use Rattle.model.specs.declared.sizes.Sizes.{Sizes}
use Rattle.model.specs.declared.frame.Frame.{Frame}
use Rattle.model.specs.declared.event.Answer.{Answer}
use Rattle.model.specs.State.{Disk, Chip, State}
use Rattle.model.specs.Chip.{empty_chip}
use Rattle.model.specs.Rules.{disk_rules}
use Rattle.model.specs.Setters.{set_line, set_chip}
use Rattle.model.specs.Laws.Own.{leaves}
use Rattle.model.specs.Step.{all_fit, restart}
use Rattle.model.specs.Restart.{raised, restarted}
use Rattle.model.specs.Calls.{frames_of}
use Rattle.restarts.specs.Restarts.{restarted_frames}
use Rattle.restarts.specs.Answers.{restart_done}
use Rattle.calls.specs.Frames.{lent_back}

module _ (z : Sizes) where
  -- the frames of the array that comes back
  pub restarted_lent : (d : Disk) (fs : List Frame) (lent : ℕ) → lent ≡ z.frames → take z.frames fs ≡ (restarted z d).memory.core.frames → frames_of fs lent ≡ (restarted z d).memory.core.frames
  restarted_lent d fs lent e t = lent_back fs (restarted z d).memory.core.frames lent z.frames e t (ap length (restarted_frames z d) ∙ length-replicate z.frames _)

  -- answered 0, with the restarted state left: its other tables, nobody waiting and the chip empty
  pub restart_left : (st left : State) (line : List ℕ) (chip : Chip) (answer : Answer) → answer ≡ record { refusal = 0; result = 0 } → set_chip (empty_chip z) left ≡ restarted z (raised z st.disk)
      → line ≡ left.memory.line → chip ≡ empty_chip z → true ≡ test (all_fit z st) → true ≡ test (disk_rules z st) → leaves answer (set_chip chip (set_line line left)) ≡ restart z st
  restart_left st left line chip answer a l n e f r =
      ap (λ (x : List ℕ). leaves answer (set_chip chip (set_line x left))) n ∙ ap (λ (k : Chip). leaves answer (set_chip k left)) e ∙ (λ x. leaves (a x) (l x)) ∙ restart_done z st f r
