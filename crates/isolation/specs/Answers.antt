-- What two boards answer to an act and to its twin.
use Rattle.std.specs.Prelude.{◌≡◌, ℕ}
use Rattle.tables.specs.Rule.{Rule, same, Holds}
use Rattle.model.specs.declared.sizes.Sizes.{Sizes}
use Rattle.model.specs.declared.event.Answer.{Answer}
use Rattle.model.specs.declared.event.Page.{Page}
use Rattle.model.specs.declared.event.Page.TheVariants.{Fault, Read, Write, Wire, Unwire}
use Rattle.model.specs.declared.event.Event.{Event}
use Rattle.model.specs.declared.event.Event.TheVariants as Event
use Rattle.model.specs.Step.{step, look, restart}
use Rattle.model.specs.Import.{import}
use Rattle.model.specs.Export.{export}
use Rattle.model.specs.Acts.{Act, event, looking, importing, exporting, restarting, cutting, cutting_in, World}
use Rattle.isolation.specs.Words.{like}

-- the answer to an act; a cut has none
abbrev no_answer : Answer
no_answer = record { refusal = 0; result = 0 }

abbrev pub answered : Sizes → World → Act → Answer
answered z w (event e) = (step z w.state e).answer
answered z w (looking s p) = (look z w.state s p).answer
answered z w (importing s q n b) = (import z w.state s q n b).answer
answered z w (exporting s buffer) = (export z w.state s buffer).answer
answered z w restarting = (restart z w.state).answer
answered z w (cutting writes updates m) = no_answer
answered z w (cutting_in c k writes updates m) = no_answer

-- ── Then every answer and result is equal but the words read from that design, .. ──
-- (and these are zero on both boards or on neither). of: each slot's design; x, y: the two results
abbrev pub page_results : ℕ → (ℕ → ℕ) → Page → ℕ → ℕ → Rule
page_results hidden of (Fault s p) x y = same x y
page_results hidden of (Read s p k) x y = like hidden (of s) x y
page_results hidden of (Write s p k v) x y = same x y
page_results hidden of (Wire s p) x y = same x y
page_results hidden of (Unwire s p) x y = same x y

abbrev pub event_results : ℕ → (ℕ → ℕ) → Event → ℕ → ℕ → Rule
event_results hidden of (Event.Design e) x y = same x y
event_results hidden of (Event.Account e) x y = same x y
event_results hidden of (Event.Page e) x y = page_results hidden of e x y
event_results hidden of (Event.Writeback e) x y = same x y
event_results hidden of (Event.Waiting e) x y = same x y

-- of an export the length, of that design too
abbrev pub results : ℕ → (ℕ → ℕ) → Act → ℕ → ℕ → Rule
results hidden of (event e) x y = event_results hidden of e x y
results hidden of (looking s p) x y = same x y
results hidden of (importing s q n b) x y = same x y
results hidden of (exporting s buffer) x y = same x y
results hidden of restarting x y = same x y
results hidden of (cutting writes updates m) x y = same x y
results hidden of (cutting_in c k writes updates m) x y = same x y

-- What exports and page looks of that design hand back is left out; of another design it is equal.
abbrev pub Handed : Sizes → ℕ → World → World → Act → Type 0
Handed z hidden w w' (event e) = Unit {0}
Handed z hidden w w' (looking s p) = ¬ (w.ledger.design s ≡ hidden) → (look z w.state s p).left ≡ (look z w'.state s p).left
Handed z hidden w w' (importing s q n b) = Unit {0}
Handed z hidden w w' (exporting s buffer) = ¬ (w.ledger.design s ≡ hidden) → (export z w.state s buffer).left ≡ (export z w'.state s buffer).left
Handed z hidden w w' restarting = Unit {0}
Handed z hidden w w' (cutting writes updates m) = Unit {0}
Handed z hidden w w' (cutting_in c k writes updates m) = Unit {0}

pub record Answers (z : Sizes) (hidden : ℕ) (w w' : World) (a b : Act) : Type 0 where
  pub refusal : (answered z w a).refusal ≡ (answered z w' b).refusal
  pub result : Holds (results hidden w.ledger.design a (answered z w a).result (answered z w' b).result)
  pub handed : Handed z hidden w w' a
