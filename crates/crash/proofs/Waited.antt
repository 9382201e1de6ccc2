-- Join and turn: the line is nothing that the ledger tells of, and a turn's fault or claim is that event's own.
use mathlib.Core.List.{List}
use Prim.Native.Nat.{ℕ}
use Rattle.tables.specs.Questions.{Asked}
use Rattle.model.specs.declared.sizes.Sizes.{Sizes}
use Rattle.model.specs.declared.event.Waiting.TheVariants.{Join, Turn}
use Rattle.model.specs.declared.event.Event.{Event}
use Rattle.model.specs.declared.event.Event.TheVariants as Event
use Rattle.model.specs.State.{State}
use Rattle.model.specs.Setters.{set_line}
use Rattle.model.specs.Questions.{Turning, nobody, serves, goes_back, faults, claims, sends_away, turning, turn_questions}
use Rattle.model.specs.Line
use Rattle.model.specs.Laws.LineLaws.{Treats, faulting, treats}
use Rattle.model.specs.Step.{carried}
use Rattle.model.specs.Ledger.{Ledger, note}
use Rattle.model.specs.Acts.{fed, fed_turn}
use Rattle.crash.proofs.Link.{Tied}
use Rattle.crash.proofs.Steps.{Step, Before}
use Rattle.crash.proofs.Faulted.{fault}
use Rattle.crash.proofs.Claimed.{claim}

-- the line alone changes
lined : (z : Sizes) (st : State) (l : Ledger) (q : List ℕ) → Tied z st l → Tied z (set_line q st) l
lined z st l q k = record {
  disk = record { designs = k.disk.designs; listing = k.disk.listing };
  memory = let m = k.memory in record { named = m.named; begun = m.begun; lives = m.lives; alive = m.alive; framed = m.framed; away = m.away; filed = m.filed; kept = m.kept };
}

pub join : (z : Sizes) (s p : ℕ) → Step z (Event.Waiting (Join s p))
unfolding carried fed note Line.join
join z s p st l b = lined z st l _ b.tied

pub turn : (z : Sizes) → Step z (Event.Waiting Turn)
unfolding carried fed note Line.turn
turn z st l b = go (turning z st) (treats z st) b.asked
  where
    go : (t : Turning) → Treats z st t → Asked (turn_questions z st t) → Tied z (Line.turned z st t) (note z l (fed_turn z st t))
    go nobody h a = b.tied
    go serves h a = lined z st l _ b.tied
    go goes_back h a = lined z st l _ b.tied
    go faults (faulting w i q) a = fault z _ _ st l (record { fit = b.fit; ruled = b.ruled; asked = q; tied = b.tied })
    go claims h a = claim z st l (record { fit = b.fit; ruled = b.ruled; asked = a; tied = b.tied })
    go (sends_away n) h a = lined z st l _ b.tied
