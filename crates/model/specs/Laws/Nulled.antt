-- Which record an event makes nulled: what the code tells of a claim, so that the record's copy can be dropped.
use Rattle.std.specs.Prelude.{ℕ, suc, eqb}
use Rattle.tables.specs.Base.{if}
use Rattle.tables.specs.Questions.{first_no}
use Rattle.model.specs.declared.sizes.Sizes.{Sizes}
use Rattle.model.specs.declared.event.Writeback.TheVariants.{Claim, Truncate, Update, PageDone, MapDone}
use Rattle.model.specs.declared.event.Waiting.TheVariants.{Join, Turn}
use Rattle.model.specs.declared.event.Event.{Event}
use Rattle.model.specs.State.{State, frames}
use Rattle.model.specs.Questions.{Turning, nobody, serves, goes_back, faults, claims, sends_away, turning, questions}
use Rattle.model.specs.Writeback.{looking, begins_write, record_in}

module _ (z : Sizes) (st : State) where
  -- the record of the modified page of zeros that a claim takes + 1, or 0 where it is refused or takes another page
  unfoldable pub claim_nulls : ℕ
  claim_nulls = let f = (looking z st).taken in
      if (eqb (first_no (questions z st (Event.Writeback Claim))) 0) (if (begins_write z st) 0 (if (eqb ((frames st).frame f).modified 1) (suc (record_in z st f)) 0)) 0

  abbrev pub turn_nulls : Turning → ℕ
  turn_nulls nobody = 0
  turn_nulls serves = 0
  turn_nulls goes_back = 0
  turn_nulls faults = 0
  turn_nulls claims = claim_nulls
  turn_nulls (sends_away n) = 0

  -- .. of an event: no other makes a record nulled that was live
  unfoldable pub nulled_by : Event → ℕ
  nulled_by (Event.Design e) = 0
  nulled_by (Event.Account e) = 0
  nulled_by (Event.Page e) = 0
  nulled_by (Event.Writeback Claim) = claim_nulls
  nulled_by (Event.Writeback (Truncate s p)) = 0
  nulled_by (Event.Writeback (Update s)) = 0
  nulled_by (Event.Writeback (PageDone f good)) = 0
  nulled_by (Event.Writeback (MapDone s good)) = 0
  nulled_by (Event.Waiting (Join s p)) = 0
  nulled_by (Event.Waiting Turn) = turn_nulls (turning z st)
