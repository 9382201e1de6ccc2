-- Every event keeps the rules of disk, pages, records and slots.
use Prim.Native.Nat.{ℕ}
use lib.ListN.{set}
use Rattle.tables.specs.Questions.{Asked}
use Rattle.model.specs.declared.sizes.Sizes.{Sizes}
use Rattle.model.specs.declared.event.Waiting.TheVariants.{Join, Turn}
use Rattle.model.specs.declared.event.Event.{Event}
use Rattle.model.specs.declared.event.Event.TheVariants as Event
use Rattle.model.specs.declared.event.Design.TheVariants.{Create, Delete, Activate, Deactivate}
use Rattle.model.specs.declared.event.Account.TheVariants.{Limit, Move}
use Rattle.model.specs.declared.event.Page.TheVariants.{Fault, Read, Write, Wire, Unwire}
use Rattle.model.specs.declared.event.Writeback.TheVariants.{Claim, Truncate, Update, PageDone, MapDone}
use Rattle.model.specs.State.{State}
use Rattle.model.specs.Setters.{counted}
use Rattle.model.specs.Questions.{questions}
use Rattle.model.specs.Laws.Ruled.{Ruled}
use Rattle.model.specs.Laws.Fit.{Fit}
use Rattle.model.specs.Accounts
use Rattle.model.specs.Setters.{counted}
use Rattle.model.specs.Pages
use Rattle.model.specs.Line
use Rattle.model.specs.Step.{carried}
use Rattle.invariant.proofs.LineKept.{by_turn}
use Rattle.invariant.proofs.Records.{Kept, limits_kept}
use Rattle.invariant.proofs.RecordsNamed.{create_records, delete_records}
use Rattle.invariant.proofs.RecordsTurned.{activate_records, deactivate_records}
use Rattle.invariant.proofs.RecordsPaged.{fault_records, claim_records, page_done_records}
use Rattle.invariant.proofs.RecordsDropped.{truncate_records, update_records}
use Rattle.invariant.proofs.RecordsStored.{map_done_records}

module _ (z : Sizes) (st : State) (f : Fit z st) (r : Ruled z st) where
  -- ── the events that change no table that these rules speak of ──
  pub limit_records : (q n : ℕ) → Kept z (Accounts.limit z st q n)
  unfolding Accounts.limit counted
  limit_records q n = limits_kept z st (set st.disk.limits q n) (r.disk, r.records)

  pub move_records : (g t m : ℕ) → Kept z (Accounts.move z st g t m)
  unfolding Accounts.move counted
  move_records g t m = limits_kept z st (Accounts.shifted st.disk.limits g t m) (r.disk, r.records)

  pub read_records : (s p w : ℕ) → Asked (questions z st (Event.Page (Read s p w))) → Kept z (Pages.read z st s p)
  unfolding Pages.read
  read_records s p w a = (r.disk, r.records)

  pub write_records : (s p w x : ℕ) → Asked (questions z st (Event.Page (Write s p w x))) → Kept z (Pages.write z st s p w x)
  unfolding Pages.write counted
  write_records s p w x a = (r.disk, r.records)

  pub wire_records : (s p : ℕ) → Asked (questions z st (Event.Page (Wire s p))) → Kept z (Pages.wire z st s p)
  unfolding Pages.wire
  wire_records s p a = (r.disk, r.records)

  pub unwire_records : (s p : ℕ) → Asked (questions z st (Event.Page (Unwire s p))) → Kept z (Pages.unwire z st s p)
  unfolding Pages.unwire
  unwire_records s p a = (r.disk, r.records)

-- ── every event ──
pub kept_records : (z : Sizes) (st : State) (e : Event) → Fit z st → Ruled z st → Asked (questions z st e) → Kept z (carried z st e)
unfolding carried Line.join
kept_records z st (Event.Design (Create s q n)) f r a = create_records z st f r s q n a
kept_records z st (Event.Design (Delete s)) f r a = delete_records z st f r s a
kept_records z st (Event.Design (Activate s)) f r a = activate_records z st f r s a
kept_records z st (Event.Design (Deactivate s)) f r a = deactivate_records z st f r s a
kept_records z st (Event.Account (Limit q n)) f r a = limit_records z st f r q n
kept_records z st (Event.Account (Move g t m)) f r a = move_records z st f r g t m
kept_records z st (Event.Page (Fault s p)) f r a = fault_records z st f r s p a
kept_records z st (Event.Page (Read s p w)) f r a = read_records z st f r s p w a
kept_records z st (Event.Page (Write s p w x)) f r a = write_records z st f r s p w x a
kept_records z st (Event.Page (Wire s p)) f r a = wire_records z st f r s p a
kept_records z st (Event.Page (Unwire s p)) f r a = unwire_records z st f r s p a
kept_records z st (Event.Writeback Claim) f r a = claim_records z st f r a
kept_records z st (Event.Writeback (Truncate s k)) f r a = truncate_records z st f r s k a
kept_records z st (Event.Writeback (Update s)) f r a = update_records z st f r s a
kept_records z st (Event.Writeback (PageDone g good)) f r a = page_done_records z st f r g good a
kept_records z st (Event.Writeback (MapDone s good)) f r a = map_done_records z st f r s good a
kept_records z st (Event.Waiting (Join s p)) f r a = (r.disk, r.records)
kept_records z st (Event.Waiting Turn) f r a = by_turn z st f r (Kept z) (λ l h. (r.disk, r.records)) (λ k. fault_records z st f r _ _ k) (λ k. claim_records z st f r k) a
