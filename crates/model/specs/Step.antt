-- Every call: the questions in number order, then the work; a refusal leaves all as it was, with result 0.
use Rattle.std.specs.Prelude.{List, [], Bool, true, false, ◌≡◌, ℕ, zero, suc, ◌*◌, ◌<◌, ◌≤◌, T, eqb, length, take, drop}
use Rattle.std.proofs.Common.{arith, eqb→eq}
use Rattle.tables.specs.Base.{at, if}
use Rattle.tables.specs.Questions.{Questions, none, ask, first_no, above, rising, rising_above}
use Rattle.tables.specs.Rule.{Rule, same, ◌and◌}
use Rattle.model.specs.declared.sizes.Sizes.{Sizes}
use Rattle.model.specs.declared.event.Answer.{Answer}
use Rattle.model.specs.declared.event.Design.TheVariants.{Create, Delete, Activate, Deactivate}
use Rattle.model.specs.declared.event.Account.TheVariants.{Limit, Move}
use Rattle.model.specs.declared.event.Page.TheVariants.{Fault, Read, Write, Wire, Unwire}
use Rattle.model.specs.declared.event.Writeback.TheVariants.{Claim, Truncate, Update, PageDone, MapDone}
use Rattle.model.specs.declared.event.Waiting.TheVariants.{Join, Turn}
use Rattle.model.specs.declared.event.Event.{Event}
use Rattle.model.specs.Sizes.{sizes_fit}
use Rattle.model.specs.State.{Disk, Memory, Chip, State, LINE, files, all_pages, map_words}
use Rattle.model.specs.Setters.{on_core, set_chip}
use Rattle.model.specs.Parts.{word_at}
use Rattle.model.specs.Chip.{arrives, copied, only_live}
use Rattle.model.specs.Rules.{lower, disk_rules, all_rules}
use Rattle.model.specs.Questions.{Turning, nobody, serves, goes_back, faults, claims, sends_away, rank, questions, look_questions, turn_questions, turning}
use Rattle.model.specs.Designs
use Rattle.model.specs.Accounts
use Rattle.model.specs.Pages
use Rattle.model.specs.Writeback
use Rattle.model.specs.Line
use Rattle.model.specs.Restart.{formatted, raised, restarted}

-- ── question 1: sizes within limits, every slice of its exact length? ──
abbrev pub disk_lengths : Sizes → Disk → Rule
disk_lengths z d = same (length d.records) (z.records * z.words) and same (length d.numbers) z.slots and same (length d.accounts) z.slots
    and same (length d.maps) (all_pages z) and same (length d.limits) z.accounts and same (length d.parents) z.accounts and same (length d.highest) 1

abbrev pub chip_lengths : Sizes → Chip → Rule
chip_lengths z k = same (length k.words) (z.chip * z.words) and same (length k.copies) z.chip and same (length k.next) 1

-- .. of the other tables
abbrev pub table_lengths : Sizes → Memory → Rule
table_lengths z m = same (length m.core.frames) z.frames and same (length m.core.words) (z.frames * z.words) and same (length m.core.free_queue) z.frames
    and same (length m.core.removal_list) z.frames and same (length m.held.addresses) (all_pages z) and same (length m.held.states) z.records
    and same (length m.held.owners) z.records and same (length m.held.free_map) (map_words z) and same (length m.slots.active) z.slots
    and same (length m.slots.updating) z.slots and same (length m.slots.images) (all_pages z) and same (length m.line) LINE and same (length m.used) z.accounts

abbrev pub memory_lengths : Sizes → Memory → Rule
memory_lengths z m = table_lengths z m and chip_lengths z m.chip

unfoldable pub all_fit : Sizes → State → Rule
all_fit z st = sizes_fit z and disk_lengths z st.disk and memory_lengths z st.memory

-- ── what each call asks ──
abbrev pub asked : Sizes → State → Questions → Questions
asked z st own = ask 1 (all_fit z st) (ask 2 (all_rules z st) own)

-- the answer to an event: 0, or the number of the first question that fails
unfoldable pub answer : Sizes → State → Event → ℕ
answer z st e = first_no (asked z st (questions z st e))

abbrev pub turn_faults : Turning → Bool
turn_faults nobody = false
turn_faults serves = false
turn_faults goes_back = false
turn_faults faults = true
turn_faults claims = false
turn_faults (sends_away n) = false

module _ (z : Sizes) (st : State) where
  -- the state once the event is carried out, but for what the chip does
  unfoldable pub carried : Event → State
  carried (Event.Design (Create s q n)) = Designs.create z st s q n
  carried (Event.Design (Delete s)) = Designs.delete z st s
  carried (Event.Design (Activate s)) = Designs.activate z st s
  carried (Event.Design (Deactivate s)) = Designs.deactivate z st s
  carried (Event.Account (Limit q n)) = Accounts.limit z st q n
  carried (Event.Account (Move g t m)) = Accounts.move z st g t m
  carried (Event.Page (Fault s p)) = Pages.fault z st s p
  carried (Event.Page (Read s p w)) = Pages.read z st s p
  carried (Event.Page (Write s p w x)) = Pages.write z st s p w x
  carried (Event.Page (Wire s p)) = Pages.wire z st s p
  carried (Event.Page (Unwire s p)) = Pages.unwire z st s p
  carried (Event.Writeback Claim) = Writeback.claim z st
  carried (Event.Writeback (Truncate s k)) = Writeback.truncate z st s k
  carried (Event.Writeback (Update s)) = Writeback.update z st s
  carried (Event.Writeback (PageDone f good)) = Writeback.page_done z st f good
  carried (Event.Writeback (MapDone s good)) = Writeback.map_done z st s good
  carried (Event.Waiting (Join s p)) = Line.join z st s p
  carried (Event.Waiting Turn) = Line.turn z st

  -- the event is a fault, or a turn that faults: it takes the first queued frame
  unfoldable pub is_fault : Event → Bool
  is_fault (Event.Page (Fault s p)) = true
  is_fault (Event.Page (Read s p w)) = false
  is_fault (Event.Page (Write s p w x)) = false
  is_fault (Event.Page (Wire s p)) = false
  is_fault (Event.Page (Unwire s p)) = false
  is_fault (Event.Waiting (Join s p)) = false
  is_fault (Event.Waiting Turn) = turn_faults (turning z st)
  is_fault (Event.Design e) = false
  is_fault (Event.Account e) = false
  is_fault (Event.Writeback e) = false

  -- (02) A fault on a live address found there is in service as after a good read, with no transfer.
  unfoldable pub supplied : Event → State
  supplied e = on_core (λ c. if (is_fault e) (arrives z st.memory.chip (carried e) (Pages.fault_frame st) c) c) (carried e)

  -- (02) Each good write goes to the disk and also into the chip, under its record number; each good read goes in too.
  unfoldable pub filled : Event → Chip → Chip
  filled (Event.Writeback (PageDone f good)) k = let r = Writeback.record_in z st f in if (eqb good 1) (copied z r (word_at z (carried (Event.Writeback (PageDone f good))).disk.records r) k) k
  filled (Event.Writeback Claim) k = k
  filled (Event.Writeback (Truncate s p)) k = k
  filled (Event.Writeback (Update s)) k = k
  filled (Event.Writeback (MapDone s good)) k = k
  filled (Event.Design e) k = k
  filled (Event.Account e) k = k
  filled (Event.Page e) k = k
  filled (Event.Waiting e) k = k

  -- and with the chip: a copy is dropped as soon as its record stops being live
  unfoldable pub whole : Event → State
  whole e = set_chip (only_live z (files (carried e)).state (filled e st.memory.chip)) (supplied e)

  -- its result: 0 unless the papers name one
  unfoldable pub result : Event → ℕ
  result (Event.Design e) = 0
  result (Event.Account e) = 0
  result (Event.Page (Fault s p)) = Pages.fault_frame st
  result (Event.Page (Read s p w)) = Pages.word_read z st s p w
  result (Event.Page (Write s p w x)) = 0
  result (Event.Page (Wire s p)) = 0
  result (Event.Page (Unwire s p)) = 0
  result (Event.Writeback Claim) = (Writeback.looking z st).looks
  result (Event.Writeback (Truncate s k)) = 0
  result (Event.Writeback (Update s)) = 0
  result (Event.Writeback (PageDone f good)) = 0
  result (Event.Writeback (MapDone s good)) = 0
  result (Event.Waiting (Join s p)) = 0
  result (Event.Waiting Turn) = Line.turn_result z st

-- ── the calls ──
-- an answer and what it leaves
pub record Outcome (A : Type 0) : Type 0 where
  pub answer : Answer
  pub left : A

-- Carried out in full, or the number of the first question that fails, result 0, and everything lent as it was.
abbrev pub outcome : {A : Type 0} → ℕ → ℕ → A → A → Outcome A
outcome zero result old new = record { answer = record { refusal = 0; result = result }; left = new }
outcome (suc n) result old new = record { answer = record { refusal = suc n; result = 0 }; left = old }

unfoldable pub step : Sizes → State → Event → Outcome State
step z st e = outcome (answer z st e) (result z st e) st (whole z st e)

-- what format is lent: the disk part, and the wanted parents
abbrev pub format_lengths : Sizes → List ℕ → Disk → Rule
format_lengths z wanted d = disk_lengths z d and same (length wanted) z.accounts

-- Format asks 1, then 3: a wanted parent that is not lower gets 3
unfoldable pub format : Sizes → List ℕ → Disk → Outcome Disk
format z wanted d = outcome (first_no (ask 1 (sizes_fit z and format_lengths z wanted d) (ask 3 (lower z.accounts (at wanted)) none))) 0 d (formatted z wanted)

-- Restart asks 1 and 2 (disk rules only); its own one store is the highest number
unfoldable pub restart : Sizes → State → Outcome State
restart z st = outcome (first_no (ask 1 (all_fit z st) (ask 2 (disk_rules z st) none))) 0 st (restarted z (raised z st.disk))

-- A page look asks as read; it hands back a part of the frames' words, or an empty part.
unfoldable pub look : Sizes → State → ℕ → ℕ → Outcome (List ℕ)
look z st s p = outcome (first_no (asked z st (look_questions z st s p))) 0 [] (take z.words (drop (Pages.look_start z st s p) st.memory.core.words))

turn_order : (z : Sizes) (st : State) (t : Turning) → T (rising rank 0 (asked z st (turn_questions z st t)))
unfolding rank
turn_order z st nobody = tt
turn_order z st serves = tt
turn_order z st goes_back = tt
turn_order z st faults = tt
turn_order z st claims = tt
turn_order z st (sends_away n) = tt

-- Asked in the order of their places, 1 to 3 first.
pub in_order : (z : Sizes) (st : State) (e : Event) → T (rising rank 0 (asked z st (questions z st e)))
unfolding rank
in_order z st (Event.Design (Create s q n)) = tt
in_order z st (Event.Design (Delete s)) = tt
in_order z st (Event.Design (Activate s)) = tt
in_order z st (Event.Design (Deactivate s)) = tt
in_order z st (Event.Account (Limit q n)) = tt
in_order z st (Event.Account (Move g t m)) = tt
in_order z st (Event.Page (Fault s p)) = tt
in_order z st (Event.Page (Read s p w)) = tt
in_order z st (Event.Page (Write s p w x)) = tt
in_order z st (Event.Page (Wire s p)) = tt
in_order z st (Event.Page (Unwire s p)) = tt
in_order z st (Event.Writeback Claim) = tt
in_order z st (Event.Writeback (Truncate s k)) = tt
in_order z st (Event.Writeback (Update s)) = tt
in_order z st (Event.Writeback (PageDone f good)) = tt
in_order z st (Event.Writeback (MapDone s good)) = tt
in_order z st (Event.Waiting (Join s p)) = tt
in_order z st (Event.Waiting Turn) = turn_order z st (turning z st)

-- what is asked after a number from 0 to 3 is above it
pub rank_above : (n m : ℕ) → n ≤ 3 → 10 * n < rank m → n < m
unfolding rank
rank_above n m l h = go (eqb m 32) (eqb m 33) (eqb m 29) (eqb m 30) (eqb→eq m 32) (eqb→eq m 33) (eqb→eq m 29) (eqb→eq m 30) h
  where
    go : (a b c d : Bool) → (T a → m ≡ 32) → (T b → m ≡ 33) → (T c → m ≡ 29) → (T d → m ≡ 30) → 10 * n < if a 31 (if b 61 (if c 62 (if d 63 (10 * m)))) → n < m
    go true b c d p q r t h = omega (arith, p tt, l)
    go false true c d p q r t h = omega (arith, q tt, l)
    go false false true d p q r t h = omega (arith, r tt, l)
    go false false false true p q r t h = omega (arith, t tt, l)
    go false false false false p q r t h = omega (arith, h)

-- so no question has the number 0, and an event's own have numbers from 3 up
pub all_above : (z : Sizes) (st : State) (e : Event) → T (above 0 (asked z st (questions z st e)))
all_above z st e = rising_above rank 0 0 (λ m h. rank_above 0 m (omega arith) (omega (arith, h))) (asked z st (questions z st e)) (in_order z st e)

pub own_above : (z : Sizes) (st : State) (e : Event) → T (above 2 (questions z st e))
unfolding rank
own_above z st e = rising_above rank 2 20 (λ m h. rank_above 2 m (omega arith) (omega (arith, h))) (questions z st e) (in_order z st e)
