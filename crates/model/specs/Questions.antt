-- The questions that come after 1 and 2: each stands once here, under the papers' sentence and with its number. Number 23 is not used (Unasked).
use Rattle.std.specs.Prelude.{ℕ, suc, ◌+◌, ◌*◌, ◌%◌, List, eqb}
use Rattle.tables.specs.Base.{at, if}
use Rattle.tables.specs.Queue.{size, first}
use Rattle.tables.specs.Questions.{Questions, none, ask, first_no}
use Rattle.tables.specs.Rule.{Rule, same, below, non, ◌and◌, ◌or◌, ◌then◌, each, test}
use Rattle.sheets.specs.Sheet.{words_in, pages_in, count_in, form}
use Rattle.model.specs.declared.sizes.Sizes.{Sizes}
use Rattle.model.specs.declared.event.Design.{Design}
use Rattle.model.specs.declared.event.Design.TheVariants.{Create, Delete, Activate, Deactivate}
use Rattle.model.specs.declared.event.Account.{Account}
use Rattle.model.specs.declared.event.Account.TheVariants.{Limit, Move}
use Rattle.model.specs.declared.event.Page.{Page}
use Rattle.model.specs.declared.event.Page.TheVariants.{Fault, Read, Write, Wire, Unwire}
use Rattle.model.specs.declared.event.Writeback.{Writeback}
use Rattle.model.specs.declared.event.Writeback.TheVariants.{Claim, Truncate, Update, PageDone, MapDone}
use Rattle.model.specs.declared.event.Waiting.{Waiting}
use Rattle.model.specs.declared.event.Waiting.TheVariants.{Join, Turn}
use Rattle.model.specs.declared.event.Event.{Event}
use Rattle.model.specs.Lines.{NULLED, RELEASED}
use Rattle.model.specs.Payer as Payer
use Rattle.model.specs.State.{State, Files, Frames, files, frames, NONE, READING, LINE, page_of, slot_of, framed, live, charged, payer}
use Rattle.model.specs.Rules.{is_active}
use Rattle.model.specs.Accounts.{move}

-- how a turn treats the first request of the line
pub data Turning : Type 0 where
  nobody : Turning
  serves : Turning
  goes_back : Turning
  faults : Turning
  claims : Turning
  sends_away : ℕ → Turning

-- Questions are asked in the order of their numbers, but 32 just after 3, 33 just after 6, and import's 29 and 30 after that, before 18: the place of each number.
unfoldable pub rank : ℕ → ℕ
rank n = if (eqb n 32) 31 (if (eqb n 33) 61 (if (eqb n 29) 62 (if (eqb n 30) 63 (10 * n))))

module _ (z : Sizes) (st : State) where
  abbrev v : Files
  v = files st

  abbrev c : Frames
  c = frames st

  -- ── what the questions ask ──
  abbrev filled : ℕ → Rule
  filled s = non (same (v.number s) 0)

  abbrev page : ℕ → ℕ → ℕ
  page s p = page_of z s p

  -- the page is in no transfer
  abbrev pub still : ℕ → Rule
  still i = each z.frames λ f. same (c.frame f).page (suc i) then same (c.frame f).transfer NONE

  -- no read of the page is under way (its write may be)
  abbrev pub arrived : ℕ → Rule
  arrived i = each z.frames λ f. same (c.frame f).page (suc i) then non (same (c.frame f).transfer READING)

  -- the page is in no wired frame
  abbrev unwired : ℕ → Rule
  unwired i = each z.frames λ f. same (c.frame f).page (suc i) then non (same (c.frame f).wired 1)

  -- what an update now would store for a page
  unfoldable pub would_store : ℕ → ℕ
  would_store i = if (test (live v i)) (v.address i) 0

  -- so many pages more for the account that pays for the slot: used and these together are at most its limit
  abbrev pub payable : ℕ → ℕ → Rule
  payable s n = below (at st.memory.used (payer v s) + n) (suc (at st.disk.limits (payer v s)))

  -- ── each question, with its number ──
  -- 3. Slot, page, word, frame, account below their sizes, k at most N, good 0 or 1, number above 0?
  abbrev q3 : Rule → Questions → Questions
  q3 range = ask 3 range

  -- (02) 32, asked after 3, for a number from 2,147,483,648 up from the caller
  abbrev q32 : ℕ → Questions → Questions
  q32 n = ask 32 (below n 2147483648)

  -- 4. All slot events but create: slot filled?
  abbrev q4 : ℕ → Questions → Questions
  q4 s = ask 4 (filled s)

  -- 5. Create: slot empty?
  abbrev q5 : ℕ → Questions → Questions
  q5 s = ask 5 (same (v.number s) 0)

  -- 6. Create: number in no slot?
  abbrev q6 : ℕ → Questions → Questions
  q6 n = ask 6 (each z.slots λ s. non (same (v.number s) n))

  -- (02) 33, asked just after 6, if the number is not above the highest
  abbrev q33 : ℕ → Questions → Questions
  q33 n = ask 33 (below (at st.disk.highest 0) n)

  -- 7. Delete: map all 0?
  abbrev q7 : ℕ → Questions → Questions
  q7 s = ask 7 (each z.pages λ p. same (v.map (page s p)) 0)

  -- 8. Slot events but create, delete, activate: active?
  abbrev q8 : ℕ → Questions → Questions
  q8 s = ask 8 (is_active v s)

  -- 9. Activate, delete: inactive?
  abbrev q9 : ℕ → Questions → Questions
  q9 s = ask 9 (non (is_active v s))

  -- 10. Update, deactivate: no update of it under way?
  abbrev q10 : ℕ → Questions → Questions
  q10 s = ask 10 (same (v.updating s) 0)

  -- 11. Deactivate: no page of it in a frame?
  abbrev q11 : ℕ → Questions → Questions
  q11 s = ask 11 (each z.pages λ p. non (framed z c (page s p)))

  -- 12. Deactivate: map equals what an update now would store, no record of it nulled or released?
  abbrev q12 : ℕ → Questions → Questions
  q12 s = ask 12 ((each z.pages λ p. same (v.map (page s p)) (would_store (page s p)))
      and each z.records λ r. same (v.owner r) s then non (same (v.state r) NULLED or same (v.state r) RELEASED))

  -- 13. Read, write, wire, unwire: page in a frame?
  abbrev q13 : ℕ → Questions → Questions
  q13 i = ask 13 (framed z c i)

  -- 14. These, fault, truncate: no page concerned (truncate: from k up) in transfer?
  -- (02) Read and page look shall be accepted while the page's write is under way. Write, wire, unwire, fault and truncate still get 14, and reads under way still get 14 for all.
  abbrev q14 : Rule → Questions → Questions
  q14 concerned = ask 14 concerned

  -- 15. Fault: page in no frame?
  abbrev q15 : ℕ → Questions → Questions
  q15 i = ask 15 (non (framed z c i))

  -- 16. Wire, truncate: no page concerned wired?
  abbrev q16 : Rule → Questions → Questions
  q16 concerned = ask 16 concerned

  -- 17. Unwire: wired?
  abbrev q17 : ℕ → Questions → Questions
  q17 i = ask 17 (non (unwired i))

  -- (02) 18. Write to an uncharged page: used below limit?
  abbrev q18 : ℕ → ℕ → Questions → Questions
  q18 s i = ask 18 (charged z v c i or payable s 1)

  -- 19. Fault without address: a record free?
  abbrev q19 : ℕ → Questions → Questions
  q19 i = ask 19 (non (same (v.address i) 0) or below 0 st.memory.held.pool.free)

  -- 20. Fault: a frame free?
  abbrev q20 : Questions → Questions
  q20 = ask 20 (below 0 (size st.memory.core.free_queue))

  -- 21. Claim: list not empty?
  abbrev q21 : Questions → Questions
  q21 = ask 21 (below 0 (size st.memory.core.removal_list))

  -- 22. Done: such a transfer under way?
  abbrev q22 : Rule → Questions → Questions
  q22 underWay = ask 22 underWay

  -- (24: mending)
  -- 25. Move: the two are parent and child, m is above 0, the giver has m, the taker stays at 65,535 or below?
  abbrev is_parent : ℕ → ℕ → Rule
  is_parent a b = below 0 b and same (v.parent b) a

  abbrev q25 : ℕ → ℕ → ℕ → Questions → Questions
  q25 g t m = ask 25 ((is_parent g t or is_parent t g) and below 0 m and non (below (v.limit g) m) and below (v.limit t + m) 65536)

  -- 26. Move: each account whose limit or count it changes has, afterwards, used at most its limit?
  abbrev unmoved : State → ℕ → Rule
  unmoved st' a = same (at st'.disk.limits a) (v.limit a) and same (at st'.memory.used a) (at st.memory.used a)

  abbrev q26 : ℕ → ℕ → ℕ → Questions → Questions
  q26 g t m = let st' = move z st g t m in ask 26 (each z.accounts λ a. unmoved st' a or non (below (at st'.disk.limits a) (at st'.memory.used a)))

  -- ── the questions of each event ──
  abbrev slot_range : ℕ → Rule
  slot_range s = below s z.slots

  abbrev page_range : ℕ → ℕ → Rule
  page_range s p = below s z.slots and below p z.pages

  abbrev word_range : ℕ → ℕ → ℕ → Rule
  word_range s p w = below s z.slots and below p z.pages and below w z.words

  -- the questions of a read and a page look, and the first of a write; quiet is what 14 asks of the page
  abbrev pub served : Rule → (ℕ → Rule) → ℕ → ℕ → Questions
  served range quiet s p = q3 range (q4 s (q8 s (q13 (page s p) (q14 (quiet (page s p)) none))))

  -- the pages that a truncate to k concerns
  abbrev from_up : ℕ → ℕ → (ℕ → Rule) → Rule
  from_up s k rule = each z.pages λ p. non (below p k) then rule (page s p)

  abbrev pub design_questions : Design → Questions
  design_questions (Create s q n) = q3 (below s z.slots and below q z.accounts and below 0 n) (q32 n (q5 s (q6 n (q33 n none))))
  design_questions (Delete s) = q3 (slot_range s) (q4 s (q7 s (q9 s none)))
  design_questions (Activate s) = q3 (slot_range s) (q4 s (q9 s none))
  design_questions (Deactivate s) = q3 (slot_range s) (q4 s (q8 s (q10 s (q11 s (q12 s none)))))

  abbrev pub account_questions : Account → Questions
  account_questions (Limit q n) = q3 (below q z.accounts and below n 65536) none
  account_questions (Move g t m) = q3 (below g z.accounts and below t z.accounts) (q25 g t m (q26 g t m none))

  abbrev pub page_questions : Page → Questions
  page_questions (Fault s p) = q3 (page_range s p) (q4 s (q8 s (q14 (still (page s p)) (q15 (page s p) (q19 (page s p) (q20 none))))))
  page_questions (Read s p w) = served (word_range s p w) arrived s p
  page_questions (Write s p w x) = q3 (word_range s p w) (q4 s (q8 s (q13 (page s p) (q14 (still (page s p)) (q18 s (page s p) none)))))
  page_questions (Wire s p) = q3 (page_range s p) (q4 s (q8 s (q13 (page s p) (q14 (still (page s p)) (q16 (unwired (page s p)) none)))))
  page_questions (Unwire s p) = q3 (page_range s p) (q4 s (q8 s (q13 (page s p) (q14 (still (page s p)) (q17 (page s p) none)))))

  abbrev pub writeback_questions : Writeback → Questions
  writeback_questions Claim = q21 none
  writeback_questions (Truncate s k) = q3 (below s z.slots and below k (suc z.pages)) (q4 s (q8 s (q14 (from_up s k still) (q16 (from_up s k unwired) none))))
  writeback_questions (Update s) = q3 (slot_range s) (q4 s (q8 s (q10 s none)))
  writeback_questions (PageDone f good) = q3 (below f z.frames and below good 2) (q22 (non (same (c.frame f).transfer NONE)) none)
  writeback_questions (MapDone s good) = q3 (below s z.slots and below good 2) (q4 s (q8 s (q22 (same (v.updating s) 1) none)))

  -- ── the waiting line ──
  -- the first request's page, by its flat number
  abbrev pub next_page : ℕ
  next_page = first st.memory.line

  -- a fault of that page
  abbrev pub next_fault : Page
  next_fault = Fault (slot_of z next_page) (next_page % z.pages)

  -- otherwise the turn faults. If the fault is accepted the request stays first; if it gives 20 the turn claims, the request staying first. Any other number from 3 up sends it away.
  abbrev pub by_fault : ℕ → Turning
  by_fault n = if (eqb n 0) faults (if (eqb n 20) claims (sends_away n))

  -- A turn treats the first: if its page is in service it is served; if the page is in transfer it goes to the back; ..
  unfoldable pub turning : Turning
  turning = if (eqb (size st.memory.line) 0) nobody
      (if (test (framed z c next_page)) (if (test (still next_page)) serves goes_back) (by_fault (first_no (page_questions next_fault))))

  -- 27. Join: fewer than 32 waiting?
  abbrev q27 : Questions → Questions
  q27 = ask 27 (below (size st.memory.line) LINE)

  -- A turn asks 1 and 2; a refused claim refuses the turn.
  abbrev pub turn_questions : Turning → Questions
  turn_questions nobody = none
  turn_questions serves = none
  turn_questions goes_back = none
  turn_questions faults = none
  turn_questions claims = q21 none
  turn_questions (sends_away n) = none

  -- Joining asks only 1 to 3, then 27.
  abbrev pub waiting_questions : Waiting → Questions
  waiting_questions (Join s p) = q3 (page_range s p) (q27 none)
  waiting_questions Turn = turn_questions turning

  abbrev pub questions : Event → Questions
  questions (Event.Design e) = design_questions e
  questions (Event.Account e) = account_questions e
  questions (Event.Page e) = page_questions e
  questions (Event.Writeback e) = writeback_questions e
  questions (Event.Waiting e) = waiting_questions e

  -- ── design sheets ──
  -- (02) 29 for a sheet not of this form, 30 for another W or N. 31, last, if an export buffer is too short.
  abbrev q29 : List ℕ → Questions → Questions
  q29 sheet = ask 29 (form sheet)

  abbrev q30 : List ℕ → Questions → Questions
  q30 sheet = ask 30 (same (words_in sheet) z.words and same (pages_in sheet) z.pages)

  abbrev q31 : ℕ → ℕ → Questions → Questions
  q31 long room = ask 31 (non (below room long))

  -- who pays for an account, and so many pages more for it
  abbrev pub pays_for : ℕ → ℕ
  pays_for q = Payer.payer v.parent v.limit q

  abbrev affords : ℕ → ℕ → Rule
  affords q n = below (at st.memory.used (pays_for q) + n) (suc (at st.disk.limits (pays_for q)))

  -- .. then, if the sheet has pages, 18 and 19 for all together; 29 and 30 before 18.
  abbrev pub sheet_questions : ℕ → List ℕ → Questions
  sheet_questions q sheet = q29 sheet (q30 sheet
      (ask 18 (below 0 (count_in sheet) then affords q (count_in sheet)) (ask 19 (below 0 (count_in sheet) then non (below st.memory.held.pool.free (count_in sheet))) none)))

  -- It asks 5 and 6 first.
  abbrev pub import_questions : ℕ → ℕ → ℕ → List ℕ → Questions
  import_questions s q n sheet = q3 (below s z.slots and below q z.accounts and below 0 n) (q32 n (q5 s (q6 n (q33 n (sheet_questions q sheet)))))

  -- Export asks 4 and 9.
  abbrev pub export_questions : ℕ → ℕ → ℕ → Questions
  export_questions s long room = q3 (slot_range s) (q4 s (q9 s (q31 long room none)))

  -- a page look asks as a read does
  abbrev pub look_questions : ℕ → ℕ → Questions
  look_questions s p = served (page_range s p) arrived s p
