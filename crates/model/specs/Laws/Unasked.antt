-- Question 23 of paper 01, "Good map done: no leaving record in the image?", is not asked: no_leaving_imaged of Implied. Its number stays unused: no call answers it.
use Rattle.std.specs.Prelude.{◌≡◌, refl, Bool, true, false, ◌||◌, List, ℕ, T, eqb, Option, Some, None}
use Rattle.std.proofs.Common.{ap, sym, ◌∙◌, arith}
use Rattle.tables.specs.Base.{if}
use Rattle.tables.specs.Laws.{or_left, or_right, eq→T}
use Rattle.tables.specs.Questions.{Questions, none, ask, first_no, Asked}
use Rattle.tables.specs.Rule.{Rule, Holds, same, non, ◌then◌, each, named, test, sound, told}
use Rattle.model.specs.declared.sizes.Sizes.{Sizes}
use Rattle.model.specs.declared.event.Event.{Event}
use Rattle.model.specs.declared.event.Design.TheVariants.{Create, Delete, Activate, Deactivate}
use Rattle.model.specs.declared.event.Account.TheVariants.{Limit, Move}
use Rattle.model.specs.declared.event.Page.TheVariants.{Fault, Read, Write, Wire, Unwire}
use Rattle.model.specs.declared.event.Writeback.TheVariants.{Claim, Truncate, Update, PageDone, MapDone}
use Rattle.model.specs.declared.event.Waiting.TheVariants.{Join, Turn}
use Rattle.model.specs.Lines.{LEAVING}
use Rattle.model.specs.State.{State, files, page_of}
use Rattle.model.specs.Laws.Ruled.{ruled}
use Rattle.model.specs.Laws.Index.{page_below}
use Rattle.model.specs.Questions.{Turning, nobody, serves, goes_back, faults, claims, sends_away, questions, turn_questions, turning}
use Rattle.model.specs.Requests.{decoded}
use Rattle.model.specs.Step.{asked, answer}
use Rattle.model.specs.ApplyAll.{answer_of, request_at, after}
use Rattle.model.specs.Laws.EveryCall.{Call, stepping, applying, restarting, formatting, looking, importing, exporting, outcome_of, decoded_questions, asks, refused_unchanged}
use Rattle.model.specs.Laws.Fit.{fit}
use Rattle.model.specs.Laws.Implied.{no_leaving_imaged}

-- one question more, asked last
abbrev pub asking : Questions → ℕ → Rule → Questions
asking none n r = ask n r none
asking (ask m q rest) n r = ask m q (asking rest n r)

-- a question that holds wherever the others do changes no answer
pub needless : (q : Questions) (n : ℕ) (r : Rule) → (Asked q → Holds r) → first_no (asking q n r) ≡ first_no q
unfolding first_no
needless none n r h = ap (λ (b : Bool). if b 0 n) (told r (h tt))
needless (ask m f rest) n r h = go (test f) (λ t. needless rest n r (λ a. h (sound f t, a)))
  where
    go : (b : Bool) → (T b → first_no (asking rest n r) ≡ first_no rest) → if b (first_no (asking rest n r)) m ≡ if b (first_no rest) m
    go true k = k tt
    go false k = refl

module _ (z : Sizes) (st : State) (s good : ℕ) where
  abbrev map_done : Event
  map_done = Event.Writeback (MapDone s good)

  -- 23. Good map done: no leaving record in the image?
  abbrev pub none_leaving : Rule
  none_leaving = same good 1 then each z.pages λ p. named ((files st).image (page_of z s p)) λ r. non (same ((files st).state r) LEAVING)

  -- "From the rules tested at 2, show that it cannot fail at any good map done that passes 1 to 22":
  pub cannot_fail : Asked (asked z st (questions z st map_done)) → Holds none_leaving
  cannot_fail a g p h = let k = (ruled z st a.1.0).records in no_leaving_imaged z (files st) k.held k.imaged (page_of z s p) (page_below z (fit z st a.0).sizes.pages s p a.1.1.0.0 h)

  -- so with it every map done is answered as without it, over any tables.
  pub answered_alike : first_no (asking (asked z st (questions z st map_done)) 23 none_leaving) ≡ answer z st map_done
  unfolding answer
  answered_alike = needless (asked z st (questions z st map_done)) 23 none_leaving cannot_fail

-- ── no call answers 23 ──
-- question n is among these
abbrev pub asks_number : ℕ → Questions → Bool
asks_number n none = false
asks_number n (ask m r rest) = eqb n m || asks_number n rest

-- a number that is not asked is no answer
pub not_asked : (n : ℕ) (q : Questions) → ¬ (n ≡ 0) → ¬ (T (asks_number n q)) → ¬ (first_no q ≡ n)
unfolding first_no
not_asked n none d a e = d (sym e)
not_asked n (ask m r rest) d a e = go (test r) (not_asked n rest d (λ t. a (or_right (eqb n m) (asks_number n rest) t))) e
  where
    go : (b : Bool) → ¬ (first_no rest ≡ n) → ¬ (if b (first_no rest) m ≡ n)
    go true k x = k x
    go false k x = a (or_left (eqb n m) (asks_number n rest) (eq→T (sym x)))

turn_23 : (z : Sizes) (st : State) (t : Turning) → ¬ (T (asks_number 23 (turn_questions z st t)))
turn_23 z st nobody t = t
turn_23 z st serves t = t
turn_23 z st goes_back t = t
turn_23 z st faults t = t
turn_23 z st claims t = t
turn_23 z st (sends_away n) t = t

own_23 : (z : Sizes) (st : State) (e : Event) → ¬ (T (asks_number 23 (questions z st e)))
own_23 z st (Event.Design (Create s q n)) t = t
own_23 z st (Event.Design (Delete s)) t = t
own_23 z st (Event.Design (Activate s)) t = t
own_23 z st (Event.Design (Deactivate s)) t = t
own_23 z st (Event.Account (Limit q n)) t = t
own_23 z st (Event.Account (Move g k m)) t = t
own_23 z st (Event.Page (Fault s p)) t = t
own_23 z st (Event.Page (Read s p w)) t = t
own_23 z st (Event.Page (Write s p w x)) t = t
own_23 z st (Event.Page (Wire s p)) t = t
own_23 z st (Event.Page (Unwire s p)) t = t
own_23 z st (Event.Writeback Claim) t = t
own_23 z st (Event.Writeback (Truncate s k)) t = t
own_23 z st (Event.Writeback (Update s)) t = t
own_23 z st (Event.Writeback (PageDone f good)) t = t
own_23 z st (Event.Writeback (MapDone s good)) t = t
own_23 z st (Event.Waiting (Join s p)) t = t
own_23 z st (Event.Waiting Turn) t = turn_23 z st (turning z st) t

decoded_23 : (z : Sizes) (st : State) (d : Option Event) → ¬ (T (asks_number 23 (decoded_questions z st d)))
decoded_23 z st (Some e) t = own_23 z st e t
decoded_23 z st None t = t

asks_23 : (c : Call) → ¬ (T (asks_number 23 (asks c)))
asks_23 (stepping z st e) t = own_23 z st e t
asks_23 (applying z st r) t = decoded_23 z st (decoded r) t
asks_23 (restarting z st) t = t
asks_23 (formatting z w d) t = t
asks_23 (looking z st s p) t = t
asks_23 (importing z st s q n b) t = elim t [ ]
asks_23 (exporting z st s b) t = elim t [ ]

pub never_23 : (c : Call) → ¬ ((outcome_of c).answer.refusal ≡ 23)
never_23 c e = not_asked 23 (asks c) (λ h. omega (arith, h)) (asks_23 c) (sym (refused_unchanged c).first ∙ e)

-- nor a list of requests in one call, at any of them
pub list_never_23 : (z : Sizes) (requests answers : List ℕ) (st : State) (k : ℕ) → ¬ ((answer_of z requests answers st k).refusal ≡ 23)
list_never_23 z requests answers st k = never_23 (applying z (after z requests answers st k).left (request_at requests k))
