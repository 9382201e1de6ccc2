-- The kinds of request, and what each asks for.
use Rattle.std.specs.Prelude.{◌≡◌, refl, Bool, true, ◌&&◌, List, [], ◌∷◌, ◌++◌, ℕ, ◌<◌, T, eqb, ltb, Option, Some, None}
use Rattle.std.proofs.Common.{ap, ◌∙◌, inl, inr, arith, ltb→lt, ne_eqb}
use Rattle.std.proofs.Math.Decide.{dec_lt}
use Rattle.tables.specs.Base.{if, all}
use Rattle.tables.specs.Laws.{and_left, and_right}
use Rattle.tables.specs.Questions.{none, ask, first_no}
use Rattle.tables.specs.Rule.{Rule, Holds, same, below, ◌and◌, ◌or◌, each, test, sound, untold}
use Rattle.model.specs.declared.event.Event.{Event}
use Rattle.model.specs.declared.event.Design.TheVariants as Design
use Rattle.model.specs.declared.event.Account.TheVariants as Account
use Rattle.model.specs.declared.event.Page.TheVariants as Page
use Rattle.model.specs.declared.event.Writeback.TheVariants as Store
use Rattle.model.specs.declared.event.Waiting.TheVariants as Waiting
use Rattle.model.specs.declared.request.Request.{Request}

-- a kind of request, and the event that it asks for
pub record Kind : Type 0 where
  pub tag : ℕ
  pub event : Event

abbrev pub kind : ℕ → Event → Kind
kind t e = record { tag = t; event = e }

-- "01 create slot account number; 02 delete slot; 03 activate slot; 04 deactivate slot"
abbrev pub design_kinds : Request → List Kind
design_kinds r =
    kind 1 (Event.Design (Design.Create r.first r.second r.third))
    ∷ kind 2 (Event.Design (Design.Delete r.first))
    ∷ kind 3 (Event.Design (Design.Activate r.first))
    ∷ kind 4 (Event.Design (Design.Deactivate r.first))
    ∷ []

-- "05 fault slot page; 06 read slot page word; 07 write slot page word value"; "09 wire slot page; 0A unwire slot page"
abbrev pub page_kinds : Request → List Kind
page_kinds r =
    kind 5 (Event.Page (Page.Fault r.first r.second))
    ∷ kind 6 (Event.Page (Page.Read r.first r.second r.third))
    ∷ kind 7 (Event.Page (Page.Write r.first r.second r.third r.fourth))
    ∷ kind 9 (Event.Page (Page.Wire r.first r.second))
    ∷ kind 10 (Event.Page (Page.Unwire r.first r.second))
    ∷ []

-- "08 claim"; "0B truncate slot k; 0C update slot; 0D page done frame good; 0E map done slot good"
abbrev pub writeback_kinds : Request → List Kind
writeback_kinds r =
    kind 8 (Event.Writeback Store.Claim)
    ∷ kind 11 (Event.Writeback (Store.Truncate r.first r.second))
    ∷ kind 12 (Event.Writeback (Store.Update r.first))
    ∷ kind 13 (Event.Writeback (Store.PageDone r.first r.second))
    ∷ kind 14 (Event.Writeback (Store.MapDone r.first r.second))
    ∷ []

-- "0F limit account pages"; the library's own kinds: 17 move giver taker m,
abbrev pub account_kinds : Request → List Kind
account_kinds r =
    kind 15 (Event.Account (Account.Limit r.first r.second))
    ∷ kind 17 (Event.Account (Account.Move r.first r.second r.third))
    ∷ []

-- 18 join slot page, 19 turn
abbrev pub waiting_kinds : Request → List Kind
waiting_kinds r = kind 18 (Event.Waiting (Waiting.Join r.first r.second)) ∷ kind 19 (Event.Waiting Waiting.Turn) ∷ []

-- the event of the first kind with this tag
abbrev pub tagged : ℕ → List Kind → Option Event
tagged t [] = None
tagged t (k ∷ ks) = if (eqb t k.tag) (Some k.event) (tagged t ks)

abbrev pub kinds : Request → List Kind
kinds r = design_kinds r ++ page_kinds r ++ writeback_kinds r ++ account_kinds r ++ waiting_kinds r

unfoldable pub decoded : Request → Option Event
decoded r = tagged r.kind (kinds r)

-- the paper's number for each case
abbrev pub decoded_number : Option Event → ℕ
decoded_number (Some e) = 0
decoded_number None = 3

-- the kinds of event are 1 to 15, the event program's, and 17 to 19 (16 is that program's cut and restart)
abbrev pub known : ℕ → Rule
known t = below 0 t and below t 16 or same t 17 or same t 18 or same t 19

abbrev pub kind_fits : Request → Rule
kind_fits r = known r.kind

-- the kind's part of question 3: 0, or its number
abbrev pub kind_answer : Request → ℕ
kind_answer r = first_no (ask 3 (kind_fits r) none)

-- the event of a request, and the paper's number for the answer
abbrev pub Decodes : Request → Option Event → Type 0
Decodes r d = (d ≡ decoded r) × (decoded_number d ≡ kind_answer r)

-- ── the number by the kind ──
-- a tag past those of all kinds is unknown
abbrev tags_below : ℕ → List Kind → Bool
tags_below n [] = true
tags_below n (k ∷ ks) = ltb k.tag n && tags_below n ks

past : (t n : ℕ) (ks : List Kind) → T (tags_below n ks) → ¬ (t < n) → tagged t ks ≡ None
past t n [] b h = refl
past t n (k ∷ ks) b h = rw (ne_eqb t k.tag (λ e. omega (arith, e, ltb→lt k.tag n (and_left (ltb k.tag n) (tags_below n ks) b)))) (past t n ks (and_right (ltb k.tag n) (tags_below n ks) b) h)

-- of the first 20 tags these are known
abbrev first : Request → ℕ → Rule
first r t = same (decoded_number (tagged t (kinds r))) (first_no (ask 3 (known t) none))

by_tag : (r : Request) (t : ℕ) → t < 20 → decoded_number (tagged t (kinds r)) ≡ first_no (ask 3 (known t) none)
unfolding test all first_no
by_tag r t h = sound (each 20 (first r)) tt t h

-- and no others
unknown_past : (t : ℕ) → ¬ (t < 20) → ¬ Holds (known t)
unknown_past t l (inl h) = omega (arith, l, h.1)
unknown_past t l (inr (inl h)) = omega (arith, l, h)
unknown_past t l (inr (inr (inl h))) = omega (arith, l, h)
unknown_past t l (inr (inr (inr h))) = omega (arith, l, h)

decoded_number_holds : (r : Request) → decoded_number (decoded r) ≡ kind_answer r
unfolding decoded first_no
decoded_number_holds r = elim (dec_lt r.kind 20) [
  | yes l ↦ by_tag r r.kind l
  | no l ↦ rw (untold (known r.kind) (unknown_past r.kind l)) (ap decoded_number (past r.kind 20 (kinds r) tt l))
]

pub decodes_by : (r : Request) (d : Option Event) → d ≡ decoded r → Decodes r d
decodes_by r d e = (e, ap decoded_number e ∙ decoded_number_holds r)
