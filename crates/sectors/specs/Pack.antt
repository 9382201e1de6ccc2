-- "A new pack has 100 cylinders of 100 sectors, and a record takes 16 sectors and never crosses a cylinder." The look-ups, and what holds of them.
use Rattle.std.specs.Prelude.{◌≡◌, ℕ, ◌+◌, ◌*◌, ◌/◌, ◌%◌, ◌≤◌, ◌<◌}
use Rattle.std.proofs.Common.{ap, sym, arith}
use Rattle.tables.specs.Questions.{none, ask, first_no}
use Rattle.tables.specs.Rule.{Rule, below, ◌and◌, Holds}
use Rattle.model.specs.declared.event.Answer.{Answer}
use Rattle.model.specs.Step.{outcome}
use Rattle.model.specs.Laws.Own.{first_yes, first_no_holds}

-- 100 cylinders of 100 sectors
abbrev pub cylinders : ℕ
cylinders = 100

abbrev pub sectors : ℕ
sectors = 100

-- 600 records of 16 sectors, six in a cylinder
abbrev pub pack_records : ℕ
pack_records = 600

abbrev pub record_sectors : ℕ
record_sectors = 16

-- "Record r starts at sector (r div 6) × 100 + (r mod 6) × 16"
abbrev pub start : ℕ → ℕ
start r = r / 6 * 100 + r % 6 * 16

-- sector x is one of the 16 of record r
abbrev pub Of : ℕ → ℕ → Type 0
Of r x = (start r ≤ x) × (x < start r + record_sectors)

-- "the way back from sector to record"
abbrev pub back : ℕ → ℕ
back x = x / 100 * 6 + x % 100 / 16

-- sector x is in a record: by `in_one` and `in_none` of proofs/Laws.antt, exactly where one of the 600 has it
abbrev pub in_record : ℕ → Rule
in_record x = below x (cylinders * sectors) and below (x % sectors) 96

-- "Errors: 28, the only question of these look-ups, if a record of 600 or more, or a sector in no record, is looked up."
abbrev pub looked_up : Rule → ℕ → Answer
looked_up asked result = (outcome {A = ℕ} (first_no (ask 28 asked none)) result 0 0).answer

unfoldable pub start_of : ℕ → Answer
start_of r = looked_up (below r pack_records) (start r)

unfoldable pub record_of : ℕ → Answer
record_of x = looked_up (in_record x) (back x)

-- ── what holds of the places: the rest stands in proofs/Laws.antt ──
-- all sectors of a record are in a cylinder of the pack
pub of_pack : (r x : ℕ) → r < pack_records → Of r x → x / sectors < cylinders
of_pack r x h (a, b) = omega (arith, h, a, b)

-- "no two records share a sector"
pub apart : (r s x : ℕ) → Of r x → Of s x → r ≡ s
apart r s x (a, b) (c, d) = omega (arith, a, b, c, d)

-- a sector is in exactly one record, the one that is found
pub record InOne (x : ℕ) : Type 0 where
  pub of_the_pack : back x < pack_records
  pub its : Of (back x) x
  pub alone : (r : ℕ) → Of r x → r ≡ back x

-- ── the look-ups, carried out and refused ──
abbrev pub found : ℕ → Answer
found n = record { refusal = 0; result = n }

abbrev pub refused : Answer
refused = record { refusal = 28; result = 0 }

-- by the question's number
abbrev by : ℕ → ℕ → Answer
by result n = (outcome {A = ℕ} n result 0 0).answer

looked_up_holds : (asked : Rule) (n : ℕ) → Holds asked → found n ≡ looked_up asked n
unfolding first_no
looked_up_holds asked n h = sym (ap (by n) (first_yes 28 asked none h))

not_looked_up : (asked : Rule) (n : ℕ) → ¬ Holds asked → refused ≡ looked_up asked n
unfolding first_no
not_looked_up asked n h = sym (ap (by n) (first_no_holds 28 asked none h))

pub start_yes : (r x : ℕ) → r < pack_records → x ≡ start r → found x ≡ start_of r
unfolding start_of
start_yes r x h e = rw e (looked_up_holds (below r pack_records) (start r) h)

pub start_no : (r : ℕ) → ¬ (r < pack_records) → refused ≡ start_of r
unfolding start_of
start_no r h = not_looked_up (below r pack_records) (start r) h

pub record_yes : (x : ℕ) → Holds (in_record x) → found (back x) ≡ record_of x
unfolding record_of
record_yes x h = looked_up_holds (in_record x) (back x) h

pub record_no : (x : ℕ) → ¬ Holds (in_record x) → refused ≡ record_of x
unfolding record_of
record_no x h = not_looked_up (in_record x) (back x) h
