-- What the wish of the 600-record pack asks to show: no record crosses a cylinder, the way back gives each record again, and what is refused is in none.
use Rattle.std.specs.Prelude.{◌≡◌, refl, ℕ, ◌+◌, ◌/◌, ◌<◌}
use Rattle.std.proofs.Common.{ap, sym, ◌∙◌, arith}
use Rattle.tables.specs.Questions.{first_no}
use Rattle.tables.specs.Rule.{Holds, test}
use Rattle.model.specs.declared.event.Answer.{Answer}
use Rattle.sectors.specs.Pack.{sectors, pack_records, record_sectors, start, Of, back, in_record, start_of, record_of, InOne, found, refused, start_yes, record_yes}

-- a record never crosses a cylinder: all of its sectors are of one
pub in_cylinder : (r x : ℕ) → Of r x → x / sectors ≡ r / 6
in_cylinder r x (a, b) = omega (arith, a, b)

-- "the way back from sector to record gives each record again, from any of its 16 sectors"
pub back_again : (r x : ℕ) → Of r x → back x ≡ r
back_again r x (a, b) = omega (arith, a, b)

-- a sector that is not refused is in exactly one record, the one that is found ..
pub in_one : (x : ℕ) → Holds (in_record x) → InOne x
in_one x (a, b) = record { of_the_pack = omega (arith, a, b); its = (omega (arith, a, b), omega (arith, a, b)); alone = λ r o. sym (back_again r x o) }

-- .. and one that is refused is in none
pub one_in : (r x : ℕ) → r < pack_records → Of r x → Holds (in_record x)
one_in r x h (a, b) = (omega (arith, h, a, b), omega (arith, a, b, in_cylinder r x (a, b)))

pub in_none : (x : ℕ) → ¬ Holds (in_record x) → (r : ℕ) → r < pack_records → ¬ Of r x
in_none x n r h o = n (one_in r x h o)

-- ── the two ways, one after the other ──
-- each record's start leads back to it, and so does each of its other sectors
pub there_and_back : (r k : ℕ) → r < pack_records → k < record_sectors → record_of ((start_of r).result + k) ≡ found r
there_and_back r k h l =
    let o : Of r (start r + k) = (omega arith, omega (arith, l)) in
    let e : record_of (start r + k) ≡ found r = sym (record_yes (start r + k) (one_in r (start r + k) h o)) ∙ ap found (back_again r (start r + k) o) in
    ap (λ (a : Answer). record_of (a.result + k)) (sym (start_yes r (start r) h refl)) ∙ e

-- "so record 5 at 80, record 6 at 100 and record 599 at 9,980", and the first record at 0
pub record Examples : Type 0 where
  first : start_of 0 ≡ found 0
  fifth : start_of 5 ≡ found 80
  sixth : start_of 6 ≡ found 100
  last : start_of 599 ≡ found 9980
  past : start_of 600 ≡ refused
  -- the last sector of a record, the first of none, the last of the pack's records, and past the pack
  last_of_5 : record_of 95 ≡ found 5
  of_none : record_of 96 ≡ refused
  last_sector : record_of 9995 ≡ found 599
  end : record_of 10000 ≡ refused

pub examples : Examples
unfolding start_of record_of first_no test
examples = record { first = refl; fifth = refl; sixth = refl; last = refl; past = refl; last_of_5 = refl; of_none = refl; last_sector = refl; end = refl }
