-- The line and the chip beside the other tables: questions 1 and 2 of everything lent are those of the other tables, with nobody waiting and no chip, and the line's and the chip's own.
use Rattle.std.specs.Prelude.{◌≡◌, Bool, ◌&&◌, List, ℕ, ◌*◌, ◌≤◌, length, replicate}
use Rattle.std.proofs.Math.Path.{refl}
use Rattle.std.proofs.Common.{ap, ◌∙◌, mul-le-mul, arith}
use Rattle.std.proofs.Math.Dec.{eqb}
use Rattle.tables.specs.Queue.{packed, queue_of}
use Rattle.tables.specs.Rule.{Holds, test, alike, same, ◌and◌}
use Rattle.tables.specs.Turn.{both}
use Rattle.model.specs.declared.sizes.Sizes.{Sizes}
use Rattle.model.specs.State.{Chip, State, LINE, all_pages}
use Rattle.model.specs.Chip.{empty_chip}
use Rattle.model.specs.Setters.{set_line, set_chip}
use Rattle.model.specs.Lent.{no_line, chip_of}
use Rattle.model.specs.Rules.{disk_rules, range_rules, record_rules, queue_rules, frame_rules, count_rules, line_rules, table_rules, chip_rules, all_rules}
use Rattle.model.specs.Laws.Apart.{tables_fit, tables_ruled, fit_apart, apart_fit, ruled_apart, apart_ruled, both_fit, both_ruled}
use Rattle.model.specs.Laws.Fit.{Within, Fit, fit, ChipFit}
use Rattle.model.specs.Step.{chip_lengths, all_fit}
use Rattle.dispatch.specs.Beside.{fit_beside, ruled_beside, no_line_long, no_line_ruled}

-- a table of zeros: nobody waits
pub no_line_zeros : (line : List ℕ) → length line ≡ LINE → replicate (length line) 0 ≡ no_line
unfolding packed
no_line_zeros line e = ap (λ (n : ℕ). replicate n 0) e

-- three tables of zeros: the chip is empty
pub no_copy_zeros : (z : Sizes) (k : Chip) → ChipFit z k → chip_of (replicate (length k.words) 0) (replicate (length k.copies) 0) (replicate (length k.next) 0) ≡ empty_chip z
unfolding empty_chip
no_copy_zeros z k f = λ x. chip_of (replicate (f.words x) 0) (replicate (f.copies x) 0) (replicate (f.next x) 0)

-- so few words that their count is a number
pub chip_words_most : (z : Sizes) → Within z → z.chip * z.words ≤ 262144
chip_words_most z w = mul-le-mul {n₂ = 256} {m₂ = 1024} (omega (arith, w.chip_most)) (omega (arith, w.words_most))

-- with nobody waiting, and with this line
module _ (z : Sizes) (st : State) (line : List ℕ) where
  abbrev quiet : State
  quiet = set_line no_line st

  abbrev lined : State
  lined = set_line line st

  fit_lined : test (tables_fit z quiet and same (length line) LINE) ≡ test (tables_fit z lined)
  fit_lined = alike (tables_fit z quiet and same (length line) LINE) (tables_fit z lined)
      (λ h. apart_fit z lined (fit_beside line z quiet h.1 (fit_apart z quiet h.0)))
      (λ h. let f = fit_apart z lined h in (apart_fit z quiet (fit_beside no_line z lined no_line_long f), f.memory.line))

  ruled_lined : test (tables_ruled z quiet and queue_of LINE (all_pages z) line) ≡ test (tables_ruled z lined)
  ruled_lined = alike (tables_ruled z quiet and queue_of LINE (all_pages z) line) (tables_ruled z lined)
      (λ h. apart_ruled z lined (ruled_beside line z quiet h.1 (ruled_apart z quiet h.0)))
      (λ h. let r = ruled_apart z lined h in (apart_ruled z quiet (ruled_beside no_line z lined (no_line_ruled (all_pages z)) r), r.line))

  -- .. and with this chip
  module _ (k : Chip) where
    abbrev chipped : State
    chipped = set_chip k lined

    fit_chipped : test (tables_fit z lined and chip_lengths z k) ≡ test (all_fit z chipped)
    unfolding tables_fit
    fit_chipped = both_fit z chipped

    ruled_chipped : test (tables_ruled z lined and chip_rules z chipped) ≡ test (all_rules z chipped)
    unfolding tables_ruled disk_rules table_rules range_rules record_rules queue_rules frame_rules count_rules line_rules
    ruled_chipped = both_ruled z chipped

    -- what the three tests say together
    pub fit_told_all : (a b : Bool) → a ≡ test (tables_fit z quiet) → b ≡ test (chip_lengths z k) → ((a && eqb (length line) LINE) && b) ≡ test (all_fit z chipped)
    unfolding test
    fit_told_all a b e q =
        let l : (a && eqb (length line) LINE) ≡ test (tables_fit z lined) = both (tables_fit z quiet) (same (length line) LINE) _ _ e refl ∙ fit_lined in
        both (tables_fit z lined) (chip_lengths z k) _ _ l q ∙ fit_chipped

    pub ruled_told_all : (a b c : Bool) → a ≡ test (tables_ruled z quiet) → b ≡ test (queue_of LINE (all_pages z) line) → c ≡ test (chip_rules z chipped) → ((a && b) && c) ≡ test (all_rules z chipped)
    ruled_told_all a b c e q r =
        let l : (a && b) ≡ test (tables_ruled z lined) = both (tables_ruled z quiet) (queue_of LINE (all_pages z) line) _ _ e q ∙ ruled_lined in
        both (tables_ruled z lined) (chip_rules z chipped) _ _ l r ∙ ruled_chipped

    alone : Fit z chipped → Holds (tables_fit z lined)
    unfolding tables_fit
    alone f = apart_fit z chipped f

    -- where question 1 says yes, it says yes of the others
    pub fit_quiet : Holds (all_fit z chipped) → Holds (tables_fit z quiet)
    fit_quiet h = apart_fit z quiet (fit_beside no_line z lined no_line_long (fit_apart z lined (alone (fit z chipped h))))
