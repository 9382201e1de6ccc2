-- `put_words` meets its contract: the bytes of the words passed are laid.
use Rattle.std.proofs.Common.{ap, ◌∙◌, List, ℕ, ◌+◌, ◌*◌, arith}
use Rattle.tables.specs.Base.{at}
use Rattle.sheets.specs.Sheet.{bytes, laid}
use Rattle.sheets.specs.Laws.Runs.{length_bytes}
use Rattle.sheets.specs.Laws.Laying.{words_none, words_more}
use Rattle.sheets.proofs.Numbers.{slice_at}
use Rattle.sheets.proofs.print.put_words.Goals as goal

pub loop-j-init : goal.loop-j-init
loop-j-init c = words_none c.args.b.now c.args.from (λ k. bytes 4 (at c.args.words.now (c.args.base + k)))

pub loop-j-preserved : goal.loop-j-preserved
loop-j-preserved c =
    let four : ℕ → List ℕ = λ k. bytes 4 (at c.args.words.now (c.args.base + k)) in
    words_more c.args.b.now c.args.from four c.loop-j.j 4 (c.args.from + 4 * c.loop-j.j) (λ k. length_bytes 4 (at c.args.words.now (c.args.base + k))) c.loop-j.invariant (omega arith) (c.put_four.ensures ∙ ap (λ (x : ℕ). laid c.loop-j.b (c.args.from + 4 * c.loop-j.j) (bytes 4 x)) (slice_at _ _ _ _ c.loop-j-test.true))
