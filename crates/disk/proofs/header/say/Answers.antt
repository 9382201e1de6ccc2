-- `say` meets its contract: by the look's number, then by the limits.
use mathlib.Core.Path.{◌≡◌, ap, sym, ◌∙◌}
use mathlib.Core.Bool.{true, false}
use native.Mathlib.Omega.{arith}
use Rattle.tables.specs.Rule.{test}
use Rattle.model.specs.declared.sizes.Sizes.{Sizes}
use Rattle.disk.specs.Header.{disk_fits, sizes_said}
use Rattle.disk.specs.Laws.Header.{number_said, say_refused, say_out, say_sizes}
use Rattle.disk.proofs.header.say.Goals as goal

pub returns-then-refusal-ne0 : goal.returns-then-refusal-ne0
returns-then-refusal-ne0 c =
    let m = number_said c.args.words.now c.sizes_of-sizes.ensures c.look.ensures c.number-refusal.ensures in
    c.refused.ensures ∙ say_refused c.args.words.now c.number-refusal.result m (omega arith)

pub returns-then-sizes_fit : goal.returns-then-sizes_fit
returns-then-sizes_fit c =
    let m = number_said c.args.words.now c.sizes_of-sizes.ensures c.look.ensures c.number-refusal.ensures in
    let e : true ≡ test (disk_fits (sizes_said c.args.words.now)) = sym c.if-sizes_fit.true ∙ c.sizes_fit.ensures ∙ ap (λ (y : Sizes). test (disk_fits y)) c.sizes_of-sizes.ensures in
    say_sizes c.args.words.now c.number-refusal.result m (omega arith) e

pub returns : goal.returns
returns c =
    let m = number_said c.args.words.now c.sizes_of-sizes.ensures c.look.ensures c.number-refusal.ensures in
    let e : false ≡ test (disk_fits (sizes_said c.args.words.now)) = sym c.if-sizes_fit.false ∙ c.sizes_fit.ensures ∙ ap (λ (y : Sizes). test (disk_fits y)) c.sizes_of-sizes.ensures in
    c.refused-2.ensures ∙ say_out c.args.words.now c.number-refusal.result m (omega arith) e
