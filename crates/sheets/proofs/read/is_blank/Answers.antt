-- `is_blank` meets its contract: a word is 0 if its four bytes are.
use mathlib.Core.Path.{◌∙◌}
use Rattle.sheets.proofs.Numbers.{zero_words}
use Rattle.sheets.proofs.read.is_blank.Goals as goal

pub returns : goal.returns
returns c = c.all_zero.ensures ∙ zero_words c.args.s.now c.args.from c.args.w
