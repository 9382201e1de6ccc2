-- `tag_between` meets its contract: its four bytes.
use Rattle.lines.proofs.tag_between.Goals as goal

pub returns : goal.returns
returns c =
    rw (← c.hex_digit.ensures, ← c.hex_digit-2.ensures) c.text.ensures
