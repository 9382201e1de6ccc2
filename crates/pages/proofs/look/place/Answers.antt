-- `place` meets its contract: refused, or the page's frame and its words.
use mathlib.Core.Path.{refl}
use mathlib.Core.List.{[]}
use Rattle.leaves.specs.Packed.{unpacked}
use Rattle.pages.proofs.Served.{Call, no_yes}
use Rattle.pages.proofs.InFrame.{placed_no, placed_yes}
use Rattle.pages.proofs.look.place.Goals as goal

pub returns-in-Ok-clause-part : goal.returns-in-Ok-clause-part
returns-in-Ok-clause-part c =
    let call : Call = let a = c.args in record { sizes = a.sizes; frames = unpacked a.frames.now; numbers = a.numbers.now; words = []; list = []; active = a.active.now; slot = a.slot; page = a.page } in
    placed_yes call _ c.in-Ok.ensures.answer refl c.in-Ok.f c.word_of.result c.in-Ok.ensures.given.1 c.word_of.ensures

pub returns-in-Err-clause-part : goal.returns-in-Err-clause-part
returns-in-Err-clause-part c =
    let call : Call = let a = c.args in record { sizes = a.sizes; frames = unpacked a.frames.now; numbers = a.numbers.now; words = []; list = []; active = a.active.now; slot = a.slot; page = a.page } in
    rw c.number.ensures (placed_no call _ c.in-Err.ensures.answer (no_yes _))
