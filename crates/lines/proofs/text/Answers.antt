-- `text` meets its contract: the bytes that were copied stand between what stood before and behind them.
use mathlib.Core.Path.{◌≡◌, refl, ap, sym, ◌∙◌}
use native.Mathlib.Omega.{arith}
use Prim.Native.Nat.{◌+◌, ◌-◌}
use lib.ListN.{length, take}
use lib.Seq.{sets, take_all}
use Rattle.std.proofs.lemmas.List.Edits.{sets-eq}
use Rattle.std.proofs.lemmas.Slice.{put_mid-paste}
use Rattle.std.proofs.Math.Seq.{length-sets}
use borrow.Rule.Slice.PartMut.{put_mid}
use Rattle.lines.proofs.text.Goals as goal

pub returns : goal.returns
returns c =
    let out = c.args.out.now in
    let place = c.args.place in
    let bytes = c.args.bytes.now in
    let n = length bytes in
    let copied = put_mid-paste place (place + n - place) out c.copy_from_slice.new.self bytes n c.copy_from_slice.ensures.after (omega arith) refl in
    let all : take n bytes ≡ bytes = take_all n bytes (omega arith) in
    let stand : put_mid place (place + n - place) out c.copy_from_slice.new.self ≡ sets out place bytes = (rw all at copied) ∙ sym (sets-eq bytes out place c.requires) in
    record { buffer = stand; end = refl; fits = c.requires; size = ap length stand ∙ length-sets out place bytes }
