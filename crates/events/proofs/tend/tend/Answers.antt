-- `tend` meets its contract: chore by chore.
use mathlib.Core.Path.{refl, subst}
use Rattle.model.specs.Chip.{place_of, take_copy, arrives}
use Rattle.chips.specs.Seen.{chip_given}
use Rattle.leaves.specs.Packed.{frames_in}
use Rattle.events.specs.Tends.{Needed}
use Rattle.events.proofs.tend.tend.Goals as goal

pub take_copy-requires : goal.take_copy-requires
take_copy-requires c =
    let a = c.args in
    subst (Needed a.sizes (chip_given a.chip_words.now a.chip_records.now a.chip_next.now) (frames_in a.sizes a.frames.now) a.frame_words.now a.removal_list.now) c.in-Take.is c.requires.needed

pub put-requires : goal.put-requires
put-requires c =
    let a = c.args in
    let k = c.requires in
    let inside = subst (Needed a.sizes (chip_given a.chip_words.now a.chip_records.now a.chip_next.now) (frames_in a.sizes a.frames.now) a.frame_words.now a.removal_list.now) c.in-Put.is k.needed in
    (k.sizes, inside, k.records, k.chip, k.next)

pub drop_stale-requires : goal.drop_stale-requires
drop_stale-requires c = let k = c.requires in (k.sizes, record { words = k.chip.words; copies = k.chip.copies })

pub forget-requires : goal.forget-requires
forget-requires c = let k = c.requires in (k.sizes, k.told_below, record { words = k.chip.words; copies = k.chip.copies })

pub returns-in-Rest : goal.returns-in-Rest
returns-in-Rest c = rw c.in-Rest.is (record { frames = refl; words = refl; list = refl; chip = refl })

pub returns-in-Take : goal.returns-in-Take
unfolding arrives take_copy place_of
returns-in-Take c =
    let e = c.take_copy.ensures in
    rw c.in-Take.is (record { frames = e.frames; words = e.words; list = e.list; chip = refl })

pub returns-in-Put : goal.returns-in-Put
returns-in-Put c =
    rw c.in-Put.is (record { frames = refl; words = refl; list = refl; chip = c.put.ensures })

pub returns-in-Drop : goal.returns-in-Drop
returns-in-Drop c =
    rw c.in-Drop.is (record { frames = refl; words = refl; list = refl; chip = c.drop_stale.ensures c.args.chip_next.now })

pub returns-in-Forget : goal.returns-in-Forget
returns-in-Forget c =
    rw c.in-Forget.is (record { frames = refl; words = refl; list = refl; chip = c.forget.ensures c.args.chip_next.now })
