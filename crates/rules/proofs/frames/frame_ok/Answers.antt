-- The seven rules' tests together are the frame's.
use Rattle.tables.specs.Turn.{seven}
use Rattle.rules.proofs.frames.frame_ok.Goals as goal

pub returns : goal.returns
returns c =
    let free-frame = c.free_frame in
    let writing-modified = c.writing_modified in
    let in-one-place = c.in_one_place in
    let frame-fit = c.frame_fit in
    seven _ _ _ _ _ _ _ _ _ _ _ _ _ _ frame-fit.ensures in-one-place.ensures writing-modified.ensures free-frame.ensures c.busy_frame.ensures c.frame_active.ensures c.framed_held.ensures
