-- The theorems over every list of calls, cuts and kills: what a recovery reads is what a list of the keeper's acts leaves, and so demand 3 holds on a device that tears.
use mathlib.Core.Path.{refl}
use mathlib.Core.List.{[]}
use Prim.Native.Nat.{ℕ}
use lib.Dec.{T}
use Rattle.tables.specs.Rule.{Holds}
use Rattle.model.specs.declared.sizes.Sizes.{Sizes}
use Rattle.model.specs.State.{Disk, Memory}
use Rattle.model.specs.Restart.{formatted}
use Rattle.model.specs.Step.{memory_lengths}
use Rattle.model.specs.Acts as K
use Rattle.invariant.proofs.Never.{start_safe, format_safe, never_2_from_pack}
use Rattle.crash.proofs.Demand3.{demand3}
use Rattle.crash.proofs.OneNumber.{one_number_holds}
use Rattle.journal.specs.Device.{Sectors}
use Rattle.journal.specs.Journal as J
use Rattle.journal.specs.Claims.{after}
use Rattle.journal.proofs.Theorem as Journal
use Rattle.layout.specs.Laid.{room}
use Rattle.board.specs.Board.{Phase, ready, calling, lost, lost_in, Board, driver, fresh}
use Rattle.board.specs.Claims.{Laid, Readable, reached, world, OnSectors, Demand3OnSectors, OneNumberOnSectors}
use Rattle.board.proofs.Sound.{In, Same, Sound}
use Rattle.board.proofs.Moves.{runs_good}

-- a device that was just laid down, before the first recovery
pub fresh_good : (z : Sizes) (most : ℕ) (f : Sectors) (pack : Disk) (junk : Memory) → Holds (memory_lengths z junk) → Laid z most pack f → Sound z most f (K.start z pack junk) (fresh f (record { disk = pack; memory = junk }))
unfolding fresh J.run J.start K.start K.run K.legal after
fresh_good z most f pack junk l h = record {
  journal = Journal.holds most (room z) 0 f [];
  settles = tt;
  legal = tt;
  phase = (refl, λ x b. h x b, l);
}

readable : (z : Sizes) (most : ℕ) (f : Sectors) (b : Board) (w : K.World) (p : Phase) → Readable p → In z most f b w p → Same z most f b w
readable z most f b w ready r i = i.2
readable z most f b w (calling c) r i = i.1
readable z most f b w lost r i = absurd r
readable z most f b w (lost_in c) r i = absurd r

-- From any pack that keeps the disk rules.
pub on_sectors : (z : Sizes) (most : ℕ) → OnSectors z most (driver z most)
unfolding OnSectors
on_sectors z most pack junk f moves sizes disk lengths rules laid tidy =
    let w = K.start z pack junk in
    let g = runs_good z most f w (start_safe z pack junk sizes disk lengths rules) moves (fresh f (record { disk = pack; memory = junk })) tidy (fresh_good z most f pack junk lengths laid) in
    let b = reached z (driver z most) f pack junk moves in
    (g.legal, λ r. readable z most f b (world z pack junk b) b.phase r g.phase)

-- Demand 3, from a finished format.
pub demand3_on_sectors : Demand3OnSectors
demand3_on_sectors z most parents junk f moves sizes low lengths laid tidy =
    let pack = formatted z parents in
    let w = K.start z pack junk in
    let g = runs_good z most f w (format_safe z parents junk sizes low lengths) moves (fresh f (record { disk = pack; memory = junk })) tidy (fresh_good z most f pack junk lengths laid) in
    let b = reached z (driver z most) f pack junk moves in
    (demand3 z parents junk b.past sizes low lengths g.legal, λ r. readable z most f b (world z pack junk b) b.phase r g.phase)

-- One number, one design, and no answer 1 or 2, from any pack that keeps the disk rules.
pub one_number_on_sectors : OneNumberOnSectors
one_number_on_sectors z most pack junk f moves sizes disk lengths rules laid tidy =
    let past = (reached z (driver z most) f pack junk moves).past in
    let t : T (K.legal z (K.start z pack junk) past) = unfold OnSectors in (on_sectors z most pack junk f moves sizes disk lengths rules laid tidy).0 in
    let n = one_number_holds z pack junk past sizes disk lengths rules t in
    (n.0, n.1, never_2_from_pack z pack junk past sizes disk lengths rules t)
