use mathlib.Core.Path.{◌≡◌}
use lib.ListN.{length, take}
use Rattle.model.specs.Lent.{all_of}
use Rattle.model.specs.Pool.{taken, deposited}
use Rattle.leaves.specs.Packed.{unpacked}
use Rattle.batch.proofs.Together.{Turned}
use Rattle.batch.proofs.turns.turns.Given as goal

-- the tables, in the order in which they are lent: the frames w, then a to u, with the highest number v, and the parents p, which stay
abbrev pub invariant-loop-k : goal.invariant-loop-k
invariant-loop-k l =
    Turned l.sizes l.requests l.initial.answers
    (all_of (take l.sizes.frames (unpacked l.initial.frames)) l.initial.last.pool l.initial.records l.initial.numbers l.initial.accounts l.initial.maps l.initial.limits l.parents l.initial.highest l.initial.frame_words l.initial.free_queue l.initial.removal_list
    l.initial.addresses l.initial.states l.initial.owners l.initial.free_map l.initial.active l.initial.updating l.initial.images l.initial.chip_words l.initial.chip_records l.initial.chip_next l.initial.line l.initial.used) l.k l.last.answer l.answers
    (all_of (take l.sizes.frames (unpacked l.frames)) l.last.pool l.records l.numbers l.accounts l.maps l.limits l.parents l.highest l.frame_words l.free_queue l.removal_list l.addresses l.states l.owners l.free_map l.active l.updating l.images l.chip_words l.chip_records l.chip_next l.line l.used)
    × (length l.frames ≡ length l.initial.frames) × (l.k ≡ 0 → l.last.pool ≡ l.initial.last.pool) × (l.k ≡ 1 → l.last.pool ≡ deposited l.last.deposited (taken l.sizes l.last.taken l.initial.last.pool))
