-- `run`: what has come lies within the buffer.
use Rattle.std.proofs.Common.{◌≤◌}
use Rattle.replay.proofs.run.run.Given as goal

abbrev pub invariant-loop : goal.invariant-loop
invariant-loop g l = (l.reader.place ≤ l.reader.filled) × (l.reader.filled ≤ 4096)
