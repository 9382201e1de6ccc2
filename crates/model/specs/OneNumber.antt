-- One number, one design: what is claimed after every list of acts, and demand 3 by the number.
use Rattle.std.specs.Prelude.{List, map, ℕ, suc, T}
use Rattle.tables.specs.Base.{at}
use Rattle.tables.specs.Rule.{Rule, same, ◌then◌, each, Holds}
use Rattle.model.specs.declared.sizes.Sizes.{Sizes}
use Rattle.model.specs.Sizes.{sizes_fit}
use Rattle.model.specs.State.{Disk, Memory}
use Rattle.model.specs.Rules.{disk_rules, lower}
use Rattle.model.specs.Restart.{formatted}
use Rattle.model.specs.Step.{disk_lengths, memory_lengths}
use Rattle.model.specs.Ledger.{Write, Update, Ledger}
use Rattle.model.specs.Acts.{Act, World, legal, run, start}
use Rattle.model.specs.Demand3.{demand3}
use Rattle.model.specs.FromPack.{from_packed}

-- "In every list of demand 3, also from a mended or sound older pack, no two designs have the same number": of all births, the start pack's included.
unfoldable pub one_number : World → Rule
one_number w = let l = w.ledger in each l.births λ b. each l.births λ c. same (l.number (suc b)) (l.number (suc c)) then same b c

-- ── "and same design there means same number" ──
-- a write and an update, their design by its number
abbrev pub write_by : (ℕ → ℕ) → Write → Write
write_by number x = record { design = number x.design; page = x.page; record' = x.record'; words = x.words; serial = x.serial; counts = x.counts }

abbrev pub update_by : (ℕ → ℕ) → Update → Update
update_by number u = record { design = number u.design; live = u.live; after = u.after }

-- the ledger as one would keep it who knows designs by their numbers alone: a slot's design is the number that the disk has there
abbrev pub ledger_by : (ℕ → ℕ) → Ledger → Ledger
ledger_by numbers l = record {
  pack = l.pack;
  births = l.births;
  design = numbers;
  number = l.number;
  pages = l.pages;
  pending = l.pending;
  finished = map (write_by l.number) l.finished;
  stored = map (update_by l.number) l.stored;
}

unfoldable pub by_number : World → World
by_number w = record { up = w.up; state = w.state; ledger = ledger_by (at w.state.disk.numbers) w.ledger }

-- demand 3 from a format, each design by its number: the last finished write into a listed record was of that same page of the design of that same number, and so on
abbrev pub demand3_by_number : Sizes → World → Rule
demand3_by_number z w = demand3 z (by_number w)

-- .. and from any pack
abbrev pub from_pack_by_number : Sizes → World → Rule
from_pack_by_number z w = from_packed z (by_number w) (at w.ledger.pack.numbers)

-- ── the claims over every list ──
abbrev pub OneNumber : Type 0
OneNumber = (z : Sizes) (pack : Disk) (junk : Memory) (acts : List Act) → Holds (sizes_fit z) → Holds (disk_lengths z pack) → Holds (memory_lengths z junk)
    → Holds (disk_rules z (record { disk = pack; memory = junk })) → T (legal z (start z pack junk) acts)
    → (let w = run z (start z pack junk) acts in Holds (one_number w) × Holds (from_pack_by_number z w))

abbrev pub OneNumberFormatted : Type 0
OneNumberFormatted = (z : Sizes) (parents : List ℕ) (junk : Memory) (acts : List Act) → Holds (sizes_fit z) → Holds (lower z.accounts (at parents)) → Holds (memory_lengths z junk)
    → T (legal z (start z (formatted z parents) junk) acts) → (let w = run z (start z (formatted z parents) junk) acts in Holds (one_number w) × Holds (demand3_by_number z w))
