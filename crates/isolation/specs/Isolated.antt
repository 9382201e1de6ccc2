-- Another mill's pattern cannot show: the claim over every two lists, from any two packs that are alike and from a finished format.
use Rattle.std.specs.Prelude.{List, [], ◌∷◌, ℕ, T}
use Rattle.tables.specs.Base.{at}
use Rattle.tables.specs.Rule.{Holds}
use Rattle.model.specs.declared.sizes.Sizes.{Sizes}
use Rattle.model.specs.Sizes.{sizes_fit}
use Rattle.model.specs.State.{Disk, Memory}
use Rattle.model.specs.Rules.{lower, disk_rules}
use Rattle.model.specs.Restart.{formatted}
use Rattle.model.specs.Step.{disk_lengths, memory_lengths}
use Rattle.model.specs.Acts.{Act, World, act, legal, start}
use Rattle.isolation.specs.Twins.{AlikePacks, Twins}
use Rattle.isolation.specs.Answers.{Answers}
use Rattle.isolation.specs.Shown.{Shown}

-- before the first act, at each act and after it
abbrev pub Seen : Sizes → ℕ → World → World → List Act → List Act → Type 0
Seen z hidden w w' [] [] = Shown z hidden w w'
Seen z hidden w w' [] (b ∷ bs) = ⊥
Seen z hidden w w' (a ∷ acts) [] = ⊥
Seen z hidden w w' (a ∷ acts) (b ∷ bs) = Shown z hidden w w' × (Answers z hidden w w' a b × Seen z hidden (act z w a) (act z w' b) acts bs)

-- along every two legal lists that are twins
abbrev pub AlongTwins : Sizes → ℕ → World → World → Type 0
AlongTwins z hidden w w' = (acts acts' : List Act) → T (legal z w acts) → T (legal z w' acts') → Twins z hidden w acts acts' → Seen z hidden w w' acts acts'

-- for all sizes within limits, any design by its birth, any two packs of their lengths that keep the disk rules and are alike, and any memories of their lengths
abbrev pub Isolated : Type 0
Isolated = (z : Sizes) (hidden : ℕ) (pack pack' : Disk) (junk junk' : Memory) → Holds (sizes_fit z) → Holds (disk_lengths z pack) → Holds (disk_lengths z pack')
    → Holds (memory_lengths z junk) → Holds (memory_lengths z junk') → Holds (disk_rules z (record { disk = pack; memory = junk })) → AlikePacks z hidden pack pack'
    → AlongTwins z hidden (start z pack junk) (start z pack' junk')

-- the same from one finished format
abbrev pub IsolatedFormatted : Type 0
IsolatedFormatted = (z : Sizes) (hidden : ℕ) (parents : List ℕ) (junk junk' : Memory) → Holds (sizes_fit z) → Holds (lower z.accounts (at parents))
    → Holds (memory_lengths z junk) → Holds (memory_lengths z junk') → AlongTwins z hidden (start z (formatted z parents) junk) (start z (formatted z parents) junk')
