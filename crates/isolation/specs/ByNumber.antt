-- Another mill's pattern cannot show, by the design's number: since no two designs have the same, a mill owner can name the hidden one by its number.
use Rattle.std.specs.Prelude.{◌≡◌, List, [], ◌∷◌, ℕ, ◌<◌, T}
use Rattle.tables.specs.Base.{at}
use Rattle.tables.specs.Rule.{Rule, each, named, Holds}
use Rattle.model.specs.declared.sizes.Sizes.{Sizes}
use Rattle.model.specs.Sizes.{sizes_fit}
use Rattle.model.specs.State.{Disk, Memory, all_pages, slot_of}
use Rattle.model.specs.Rules.{lower, disk_rules}
use Rattle.model.specs.Restart.{formatted}
use Rattle.model.specs.Step.{disk_lengths, memory_lengths}
use Rattle.model.specs.Acts.{Act, World, act, legal, start}
use Rattle.model.specs.OneNumber.{by_number}
use Rattle.isolation.specs.Words.{bare_disk, part_like}
use Rattle.isolation.specs.Twins.{Twin}
use Rattle.isolation.specs.Answers.{Answers}
use Rattle.isolation.specs.Shown.{Shown}

-- alike at the start, each record by the number of the slot that lists it
unfoldable pub packs_like_by : Sizes → ℕ → Disk → Disk → Rule
packs_like_by z n pack pack' = each (all_pages z) λ i. named (at pack.maps i) λ r. part_like z n (at pack.numbers (slot_of z i)) pack.records pack'.records r

pub record AlikePacksBy (z : Sizes) (n : ℕ) (pack pack' : Disk) : Type 0 where
  pub tables : bare_disk pack ≡ bare_disk pack'
  pub words : Holds (packs_like_by z n pack pack')

-- a write may have another value if its slot has that number as the act comes
abbrev pub TwinsBy : Sizes → ℕ → World → List Act → List Act → Type 0
TwinsBy z n w [] [] = Unit {0}
TwinsBy z n w [] (b ∷ bs) = ⊥
TwinsBy z n w (a ∷ acts) [] = ⊥
TwinsBy z n w (a ∷ acts) (b ∷ bs) = Twin n (at w.state.disk.numbers) a b × TwinsBy z n (act z w a) acts bs

-- what is seen, every design by its number
abbrev pub SeenBy : Sizes → ℕ → World → World → List Act → List Act → Type 0
SeenBy z n w w' [] [] = Shown z n (by_number w) (by_number w')
SeenBy z n w w' [] (b ∷ bs) = ⊥
SeenBy z n w w' (a ∷ acts) [] = ⊥
SeenBy z n w w' (a ∷ acts) (b ∷ bs) = Shown z n (by_number w) (by_number w') × (Answers z n (by_number w) (by_number w') a b × SeenBy z n (act z w a) (act z w' b) acts bs)

-- along every two legal lists that are twins
abbrev pub AlongTwinsBy : Sizes → ℕ → World → World → Type 0
AlongTwinsBy z n w w' = (acts acts' : List Act) → T (legal z w acts) → T (legal z w' acts') → TwinsBy z n w acts acts' → SeenBy z n w w' acts acts'

-- for any number that a design can have: from any two packs that are alike, and from one finished format
abbrev pub IsolatedBy : Type 0
IsolatedBy = (z : Sizes) (n : ℕ) (pack pack' : Disk) (junk junk' : Memory) → 0 < n → Holds (sizes_fit z) → Holds (disk_lengths z pack) → Holds (disk_lengths z pack')
    → Holds (memory_lengths z junk) → Holds (memory_lengths z junk') → Holds (disk_rules z (record { disk = pack; memory = junk })) → AlikePacksBy z n pack pack'
    → AlongTwinsBy z n (start z pack junk) (start z pack' junk')

abbrev pub IsolatedByFormatted : Type 0
IsolatedByFormatted = (z : Sizes) (n : ℕ) (parents : List ℕ) (junk junk' : Memory) → 0 < n → Holds (sizes_fit z) → Holds (lower z.accounts (at parents))
    → Holds (memory_lengths z junk) → Holds (memory_lengths z junk') → AlongTwinsBy z n (start z (formatted z parents) junk) (start z (formatted z parents) junk')
