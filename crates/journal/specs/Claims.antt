-- What a journal is to do: the claims about every list of acts from a formatted device.
use Rattle.std.specs.Prelude.{◌≡◌, ℕ, zero, suc, Bool, false, ◌⊎◌, List, [], ◌∷◌, ◌++◌, length, ◌==◌}
use Rattle.tables.specs.Base.{if}
use Rattle.journal.specs.Device.{sector_words, Content, Sectors, landed, now}
use Rattle.journal.specs.Layout.{Store, commit_at, home_at, valid}
use Rattle.journal.specs.Journal.{Protocol, World, refused, idle, Act, begin, next, cutting, killing, sequence, run, opened, start}

-- what a home sector holds after a store, where it held d
unfoldable pub becomes : Store → ℕ → Content → Content
becomes [] x d = d
becomes (w ∷ ws) x d = becomes ws x (if (x == w.place) w.words d)

-- home after some stores, the newest first
unfoldable pub after : Sectors → List Store → Sectors
after home [] x = home x
after home (s ∷ kept) x = becomes s x (after home kept x)

-- no store is begun
abbrev pub quiet : List Act → Type 0
quiet [] = Unit {0}
quiet (begin s ∷ acts) = ⊥
quiet (next ∷ acts) = quiet acts
quiet (cutting lands ∷ acts) = quiet acts
quiet (killing ∷ acts) = quiet acts

-- this many operations, and then these acts
abbrev pub nexts : ℕ → List Act → List Act
nexts zero acts = acts
nexts (suc k) acts = next ∷ nexts k acts

-- every sector has its 128 words
abbrev pub AllSectors : Sectors → Type 0
AllSectors f = (s : ℕ) → length (f s) ≡ sector_words

-- so has every content of a store
abbrev pub StoreWhole : Store → Type 0
StoreWhole [] = Unit {0}
StoreWhole (w ∷ ws) = (length w.words ≡ sector_words) × StoreWhole ws

-- .. of every store begun
abbrev pub StoresWhole : List Act → Type 0
StoresWhole [] = Unit {0}
StoresWhole (begin s ∷ acts) = StoreWhole s × StoresWhole acts
StoresWhole (next ∷ acts) = StoresWhole acts
StoresWhole (cutting lands ∷ acts) = StoresWhole acts
StoresWhole (killing ∷ acts) = StoresWhole acts

module _ (p : Protocol) where
  -- the world after a list of acts from a formatted device
  abbrev pub reached : Sectors → List Act → World
  reached f acts = run p (start f) acts

  -- a read finds home as after these stores
  abbrev pub HomeIs : Sectors → World → List Store → Type 0
  HomeIs f w stores = (x : ℕ) → now w.device (home_at p.most x) ≡ after (λ y. f (home_at p.most y)) stores x

  -- Whatever stores were begun, wherever the cuts and kills fell, whatever landed: once the journal is idle, home is as after the stores that count, and its number is that of the newest.
  unfoldable pub WholeOrNot : Type 0
  WholeOrNot = (f : Sectors) (acts : List Act) (n : ℕ) → (reached f acts).mode ≡ idle n → (n ≡ sequence (reached f acts).kept) × HomeIs f (reached f acts) (reached f acts).kept

  -- From any world reached, and any further operations, cuts and kills with no new store: once idle, home is as after the stores that counted then, or as after these and the one in flight then.
  unfoldable pub OneMore : Type 0
  OneMore = (f : Sectors) (acts later : List Act) (n : ℕ) → quiet later → (run p (reached f acts) later).mode ≡ idle n
      → HomeIs f (run p (reached f acts) later) (reached f acts).kept ⊎ ((s : Store) × ((reached f acts).flight ≡ s ∷ []) × HomeIs f (run p (reached f acts) later) (s ∷ (reached f acts).kept))

  -- A store that counts, counts for ever: the stores that count later are these, and newer ones before them.
  unfoldable pub CountsForEver : Type 0
  CountsForEver = (f : Sectors) (acts later : List Act) → (newer : List Store) × ((run p (reached f acts) later).kept ≡ newer ++ (reached f acts).kept)

  -- No cut and no kill leaves a commit sector that a recovery refuses.
  unfoldable pub NeverRefused : Type 0
  NeverRefused = (f : Sectors) (acts : List Act) → ¬ ((reached f acts).mode ≡ refused)

  -- Every sector has 128 words, whatever lands, if it had at the start and every content handed over has.
  unfoldable pub SectorsStay : Type 0
  SectorsStay = (f : Sectors) (acts : List Act) → AllSectors f → StoresWhole acts → (lands : ℕ → Bool) → AllSectors (landed (reached f acts).device.durable (reached f acts).device.unsynced lands)

  -- On a device whose commit sector is damaged or foreign nothing is ever written: whatever lands after any acts, its sectors are as they were, and the journal is never idle.
  unfoldable pub Untouched : Type 0
  Untouched = (f : Sectors) (acts : List Act) → valid p.most p.room (f commit_at) ≡ false
      → ((lands : ℕ → Bool) → landed (run p (opened p f) acts).device.durable (run p (opened p f) acts).device.unsynced lands ≡ f) × ((n : ℕ) → ¬ ((run p (opened p f) acts).mode ≡ idle n))

  -- Whatever happened, some number of operations later the journal is idle.
  unfoldable pub Ends : Type 0
  Ends = (f : Sectors) (acts : List Act) → (k : ℕ) × (n : ℕ) × ((run p (reached f acts) (nexts k [])).mode ≡ idle n)
