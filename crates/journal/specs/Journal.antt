-- The journal: contents to an area, sync, the commit sector, sync, then home. A recovery syncs, looks at the commit sector, and brings the store that it names home once more.
use Rattle.std.specs.Prelude.{ℕ, zero, suc, Bool, List, [], ◌∷◌, ◌++◌, ◌==◌}
use Rattle.tables.specs.Base.{if, at}
use Rattle.journal.specs.Device.{Content, Sectors, put, Device, now, Op, write, sync, carry, cut}
use Rattle.journal.specs.Layout.{Store, commit_at, next_sequence, area_at, home_at, commit_of, fits, valid, named}

-- ── a protocol: where contents go, and what is done for a store and in a recovery ──
pub record Protocol : Type 0 where
  -- how many sectors an area has; how many home sectors there are
  pub most : ℕ
  pub room : ℕ
  -- the sector of content i of store n
  pub area : ℕ → ℕ → ℕ
  -- the operations of store n
  pub plan : ℕ → Store → List Op
  -- what a recovery does before it looks at the commit sector, before its way home, and after it
  pub before_look : List Op
  pub before_home : List Op
  pub after_home : List Op

unfoldable pub syncs : ℕ → List Op
syncs zero = []
syncs (suc k) = sync ∷ syncs k

module _ (most : ℕ) where
  -- contents to their area, from number i on
  unfoldable pub to_area : (ℕ → ℕ) → ℕ → Store → List Op
  to_area area i [] = []
  to_area area i (w ∷ ws) = write (record { place = area i; words = w.words }) ∷ to_area area (suc i) ws

  -- contents to their home sectors
  unfoldable pub to_home : Store → List Op
  to_home [] = []
  to_home (w ∷ ws) = write (record { place = home_at most w.place; words = w.words }) ∷ to_home ws

  abbrev pub commit : ℕ → Store → Op
  commit n s = write (record { place = commit_at; words = commit_of n s })

  -- What is done for store n. The first sync covers its contents, and the way home of the store before; from the second on it counts; the way home is left open.
  unfoldable pub planned : ℕ → ℕ → Store → List Op
  planned late n s = to_area (area_at most n) 0 s ++ (sync ∷ commit n s ∷ sync ∷ (to_home s ++ syncs late))

  -- THE PROTOCOL: two areas in turn, two syncs a store. A recovery syncs first, so that what it finds is durable. Syncs after the way home, `late` of them, are not needed and do no harm.
  unfoldable pub journal : ℕ → ℕ → Protocol
  journal room late = record { most = most; room = room; area = area_at most; plan = planned late; before_look = sync ∷ []; before_home = []; after_home = syncs late }

-- The store that a commit sector names, its contents read back from its area, from number i on.
unfoldable pub read_back : Sectors → (ℕ → ℕ) → ℕ → List ℕ → Store
read_back f area i [] = []
read_back f area i (x ∷ xs) = record { place = x; words = f (area i) } ∷ read_back f area (suc i) xs

-- ── a world: the device, what the journal is doing, and which stores count ──
pub data Mode : Type 0 where
  -- after a cut or a kill: what is left to do before the look at the commit sector
  down : List Op → Mode
  -- the commit sector is damaged or foreign: nothing is written any more
  refused : Mode
  -- ready; the sequence number of the newest store
  idle : ℕ → Mode
  -- store n is under way, and what is left to do
  storing : ℕ → Store → List Op → Mode
  -- store n is brought home once more, and what is left to do
  recovering : ℕ → List Op → Mode

pub record World : Type 0 where
  pub device : Device
  pub mode : Mode
  -- the stores that count, the newest first: those reported, and those that a recovery found committed
  pub kept : List Store
  -- the store begun and not reported, if any
  pub flight : List Store

-- the sequence number of the newest store
unfoldable pub sequence : List Store → ℕ
sequence [] = 0
sequence (s ∷ kept) = next_sequence (sequence kept)

-- What can happen. A write or a sync that fails is a kill: what is open stays open, and the driver goes to recovery. It does not try again.
pub data Act : Type 0 where
  -- the caller hands over a store
  begin : Store → Act
  -- the next operation of what is under way; in a recovery also the look at the commit sector; when none is left: the report
  next : Act
  -- the power fails: which open writes land
  cutting : (ℕ → Bool) → Act
  -- the program ends and is started again while the device lives on: what is open stays open
  killing : Act

module _ (p : Protocol) where
  -- A recovery's look: by a valid commit sector its store is brought home, and counts if its number is not that of the newest; by any other nothing is done.
  unfoldable pub look : Device → List Store → List Store → Content → World
  look d kept flight c =
      let n = at c 1 in
      let good : World = record {
        device = d;
        mode = recovering n (p.before_home ++ (to_home p.most (read_back (now d) (p.area n) 0 (named c)) ++ p.after_home));
        kept = if (n == sequence kept) kept (flight ++ kept);
        flight = [];
      } in
      if (valid p.most p.room c) good (record { device = d; mode = refused; kept = kept; flight = flight })

  -- the next operation of what is under way
  unfoldable pub go_on : Device → List Store → List Store → Mode → World
  go_on d kept flight (down []) = look d kept flight (now d commit_at)
  go_on d kept flight (down (o ∷ ops)) = record { device = carry o d; mode = down ops; kept = kept; flight = flight }
  go_on d kept flight refused = record { device = d; mode = refused; kept = kept; flight = flight }
  go_on d kept flight (idle n) = record { device = d; mode = idle n; kept = kept; flight = flight }
  -- reported
  go_on d kept flight (storing n s []) = record { device = d; mode = idle n; kept = s ∷ kept; flight = [] }
  go_on d kept flight (storing n s (o ∷ ops)) = record { device = carry o d; mode = storing n s ops; kept = kept; flight = flight }
  go_on d kept flight (recovering n []) = record { device = d; mode = idle n; kept = kept; flight = flight }
  go_on d kept flight (recovering n (o ∷ ops)) = record { device = carry o d; mode = recovering n ops; kept = kept; flight = flight }

  -- A store is taken up where the journal is idle and the store fits.
  unfoldable pub take_up : Device → List Store → List Store → Mode → Store → World
  take_up d kept flight (down ops) s = record { device = d; mode = down ops; kept = kept; flight = flight }
  take_up d kept flight refused s = record { device = d; mode = refused; kept = kept; flight = flight }
  take_up d kept flight (idle n) s = if (fits p.most p.room s)
      (record { device = d; mode = storing (next_sequence n) s (p.plan (next_sequence n) s); kept = kept; flight = s ∷ [] })
      (record { device = d; mode = idle n; kept = kept; flight = flight })
  take_up d kept flight (storing n t ops) s = record { device = d; mode = storing n t ops; kept = kept; flight = flight }
  take_up d kept flight (recovering n ops) s = record { device = d; mode = recovering n ops; kept = kept; flight = flight }

  unfoldable pub act : World → Act → World
  act w (begin s) = take_up w.device w.kept w.flight w.mode s
  act w next = go_on w.device w.kept w.flight w.mode
  act w (cutting lands) = record { device = cut lands w.device; mode = down p.before_look; kept = w.kept; flight = w.flight }
  act w killing = record { device = w.device; mode = down p.before_look; kept = w.kept; flight = w.flight }

  -- a list of acts, one after another
  unfoldable pub run : World → List Act → World
  run w [] = w
  run w (a ∷ acts) = run (act w a) acts

-- A device as a recovery may find it: any sectors, nothing open.
unfoldable pub opened : Protocol → Sectors → World
opened p f = record { device = record { durable = f; unsynced = [] }; mode = down p.before_look; kept = []; flight = [] }

-- A formatted device: the commit sector names store 0, which is empty; home and the areas hold anything.
unfoldable pub start : Sectors → World
start f = record { device = record { durable = put (record { place = commit_at; words = commit_of 0 [] }) f; unsynced = [] }; mode = down []; kept = []; flight = [] }
