-- Every sector keeps its 128 words, along every list of acts: so the commit sector that is written is a sector.
use Rattle.std.proofs.Common.{◌≡◌, ℕ, zero, suc, Bool, true, false, T, eqb, List, [], ◌∷◌, ◌++◌, length, refl}
use Rattle.tables.specs.Base.{if, at}
use Rattle.journal.specs.Device.{sector_words, Content, Sectors, Write, put, Device, landed, now, Op, write, sync, carry}
use Rattle.journal.specs.Layout.{Store, commit_at, area_at, zeros, commit_words, homes_of, commit_of, next_sequence, fits, valid, named}
use Rattle.journal.specs.Journal.{Protocol, journal, planned, syncs, to_area, to_home, read_back, Mode, down, refused, idle, storing, recovering, World, sequence, Act, begin, next, cutting, killing, look, go_on, take_up, act, run, start}
use Rattle.journal.specs.Claims.{AllSectors, StoreWhole, StoresWhole, SectorsStay}
use Rattle.journal.specs.Laws.Commits.{commit_whole}
use Rattle.journal.proofs.Cuts.{Always, always_now, always_write, always_sync, always_cut}

-- ── operations that write whole sectors ──
abbrev OpsWhole : List Op → Type 0
OpsWhole [] = Unit {0}
OpsWhole (write w ∷ ops) = (length w.words ≡ sector_words) × OpsWhole ops
OpsWhole (sync ∷ ops) = OpsWhole ops

both : (a b : List Op) → OpsWhole a → OpsWhole b → OpsWhole (a ++ b)
both [] b x y = y
both (write w ∷ a) b x y = (x.0, both a b x.1 y)
both (sync ∷ a) b x y = both a b x y

syncs_whole : (k : ℕ) → OpsWhole (syncs k)
unfolding syncs
syncs_whole zero = tt
syncs_whole (suc k) = syncs_whole k

area_whole : (most : ℕ) (area : ℕ → ℕ) (i : ℕ) (s : Store) → StoreWhole s → OpsWhole (to_area most area i s)
unfolding to_area
area_whole most area i [] h = tt
area_whole most area i (w ∷ s) h = (h.0, area_whole most area (suc i) s h.1)

home_whole : (most : ℕ) (s : Store) → StoreWhole s → OpsWhole (to_home most s)
unfolding to_home
home_whole most [] h = tt
home_whole most (w ∷ s) h = (h.0, home_whole most s h.1)

read_whole : (f : Sectors) (area : ℕ → ℕ) (i : ℕ) (xs : List ℕ) → AllSectors f → StoreWhole (read_back f area i xs)
unfolding read_back
read_whole f area i [] h = tt
read_whole f area i (x ∷ xs) h = (h (area i), read_whole f area (suc i) xs h)

put_whole : (w : Write) (f : Sectors) → length w.words ≡ sector_words → AllSectors f → AllSectors (put w f)
put_whole w f e h s = go (eqb s w.place)
  where
    go : (b : Bool) → length (if b w.words (f s)) ≡ sector_words
    go true = e
    go false = h s

-- one of them leaves whole sectors, whatever lands
carry_whole : (o : Op) (ops : List Op) (d : Device) → OpsWhole (o ∷ ops) → Always AllSectors d → Always AllSectors (carry o d) × OpsWhole ops
carry_whole (write w) ops d h a = (always_write AllSectors AllSectors w d (λ f k. k) (λ f k. put_whole w f h.0 k) a, h.1)
carry_whole sync ops d h a = (always_sync AllSectors d (always_now AllSectors d a), h)

-- ── along a list ──
-- what is left to do
abbrev left : Mode → List Op
left (down ops) = ops
left refused = []
left (idle n) = []
left (storing n s ops) = ops
left (recovering n ops) = ops

abbrev Sized : World → Type 0
Sized w = Always AllSectors w.device × OpsWhole (left w.mode)

module _ (most room late : ℕ) where
  abbrev p : Protocol
  p = journal most room late

  -- the store that a commit sector names
  abbrev back : Device → Content → Store
  back d c = read_back (now d) (area_at most (at c 1)) 0 (named c)

  look_sized : (d : Device) (kept flight : List Store) (c : Content) → Always AllSectors d → Sized (look p d kept flight c)
  unfolding look journal
  look_sized d kept flight c a = go (valid most room c)
    where
      go : (b : Bool) → Sized (if b (record { device = d; mode = recovering (at c 1) (to_home most (back d c) ++ syncs late); kept = if (eqb (at c 1) (sequence kept)) kept (flight ++ kept); flight = [] }) (record { device = d; mode = refused; kept = kept; flight = flight }))
      go true = (a, both (to_home most (back d c)) (syncs late) (home_whole most (back d c) (read_whole (now d) (area_at most (at c 1)) 0 (named c) (always_now AllSectors d a))) (syncs_whole late))
      go false = (a, tt)

  next_sized : (d : Device) (kept flight : List Store) (m : Mode) → Always AllSectors d → OpsWhole (left m) → Sized (go_on p d kept flight m)
  unfolding go_on
  next_sized d kept flight (down []) a h = look_sized d kept flight (now d commit_at) a
  next_sized d kept flight (down (o ∷ ops)) a h = carry_whole o ops d h a
  next_sized d kept flight refused a h = (a, tt)
  next_sized d kept flight (idle n) a h = (a, tt)
  next_sized d kept flight (storing n s []) a h = (a, tt)
  next_sized d kept flight (storing n s (o ∷ ops)) a h = carry_whole o ops d h a
  next_sized d kept flight (recovering n []) a h = (a, tt)
  next_sized d kept flight (recovering n (o ∷ ops)) a h = carry_whole o ops d h a

  plan_whole : (n : ℕ) (s : Store) → T (fits most room s) → StoreWhole s → OpsWhole (planned most late n s)
  unfolding planned
  plan_whole n s t h = both (to_area most (area_at most n) 0 s) _ (area_whole most (area_at most n) 0 s h) (commit_whole most room s t n, both (to_home most s) (syncs late) (home_whole most s h) (syncs_whole late))

  begin_sized : (d : Device) (kept flight : List Store) (m : Mode) (s : Store) → StoreWhole s → Always AllSectors d → OpsWhole (left m) → Sized (take_up p d kept flight m s)
  unfolding take_up journal
  begin_sized d kept flight (down ops) s k a h = (a, h)
  begin_sized d kept flight refused s k a h = (a, tt)
  begin_sized d kept flight (idle n) s k a h = go (fits most room s) refl
    where
      go : (b : Bool) → fits most room s ≡ b → Sized (if b (record { device = d; mode = storing (next_sequence n) s (planned most late (next_sequence n) s); kept = kept; flight = s ∷ [] }) (record { device = d; mode = idle n; kept = kept; flight = flight }))
      go true e = (a, plan_whole (next_sequence n) s (rw e tt) k)
      go false e = (a, tt)
  begin_sized d kept flight (storing n t ops) s k a h = (a, h)
  begin_sized d kept flight (recovering n ops) s k a h = (a, h)

  run_sized : (acts : List Act) (w : World) → StoresWhole acts → Sized w → Sized (run p w acts)
  unfolding run act journal
  run_sized [] w k s = s
  run_sized (begin t ∷ acts) w k s = run_sized acts (act p w (begin t)) k.1 (begin_sized w.device w.kept w.flight w.mode t k.0 s.0 s.1)
  run_sized (next ∷ acts) w k s = run_sized acts (act p w next) k (next_sized w.device w.kept w.flight w.mode s.0 s.1)
  run_sized (cutting lands ∷ acts) w k s = run_sized acts (act p w (cutting lands)) k (always_cut AllSectors lands w.device (s.0 lands), tt)
  run_sized (killing ∷ acts) w k s = run_sized acts (act p w killing) k (s.0, tt)

  start_long : length (commit_of 0 []) ≡ sector_words
  unfolding commit_of commit_words homes_of zeros
  start_long = refl

  pub sectors_stay : SectorsStay (journal most room late)
  unfolding SectorsStay start landed
  sectors_stay f acts h k lands = (run_sized acts (start f) k (λ l. put_whole (record { place = commit_at; words = commit_of 0 [] }) f start_long h, tt)).0 lands
