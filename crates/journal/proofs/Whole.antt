-- Every list of stores with cuts anywhere: in every idle world home is as after the stores that count.
use Rattle.std.proofs.Common.{◌≡◌, ℕ, Bool, true, false, eqb, ◌⊎◌, List, [], ◌∷◌, ◌++◌, sym, refl, ap, ◌∙◌, subst, inl, inr, eq-eqb, ne_eqb}
use Rattle.tables.specs.Base.{if}
use Rattle.journal.specs.Device.{Sectors, Device, landed, now, sync, carry, cut}
use Rattle.journal.specs.Layout.{Store, commit_at, next_sequence, area_at, commit_of, fits, named}
use Rattle.journal.specs.Journal.{journal, syncs, to_home, read_back, Mode, down, refused, idle, storing, recovering, World, sequence, Act, begin, next, cutting, killing, look, go_on, take_up, act, run}
use Rattle.journal.specs.Claims.{after}
use Rattle.journal.specs.Laws.Sequence.{next_other}
use Rattle.journal.specs.Laws.Commits.{valid_of, named_of, number_of}
use Rattle.journal.proofs.Cuts.{Always, Runs, runs_safe, always_now, always_sync, always_cut}
use Rattle.journal.proofs.Stores.{read_back_holds}
use Rattle.journal.proofs.Good.{Good}
use Rattle.journal.proofs.Plan.{Done, recovery_run, store_run}

-- the newest of the stores that count; before the first, the empty one that the format left
abbrev pub newest : List Store → Store
newest [] = []
newest (s ∷ kept) = s

module _ (most room : ℕ) (late : ℕ) (home : Sectors) where
  abbrev pub GoodFor : List Store → Sectors → Type 0
  GoodFor kept f = Good most room (sequence kept) (newest kept) (after home kept) f

  abbrev pub DoneFor : List Store → Device → Type 0
  DoneFor kept d = Done most room (sequence kept) (newest kept) (after home kept) d

  -- a cut leaves the stores that count, or those and the one in flight
  abbrev pub Left : List Store → List Store → Sectors → Type 0
  Left kept flight f = GoodFor kept f ⊎ ((s : Store) × (flight ≡ s ∷ []) × GoodFor (s ∷ kept) f)

  -- .. and after a sync no other cut can leave the other
  abbrev pub Found : List Store → List Store → Device → Type 0
  Found kept flight d = Always (GoodFor kept) d ⊎ ((s : Store) × (flight ≡ s ∷ []) × Always (GoodFor (s ∷ kept)) d)

  -- what holds in every mode
  abbrev pub Held : Device → List Store → List Store → Mode → Type 0
  Held d kept flight (down ops) = Runs (Always (Left kept flight)) (Found kept flight) ops d
  Held d kept flight refused = ⊥
  Held d kept flight (idle n) = (n ≡ sequence kept) × DoneFor kept d
  Held d kept flight (storing n s ops) = (n ≡ next_sequence (sequence kept)) × (flight ≡ s ∷ []) × Runs (Always (λ f. GoodFor kept f ⊎ GoodFor (s ∷ kept) f)) (DoneFor (s ∷ kept)) ops d
  Held d kept flight (recovering n ops) = (n ≡ sequence kept) × Runs (Always (GoodFor kept)) (DoneFor kept) ops d

  abbrev pub Holds : World → Type 0
  Holds w = Held w.device w.kept w.flight w.mode

  -- ── a cut, and an end of the program ──
  left : (d : Device) (kept flight : List Store) (m : Mode) → Held d kept flight m → Always (Left kept flight) d
  left d kept flight (down ops) h lands = runs_safe (Always (Left kept flight)) (Found kept flight) ops d h lands
  left d kept flight refused h lands = absurd h
  left d kept flight (idle n) h lands = inl (h.1.0 lands)
  left d kept flight (storing n s ops) h lands = go (runs_safe (Always (λ f. GoodFor kept f ⊎ GoodFor (s ∷ kept) f)) (DoneFor (s ∷ kept)) ops d h.2 lands)
    where
      go : GoodFor kept (landed d.durable d.unsynced lands) ⊎ GoodFor (s ∷ kept) (landed d.durable d.unsynced lands) → Left kept flight (landed d.durable d.unsynced lands)
      go (inl g) = inl g
      go (inr g) = inr (s, h.1, g)
  left d kept flight (recovering n ops) h lands = inl (runs_safe (Always (GoodFor kept)) (DoneFor kept) ops d h.1 lands)

  -- the sync that a recovery begins with
  arrives : (d : Device) (kept flight : List Store) → Always (Left kept flight) d → Runs (Always (Left kept flight)) (Found kept flight) (sync ∷ []) d
  arrives d kept flight a = (a, (always_sync (Left kept flight) d (always_now (Left kept flight) d a), go (always_now (Left kept flight) d a)))
    where
      go : Left kept flight (now d) → Found kept flight (carry sync d)
      go (inl g) = inl (always_sync (GoodFor kept) d g)
      go (inr g) = inr (g.0, g.1, always_sync (GoodFor (g.0 ∷ kept)) d g.2)

  -- ── recovery's look ──
  abbrev pub recovered : Device → List Store → World
  recovered d kept = record { device = d; mode = recovering (sequence kept) (to_home most (newest kept) ++ syncs late); kept = kept; flight = [] }

  pub look_is : (d : Device) (kept flight found : List Store) → if (eqb (sequence found) (sequence kept)) kept (flight ++ kept) ≡ found → GoodFor found (now d) → look (journal most room late) d kept flight (now d commit_at) ≡ recovered d found
  unfolding look journal
  look_is d kept flight found e g =
      let n = sequence found in
      let s = newest found in
      let r : read_back (now d) (area_at most n) 0 (named (commit_of n s)) ≡ s = ap (read_back (now d) (area_at most n) 0) (named_of n s) ∙ read_back_holds s (area_at most n) 0 (now d) g.whole in
      rw (g.names, valid_of most room s g.fit n, number_of n s, r, e)

  down_holds : (d : Device) (kept flight : List Store) → Found kept flight d → Holds (look (journal most room late) d kept flight (now d commit_at))
  unfolding sequence
  down_holds d kept flight (inl g) =
      rw (look_is d kept flight kept (rw (eq-eqb (sequence kept) (sequence kept) refl)) (always_now (GoodFor kept) d g))
      (refl, recovery_run most room (sequence kept) (newest kept) (after home kept) late d g)
  down_holds d kept flight (inr h) =
      let s = h.0 in
      rw (look_is d kept flight (s ∷ kept) (rw (ne_eqb (next_sequence (sequence kept)) (sequence kept) (next_other (sequence kept)), h.1)) (always_now (GoodFor (s ∷ kept)) d h.2))
      (refl, recovery_run most room (next_sequence (sequence kept)) s (after home (s ∷ kept)) late d h.2)

  -- ── one more operation, or the report ──
  next_holds : (d : Device) (kept flight : List Store) (m : Mode) → Held d kept flight m → Holds (go_on (journal most room late) d kept flight m)
  unfolding go_on sequence
  next_holds d kept flight (down []) h = down_holds d kept flight h.1
  next_holds d kept flight (down (o ∷ ops)) h = h.1
  next_holds d kept flight refused h = absurd h
  next_holds d kept flight (idle n) h = h
  next_holds d kept flight (storing n s []) h = (h.0, h.2.1)
  next_holds d kept flight (storing n s (o ∷ ops)) h = (h.0, h.1, h.2.1)
  next_holds d kept flight (recovering n []) h = (h.0, h.1.1)
  next_holds d kept flight (recovering n (o ∷ ops)) h = (h.0, h.1.1)

  -- ── a store is taken up ──
  begin_holds : (d : Device) (kept flight : List Store) (m : Mode) (s : Store) → Held d kept flight m → Holds (take_up (journal most room late) d kept flight m s)
  unfolding take_up journal after sequence next_sequence
  begin_holds d kept flight (down ops) s h = h
  begin_holds d kept flight refused s h = h
  begin_holds d kept flight (idle n) s h = go (fits most room s) refl
    where
      go : (b : Bool) → fits most room s ≡ b → Holds (if b (record { device = d; mode = storing (next_sequence n) s ((journal most room late).plan (next_sequence n) s); kept = kept; flight = s ∷ [] }) (record { device = d; mode = idle n; kept = kept; flight = flight }))
      go true e = (ap next_sequence h.0, refl, subst (λ (k : ℕ). Runs (Always (λ f. GoodFor kept f ⊎ GoodFor (s ∷ kept) f)) (DoneFor (s ∷ kept)) ((journal most room late).plan (next_sequence k) s) d) (sym h.0) (store_run most room (sequence kept) (newest kept) s (after home kept) late (rw e tt) d h.1))
      go false e = h
  begin_holds d kept flight (storing n t ops) s h = h
  begin_holds d kept flight (recovering n ops) s h = h

  pub act_holds : (w : World) (a : Act) → Holds w → Holds (act (journal most room late) w a)
  unfolding act journal
  act_holds w (begin s) h = begin_holds w.device w.kept w.flight w.mode s h
  act_holds w next h = next_holds w.device w.kept w.flight w.mode h
  act_holds w (cutting lands) h = arrives (cut lands w.device) w.kept w.flight (always_cut (Left w.kept w.flight) lands w.device (left w.device w.kept w.flight w.mode h lands))
  act_holds w killing h = arrives w.device w.kept w.flight (left w.device w.kept w.flight w.mode h)

  pub run_holds : (acts : List Act) (w : World) → Holds w → Holds (run (journal most room late) w acts)
  unfolding run
  run_holds [] w h = h
  run_holds (a ∷ acts) w h = run_holds acts (act (journal most room late) w a) (act_holds w a h)
