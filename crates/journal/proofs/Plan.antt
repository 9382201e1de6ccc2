-- The protocol's operations one after another: a cut before any of them leaves the store before or this one, and at the end this one is home.
use Rattle.std.proofs.Common.{◌≡◌, ℕ, zero, suc, ◌+◌, ◌<◌, ◌≤◌, T, ◌⊎◌, List, [], ◌∷◌, ◌++◌, length, ◌∙◌, inl, inr, arith}
use Rattle.journal.specs.Device.{Content, Sectors, Write, put, Device, now, Op, write, sync, carry}
use Rattle.journal.specs.Layout.{Store, commit_at, next_sequence, area_at, home_at, commit_of, fits}
use Rattle.journal.specs.Journal.{syncs, to_area, to_home, commit, planned}
use Rattle.journal.specs.Claims.{becomes}
use Rattle.journal.specs.Laws.Commits.{in_area}
use Rattle.journal.proofs.Places.{put_here, put_there, area_area, home_area}
use Rattle.journal.proofs.Cuts.{Always, Now, Runs, always_write, now_write, now_sync, always_sync, always_now}
use Rattle.journal.proofs.Stores.{Covers, covers_self, InArea}
use Rattle.journal.proofs.Good.{Home, Rest, Good, good_next, good_home, Ready, Committed, commits, committed_good, rest_home}

module _ (most room : ℕ) where
  -- ── contents to their area ──
  pub contents_run : (n : ℕ) (P : Sectors → Type 0) (Safe End : Device → Type 0) (then : List Op)
      → ((d : Device) → Always P d → Safe d)
      → ((j : ℕ) (c : Content) (f : Sectors) → j < most → P f → P (put (record { place = area_at most n j; words = c }) f))
      → (r : Store) (i : ℕ) → i + length r ≤ most
      → (K : Sectors → Type 0) → ((j : ℕ) (c : Content) (f : Sectors) → i ≤ j → j < most → K f → K (put (record { place = area_at most n j; words = c }) f))
      → ((d : Device) → Always P d → K (now d) → InArea (now d) (area_at most n) i r → Runs Safe End then d)
      → (d : Device) → Always P d → K (now d) → Runs Safe End (to_area most (area_at most n) i r ++ then) d
  unfolding to_area
  contents_run n P Safe End then safe keeps [] i fits K kept go d p k = go d p k tt
  contents_run n P Safe End then safe keeps (w ∷ r) i fits K kept go d p k =
      let v : Write = record { place = area_at most n i; words = w.words } in (
        safe d p,
        contents_run n P Safe End then safe keeps r (suc i) (omega arith) (λ f. K f × (f (area_at most n i) ≡ w.words))
            (λ j c f a b h. (kept j c f (omega arith) b h.0, put_there (area_at most n j) (area_at most n i) c f (area_area most n i j (omega arith)) ∙ h.1))
            (λ e q h a. go e q h.0 (h.1, a))
            (carry (write v) d)
            (always_write P P v d (λ f h. h) (λ f h. keeps i w.words f (omega arith) h) p)
            (rw (now_write v d) (kept i w.words (now d) (omega arith) (omega arith) k, put_here (area_at most n i) w.words (now d))),
      )

  -- ── home ──
  pub home_run : (n : ℕ) (s : Store) (H : Sectors) (Safe End : Device → Type 0) (then : List Op)
      → ((d : Device) → Always (Good most room n s H) d → Safe d)
      → ((d : Device) → Always (Good most room n s H) d → Now (Home most room H) d → Runs Safe End then d)
      → (r : Store) → Covers s r → (d : Device) → Always (Good most room n s H) d → Now (Rest most room H r) d → Runs Safe End (to_home most r ++ then) d
  unfolding to_home becomes
  home_run n s H Safe End then safe go [] c d g h = go d g h
  home_run n s H Safe End then safe go (w ∷ r) c d g h =
      let v : Write = record { place = home_at most w.place; words = w.words } in (
        safe d g,
        home_run n s H Safe End then safe go r c.1 (carry (write v) d)
            (always_write (Good most room n s H) (Good most room n s H) v d (λ f k. k) (λ f k. good_home most room n s H f w.place w.words c.0 k) g)
            (rw (now_write v d) (rest_home most room H (now d) w r h)),
      )

  -- ── a store ──
  -- a cut leaves the store before, or this one
  abbrev pub Either : ℕ → Store → Store → Sectors → Sectors → Sectors → Type 0
  Either n s t H G f = Good most room n s H f ⊎ Good most room (next_sequence n) t G f

  -- at the end a cut leaves this one, and it is home
  abbrev pub Done : ℕ → Store → Sectors → Device → Type 0
  Done n s H d = Always (Good most room n s H) d × Now (Home most room H) d

  -- late syncs do no harm
  pub syncs_run : (n : ℕ) (s : Store) (H : Sectors) (Safe : Device → Type 0) → ((d : Device) → Always (Good most room n s H) d → Safe d)
      → (k : ℕ) (d : Device) → Always (Good most room n s H) d → Now (Home most room H) d → Runs Safe (Done n s H) (syncs k) d
  unfolding syncs
  syncs_run n s H Safe safe zero d g h = (safe d g, (g, h))
  syncs_run n s H Safe safe (suc k) d g h = (safe d g, syncs_run n s H Safe safe k (carry sync d) (always_sync (Good most room n s H) d (always_now (Good most room n s H) d g)) (rw (now_sync d) h))

  pub recovery_run : (n : ℕ) (s : Store) (H : Sectors) (late : ℕ) (d : Device) → Always (Good most room n s H) d → Runs (Always (Good most room n s H)) (Done n s H) (to_home most s ++ syncs late) d
  recovery_run n s H late d g = home_run n s H (Always (Good most room n s H)) (Done n s H) (syncs late) (λ e k. k) (syncs_run n s H (Always (Good most room n s H)) (λ e k. k) late) s (covers_self s) d g (always_now (Good most room n s H) d g).restores

  module _ (n : ℕ) (s t : Store) (H : Sectors) (late : ℕ) (fit : T (fits most room t)) where
    abbrev G : Sectors
    G x = becomes t x (H x)

    abbrev Safe : Device → Type 0
    Safe d = Always (Either n s t H G) d

    abbrev Synced : Sectors → Type 0
    Synced f = Good most room n s H f × Ready most room (next_sequence n) t H f

    sealed : (d : Device) → Always (Either n s t H G) d → Now (Committed most room (next_sequence n) t H) d → Runs Safe (Done (next_sequence n) t G) (sync ∷ (to_home most t ++ syncs late)) d
    sealed d a c =
        let g : Always (Good most room (next_sequence n) t G) (carry sync d) = always_sync (Good most room (next_sequence n) t G) d (committed_good most room (next_sequence n) t H (now d) c) in
        (a, home_run (next_sequence n) t G Safe (Done (next_sequence n) t G) (syncs late) (λ e k lands. inr (k lands)) (syncs_run (next_sequence n) t G Safe (λ e k lands. inr (k lands)) late) t (covers_self t) (carry sync d) g (always_now (Good most room (next_sequence n) t G) (carry sync d) g).restores)

    synced : (d : Device) → Always Synced d → Runs Safe (Done (next_sequence n) t G) (commit most (next_sequence n) t ∷ sync ∷ (to_home most t ++ syncs late)) d
    synced d a =
        let v : Write = record { place = commit_at; words = commit_of (next_sequence n) t } in (
          λ lands. inl (a lands).0,
          sealed (carry (write v) d) (always_write Synced (Either n s t H G) v d (λ f k. inl k.0) (λ f k. inr (committed_good most room (next_sequence n) t H _ (commits most room (next_sequence n) t H f k.1))) a)
              (rw (now_write v d) (commits most room (next_sequence n) t H (now d) (always_now Synced d a).1)),
        )

    pub store_run : (d : Device) → Done n s H d → Runs Safe (Done (next_sequence n) t G) (planned most late (next_sequence n) t) d
    unfolding planned
    store_run d k = contents_run (next_sequence n) (Good most room n s H) Safe (Done (next_sequence n) t G) (sync ∷ commit most (next_sequence n) t ∷ sync ∷ (to_home most t ++ syncs late))
        (λ e g lands. inl (g lands))
        (λ j c f h g. good_next most room n s H f j c h g)
        t 0 (omega (arith, in_area most room t fit))
        (Home most room H) (λ j c f a b h x. put_there (area_at most (next_sequence n) j) (home_at most x) c f (home_area most x (next_sequence n) j b) ∙ h x)
        (λ e g h a. (λ lands. inl (g lands), synced (carry sync e) (always_sync Synced e (always_now (Good most room n s H) e g, record { fit = fit; whole = a; home = h }))))
        d k.0 k.1
