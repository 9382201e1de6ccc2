-- Every store and every recovery ends: some number of operations later the journal is idle, so the theorems speak of something.
use Rattle.std.proofs.Common.{◌≡◌, ℕ, suc, List, [], ◌∷◌, refl, inl, inr, eq-eqb, ne_eqb}
use Rattle.journal.specs.Device.{Sectors, Device, now, Op, carry}
use Rattle.journal.specs.Layout.{Store, commit_at, next_sequence}
use Rattle.journal.specs.Journal.{Protocol, journal, Mode, down, refused, idle, storing, recovering, World, sequence, next, look, go_on, act, run}
use Rattle.journal.specs.Claims.{nexts, reached, Ends}
use Rattle.journal.specs.Laws.Sequence.{next_other}
use Rattle.journal.proofs.Cuts.{always_now}
use Rattle.journal.proofs.Whole.{Found, Held, GoodFor, look_is}
use Rattle.journal.proofs.Theorem.{holds}

-- some operations later it is idle
abbrev pub Idles : Protocol → World → Type 0
Idles p w = (k : ℕ) × (n : ℕ) × ((run p w (nexts k [])).mode ≡ idle n)

-- .. if it is after one
one_later : (p : Protocol) (w : World) → Idles p (act p w next) → Idles p w
unfolding run
one_later p w i = (suc i.0, i.1, i.2)

module _ (most room late : ℕ) (home : Sectors) where
  abbrev p : Protocol
  p = journal most room late

  idle_now : (d : Device) (kept flight : List Store) (n : ℕ) → Idles p (record { device = d; mode = idle n; kept = kept; flight = flight })
  unfolding run
  idle_now d kept flight n = (0, n, refl)

  recovery_ends : (ops : List Op) (d : Device) (kept flight : List Store) (n : ℕ) → Idles p (record { device = d; mode = recovering n ops; kept = kept; flight = flight })
  unfolding act go_on
  recovery_ends [] d kept flight n = one_later p _ (idle_now d kept flight n)
  recovery_ends (o ∷ ops) d kept flight n = one_later p _ (recovery_ends ops (carry o d) kept flight n)

  store_ends : (ops : List Op) (d : Device) (kept flight : List Store) (n : ℕ) (s : Store) → Idles p (record { device = d; mode = storing n s ops; kept = kept; flight = flight })
  unfolding act go_on
  store_ends [] d kept flight n s = one_later p _ (idle_now d (s ∷ kept) [] n)
  store_ends (o ∷ ops) d kept flight n s = one_later p _ (store_ends ops (carry o d) kept flight n s)

  -- the look finds a store
  look_ends : (d : Device) (kept flight : List Store) → Found most room late home kept flight d → Idles p (look p d kept flight (now d commit_at))
  unfolding sequence
  look_ends d kept flight (inl g) = rw (look_is most room late home d kept flight kept (rw (eq-eqb (sequence kept) (sequence kept) refl)) (always_now (GoodFor most room late home kept) d g)) (recovery_ends _ d kept [] (sequence kept))
  look_ends d kept flight (inr h) = rw (look_is most room late home d kept flight (h.0 ∷ kept) (rw (ne_eqb (next_sequence (sequence kept)) (sequence kept) (next_other (sequence kept)), h.1)) (always_now (GoodFor most room late home (h.0 ∷ kept)) d h.2)) (recovery_ends _ d (h.0 ∷ kept) [] (next_sequence (sequence kept)))

  down_ends : (ops : List Op) (d : Device) (kept flight : List Store) → Held most room late home d kept flight (down ops) → Idles p (record { device = d; mode = down ops; kept = kept; flight = flight })
  unfolding act go_on
  down_ends [] d kept flight h = one_later p _ (look_ends d kept flight h.1)
  down_ends (o ∷ ops) d kept flight h = one_later p _ (down_ends ops (carry o d) kept flight h.1)

  pub mode_ends : (d : Device) (kept flight : List Store) (m : Mode) → Held most room late home d kept flight m → Idles p (record { device = d; mode = m; kept = kept; flight = flight })
  mode_ends d kept flight (down ops) h = down_ends ops d kept flight h
  mode_ends d kept flight refused h = absurd h
  mode_ends d kept flight (idle n) h = idle_now d kept flight n
  mode_ends d kept flight (storing n s ops) h = store_ends ops d kept flight n s
  mode_ends d kept flight (recovering n ops) h = recovery_ends ops d kept flight n

pub ends : (most room late : ℕ) → Ends (journal most room late)
unfolding Ends
ends most room late f acts =
    let w = reached (journal most room late) f acts in
    mode_ends most room late _ w.device w.kept w.flight w.mode (holds most room late f acts)
