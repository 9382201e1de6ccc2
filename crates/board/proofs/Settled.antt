-- The journal's store in flight: there is none once the journal is ready.
use mathlib.Core.Path.{◌≡◌, refl}
use mathlib.Core.Bool.{Bool, true, false}
use mathlib.Core.List.{List, [], ◌∷◌}
use mathlib.Core.Logic.{◌⊎◌, inl, inr}
use Prim.Native.Nat.{ℕ}
use Rattle.tables.specs.Base.{if}
use Rattle.journal.specs.Device.{Op, Device, now, Content}
use Rattle.journal.specs.Layout.{Store, commit_at, next_sequence, fits, valid}
use Rattle.board.specs.Board.{is_idle}
use Rattle.journal.specs.Journal.{Protocol, Mode, down, refused, idle, storing, recovering, World, Act, begin, next, cutting, killing, look, go_on, take_up, act}

-- idle, or not
pub idle_or_not : (m : Mode) → ((n : ℕ) × (m ≡ idle n)) ⊎ (is_idle m ≡ false)
idle_or_not (down ops) = inr refl
idle_or_not refused = inr refl
idle_or_not (idle n) = inl (n, refl)
idle_or_not (storing n s ops) = inr refl
idle_or_not (recovering n ops) = inr refl

abbrev pub Settled : Mode → List Store → Type 0
Settled (down ops) flight = Unit {0}
Settled refused flight = Unit {0}
Settled (idle n) flight = flight ≡ []
Settled (storing n s ops) flight = Unit {0}
Settled (recovering n ops) flight = flight ≡ []

abbrev pub Settles : World → Type 0
Settles w = Settled w.mode w.flight

module _ (p : Protocol) where
  look_settles : (d : Device) (kept flight : List Store) (c : Content) → Settles (look p d kept flight c)
  unfolding look
  look_settles d kept flight c = go (valid p.most p.room c) _ _ _
    where
      go : (b : Bool) (n : ℕ) (ops : List Op) (found : List Store) → Settles (if b (record { device = d; mode = recovering n ops; kept = found; flight = [] }) (record { device = d; mode = refused; kept = kept; flight = flight }))
      go true n ops found = refl
      go false n ops found = tt

  next_settles : (d : Device) (kept flight : List Store) (m : Mode) → Settled m flight → Settles (go_on p d kept flight m)
  unfolding go_on
  next_settles d kept flight (down []) s = look_settles d kept flight (now d commit_at)
  next_settles d kept flight (down (o ∷ ops)) s = tt
  next_settles d kept flight refused s = tt
  next_settles d kept flight (idle n) s = s
  next_settles d kept flight (storing n t []) s = refl
  next_settles d kept flight (storing n t (o ∷ ops)) s = tt
  next_settles d kept flight (recovering n []) s = s
  next_settles d kept flight (recovering n (o ∷ ops)) s = s

  begin_settles : (d : Device) (kept flight : List Store) (m : Mode) (t : Store) → Settled m flight → Settles (take_up p d kept flight m t)
  unfolding take_up
  begin_settles d kept flight (down ops) t s = tt
  begin_settles d kept flight refused t s = tt
  begin_settles d kept flight (idle n) t s = go (fits p.most p.room t)
    where
      go : (b : Bool) → Settles (if b (record { device = d; mode = storing (next_sequence n) t (p.plan (next_sequence n) t); kept = kept; flight = t ∷ [] }) (record { device = d; mode = idle n; kept = kept; flight = flight }))
      go true = tt
      go false = s
  begin_settles d kept flight (storing n u ops) t s = tt
  begin_settles d kept flight (recovering n ops) t s = s

  pub act_settles : (w : World) (a : Act) → Settles w → Settles (act p w a)
  unfolding act
  act_settles w (begin t) s = begin_settles w.device w.kept w.flight w.mode t s
  act_settles w next s = next_settles w.device w.kept w.flight w.mode s
  act_settles w (cutting lands) s = tt
  act_settles w killing s = tt

  -- a store that is handed over is in flight, or it was not taken up and nothing has changed
  pub begin_flies : (w : World) (n : ℕ) (t : Store) → w.mode ≡ idle n → w.flight ≡ [] → ((act p w (begin t)).kept ≡ w.kept) × (((act p w (begin t)).flight ≡ []) ⊎ ((act p w (begin t)).flight ≡ t ∷ []))
  unfolding act take_up
  begin_flies w n t e f = rw e (go (fits p.most p.room t))
    where
      go : (b : Bool) → (let v : World = if b (record { device = w.device; mode = storing (next_sequence n) t (p.plan (next_sequence n) t); kept = w.kept; flight = t ∷ [] }) (record { device = w.device; mode = idle n; kept = w.kept; flight = w.flight }) in
          (v.kept ≡ w.kept) × ((v.flight ≡ []) ⊎ (v.flight ≡ t ∷ [])))
      go true = (refl, inr refl)
      go false = (refl, inl f)
