-- Stores: what they overwrite, and what is read back of one that is whole in its area.
use Rattle.std.proofs.Common.{◌≡◌, ℕ, suc, ◌+◌, ◌<◌, ◌≤◌, [], ◌∷◌, length, refl, ◌∙◌, ap₂, arith, eq-eqb}
use Rattle.journal.specs.Device.{Content, Sectors, Write, put}
use Rattle.journal.specs.Layout.{Store, homes_of}
use Rattle.journal.specs.Journal.{read_back}
use Rattle.journal.specs.Claims.{becomes}
use Rattle.journal.proofs.Places.{put_there}

-- ── what a store overwrites ──
-- what was there does not matter
abbrev pub Overwrites : Store → ℕ → Type 0
Overwrites s x = (a b : Content) → becomes s x a ≡ becomes s x b

abbrev pub Covers : Store → Store → Type 0
Covers s [] = Unit {0}
Covers s (w ∷ ws) = Overwrites s w.place × Covers s ws

covers_more : (s r : Store) (w : Write) → Covers s r → Covers (w ∷ s) r
unfolding becomes
covers_more s [] w c = tt
covers_more s (v ∷ r) w c = (λ a b. c.0 _ _, covers_more s r w c.1)

pub covers_self : (s : Store) → Covers s s
unfolding becomes
covers_self [] = tt
covers_self (w ∷ s) = (λ a b. rw (eq-eqb w.place w.place refl), covers_more s s w (covers_self s))

-- ── a store's contents, whole in their area from number i on ──
abbrev pub InArea : Sectors → (ℕ → ℕ) → ℕ → Store → Type 0
InArea f area i [] = Unit {0}
InArea f area i (w ∷ ws) = (f (area i) ≡ w.words) × InArea f area (suc i) ws

-- .. a write elsewhere leaves them
pub in_area_put : (s : Store) (area : ℕ → ℕ) (i p : ℕ) (c : Content) (f : Sectors) → ((j : ℕ) → i ≤ j → j < i + length s → ¬ (area j ≡ p)) → InArea f area i s → InArea (put (record { place = p; words = c }) f) area i s
in_area_put [] area i p c f apart h = tt
in_area_put (w ∷ s) area i p c f apart h = (put_there p (area i) c f (apart i (omega arith) (omega arith)) ∙ h.0, in_area_put s area (suc i) p c f (λ j a b. apart j (omega arith) (omega arith)) h.1)

pub read_back_holds : (s : Store) (area : ℕ → ℕ) (i : ℕ) (f : Sectors) → InArea f area i s → read_back f area i (homes_of s) ≡ s
unfolding read_back homes_of
read_back_holds [] area i f h = refl
read_back_holds (w ∷ s) area i f h = ap₂ (λ (c : Content) (r : Store). record { place = w.place; words = c } ∷ r) h.0 (read_back_holds s area (suc i) f h.1)
