-- The rules of the frame that an event concerns: freed, awaited, newly in service, or with other switches and the same page.
use mathlib.Core.Path.{◌≡◌, refl, sym, ◌∙◌}
use Prim.Native.Nat.{ℕ, suc, ◌+◌, ◌*◌, ◌<◌}
use native.Mathlib.Nat.{suc_inj}
use native.Mathlib.Omega.{arith}
use lib.Dec.{eqb}
use Rattle.tables.specs.Base.{if}
use Rattle.tables.specs.Rule.{Holds}
use Rattle.model.specs.declared.sizes.Sizes.{Sizes}
use Rattle.model.specs.declared.frame.Frame.{Frame}
use Rattle.model.specs.Lines.{LIVE}
use Rattle.model.specs.State.{Files, no_frame, NONE, READING, WRITING, all_pages, slot_of, live}
use Rattle.model.specs.Pages.{awaiting, fresh}
use Rattle.invariant.proofs.Seats.{Seat}

module _ (z : Sizes) (v : Files) (word text : ℕ → ℕ) where
  -- a free frame
  pub seat_free : Seat z v word no_frame 1 0 text
  seat_free = record {
    page_fit = λ i e. absurd (omega arith);
    used_fit = omega arith;
    modified_fit = omega arith;
    wired_fit = omega arith;
    initial_fit = omega arith;
    transfer_fit = omega arith;
    place = refl;
    active = λ i e. absurd (omega arith);
    held = λ i e. absurd (omega arith);
    reading = λ i e. absurd (omega arith);
    writing = λ e. absurd (omega arith);
    free = λ n. (refl, (refl, (refl, (refl, refl))));
    busy = λ e. absurd (omega arith);
    clean = λ i e. absurd (omega arith);
  }

  module _ (i : ℕ) (fit : i < all_pages z) (active : v.active (slot_of z i) ≡ 1) where
    is : (A : ℕ → Type 0) → A i → (j : ℕ) → suc i ≡ suc j → A j
    is A a j e = rw (suc_inj e) at a

    -- a read begins
    pub seat_awaiting : Holds (live v i) → Seat z v word (awaiting i) 0 0 text
    seat_awaiting lv = record {
      page_fit = is (λ j. j < all_pages z) fit;
      used_fit = omega arith;
      modified_fit = omega arith;
      wired_fit = omega arith;
      initial_fit = omega arith;
      transfer_fit = omega arith;
      place = refl;
      active = is (λ j. v.active (slot_of z j) ≡ 1) active;
      held = is (λ j. ¬ (v.address j ≡ 0)) (λ e. omega (arith, e, lv.1));
      reading = λ j e t. is (λ k. Holds (live v k)) lv j e;
      writing = λ e. absurd (omega arith);
      free = λ n. absurd (n refl);
      busy = λ e p. absurd (omega arith);
      clean = λ j e t. absurd (omega arith);
    }

    -- in service at the list's front
    pub seat_fresh : ¬ (v.address i ≡ 0) → ((r : ℕ) → v.address i ≡ suc r → (w : ℕ) → w < z.words → text w ≡ if (eqb (v.state r) LIVE) (word (r * z.words + w)) 0) → Seat z v word (fresh i) 0 1 text
    seat_fresh held clean = record {
      page_fit = is (λ j. j < all_pages z) fit;
      used_fit = omega arith;
      modified_fit = omega arith;
      wired_fit = omega arith;
      initial_fit = omega arith;
      transfer_fit = omega arith;
      place = refl;
      active = is (λ j. v.active (slot_of z j) ≡ 1) active;
      held = is (λ j. ¬ (v.address j ≡ 0)) held;
      reading = λ j e t. absurd (omega arith);
      writing = λ e. absurd (omega arith);
      free = λ n. absurd (n refl);
      busy = λ e p. absurd (omega arith);
      clean = λ j e t m. is (λ k. (r : ℕ) → v.address k ≡ suc r → (w : ℕ) → w < z.words → text w ≡ if (eqb (v.state r) LIVE) (word (r * z.words + w)) 0) clean j e;
    }

-- what new switches have to say: h became g, in another place perhaps
pub record Switched (z : Sizes) (g h : Frame) (b : ℕ) (text text' : ℕ → ℕ) : Type 0 where
  pub page : g.page ≡ h.page
  pub used : g.used < 2
  pub modified : g.modified < 2
  pub wired : g.wired < 2
  pub initial : g.initial < 2
  pub transfer : g.transfer < 3
  pub place : b + g.wired + if (eqb g.transfer NONE) 0 1 ≡ 1
  pub unread : ¬ (g.transfer ≡ READING)
  pub writing : g.transfer ≡ WRITING → g.modified ≡ 1
  -- unmodified in service: so it was before, with the same words
  pub clean : g.transfer ≡ NONE → g.modified ≡ 0 → (h.transfer ≡ NONE) × (h.modified ≡ 0) × ((w : ℕ) → w < z.words → text' w ≡ text w)

pub seat_switched : {z : Sizes} {v : Files} {word : ℕ → ℕ} {g h : Frame} {l b : ℕ} {text text' : ℕ → ℕ} → Seat z v word h 0 l text → Switched z g h b text text' → Seat z v word g 0 b text'
seat_switched {b = b} s c = record {
  page_fit = λ i e. s.page_fit i (sym c.page ∙ e);
  used_fit = c.used;
  modified_fit = c.modified;
  wired_fit = c.wired;
  initial_fit = c.initial;
  transfer_fit = c.transfer;
  place = omega (arith, c.place);
  active = λ i e. s.active i (sym c.page ∙ e);
  held = λ i e. s.held i (sym c.page ∙ e);
  reading = λ i e t. absurd (c.unread t);
  writing = c.writing;
  free = λ n. absurd (n refl);
  busy = λ e p. s.busy refl (sym c.page ∙ p);
  clean = λ i e t m r a w l. (let x = c.clean t m in x.2 w l ∙ s.clean i (sym c.page ∙ e) x.0 x.1 r a w l);
}
