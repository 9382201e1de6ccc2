-- One frame's rules as a record: all rules of frames but "no page is in two frames" speak of one frame at a time.
use mathlib.Core.Path.{◌≡◌, refl, sym, ◌∙◌}
use Prim.Native.Nat.{ℕ, suc, ◌+◌, ◌*◌, ◌<◌, ◌≤◌}
use native.Mathlib.Omega.{arith}
use lib.Dec.{eqb}
use Rattle.tables.specs.Base.{if}
use Rattle.tables.specs.Rule.{same, ◌and◌, Holds}
use Rattle.model.specs.declared.sizes.Sizes.{Sizes}
use Rattle.model.specs.declared.frame.Frame.{Frame}
use Rattle.model.specs.Lines.{LIVE}
use Rattle.model.specs.State.{Files, Frames, NONE, READING, WRITING, all_pages, slot_of, live}
use Rattle.model.specs.Rules
use Rattle.model.specs.Laws.Ruled.{OfFrames}

-- the rules of frame g that stands so often in the free queue and in the list and has this text; `word` gives the records' words
pub record Seat (z : Sizes) (v : Files) (word : ℕ → ℕ) (g : Frame) (queued removing : ℕ) (text : ℕ → ℕ) : Type 0 where
  pub page_fit : (i : ℕ) → g.page ≡ suc i → i < all_pages z
  pub used_fit : g.used < 2
  pub modified_fit : g.modified < 2
  pub wired_fit : g.wired < 2
  pub initial_fit : g.initial < 2
  pub transfer_fit : g.transfer < 3
  pub place : queued + removing + g.wired + if (eqb g.transfer NONE) 0 1 ≡ 1
  pub active : (i : ℕ) → g.page ≡ suc i → v.active (slot_of z i) ≡ 1
  pub held : (i : ℕ) → g.page ≡ suc i → ¬ (v.address i ≡ 0)
  pub reading : (i : ℕ) → g.page ≡ suc i → g.transfer ≡ READING → Holds (live v i)
  pub writing : g.transfer ≡ WRITING → g.modified ≡ 1
  pub free : ¬ (queued ≡ 0) → Holds (same g.page 0 and same g.used 0 and same g.modified 0 and same g.wired 0 and same g.initial 0)
  pub busy : queued ≡ 0 → ¬ (g.page ≡ 0)
  pub clean : (i : ℕ) → g.page ≡ suc i → g.transfer ≡ NONE → g.modified ≡ 0 → (r : ℕ) → v.address i ≡ suc r → (w : ℕ) → w < z.words → text w ≡ if (eqb (v.state r) LIVE) (word (r * z.words + w)) 0

abbrev pub text_of : Sizes → Frames → ℕ → ℕ → ℕ
text_of z c f w = c.word (f * z.words + w)

abbrev pub SeatAt : Sizes → Files → Frames → (ℕ → ℕ) → ℕ → Type 0
SeatAt z v c word f = Seat z v word (c.frame f) (c.queued f) (c.removing f) (text_of z c f)

pub seat : (z : Sizes) (v : Files) (c : Frames) (word : ℕ → ℕ) → OfFrames z v c word → (f : ℕ) → f < z.frames → SeatAt z v c word f
seat z v c word h f l = (let a = h.fit f l in record {
  page_fit = a.0;
  used_fit = a.1.0;
  modified_fit = a.1.1.0;
  wired_fit = a.1.1.1.0;
  initial_fit = a.1.1.1.1.0;
  transfer_fit = a.1.1.1.1.1;
  place = h.in_one_place_holds f l;
  active = h.active f l;
  held = λ i e. (h.held f l i e).0;
  reading = λ i e. (h.held f l i e).1;
  writing = h.writing f l;
  free = h.free f l;
  busy = h.busy f l;
  clean = h.clean f l;
})

pub seated : (z : Sizes) (v : Files) (c : Frames) (word : ℕ → ℕ) → ((f : ℕ) → f < z.frames → SeatAt z v c word f) → Holds (Rules.framed_once z v c) → OfFrames z v c word
seated z v c word s o = record {
  fit = λ f l. (let a = s f l in (a.page_fit, (a.used_fit, (a.modified_fit, (a.wired_fit, (a.initial_fit, a.transfer_fit))))));
  in_one_place_holds = λ f l. (s f l).place;
  active = λ f l. (s f l).active;
  once = o;
  held = λ f l i e. ((s f l).held i e, (s f l).reading i e);
  writing = λ f l. (s f l).writing;
  free = λ f l. (s f l).free;
  busy = λ f l. (s f l).busy;
  clean = λ f l. (s f l).clean;
}

-- ── a frame that an event does not concern ──
-- equal but for used and initial, which may go off
pub record Cooler (g h : Frame) : Type 0 where
  pub page : g.page ≡ h.page
  pub modified : g.modified ≡ h.modified
  pub wired : g.wired ≡ h.wired
  pub transfer : g.transfer ≡ h.transfer
  pub used : g.used ≤ h.used
  pub initial : g.initial ≤ h.initial

-- what its page holds is the same after the event: `page` is the frame's entry, v and word are before, v' and word' after
pub record Kept (z : Sizes) (v v' : Files) (word word' : ℕ → ℕ) (page : ℕ) : Type 0 where
  pub address : (i : ℕ) → page ≡ suc i → v'.address i ≡ v.address i
  pub state : (i : ℕ) → page ≡ suc i → (r : ℕ) → v.address i ≡ suc r → v'.state r ≡ v.state r
  pub active : (i : ℕ) → page ≡ suc i → v'.active (slot_of z i) ≡ v.active (slot_of z i)
  pub words : (i : ℕ) → page ≡ suc i → (r : ℕ) → v.address i ≡ suc r → (w : ℕ) → w < z.words → word' (r * z.words + w) ≡ word (r * z.words + w)

pub kept_all : (z : Sizes) (v : Files) (word : ℕ → ℕ) (page : ℕ) → Kept z v v word word page
kept_all z v word page = record { address = λ i e. refl; state = λ i e r a. refl; active = λ i e. refl; words = λ i e r a w l. refl }

pub cooler_same : (g : Frame) → Cooler g g
cooler_same g = record { page = refl; modified = refl; wired = refl; transfer = refl; used = omega arith; initial = omega arith }

pub seat_kept : {z : Sizes} {v v' : Files} {word word' : ℕ → ℕ} {g g' : Frame} {q q' l l' : ℕ} {text text' : ℕ → ℕ} → Seat z v word g q l text → Cooler g' g → q' ≡ q → l' ≡ l
    → ((w : ℕ) → w < z.words → text' w ≡ text w) → Kept z v v' word word' g.page → Seat z v' word' g' q' l' text'
seat_kept {z} {v} {v'} {word} {word'} {g} {g'} {q} {q'} {l} {l'} s c eq el t k = record {
  page_fit = λ i e. s.page_fit i (sym c.page ∙ e);
  used_fit = omega (arith, c.used, s.used_fit);
  modified_fit = omega (arith, c.modified, s.modified_fit);
  wired_fit = omega (arith, c.wired, s.wired_fit);
  initial_fit = omega (arith, c.initial, s.initial_fit);
  transfer_fit = omega (arith, c.transfer, s.transfer_fit);
  place = rw (eq, el, c.wired, c.transfer) s.place;
  active = λ i e. k.active i (sym c.page ∙ e) ∙ s.active i (sym c.page ∙ e);
  held = λ i e a. s.held i (sym c.page ∙ e) (sym (k.address i (sym c.page ∙ e)) ∙ a);
  reading = λ i e tr. (let p = sym c.page ∙ e in let a = s.reading i p (sym c.transfer ∙ tr) in (a.0, k.address i p ∙ a.1, k.state i p a.0 a.1 ∙ a.2));
  writing = λ e. c.modified ∙ s.writing (sym c.transfer ∙ e);
  free = λ n. (let a = s.free (λ e. n (eq ∙ e)) in (c.page ∙ a.0, (omega (arith, c.used, a.1.0), (c.modified ∙ a.1.1.0, (c.wired ∙ a.1.1.1.0, omega (arith, c.initial, a.1.1.1.1))))));
  busy = λ e p. s.busy (sym eq ∙ e) (sym c.page ∙ p);
  clean = λ i e tr m r a w h. (let p = sym c.page ∙ e in let b = sym (k.address i p) ∙ a in
      t w h ∙ s.clean i p (sym c.transfer ∙ tr) (sym c.modified ∙ m) r b w h ∙ rw (k.state i p r b, k.words i p r b w h));
}
