-- The counts: where an event sets them they hold by definition; where it does not, what they count is the same.
use mathlib.Core.Path.{◌≡◌, refl, ap, sym, ◌∙◌}
use mathlib.Core.Bool.{Bool, ◌&&◌}
use mathlib.Core.Logic.{inl, inr}
use Prim.Native.Nat.{ℕ, ◌<◌}
use lib.Dec.{ltb, eqb}
use Rattle.tables.specs.Base.{if}
use Rattle.tables.specs.Laws.{at_tab0, length_tab, count_same}
use Rattle.tables.specs.Rule.{test, alike}
use Rattle.model.specs.declared.sizes.Sizes.{Sizes}
use Rattle.model.specs.declared.frame.Frame.{Frame}
use Rattle.model.specs.State.{Core, State, Files, Frames, files, frames, frame_at, all_pages, slot_of, map_words, charged, payer, used_of, free_word}
use Rattle.model.specs.Setters.{on_core, counted}
use Rattle.model.specs.Laws.Ruled.{OfCounts}
use Rattle.model.specs.Laws.Fit.{Fit}
use Rattle.invariant.proofs.Lengths.{Long, long_fit}
use Rattle.invariant.proofs.Framed.{Framed, Framing}

pub counted_counts : (z : Sizes) (st : State) → st.memory.held.pool.hand < z.records → OfCounts z (counted z st)
unfolding counted
counted_counts z st h = record {
  hand = h;
  free = refl;
  free_map = λ k l. at_tab0 (map_words z) (free_word z (files st).state) k 0 l;
  used = λ q l. at_tab0 z.accounts (used_of z (files st) (frames st)) q 0 l;
}

pub counted_fit : (z : Sizes) (st : State) → Long z st → Fit z (counted z st)
unfolding counted
counted_fit z st l = long_fit z (counted z st) (record { sizes = l.sizes; disk = l.disk; core = l.core; held = record { addresses = l.held.addresses; states = l.held.states; owners = l.held.owners }; slots = l.slots; line = l.line })
    (length_tab (map_words z) (free_word z (files st).state) 0) (length_tab z.accounts (used_of z (files st) (frames st)) 0)

-- an event that ends by setting the counts
pub counted_framed : (z : Sizes) (st : State) → Framing z st → Framed z (counted z st)
unfolding counted
counted_framed z st h = record { queues = record { free_queue = h.queues.free_queue; removal_list = h.queues.removal_list }; frames = h.frames; counts = counted_counts z st h.hand; lengths = counted_fit z st h.lengths }

-- frames with the same page and the same modified switch
abbrev pub Alike : Frame → Frame → Type 0
Alike g h = (g.page ≡ h.page) × (g.modified ≡ h.modified)

-- .. charge the same pages
pub used_same : (z : Sizes) (v : Files) (c d : Frames) → ((f : ℕ) → f < z.frames → Alike (c.frame f) (d.frame f)) → (q : ℕ) → used_of z v c q ≡ used_of z v d q
unfolding used_of charged
used_same z v c d e q = count_same (all_pages z) (λ i. eqb (payer v (slot_of z i)) q && if (eqb (v.active (slot_of z i)) 1) (test (charged z v c i)) (ltb 0 (v.map i)))
    (λ i. eqb (payer v (slot_of z i)) q && if (eqb (v.active (slot_of z i)) 1) (test (charged z v d i)) (ltb 0 (v.map i)))
    (λ i h. ap (λ (b : Bool). eqb (payer v (slot_of z i)) q && if (eqb (v.active (slot_of z i)) 1) b (ltb 0 (v.map i)))
    (alike (charged z v c i) (charged z v d i)
    (λ k. elim k [ inl x ↦ inl x | inr x ↦ let s = e x.0 x.1 in inr (x.0, x.1, (sym s.0 ∙ x.2.0, sym s.1 ∙ x.2.1)) ])
    (λ k. elim k [ inl x ↦ inl x | inr x ↦ let s = e x.0 x.1 in inr (x.0, x.1, (s.0 ∙ x.2.0, s.1 ∙ x.2.1)) ])))

-- an event that changes only the core, and no frame's page or modified switch
pub core_framed : (z : Sizes) (st : State) (x : Core) → Fit z st → OfCounts z st → Framing z (on_core (λ c. x) st) → ((f : ℕ) → f < z.frames → Alike (frame_at st.memory.core.frames f) (frame_at x.frames f)) → Framed z (on_core (λ c. x) st)
core_framed z st x f c h e = record {
  queues = h.queues;
  frames = h.frames;
  counts = record { hand = c.hand; free = c.free; free_map = c.free_map; used = λ q l. c.used q l ∙ used_same z (files st) (frames st) (frames (on_core (λ k. x) st)) e q };
  lengths = long_fit z (on_core (λ k. x) st) h.lengths f.memory.free_map f.memory.used;
}
