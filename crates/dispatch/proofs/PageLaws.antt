-- The events about a page over all tables: what each requires once questions 1 and 2 said yes, and its outcome by what it ensures of the tables that it sees.
use mathlib.Core.Path.{◌≡◌}
use mathlib.Core.List.{List, []}
use Prim.Native.Nat.{ℕ, zero, suc}
use native.Mathlib.Omega.{arith}
use Rattle.tables.specs.Questions.{first_no}
use Rattle.model.specs.declared.sizes.Sizes.{Sizes}
use Rattle.model.specs.declared.frame.Frame.{Frame}
use Rattle.model.specs.declared.event.Answer.{Answer}
use Rattle.model.specs.declared.event.Event.{Event}
use Rattle.model.specs.declared.event.Page.TheVariants as Page
use Rattle.model.specs.State.{Core, State}
use Rattle.model.specs.Setters.{on_core, set_frames, set_removal_list}
use Rattle.model.specs.Parts.{frame_of}
use Rattle.model.specs.Questions.{questions}
use Rattle.model.specs.Pages as Pages
use Rattle.model.specs.Step.{Outcome, outcome, carried, result}
use Rattle.model.specs.Laws.Own.{own, leaves}
use Rattle.pages.specs.Seen.{seen}
use Rattle.pages.specs.Needs.{Seats, RemovalList}
use Rattle.dispatch.specs.Kept.{Kept}

module _ (z : Sizes) (st : State) where
  -- an event over these tables where n is the first question that fails
  abbrev after : ℕ → State → Event → Outcome State
  after n s e = outcome n (result z s e) s (carried z s e)

  abbrev core : Core
  core = st.memory.core

  -- ── what they require ──
  module _ (k : Kept z st) where
    pub served_ready : Seats z core.frames
    served_ready = record { sizes = k.fits.sizes; seated = k.rules.frames.once }

    pub listed_ready : RemovalList z core.frames core.removal_list
    listed_ready = record { long = k.fits.memory.removal_list; packed = k.rules.queues.removal_list; placed = λ f h. omega (arith, k.rules.frames.in_one_place_holds f h) }

  -- ── read, and the tables that it sees ──
  abbrev words : State
  words = seen core.frames st.disk.numbers core.words [] st.memory.slots.active

  module _ (s p w : ℕ) where
    abbrev reads : Event
    reads = Event.Page (Page.Read s p w)

    pub read_own : {a : Answer} {fs : List Frame} → a ≡ (own z words reads).answer → fs ≡ (own z words reads).left.memory.core.frames → leaves a (on_core (set_frames fs) st) ≡ own z st reads
    unfolding own carried result frame_of Pages.read Pages.word_read
    read_own {a} {fs} x y = go (first_no (questions z st reads)) x y
      where
        go : (n : ℕ) → a ≡ (after n words reads).answer → fs ≡ (after n words reads).left.memory.core.frames → leaves a (on_core (set_frames fs) st) ≡ after n st reads
        go zero x y = λ i. leaves (x i) (on_core (set_frames (y i)) st)
        go (suc n) x y = λ i. leaves (x i) (on_core (set_frames (y i)) st)

  -- ── wire and unwire, and the tables that they see ──
  abbrev lists : State
  lists = seen core.frames st.disk.numbers [] core.removal_list st.memory.slots.active

  module _ (s p : ℕ) where
    abbrev wires : Event
    wires = Event.Page (Page.Wire s p)

    pub wire_own : {a : Answer} {fs : List Frame} {rl : List ℕ} → a ≡ (own z lists wires).answer → fs ≡ (own z lists wires).left.memory.core.frames → rl ≡ (own z lists wires).left.memory.core.removal_list → leaves a (on_core (λ c. set_frames fs (set_removal_list rl c)) st) ≡ own z st wires
    unfolding own carried result frame_of Pages.wire
    wire_own {a} {fs} {rl} x y u = go (first_no (questions z st wires)) x y u
      where
        go : (n : ℕ) → a ≡ (after n lists wires).answer → fs ≡ (after n lists wires).left.memory.core.frames → rl ≡ (after n lists wires).left.memory.core.removal_list → leaves a (on_core (λ c. set_frames fs (set_removal_list rl c)) st) ≡ after n st wires
        go zero x y u = λ i. leaves (x i) (on_core (λ c. set_frames (y i) (set_removal_list (u i) c)) st)
        go (suc n) x y u = λ i. leaves (x i) (on_core (λ c. set_frames (y i) (set_removal_list (u i) c)) st)

  module _ (s p : ℕ) where
    abbrev unwires : Event
    unwires = Event.Page (Page.Unwire s p)

    pub unwire_own : {a : Answer} {fs : List Frame} {rl : List ℕ} → a ≡ (own z lists unwires).answer → fs ≡ (own z lists unwires).left.memory.core.frames → rl ≡ (own z lists unwires).left.memory.core.removal_list → leaves a (on_core (λ c. set_frames fs (set_removal_list rl c)) st) ≡ own z st unwires
    unfolding own carried result frame_of Pages.unwire
    unwire_own {a} {fs} {rl} x y u = go (first_no (questions z st unwires)) x y u
      where
        go : (n : ℕ) → a ≡ (after n lists unwires).answer → fs ≡ (after n lists unwires).left.memory.core.frames → rl ≡ (after n lists unwires).left.memory.core.removal_list → leaves a (on_core (λ c. set_frames fs (set_removal_list rl c)) st) ≡ after n st unwires
        go zero x y u = λ i. leaves (x i) (on_core (λ c. set_frames (y i) (set_removal_list (u i) c)) st)
        go (suc n) x y u = λ i. leaves (x i) (on_core (λ c. set_frames (y i) (set_removal_list (u i) c)) st)
