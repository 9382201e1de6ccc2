-- Fault table by table, by its way; and its questions as the code asks them.
use mathlib.Core.Path.{◌≡◌, refl, ◌∙◌}
use mathlib.Core.Bool.{Bool, true, false}
use Prim.Native.Nat.{ℕ, suc, ◌%◌}
use lib.Dec.{T}
use lib.ListN.{set}
use Rattle.tables.specs.Base.{if}
use Rattle.tables.specs.Queue.{first, pop, push_front}
use Rattle.tables.specs.Rule.{same, test}
use Rattle.model.specs.declared.sizes.Sizes.{Sizes}
use Rattle.model.specs.Lines.{NULLED}
use Rattle.model.specs.State.{State, files, page_of, slot_of, live}
use Rattle.model.specs.Setters.{counted}
use Rattle.model.specs.Parts.{set_part}
use Rattle.model.specs.Pages as Pages
use Rattle.model.specs.Pages.{awaiting, fresh}
use Rattle.pages.specs.declared.supply.Way.{Way}
use Rattle.pages.specs.declared.supply.Way.TheVariants.{New, Held, Live}
use Rattle.pages.specs.Faults.{way_of, is_new, is_live_way, taken}

by_live : {A : Type 0} (P : State → A) (a b : Bool) (x y w : State) (u v : A) → P x ≡ u → P y ≡ v → P w ≡ v → P (if a x (if b y w)) ≡ if (is_live_way (if a Live (if b New Held))) u v
by_live P true b x y w u v ex ey ew = ex
by_live P false true x y w u v ex ey ew = ey
by_live P false false x y w u v ex ey ew = ew

by_none : {A : Type 0} (P : State → A) (a b : Bool) (x y w : State) (u v : A) → P x ≡ v → P y ≡ u → P w ≡ v → P (if a x (if b y w)) ≡ if (is_new (if a Live (if b New Held))) u v
by_none P true b x y w u v ex ey ew = ex
by_none P false true x y w u v ex ey ew = ey
by_none P false false x y w u v ex ey ew = ew

by_all : {A : Type 0} (P : State → A) (a b : Bool) (x y w : State) (u : A) → P x ≡ u → P y ≡ u → P w ≡ u → P (if a x (if b y w)) ≡ u
by_all P true b x y w u ex ey ew = ex
by_all P false true x y w u ex ey ew = ey
by_all P false false x y w u ex ey ew = ew

pub live_none : (a b : Bool) → (T a → ¬ T b) → is_new (if a Live (if b New Held)) ≡ b
live_none true true h = absurd (h tt tt)
live_none true false h = refl
live_none false true h = refl
live_none false false h = refl

live_live : (a b : Bool) → is_live_way (if a Live (if b New Held)) ≡ a
live_live true b = refl
live_live false true = refl
live_live false false = refl

module _ (z : Sizes) (st : State) (s p : ℕ) where
  abbrev i : ℕ
  i = page_of z s p

  abbrev f : ℕ
  f = first st.memory.core.free_queue

  abbrev is_live? : Bool
  is_live? = test (live (files st) i)

  abbrev isNone? : Bool
  isNone? = test (same ((files st).address i) 0)

  -- the page's way
  abbrev pub way : Way
  way = way_of st.memory.held.addresses st.memory.held.states i

  abbrev reading : State
  reading = Pages.begin_read z st i (Pages.fault_frame st)

  abbrev taking : State
  taking = Pages.serve_zeros z (Pages.take_record z st i (taken z st s p)) i (Pages.fault_frame st)

  abbrev serving : State
  serving = Pages.serve_zeros z st i (Pages.fault_frame st)

  pub fault_frames : (Pages.fault z st s p).memory.core.frames ≡ set st.memory.core.frames f (if (is_live_way way) (awaiting i) (fresh i))
  unfolding Pages.fault counted Pages.begin_read Pages.serve_zeros Pages.take_record Pages.fault_frame way_of
  fault_frames = by_live (λ t. t.memory.core.frames) is_live? isNone? reading taking serving (set st.memory.core.frames f (awaiting i)) (set st.memory.core.frames f (fresh i)) refl refl refl ∙ go (is_live_way way)
    where
      go : (b : Bool) → if b (set st.memory.core.frames f (awaiting i)) (set st.memory.core.frames f (fresh i)) ≡ set st.memory.core.frames f (if b (awaiting i) (fresh i))
      go true = refl
      go false = refl

  pub fault_words : (Pages.fault z st s p).memory.core.words ≡ if (is_live_way way) st.memory.core.words (set_part z f (λ w. 0) st.memory.core.words)
  unfolding Pages.fault counted Pages.begin_read Pages.serve_zeros Pages.take_record Pages.fault_frame way_of
  fault_words = by_live (λ t. t.memory.core.words) is_live? isNone? reading taking serving st.memory.core.words (set_part z f (λ w. 0) st.memory.core.words) refl refl refl

  pub fault_list : (Pages.fault z st s p).memory.core.removal_list ≡ if (is_live_way way) st.memory.core.removal_list (push_front st.memory.core.removal_list f)
  unfolding Pages.fault counted Pages.begin_read Pages.serve_zeros Pages.take_record Pages.fault_frame way_of
  fault_list = by_live (λ t. t.memory.core.removal_list) is_live? isNone? reading taking serving st.memory.core.removal_list (push_front st.memory.core.removal_list f) refl refl refl

  pub fault_queue : (Pages.fault z st s p).memory.core.free_queue ≡ pop st.memory.core.free_queue
  unfolding Pages.fault counted Pages.begin_read Pages.serve_zeros Pages.take_record Pages.fault_frame way_of
  fault_queue = by_all (λ t. t.memory.core.free_queue) is_live? isNone? reading taking serving (pop st.memory.core.free_queue) refl refl refl

  pub fault_addresses : (Pages.fault z st s p).memory.held.addresses ≡ if (is_new way) (set st.memory.held.addresses i (suc (taken z st s p))) st.memory.held.addresses
  unfolding Pages.fault counted Pages.begin_read Pages.serve_zeros Pages.take_record Pages.fault_frame way_of
  fault_addresses = by_none (λ t. t.memory.held.addresses) is_live? isNone? reading taking serving (set st.memory.held.addresses i (suc (taken z st s p))) st.memory.held.addresses refl refl refl

  pub fault_states : (Pages.fault z st s p).memory.held.states ≡ if (is_new way) (set st.memory.held.states (taken z st s p) NULLED) st.memory.held.states
  unfolding Pages.fault counted Pages.begin_read Pages.serve_zeros Pages.take_record Pages.fault_frame way_of
  fault_states = by_none (λ t. t.memory.held.states) is_live? isNone? reading taking serving (set st.memory.held.states (taken z st s p) NULLED) st.memory.held.states refl refl refl

  pub fault_owners : (Pages.fault z st s p).memory.held.owners ≡ if (is_new way) (set st.memory.held.owners (taken z st s p) (slot_of z i)) st.memory.held.owners
  unfolding Pages.fault counted Pages.begin_read Pages.serve_zeros Pages.take_record Pages.fault_frame way_of
  fault_owners = by_none (λ t. t.memory.held.owners) is_live? isNone? reading taking serving (set st.memory.held.owners (taken z st s p) (slot_of z i)) st.memory.held.owners refl refl refl

  pub fault_hand : (Pages.fault z st s p).memory.held.pool.hand ≡ if (is_new way) (suc (taken z st s p) % z.records) st.memory.held.pool.hand
  unfolding Pages.fault counted Pages.begin_read Pages.serve_zeros Pages.take_record Pages.fault_frame way_of
  fault_hand = by_none (λ t. t.memory.held.pool.hand) is_live? isNone? reading taking serving (suc (taken z st s p) % z.records) st.memory.held.pool.hand refl refl refl

  pub way_is_live : is_live_way way ≡ is_live?
  unfolding way_of
  way_is_live = live_live is_live? isNone?
