-- Limit, move, read, wire and unwire: nothing that the ledger tells of changes.
use mathlib.Core.Path.{refl}
use mathlib.Core.List.{List}
use Prim.Native.Nat.{ℕ, ◌<◌}
use lib.ListN.{set}
use lib.Seq.{get_or-set_same}
use Rattle.model.specs.declared.frame.Frame.{Frame}
use Rattle.model.specs.declared.sizes.Sizes.{Sizes}
use Rattle.model.specs.declared.event.Account.{Account}
use Rattle.model.specs.declared.event.Account.TheVariants.{Limit, Move}
use Rattle.model.specs.declared.event.Page.TheVariants.{Read, Wire, Unwire}
use Rattle.model.specs.declared.event.Event.{Event}
use Rattle.model.specs.declared.event.Event.TheVariants as Event
use Rattle.model.specs.State.{State, frames, no_frame, frame_at, page_of}
use Rattle.model.specs.Setters.{on_disk, on_core, set_limits, set_frames, set_removal_list, counted}
use Rattle.model.specs.Parts.{frame_of}
use Rattle.model.specs.Accounts
use Rattle.model.specs.Pages
use Rattle.model.specs.Step.{carried}
use Rattle.model.specs.Laws.Fit.{Fit}
use Rattle.model.specs.Ledger.{Ledger, note}
use Rattle.model.specs.Acts.{fed}
use Rattle.invariant.proofs.Stands.{frame_of_holds}
use Rattle.crash.proofs.Link.{Tied}
use Rattle.crash.proofs.Steps.{Step}
use Rattle.crash.proofs.OneFrame.{Alike, one_frame, in_frame_same, other_frame, away_but}

-- the limits and the counts are nothing to the ledger
relimited : (z : Sizes) (st : State) (l : Ledger) (limits : List ℕ) → Tied z st l → Tied z (counted z (on_disk (set_limits limits) st)) l
unfolding counted
relimited z st l limits k = record {
  disk = record { designs = k.disk.designs; listing = k.disk.listing };
  memory = let m = k.memory in record { named = m.named; begun = m.begun; lives = m.lives; alive = m.alive; framed = m.framed; away = m.away; filed = m.filed; kept = m.kept };
}

pub account : (z : Sizes) (e : Account) → Step z (Event.Account e)
unfolding carried fed note Accounts.limit Accounts.move
account z (Limit q n) st l b = relimited z st l _ b.tied
account z (Move g t m) st l b = relimited z st l _ b.tied

-- one frame's used, wired or initial switch, and the removal list
module _ (z : Sizes) (st : State) (l : Ledger) (fit : Fit z st) (k : Tied z st l) (f : ℕ) (hf : f < z.frames) (u b c : ℕ) (list : List ℕ) where
  abbrev old : Frame
  old = frame_at st.memory.core.frames f

  abbrev new : Frame
  new = record { page = old.page; used = u; modified = old.modified; wired = b; initial = c; transfer = old.transfer }

  alike : Alike new old
  alike = record { page = refl; modified = refl; transfer = refl }

  switched : Tied z (on_core (λ x. set_removal_list list (set_frames (set x.frames f new) x)) st) l
  switched = one_frame z st l f new _ _ _ _ _ _ _ k (let m = k.memory in record {
    within = hf;
    stored = get_or-set_same st.memory.core.frames f new no_frame (rw fit.memory.frames hf);
    frames = λ g h e. other_frame st.memory.core.frames f new g e;
    words = λ g n h y e. refl;
    noted = λ g e. refl;
    flag = λ g e. refl;
    write = λ g e. refl;
    others = λ g h e i p. (refl, (λ n. refl, refl));
    here = in_frame_same (m.framed f hf) alike (λ n y. refl) refl refl refl (λ i p. (refl, (refl, (λ n. refl, (refl, λ t. t)))));
    was = λ i h r q e. (q, e);
    live = m.lives;
    alive = m.alive;
    paged = λ i h a. m.away.paged i h (away_but z (frame_at st.memory.core.frames) f i a.0 a.1);
    void = λ i h o a. m.away.void i h o (away_but z (frame_at st.memory.core.frames) f i a.0 a.1);
    asleep = λ i h a n. refl;
    kept = λ i t. (t, λ n. refl);
  })

pub read : (z : Sizes) (s p n : ℕ) → Step z (Event.Page (Read s p n))
unfolding carried fed note Pages.read
read z s p n st l b = let f = frame_of_holds z (frames st) (page_of z s p) b.asked.1.1.1.0 in
    switched z st l b.fit b.tied (frame_of z (frames st) (page_of z s p)) f.0 _ _ _ _

pub wire : (z : Sizes) (s p : ℕ) → Step z (Event.Page (Wire s p))
unfolding carried fed note Pages.wire
wire z s p st l b = let f = frame_of_holds z (frames st) (page_of z s p) b.asked.1.1.1.0 in
    switched z st l b.fit b.tied (frame_of z (frames st) (page_of z s p)) f.0 _ _ _ _

pub unwire : (z : Sizes) (s p : ℕ) → Step z (Event.Page (Unwire s p))
unfolding carried fed note Pages.unwire
unwire z s p st l b = let f = frame_of_holds z (frames st) (page_of z s p) b.asked.1.1.1.0 in
    switched z st l b.fit b.tied (frame_of z (frames st) (page_of z s p)) f.0 _ _ _ _
