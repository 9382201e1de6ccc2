-- A fault's frame: what is left where it takes a copy, and where it finds none.
use mathlib.Core.Path.{◌≡◌, refl, ap, sym, ◌∙◌, subst}
use mathlib.Core.List.{List, []}
use Prim.Native.Nat.{ℕ, suc, ◌<◌, ◌≤◌, pred}
use lib.Dec.{eqb}
use lib.ListN.{length, take, set}
use Rattle.tables.specs.Base.{at, find}
use Rattle.tables.specs.Queue.{push_front}
use Rattle.tables.specs.Rule.{Holds, told, untold}
use Rattle.model.specs.declared.sizes.Sizes.{Sizes}
use Rattle.model.specs.declared.frame.Frame.{Frame}
use Rattle.model.specs.State.{Core, Chip, State, frame_at, READING}
use Rattle.model.specs.Lent.{chip_of}
use Rattle.model.specs.Parts.{set_part, word_at}
use Rattle.model.specs.Pages.{fresh}
use Rattle.model.specs.Writeback.{record_in}
use Rattle.model.specs.Chip.{has_copy, place_of, found, take_copy, arrives}
use Rattle.leaves.specs.FrameLaws.{frame_take, take_frame}
use Rattle.chips.specs.Seen.{seen_take}
use Rattle.chips.proofs.Copies.{place_is, has_copy_holds, no_copy}

module _ (z : Sizes) (fs : List Frame) (ws list ads cws cs : List ℕ) (f : ℕ) (inside : f < z.frames) (long : length cs ≡ z.chip) where
  abbrev st : State
  st = seen_take (take z.frames fs) ws list ads

  abbrev k : Chip
  k = chip_of cws cs []

  abbrev old : Frame
  old = frame_at fs f

  -- what the contract says of the frames, the words and the list
  abbrev Said : Core → List Frame → List ℕ → List ℕ → Type 0
  Said c gs ws' rl' = (take z.frames gs ≡ c.frames) × ((ws' ≡ c.words) × (rl' ≡ c.removal_list))

  pub same_frame : frame_at (take z.frames fs) f ≡ old
  same_frame = frame_take z.frames fs f inside

  none_found : ¬ (Holds (found z k st f)) → Said (arrives z k st f st.memory.core) fs ws list
  unfolding arrives
  none_found n = rw (untold (found z k st f) n) (refl, (refl, refl))

  pub no_read : ¬ (old.transfer ≡ READING) → Said (arrives z k st f st.memory.core) fs ws list
  no_read n = none_found (λ h. n (ap (λ (g : Frame). g.transfer) (sym same_frame) ∙ h.0))

  module _ (r b : ℕ) (is : r ≡ pred (at ads (pred old.page))) (e : b ≡ find (length cs) (λ j. eqb (at cs j) (suc r)) 0) where
    its : r ≡ record_in z st f
    its = is ∙ ap (λ (g : Frame). pred (at ads (pred g.page))) (sym same_frame)

    pub none_there : z.chip ≤ b → Said (arrives z k st f st.memory.core) fs ws list
    none_there h = none_found (λ x. no_copy z k r b long e h (subst (λ (n : ℕ). Holds (has_copy z k n)) (sym its) x.1))

    pub taken : old.transfer ≡ READING → b < z.chip → {gs : List Frame} {ws' rl' : List ℕ} → gs ≡ set fs f (fresh (pred old.page)) → ws' ≡ set_part z f (word_at z cws b) ws → rl' ≡ push_front list f
        → Said (arrives z k st f st.memory.core) gs ws' rl'
    unfolding arrives take_copy
    taken t h a w q =
        let p : b ≡ place_of z k (record_in z st f) = place_is z k r b long e ∙ ap (place_of z k) its in
        rw (told (found z k st f) (ap (λ (g : Frame). g.transfer) same_frame ∙ t, subst (λ (n : ℕ). Holds (has_copy z k n)) its (has_copy_holds z k r b long e h))) (
          ap (take z.frames) a ∙ take_frame z.frames fs f (fresh (pred old.page)) ∙ ap (λ (g : Frame). set (take z.frames fs) f (fresh (pred g.page))) (sym same_frame),
          (w ∙ ap (λ (n : ℕ). set_part z f (word_at z cws n) ws) p, q),
        )
