-- The keeper's lists of acts: one after another, and those that have no cut.
use mathlib.Core.Path.{◌≡◌, refl, ap, ◌∙◌}
use mathlib.Core.Bool.{Bool, true, false}
use mathlib.Core.List.{List, [], ◌∷◌, ◌++◌}
use Prim.Native.Nat.{ℕ, zero, suc}
use lib.Dec.{T}
use Rattle.tables.specs.Base.{if}
use Rattle.tables.specs.Laws.{and_left, and_right, and_intro}
use Rattle.tables.specs.Rule.{Holds, complete}
use Rattle.model.specs.declared.sizes.Sizes.{Sizes}
use Rattle.model.specs.State.{Disk, Memory, State, frames}
use Rattle.model.specs.Step.{memory_lengths}
use Rattle.model.specs.Acts.{Act, event, looking, importing, exporting, restarting, cutting, cutting_in, World, land_writes, land_updates, landed, act, allowed, legal, run}
use Rattle.board.specs.Calls.{left_by}
use Rattle.board.specs.Board.{may_call, may_join, left_after, up_after, cut_only}

module _ (z : Sizes) where
  -- ── lists one after another ──
  pub run_after : (w : World) (xs ys : List Act) → run z w (xs ++ ys) ≡ run z (run z w xs) ys
  unfolding run
  run_after w [] ys = refl
  run_after w (a ∷ xs) ys = run_after (act z w a) xs ys

  pub legal_after : (w : World) (xs ys : List Act) → T (legal z w xs) → T (legal z (run z w xs) ys) → T (legal z w (xs ++ ys))
  unfolding run legal
  legal_after w [] ys t u = u
  legal_after w (a ∷ xs) ys t u = and_intro (allowed z w a) (legal z (act z w a) (xs ++ ys)) (and_left (allowed z w a) (legal z (act z w a) xs) t) (legal_after (act z w a) xs ys (and_right (allowed z w a) (legal z (act z w a) xs) t) u)

  pub legal_one : (w : World) (a : Act) → T (allowed z w a) → T (legal z w (a ∷ []))
  unfolding legal
  legal_one w a t = and_intro (allowed z w a) true t tt

  -- ── calls: what they leave ──
  pub call_left : (w : World) (a : Act) → T (may_call w.up a) → ((act z w a).state ≡ left_by z w.state a) × ((act z w a).up ≡ up_after z w.state w.up (a ∷ [])) × T (allowed z w a)
  unfolding act left_by up_after allowed
  call_left w (event e) t = (refl, refl, t)
  call_left w (looking s p) t = (refl, refl, t)
  call_left w (importing s q n b) t = (refl, refl, t)
  call_left w (exporting s buffer) t = (refl, refl, t)
  call_left w restarting t = (refl, refl, tt)
  call_left w (cutting writes updates junk) t = absurd t
  call_left w (cutting_in c k writes updates junk) t = absurd t

  -- events that share an entry
  pub joined_left : (acts : List Act) (w : World) → T (may_join w.up acts) → ((run z w acts).state ≡ left_after z w.state acts) × ((run z w acts).up ≡ up_after z w.state w.up acts) × T (legal z w acts)
  unfolding run act left_by left_after up_after legal allowed
  joined_left [] w t = (refl, refl, tt)
  joined_left (event e ∷ acts) w t = let r = joined_left acts (act z w (event e)) t in (r.0, r.1, and_intro w.up (legal z (act z w (event e)) acts) (joined_up acts w.up t) r.2)
    where
      joined_up : (xs : List Act) (up : Bool) → T (may_join up xs) → T up
      joined_up [] up u = u
      joined_up (event x ∷ xs) up u = joined_up xs up u
      joined_up (looking s p ∷ xs) up u = absurd u
      joined_up (importing s q n b ∷ xs) up u = absurd u
      joined_up (exporting s buffer ∷ xs) up u = absurd u
      joined_up (restarting ∷ xs) up u = absurd u
      joined_up (cutting writes updates junk ∷ xs) up u = absurd u
      joined_up (cutting_in c k writes updates junk ∷ xs) up u = absurd u
  joined_left (looking s p ∷ acts) w t = absurd t
  joined_left (importing s q n b ∷ acts) w t = absurd t
  joined_left (exporting s buffer ∷ acts) w t = absurd t
  joined_left (restarting ∷ acts) w t = absurd t
  joined_left (cutting writes updates junk ∷ acts) w t = absurd t
  joined_left (cutting_in c k writes updates junk ∷ acts) w t = absurd t

  -- ── a cut at which nothing lands ──
  no_writes : (st : State) (n : ℕ) (d : Disk) → land_writes z st (λ i. false) n d ≡ d
  unfolding land_writes
  no_writes st zero d = refl
  no_writes st (suc n) d = no_writes st n d

  no_updates : (st : State) (n : ℕ) (d : Disk) → land_updates z st (λ i. false) n d ≡ d
  unfolding land_updates
  no_updates st zero d = refl
  no_updates st (suc n) d = no_updates st n d

  pub nothing_lands : (st : State) → landed z st (λ i. false) (λ i. false) ≡ st.disk
  unfolding landed
  nothing_lands st = no_updates st z.slots (land_writes z st (λ i. false) z.frames st.disk) ∙ no_writes st z.frames st.disk

  -- the tables after it: the disk part as it was, and the memory that the cut left
  pub cut_left : (w : World) (junk : Memory) → ((act z w (cut_only junk)).state ≡ record { disk = w.state.disk; memory = junk }) × ((act z w (cut_only junk)).up ≡ false)
  unfolding act
  cut_left w junk = (ap (λ (d : Disk). record { disk = d; memory = junk }) (go w.up), refl)
    where
      go : (b : Bool) → if b (landed z w.state (λ i. false) (λ i. false)) w.state.disk ≡ w.state.disk
      go true = nothing_lands w.state
      go false = refl

  pub cut_allowed : (w : World) (junk : Memory) → Holds (memory_lengths z junk) → T (allowed z w (cut_only junk))
  unfolding allowed
  cut_allowed w junk h = complete (memory_lengths z junk) h
