-- The stores of an event on both boards: each leaves the same tables on disks with the same tables, so any number of them does.
use mathlib.Core.Path.{◌≡◌, ap}
use mathlib.Core.Bool.{Bool, true, false}
use mathlib.Core.List.{List, [], ◌∷◌}
use Prim.Native.Nat.{ℕ, zero, suc}
use lib.Dec.{eqb}
use lib.ListN.{set}
use Rattle.tables.specs.Base.{if}
use Rattle.model.specs.declared.sizes.Sizes.{Sizes}
use Rattle.model.specs.declared.event.Design.TheVariants.{Create, Delete, Activate, Deactivate}
use Rattle.model.specs.declared.event.Account.TheVariants.{Limit, Move}
use Rattle.model.specs.declared.event.Writeback.TheVariants.{Claim, Truncate, Update, PageDone, MapDone}
use Rattle.model.specs.declared.event.Event.{Event}
use Rattle.model.specs.declared.event.Event.TheVariants as Event
use Rattle.model.specs.State.{Disk, State, frames, READING}
use Rattle.model.specs.Setters.{set_numbers, set_accounts, set_limits, raise}
use Rattle.model.specs.Accounts.{shifted}
use Rattle.model.specs.Writeback.{store_frame, store_image}
use Rattle.model.specs.Stores as S
use Rattle.model.specs.Stores.{stores, by_answer, first}
use Rattle.isolation.specs.Words.{bare_disk}
use Rattle.isolation.proofs.Reworded.{reworded}

abbrev Kept : (Disk → Disk) → (Disk → Disk) → Type 0
Kept f g = (d d' : Disk) → bare_disk d ≡ bare_disk d' → bare_disk (f d) ≡ bare_disk (g d')

-- store by store
abbrev pub AllKept : List (Disk → Disk) → List (Disk → Disk) → Type 0
AllKept [] [] = Unit {0}
AllKept [] (g ∷ gs) = ⊥
AllKept (f ∷ fs) [] = ⊥
AllKept (f ∷ fs) (g ∷ gs) = Kept f g × AllKept fs gs

pub first_bare : (k : ℕ) (fs gs : List (Disk → Disk)) (d d' : Disk) → AllKept fs gs → bare_disk d ≡ bare_disk d' → bare_disk (first k fs d) ≡ bare_disk (first k gs d')
unfolding first
first_bare zero fs gs d d' a e = e
first_bare (suc k) [] [] d d' a e = e
first_bare (suc k) [] (g ∷ gs) d d' a e = absurd a
first_bare (suc k) (f ∷ fs) [] d d' a e = absurd a
first_bare (suc k) (f ∷ fs) (g ∷ gs) d d' a e = first_bare k fs gs (f d) (g d') a.1 (a.0 d d' e)

-- a refused event has none
pub answered_kept : (n : ℕ) (fs gs : List (Disk → Disk)) → AllKept fs gs → AllKept (by_answer n fs) (by_answer n gs)
answered_kept zero fs gs a = a
answered_kept (suc n) fs gs a = tt

module _ (z : Sizes) (st : State) (rs ws ks : List ℕ) where
  abbrev st' : State
  st' = reworded st rs ws ks

  done_kept : (f : ℕ) (a b : Bool) → AllKept (if a [] (if b (store_frame z st f ∷ []) [])) (if a [] (if b (store_frame z st' f ∷ []) []))
  unfolding store_frame
  done_kept f true b = tt
  done_kept f false true = (λ d d' e. e, tt)
  done_kept f false false = tt

  map_kept : (s : ℕ) (b : Bool) → AllKept (if b (store_image z st s ∷ []) []) (if b (store_image z st' s ∷ []) [])
  unfolding store_image
  map_kept s true = (λ d d' e. ap (λ (x : Disk). bare_disk (store_image z st s x)) e, tt)
  map_kept s false = tt

  pub stores_kept : (e : Event) → AllKept (stores z st (S.event e)) (stores z st' (S.event e))
  unfolding stores
  stores_kept (Event.Design (Create s q n)) = (λ d d' e x. bare_disk (raise n (e x)), (λ d d' e x. bare_disk (set_numbers (set (e x).numbers s n) (set_accounts (set (e x).accounts s q) (e x))), tt))
  stores_kept (Event.Design (Delete s)) = (λ d d' e x. bare_disk (set_numbers (set (e x).numbers s 0) (set_accounts (set (e x).accounts s 0) (e x))), tt)
  stores_kept (Event.Design (Activate s)) = tt
  stores_kept (Event.Design (Deactivate s)) = tt
  stores_kept (Event.Account (Limit q n)) = (λ d d' e x. bare_disk (set_limits (set (e x).limits q n) (e x)), tt)
  stores_kept (Event.Account (Move g t m)) = (λ d d' e x. bare_disk (set_limits (shifted (e x).limits g t m) (e x)), tt)
  stores_kept (Event.Page e) = tt
  stores_kept (Event.Writeback Claim) = tt
  stores_kept (Event.Writeback (Truncate s k)) = tt
  stores_kept (Event.Writeback (Update s)) = tt
  stores_kept (Event.Writeback (PageDone f good)) = done_kept f (eqb ((frames st).frame f).transfer READING) (eqb good 1)
  stores_kept (Event.Writeback (MapDone s good)) = map_kept s (eqb good 1)
  stores_kept (Event.Waiting e) = tt
