-- What landed at a cut, and an update's end, noted by two ledgers: what they tell stays alike.
use mathlib.Core.Path.{◌≡◌, refl, sym, ◌∙◌, subst₂}
use mathlib.Core.Bool.{Bool, true, false}
use mathlib.Core.List.{◌∷◌}
use Prim.Native.Nat.{ℕ, zero, suc}
use lib.Dec.{eqb}
use Rattle.tables.specs.Base.{at, if}
use Rattle.model.specs.declared.sizes.Sizes.{Sizes}
use Rattle.model.specs.Ledger
use Rattle.model.specs.Ledger.{Ledger, note, put, finish_write, finish_update, strike_update, finish_writes, finish_updates}
use Rattle.isolation.proofs.Told.{Told, told, ToldLike}
use Rattle.isolation.proofs.Ledgers.{finish_like, lost_like}

module _ (z : Sizes) (hidden : ℕ) where
  writes_like : (n : ℕ) (lands : ℕ → Bool) (l l' : Ledger) → ToldLike z hidden (told l) (told l') → ToldLike z hidden (told (finish_writes n lands l)) (told (finish_writes n lands l'))
  unfolding finish_writes
  writes_like zero lands l l' a = a
  writes_like (suc f) lands l l' a = go (lands f) (writes_like f lands l l' a)
    where
      go : (b : Bool) → (let x = finish_writes f lands l in let y = finish_writes f lands l' in ToldLike z hidden (told x) (told y) → ToldLike z hidden (told (if b (finish_write f x) x)) (told (if b (finish_write f y) y)))
      go true i = finish_like z hidden (finish_writes f lands l) (finish_writes f lands l') i f
      go false i = i

  -- an update is nothing to what is told here
  update_told : (s : ℕ) (l : Ledger) → told (finish_update s l) ≡ told l
  unfolding finish_update
  update_told s l = go (l.pending.updating s)
    where
      go : (b : Bool) → told (if b (Ledger.set_stored (l.pending.update s ∷ l.stored) (Ledger.set_update (put l.pending.updating s false) l.pending.update l)) l) ≡ told l
      go true = refl
      go false = refl

  updates_told : (n : ℕ) (lands : ℕ → Bool) (l : Ledger) → told (finish_updates n lands l) ≡ told l
  unfolding finish_updates
  updates_told zero lands l = refl
  updates_told (suc s) lands l = go (lands s) (updates_told s lands l)
    where
      go : (b : Bool) → told (finish_updates s lands l) ≡ told l → told (if b (finish_update s (finish_updates s lands l)) (finish_updates s lands l)) ≡ told l
      go true e = update_told s (finish_updates s lands l) ∙ e
      go false e = e

  pub cut_like : (writes updates : ℕ → Bool) (l l' : Ledger) → ToldLike z hidden (told l) (told l') → ToldLike z hidden (told (note z l (Ledger.cut writes updates))) (told (note z l' (Ledger.cut writes updates)))
  unfolding note
  cut_like writes updates l l' a =
      let x = finish_writes z.frames writes l in let y = finish_writes z.frames writes l' in
      lost_like z hidden (finish_updates z.slots updates x) (finish_updates z.slots updates y)
      (subst₂ (λ (p q : Told). ToldLike z hidden p q) (sym (updates_told z.slots updates x)) (sym (updates_told z.slots updates y)) (writes_like z.frames writes l l' a))

  pub map_end_like : (s good : ℕ) (l l' : Ledger) → ToldLike z hidden (told l) (told l') → ToldLike z hidden (told (note z l (Ledger.map_end s good))) (told (note z l' (Ledger.map_end s good)))
  unfolding note strike_update
  map_end_like s good l l' a = go (eqb good 1)
    where
      go : (b : Bool) → ToldLike z hidden (told (if b (finish_update s l) (strike_update s l))) (told (if b (finish_update s l') (strike_update s l')))
      go true = subst₂ (λ (p q : Told). ToldLike z hidden p q) (sym (update_told s l)) (sym (update_told s l')) a
      go false = a
