-- The loop that makes the slot's leaving records free: its four tables and numbers after the turns below r.
use mathlib.Core.Path.{◌≡◌, refl, ap, sym, ◌∙◌}
use mathlib.Core.List.{List}
use Prim.Native.Nat.{ℕ, zero, suc, ◌+◌, ◌-◌, ◌<◌, ◌≤◌}
use native.Mathlib.Numerals.{add-one}
use native.Mathlib.Omega.{arith}
use lib.ListN.{length, set, length-set}
use Rattle.tables.specs.Base.{at}
use Rattle.tables.specs.StoreLoops.{turned_none, turned_by, turn_on, turn_off, turned_all, turned_at}
use Rattle.model.specs.declared.sizes.Sizes.{Sizes}
use Rattle.model.specs.Lines.{FREE, LEAVING}
use Rattle.model.specs.State.{free_count}
use Rattle.leaves.specs.FreeMap.{free_map_table}
use Rattle.leaves.specs.Freed.{MapFits, Freeing, Freed, leaver_of, count_freed}

pub begun : (z : Sizes) (s : ℕ) (states owners map : List ℕ) (n : ℕ) → MapFits z states map → n ≡ free_count z (at states) → Freeing z s states owners 0 states owners map n
begun z s states owners map n f e = record {
  the_states = turned_none states (leaver_of states owners s) (λ k. FREE) 0 (λ i h. omega arith);
  the_owners = turned_none owners (leaver_of states owners s) (λ k. 0) 0 (λ i h. omega arith);
  fits = f;
  the_count = e;
}

-- the map fits once the record is free, and where nothing changed
pub fits_freed : {z : Sizes} {map states' map' : List ℕ} (states : List ℕ) (r : ℕ) → MapFits z states map → states' ≡ set states r FREE → map' ≡ free_map_table z (at states') → MapFits z states' map'
fits_freed states r f es em = record { states_long = ap length es ∙ length-set states r FREE ∙ f.states_long; told = em }

pub fits_same : {z : Sizes} {states map states' map' : List ℕ} → MapFits z states map → states' ≡ states → map' ≡ map → MapFits z states' map'
fits_same {z} f es em = record { states_long = ap length es ∙ f.states_long; told = em ∙ f.told ∙ ap (λ (l : List ℕ). free_map_table z (at l)) (sym es) }

module _ {z : Sizes} {s : ℕ} {states₀ owners₀ : List ℕ} {states owners map : List ℕ} {n : ℕ} (r : ℕ) (d : Freeing z s states₀ owners₀ r states owners map n) where
  old_state : at states r ≡ at states₀ r
  old_state = turned_at r d.the_states r (omega arith)

  old_owner : at owners r ≡ at owners₀ r
  old_owner = turned_at r d.the_owners r (omega arith)

  -- a record that is made free
  pub freed : {states' owners' map' : List ℕ} {n' : ℕ} → r < z.records → length owners₀ ≡ z.records → at states r ≡ LEAVING → at owners r ≡ s
      → states' ≡ set states r FREE → owners' ≡ set owners r 0 → map' ≡ free_map_table z (at states') → n' ≡ n + 1 → Freeing z s states₀ owners₀ (r + 1) states' owners' map' n'
  freed h len e o es eo em en =
      let long : length states ≡ z.records = d.fits.states_long in
      let leaves : (at states₀ r ≡ LEAVING) × (at owners₀ r ≡ s) = (sym old_state ∙ e, sym old_owner ∙ o) in
      record {
        the_states = turned_by _ es (turn_on r d.the_states (omega (arith, d.the_states.long)) leaves FREE refl);
        the_owners = turned_by _ eo (turn_on r d.the_owners (omega arith) leaves 0 refl);
        fits = fits_freed states r d.fits es em;
        the_count = en ∙ add-one n ∙ ap suc d.the_count ∙ sym (count_freed z states map d.fits r h (λ q. omega (arith, sym e ∙ q))) ∙ ap (λ (l : List ℕ). free_count z (at l)) (sym es);
      }

  -- one that is not
  pub passed : {states' owners' map' : List ℕ} {n' : ℕ} → (at states r ≡ LEAVING → at owners r ≡ s → ⊥)
      → states' ≡ states → owners' ≡ owners → map' ≡ map → n' ≡ n → Freeing z s states₀ owners₀ (r + 1) states' owners' map' n'
  passed no-leaver es eo em en =
      let stays : ¬ ((at states₀ r ≡ LEAVING) × (at owners₀ r ≡ s)) = λ h. no-leaver (old_state ∙ h.0) (old_owner ∙ h.1) in
      record {
        the_states = turned_by _ es (turn_off r d.the_states stays);
        the_owners = turned_by _ eo (turn_off r d.the_owners stays);
        fits = fits_same d.fits es em;
        the_count = en ∙ d.the_count ∙ ap (λ (l : List ℕ). free_count z (at l)) (sym es);
      }

  pub ended : length states₀ ≤ r → length owners₀ ≤ r → Freed z s states₀ owners₀ states owners map n
  ended h l = record {
    the_states = turned_all r d.the_states (λ i a b. omega arith);
    the_owners = turned_all r d.the_owners (λ i a b. omega arith);
    the_map = d.fits.told;
    the_count = d.the_count;
  }

-- no record from r up to e leaves: all of them are passed
passed_some : {z : Sizes} {s : ℕ} {states₀ owners₀ states owners map : List ℕ} {n : ℕ} (m r : ℕ) → Freeing z s states₀ owners₀ r states owners map n → ((k : ℕ) → r ≤ k → k < r + m → at states k ≡ LEAVING → at owners k ≡ s → ⊥) → Freeing z s states₀ owners₀ (r + m) states owners map n
passed_some zero r d none = let e : r ≡ r + 0 = omega arith in rw (← e) d
passed_some (suc m) r d none =
    let e : r + 1 + m ≡ r + suc m = omega arith in
    rw (← e) (passed_some m (r + 1) (passed r d (none r (omega arith) (omega arith)) refl refl refl refl) (λ k h l. none k (omega arith) (omega arith)))

pub passed_to : {z : Sizes} {s : ℕ} {states₀ owners₀ states owners map : List ℕ} {n : ℕ} (r e : ℕ) → r ≤ e → Freeing z s states₀ owners₀ r states owners map n → ((k : ℕ) → r ≤ k → k < e → at states k ≡ LEAVING → at owners k ≡ s → ⊥) → Freeing z s states₀ owners₀ e states owners map n
passed_to r e h d none = let q : r + (e - r) ≡ e = omega arith in rw q at (passed_some (e - r) r d (λ k a b. none k a (omega arith)))
