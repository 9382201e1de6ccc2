-- The pass that cuts off the pages of a slot from page k up: each turn counts a live address, releases the record that it names, where it names one, and leaves address 0.
use mathlib.Core.Path.{◌≡◌, refl, ap, sym, ◌∙◌}
use mathlib.Core.Bool.{Bool, true, false, ◌&&◌}
use mathlib.Core.Logic.{◌⊎◌, inl, inr}
use mathlib.Core.List.{List}
use Prim.Native.Nat.{ℕ, suc, ◌+◌, ◌-◌, ◌*◌, ◌/◌, ◌%◌, ◌<◌, ◌≤◌}
use native.Mathlib.Omega.{arith}
use lib.Dec.{T, leb}
use lib.ListN.{length, set}
use lib.Seq.{set-get_or}
use Rattle.tables.specs.Base.{at, count}
use Rattle.tables.specs.Rule.{Rule, Holds, same, below, non, some, ◌and◌, test, told, untold}
use Rattle.tables.specs.Store.{store}
use Rattle.tables.specs.StoreLoops.{Turned, turned_none, turn_on, turned_by, turned_all, turned_at, from_inside, inside_from}
use Rattle.tables.specs.StoreNamed.{Named, named_by, named_none, named_on, named_off, named_at, named_all}
use Rattle.model.specs.declared.sizes.Sizes.{Sizes}
use Rattle.model.specs.Lines.{LIVE, RELEASED, allowed}
use Rattle.model.specs.State.{all_pages}
use Rattle.model.specs.Parts.{from_page}
use Rattle.writeback.specs.Truncate.{Releasing}
use Rattle.writeback.specs.Pages.{live, live_from}
use Rattle.writeback.proofs.Cut.{none_below, one_more, one_not}

-- a page of the slot from k up
abbrev pub cut : ℕ → ℕ → ℕ → ℕ → Rule
cut pages s k i = same (i / pages) s and non (below (i % pages) k)

-- page p of the slot has a live address
abbrev lives : ℕ → ℕ → List ℕ → List ℕ → ℕ → Bool
lives pages s ads ss p = test (live ads ss (s * pages + p))

-- the lists and the number that the turns below page i leave
pub record PagesTurn (pages s k : ℕ) (ads₀ ss₀ : List ℕ) (i : ℕ) (ads ss : List ℕ) (n : ℕ) : Type 0 where
  pub few : n ≤ i
  pub counted : n ≡ count (i - s * pages) (λ p. leb k p && lives pages s ads₀ ss₀ p)
  pub turned : Turned ads₀ (cut pages s k) (λ j. 0) i ads
  pub named : Named ss₀ (length ads₀) (cut pages s k) ads₀ (λ r. RELEASED) i ss

module _ {z : Sizes} {s k : ℕ} {ads₀ ss₀ : List ℕ} (ready : Releasing z s k ss₀ ads₀) where
  pub pass_starts : PagesTurn z.pages s k ads₀ ss₀ (s * z.pages + k) ads₀ ss₀ 0
  pass_starts = record {
    few = omega arith;
    counted = let e : k ≡ s * z.pages + k - s * z.pages = omega arith in sym (none_below k (lives z.pages s ads₀ ss₀)) ∙ ap (λ (m : ℕ). count m (λ p. leb k p && lives z.pages s ads₀ ss₀ p)) e;
    turned = turned_none _ _ _ _ (λ i h. omega (arith, from_inside z.pages s ready.pages_some k i h));
    named = named_none _ _ _ _ _ _ (λ i h. omega (arith, from_inside z.pages s ready.pages_some k i h));
  }

  -- ── one turn ──
  module _ {i n : ℕ} {ads ss : List ℕ} (t : PagesTurn z.pages s k ads₀ ss₀ i ads ss n) (from : s * z.pages + k ≤ i) (l : i < s * z.pages + z.pages) where
    its : Holds (cut z.pages s k i)
    its = inside_from z.pages s ready.pages_some k i (λ b. omega arith, l)

    within : i < length ads₀
    within = omega (arith, ready.inside, ready.addresses_long)

    address_same : at ads i ≡ at ads₀ i
    address_same = turned_at i t.turned i (omega arith)

    -- the page's place in its slot
    abbrev p : ℕ
    p = i - s * z.pages

    up : k ≤ p
    up = omega arith

    its_page : s * z.pages + p ≡ i
    its_page = omega arith

    -- the pages counted after the turn
    next : {m : ℕ} → m ≡ count (p + 1) (λ q. leb k q && lives z.pages s ads₀ ss₀ q) → m ≡ count (i + 1 - s * z.pages) (λ q. leb k q && lives z.pages s ads₀ ss₀ q)
    next e = let q : p + 1 ≡ i + 1 - s * z.pages = omega arith in e ∙ ap (λ (m : ℕ). count m (λ q. leb k q && lives z.pages s ads₀ ss₀ q)) q

    counts : lives z.pages s ads₀ ss₀ p ≡ true → n + 1 ≡ count (i + 1 - s * z.pages) (λ q. leb k q && lives z.pages s ads₀ ss₀ q)
    counts y = next (one_more k (lives z.pages s ads₀ ss₀) up t.counted refl y)

    passes : lives z.pages s ads₀ ss₀ p ≡ false → n ≡ count (i + 1 - s * z.pages) (λ q. leb k q && lives z.pages s ads₀ ss₀ q)
    passes y = next (one_not k (lives z.pages s ads₀ ss₀) up t.counted refl y)

    module _ (d : ¬ (at ads i ≡ 0)) where
      abbrev r : ℕ
      r = at ads i - 1

      entry : at ads₀ i ≡ suc r
      entry = omega (arith, address_same, d)

      unmet : at ss r ≡ at ss₀ r
      unmet = named_at i t.named r (λ j b u lt q. omega (arith, ready.held_once_holds j (omega (arith, ready.addresses_long)) i (omega (arith, ready.inside)) r q entry))

      pub may_release : T (allowed (at ss r) RELEASED)
      may_release = rw unmet (ready.along i r its entry).1

      entry_there : at ads₀ (s * z.pages + p) ≡ suc r
      entry_there = ap (at ads₀) its_page ∙ entry

      counted_on : {x m : ℕ} → x ≡ at ss r → ((x ≡ LIVE) × (m ≡ n + 1)) ⊎ ((¬ (x ≡ LIVE)) × (m ≡ n)) → m ≡ count (i + 1 - s * z.pages) (λ q. leb k q && lives z.pages s ads₀ ss₀ q)
      counted_on e c = elim c [
        | inl y ↦ y.1 ∙ counts (told (live ads₀ ss₀ (s * z.pages + p)) (r, entry_there, sym unmet ∙ sym e ∙ y.0))
        | inr y ↦ y.1 ∙ passes (untold (live ads₀ ss₀ (s * z.pages + p)) (λ h. y.0 (e ∙ unmet ∙ ap (at ss₀) (omega (arith, entry_there, h.1)) ∙ h.2)))
      ]

      -- .. at a page that has an address
      pub turn_cuts : {x m : ℕ} → x ≡ at ss r → ((x ≡ LIVE) × (m ≡ n + 1)) ⊎ ((¬ (x ≡ LIVE)) × (m ≡ n)) → {ads' ss' : List ℕ} → ads' ≡ set ads i 0 → ss' ≡ set ss r RELEASED
          → PagesTurn z.pages s k ads₀ ss₀ (i + 1) ads' ss' m
      turn_cuts e c x y = record {
        few = elim c [ inl v ↦ omega (arith, v.1, t.few) | inr v ↦ omega (arith, v.1, t.few) ];
        counted = counted_on e c;
        turned = turned_by (i + 1) x (turn_on i t.turned within its 0 refl);
        named = named_on i t.named within its r entry (ready.along i r its entry).0 RELEASED refl y;
      }

    -- .. at one that has none
    pub turn_leaves : at ads i ≡ 0 → {ads' ss' : List ℕ} {m : ℕ} → ads' ≡ ads → ss' ≡ ss → m ≡ n → PagesTurn z.pages s k ads₀ ss₀ (i + 1) ads' ss' m
    turn_leaves e x y w = record {
      few = omega (arith, w, t.few);
      counted = w ∙ passes (untold (live ads₀ ss₀ (s * z.pages + p)) (λ h. omega (arith, ap (at ads₀) its_page, h.1, address_same, e)));
      turned = turned_by (i + 1) (x ∙ sym (ap (set ads i) (sym e) ∙ set-get_or ads i 0)) (turn_on i t.turned within its 0 refl);
      named = named_off i t.named (λ u. sym address_same ∙ e) y;
    }

  -- ── the last turn is over ──
  module _ {i n : ℕ} {ads ss : List ℕ} (t : PagesTurn z.pages s k ads₀ ss₀ i ads ss n) (to : i ≤ s * z.pages + z.pages) (l : ¬ (i < s * z.pages + z.pages)) where
    last : (j : ℕ) → Holds (cut z.pages s k j) → j < i
    last j u = omega (arith, from_inside z.pages s ready.pages_some k j u)

    pub all_counted : n ≡ live_from z.pages s k ads₀ ss₀
    all_counted = let e : i - s * z.pages ≡ z.pages = omega arith in t.counted ∙ ap (λ (m : ℕ). count m (λ q. leb k q && lives z.pages s ads₀ ss₀ q)) e

    pub all_released : ss ≡ store ss₀ (λ r. some (all_pages z) λ j. from_page z s k j and same (at ads₀ j) (suc r)) (λ r. RELEASED)
    all_released = named_all i t.named (λ j b u. last j u) ∙ ap (λ (m : ℕ). store ss₀ (named_by m (cut z.pages s k) ads₀) (λ r. RELEASED)) ready.addresses_long

    pub all_cleared : ads ≡ store ads₀ (cut z.pages s k) (λ j. 0)
    all_cleared = turned_all i t.turned (λ j b u. last j u)
