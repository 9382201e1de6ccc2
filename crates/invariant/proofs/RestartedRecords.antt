-- Format and restart: a formatted disk keeps the disk rules; a restart makes the rules of pages, records and slots true from the disk rules alone.
use mathlib.Core.Path.{◌≡◌, refl, ap, sym, ◌∙◌, subst}
use mathlib.Core.Bool.{Bool, true, false}
use mathlib.Core.Logic.{◌⊎◌, inl, inr}
use mathlib.Core.List.{List}
use Prim.Native.Nat.{ℕ, zero, suc, ◌<◌}
use native.Mathlib.Omega.{arith}
use lib.Dec.{eqb, eqb→eq}
use lib.ListN.{replicate}
use Rattle.tables.specs.Base.{at, if, find}
use Rattle.tables.specs.Laws.{at_tab0, if_no, any_intro, any_elim, found, Found, eq→T}
use Rattle.tables.specs.Rule.{Holds}
use Rattle.model.specs.declared.sizes.Sizes.{Sizes}
use Rattle.model.specs.Lines.{FREE, FILED, NULLED, LIVE, LEAVING}
use Rattle.model.specs.State.{Memory, State, Files, files, all_pages, slot_of}
use Rattle.model.specs.Setters.{counted}
use Rattle.model.specs.Restart.{formatted, is_listed, listed_at, restarted}
use Rattle.model.specs.Rules
use Rattle.model.specs.Laws.Ruled.{OnDisk}
use Rattle.model.specs.Laws.Fit.{Within}
use Rattle.model.specs.Laws.Index.{slot_below}
use Rattle.invariant.proofs.Records.{disk_alone, Kept}

pub zero_at : (n i : ℕ) → at (replicate n 0) i ≡ 0
zero_at zero i = refl
zero_at (suc n) zero = refl
zero_at (suc n) (suc i) = zero_at n i

-- Format zeroes all of the disk part but the parents, and those that it takes are lower; the memory may hold anything.
pub format_disk : (z : Sizes) → Within z → (parents : List ℕ) → Holds (Rules.lower z.accounts (at parents)) → (m : Memory) → OnDisk z (files (record { disk = formatted z parents; memory = m }))
unfolding formatted
format_disk z w parents low m = record {
  empty_account_holds = λ s h e. zero_at z.slots s;
  empty_map_holds = λ i h e. zero_at (all_pages z) i;
  map_fit_holds = λ i h r p. absurd (omega (arith, p, zero_at (all_pages z) i));
  map_once_holds = λ i hi j hj r p q. absurd (omega (arith, p, zero_at (all_pages z) i));
  number_once_holds = λ i hi j hj r p q. absurd (omega (arith, p, zero_at z.slots i));
  account_fit_holds = λ s h. omega (arith, zero_at z.slots s, w.accounts);
  parent_lower_holds = λ a h p. subst (λ (n : ℕ). n < a) (sym (at_tab0 z.accounts (λ b. if (eqb b 0) 0 (at parents b)) a 0 h ∙ if_no a 0 0 (at parents a) (λ e. omega (arith, p, e)))) (low a h p);
}

module _ (z : Sizes) (w : Within z) (st : State) (d : OnDisk z (files st)) where
  abbrev v : Files
  v = files st

  abbrev v' : Files
  v' = files (restarted z st.disk)

  -- a listed record is filed, in the slot that lists it; another is free
  pub record Filed (r : ℕ) : Type 0 where
    pub page : ℕ
    pub inside : page < all_pages z
    pub lists : v.map page ≡ suc r
    pub state : v'.state r ≡ FILED
    pub owner : v'.owner r ≡ slot_of z page

  pub record Unlisted (r : ℕ) : Type 0 where
    pub none : (i : ℕ) → i < all_pages z → ¬ (v.map i ≡ suc r)
    pub state : v'.state r ≡ FREE
    pub owner : v'.owner r ≡ 0

  pub sorted : (r : ℕ) → r < z.records → Filed r ⊎ Unlisted r
  unfolding restarted counted is_listed listed_at
  sorted r h = go (is_listed z st.disk r) refl
    where
      lists : ℕ → Bool
      lists i = eqb (at st.disk.maps i) (suc r)

      state : v'.state r ≡ if (is_listed z st.disk r) FILED FREE
      state = at_tab0 z.records (λ q. if (is_listed z st.disk q) FILED FREE) r 0 h

      owner : v'.owner r ≡ if (is_listed z st.disk r) (slot_of z (listed_at z st.disk r)) 0
      owner = at_tab0 z.records (λ q. if (is_listed z st.disk q) (slot_of z (listed_at z st.disk q)) 0) r 0 h

      go : (b : Bool) → is_listed z st.disk r ≡ b → Filed r ⊎ Unlisted r
      go true e =
          let i = any_elim (all_pages z) lists (rw e tt) in
          let g : Found (all_pages z) lists 0 (find (all_pages z) lists 0) = found (all_pages z) lists 0 i.0 (omega arith) (omega (arith, i.1)) i.2 in
          inl (record {
            page = listed_at z st.disk r;
            inside = omega (arith, g.inside);
            lists = eqb→eq _ (suc r) g.passes;
            state = state ∙ ap (λ (b : Bool). if b FILED FREE) e;
            owner = owner ∙ ap (λ (b : Bool). if b (slot_of z (listed_at z st.disk r)) 0) e;
          })
      go false e = inr (record {
        none = λ i k p. rw e at (any_intro (all_pages z) lists i k (eq→T p));
        state = state ∙ ap (λ (b : Bool). if b FILED FREE) e;
        owner = owner ∙ ap (λ (b : Bool). if b (slot_of z (listed_at z st.disk r)) 0) e;
      })

  -- no record is in another state
  neither : (r y : ℕ) → r < z.records → v'.state r ≡ y → ¬ (y ≡ FREE) → ¬ (y ≡ FILED) → ⊥
  neither r y h e a b = elim (sorted r h) [ inl t ↦ b (sym e ∙ t.state) | inr t ↦ a (sym e ∙ t.state) ]

  -- no page has an address, no slot is active or in an update, no image lists anything
  no_address : (i : ℕ) → v'.address i ≡ 0
  unfolding restarted counted
  no_address i = zero_at (all_pages z) i

  no_image : (i : ℕ) → v'.image i ≡ 0
  unfolding restarted counted
  no_image i = zero_at (all_pages z) i

  inactive : (s : ℕ) → v'.active s ≡ 0
  unfolding restarted counted
  inactive s = zero_at z.slots s

  no_update_holds : (s : ℕ) → v'.updating s ≡ 0
  unfolding restarted counted
  no_update_holds s = zero_at z.slots s

  restarted_disk : OnDisk z v'
  unfolding restarted counted
  restarted_disk = disk_alone z v d _ _ _ _ _ _ _

  same_map : (i : ℕ) → v'.map i ≡ v.map i
  unfolding restarted counted
  same_map i = refl

  restarted_filed : Holds (Rules.filed z v')
  restarted_filed i h r p a = let q : v.map i ≡ suc r = sym (same_map i) ∙ p in elim (sorted r (d.map_fit_holds i h r q)) [
    | inl t ↦ (t.owner ∙ ap (λ (j : ℕ). slot_of z j) (d.map_once_holds t.page t.inside i h r t.lists q), t.state)
    | inr t ↦ absurd (t.none i h q)
  ]

  pub restarted_records : Kept z (restarted z st.disk)
  restarted_records = (
    restarted_disk,
    record {
      address_fit_holds = λ i h r p. absurd (omega (arith, p, no_address i));
      image_fit_holds = λ i h r p. absurd (omega (arith, p, no_image i));
      state_fit_holds = λ r h. elim (sorted r h) [ inl t ↦ omega (arith, t.state) | inr t ↦ omega (arith, t.state) ];
      owner_fit_holds = λ r h. elim (sorted r h) [
        | inl t ↦ subst (λ (m : ℕ). m < z.slots) (sym t.owner) (slot_below z w.pages t.page t.inside)
        | inr t ↦ omega (arith, t.owner, w.slots)
      ];
      active_fit_holds = λ s h. omega (arith, inactive s);
      updating_fit_holds = λ s h. omega (arith, no_update_holds s);
      held_once_holds = λ i hi j hj r p q. absurd (omega (arith, p, no_address i));
      held = λ i h r p. absurd (omega (arith, p, no_address i));
      held_by_holds = λ r h e. elim e [ inl n ↦ absurd (neither r NULLED h n (omega arith) (omega arith)) | inr n ↦ absurd (neither r LIVE h n (omega arith) (omega arith)) ];
      filed = restarted_filed;
      filed_by_holds = λ r h e. elim (sorted r h) [
        | inl t ↦ (t.page, t.inside, (same_map t.page ∙ t.lists, λ a. omega (arith, a, inactive (slot_of z t.page))))
        | inr t ↦ absurd (omega (arith, e, t.state))
      ];
      mapped = λ i h r p a. absurd (omega (arith, a, inactive (slot_of z i)));
      imaged = λ i h r p. absurd (omega (arith, p, no_image i));
      image_once_holds = λ i hi j hj r p q e. absurd (omega (arith, p, no_image i));
      image_zero_holds = λ i h r p. absurd (omega (arith, p, no_image i));
      leaving_begun_holds = λ r h e. absurd (neither r LEAVING h e (omega arith) (omega arith));
      active_filled_holds = λ s h a. absurd (omega (arith, a, inactive s));
      address_active_holds = λ i h r p. absurd (omega (arith, p, no_address i));
      update_active_holds = λ s h e. absurd (omega (arith, e, no_update_holds s));
    },
  )
