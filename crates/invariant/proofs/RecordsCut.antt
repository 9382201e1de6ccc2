-- A cut: whatever mix of open writes and updates lands, the disk rules and the disk's lengths stay.
use mathlib.Core.Path.{◌≡◌, refl, ap, sym, ◌∙◌, subst}
use mathlib.Core.Bool.{Bool, not, ◌&&◌}
use mathlib.Core.Logic.{inl, inr}
use mathlib.Core.List.{List}
use Prim.Native.Nat.{ℕ, zero, suc, ◌*◌, ◌<◌}
use native.Mathlib.Omega.{arith}
use lib.Dec.{T, eqb, eqb→eq, T_not}
use lib.ListN.{length, length-replicate}
use Rattle.tables.specs.Base.{at}
use Rattle.tables.specs.Laws.{if_elim, and_right, last, length_tab}
use Rattle.tables.specs.Store.{Split, at_store, length_store}
use Rattle.model.specs.declared.sizes.Sizes.{Sizes}
use Rattle.model.specs.State.{Disk, Memory, State, Files, files, frames, WRITING, all_pages, slot_of}
use Rattle.model.specs.Parts.{of_slot}
use Rattle.model.specs.Writeback.{store_frame, store_image}
use Rattle.model.specs.Acts.{land_writes, land_updates, landed}
use Rattle.model.specs.Restart.{formatted}
use Rattle.model.specs.Laws.Ruled.{OnDisk, Ruled}
use Rattle.model.specs.Laws.Fit.{Fit, DiskFit}
use Rattle.invariant.proofs.Records.{stays}
use Rattle.invariant.proofs.RecordsLanded.{landed_keeps}

pub formatted_fit : (z : Sizes) (parents : List ℕ) → DiskFit z (formatted z parents)
unfolding formatted
formatted_fit z parents = record { records = length-replicate _ 0; numbers = length-replicate _ 0; accounts = length-replicate _ 0; maps = length-replicate _ 0; limits = length-replicate _ 0; parents = length_tab z.accounts _ 0; highest = refl }

module _ (z : Sizes) (st : State) (f : Fit z st) (r : Ruled z st) where
  abbrev v : Files
  v = files st

  -- Numbers, accounts, limits, parents and the highest number are as they were; the maps of the slots L are their images.
  pub record Cut (L : ℕ → Type 0) (d : Disk) : Type 0 where
    pub numbers : d.numbers ≡ st.disk.numbers
    pub accounts : d.accounts ≡ st.disk.accounts
    pub limits : d.limits ≡ st.disk.limits
    pub parents : d.parents ≡ st.disk.parents
    pub highest : d.highest ≡ st.disk.highest
    pub records : length d.records ≡ z.records * z.words
    pub maps : length d.maps ≡ all_pages z
    pub map : (i : ℕ) → i < all_pages z → Split (L (slot_of z i)) (at d.maps i) (v.image i) (v.map i)

  -- no map lands with a write
  one : (g : ℕ) (d : Disk) → Cut (λ t. ⊥) d → Cut (λ t. ⊥) (store_frame z st g d)
  unfolding store_frame
  one g d c = record { numbers = c.numbers; accounts = c.accounts; limits = c.limits; parents = c.parents; highest = c.highest; records = length_store d.records _ _ ∙ c.records; maps = c.maps; map = c.map }

  writes_cut : (lands : ℕ → Bool) (n : ℕ) → Cut (λ t. ⊥) (land_writes z st lands n st.disk)
  unfolding land_writes
  writes_cut lands zero = record { numbers = refl; accounts = refl; limits = refl; parents = refl; highest = refl; records = f.disk.records; maps = f.disk.maps; map = λ i h. inr (λ e. e, refl) }
  writes_cut lands (suc g) = let c = writes_cut lands g in
      if_elim (Cut (λ t. ⊥)) (lands g && eqb ((frames st).frame g).transfer WRITING) _ _ (λ t. one g (land_writes z st lands g st.disk) c) (λ t. c)

  -- the update of the slot lands
  abbrev pub lands_at : (ℕ → Bool) → ℕ → Bool
  lands_at lands t = lands t && eqb (v.updating t) 1

  same : (lands : ℕ → Bool) (s : ℕ) (e : Disk) → Cut (λ t. (t < s) × T (lands_at lands t)) e → T (not (lands_at lands s)) → Cut (λ t. (t < suc s) × T (lands_at lands t)) e
  same lands s e k n = record {
    numbers = k.numbers;
    accounts = k.accounts;
    limits = k.limits;
    parents = k.parents;
    highest = k.highest;
    records = k.records;
    maps = k.maps;
    map = λ i h. elim (k.map i h) [
      | inl x ↦ inl ((omega (arith, x.0.0), x.0.1), x.1)
      | inr x ↦ inr (λ y. elim (last y.0) [ inl b ↦ x.0 (b, y.1) | inr b ↦ T_not (lands_at lands s) n (subst (λ (t : ℕ). T (lands_at lands t)) b y.1) ], x.1)
    ];
  }

  more : (lands : ℕ → Bool) (s : ℕ) (e : Disk) → Cut (λ t. (t < s) × T (lands_at lands t)) e → T (lands_at lands s) → Cut (λ t. (t < suc s) × T (lands_at lands t)) (store_image z st s e)
  unfolding store_image
  more lands s e k t = record {
    numbers = k.numbers;
    accounts = k.accounts;
    limits = k.limits;
    parents = k.parents;
    highest = k.highest;
    records = k.records;
    maps = length_store e.maps _ _ ∙ k.maps;
    map = λ i h. elim (at_store e.maps (of_slot z s) v.image i (rw k.maps h)) [
      | inl x ↦ inl ((omega (arith, x.0), subst (λ (m : ℕ). T (lands_at lands m)) (sym x.0) t), x.1)
      | inr x ↦ elim (k.map i h) [
        | inl y ↦ inl ((omega (arith, y.0.0), y.0.1), x.1 ∙ y.1)
        | inr y ↦ inr (λ w. elim (last w.0) [ inl b ↦ y.0 (b, w.1) | inr b ↦ x.0 b ], x.1 ∙ y.1)
      ]
    ];
  }

  updates_cut : (lands : ℕ → Bool) (d : Disk) → Cut (λ t. ⊥) d → (n : ℕ) → Cut (λ t. (t < n) × T (lands_at lands t)) (land_updates z st lands n d)
  unfolding land_updates
  updates_cut lands d c zero = record {
    numbers = c.numbers;
    accounts = c.accounts;
    limits = c.limits;
    parents = c.parents;
    highest = c.highest;
    records = c.records;
    maps = c.maps;
    map = λ i h. inr (λ e. omega (arith, e.0), stays (c.map i h) (λ e. e));
  }
  updates_cut lands d c (suc s) = let k = updates_cut lands d c s in
      if_elim (Cut (λ t. (t < suc s) × T (lands_at lands t))) (lands_at lands s) _ _ (λ t. more lands s (land_updates z st lands s d) k t) (λ t. same lands s (land_updates z st lands s d) k t)

  pub landed_cut : (writes updates : ℕ → Bool) → Cut (λ t. (t < z.slots) × T (lands_at updates t)) (landed z st writes updates)
  unfolding landed
  landed_cut writes updates = updates_cut updates (land_writes z st writes z.frames st.disk) (writes_cut writes z.frames) z.slots

  pub landed_fit : (writes updates : ℕ → Bool) → DiskFit z (landed z st writes updates)
  landed_fit writes updates = let c = landed_cut writes updates in
      record { records = c.records; numbers = ap length c.numbers ∙ f.disk.numbers; accounts = ap length c.accounts ∙ f.disk.accounts; maps = c.maps; limits = ap length c.limits ∙ f.disk.limits; parents = ap length c.parents ∙ f.disk.parents; highest = ap length c.highest ∙ f.disk.highest }

  -- the disk rules stay, whatever the memory then holds
  pub cut_disk : (L : ℕ → Type 0) (d : Disk) (m : Memory) → ((t : ℕ) → L t → v.active t ≡ 1) → Cut L d → OnDisk z (files (record { disk = d; memory = m }))
  cut_disk L d m on c = subst (λ (l : List ℕ). OnDisk z (with l d.accounts d.parents)) (sym c.numbers)
      (subst (λ (l : List ℕ). OnDisk z (with st.disk.numbers l d.parents)) (sym c.accounts) (subst (λ (l : List ℕ). OnDisk z (with st.disk.numbers st.disk.accounts l)) (sym c.parents) kept))
    where
      with : List ℕ → List ℕ → List ℕ → Files
      with ns qs ps = files (record { disk = record { records = d.records; numbers = ns; accounts = qs; maps = d.maps; limits = d.limits; parents = ps; highest = d.highest }; memory = m })

      kept : OnDisk z (with st.disk.numbers st.disk.accounts st.disk.parents)
      kept = landed_keeps z f.sizes.pages L v r.disk r.records (at d.maps) (record { on = on; map = c.map }) _ _ _ _ _ _ _

  pub landed_disk : (writes updates : ℕ → Bool) (m : Memory) → OnDisk z (files (record { disk = landed z st writes updates; memory = m }))
  landed_disk writes updates m = cut_disk _ (landed z st writes updates) m
      (λ t l. r.records.update_active_holds t l.0 (eqb→eq (v.updating t) 1 (and_right (updates t) (eqb (v.updating t) 1) l.1))) (landed_cut writes updates)
