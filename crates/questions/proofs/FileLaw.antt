-- The passes over pages, records and slots are the memory rules of pages, records and slots.
use mathlib.Core.Path.{◌≡◌, sym, ◌∙◌}
use mathlib.Core.Logic.{inl, inr}
use Prim.Native.Nat.{ℕ, suc, ◌+◌, ◌*◌, ◌/◌, ◌<◌}
use native.Mathlib.Omega.{arith}
use Rattle.tables.specs.Base.{at}
use Rattle.tables.specs.Rule.{Holds}
use Rattle.model.specs.declared.sizes.Sizes.{Sizes}
use Rattle.model.specs.State.{State, files}
use Rattle.model.specs.Laws.Ruled.{OfRecords}
use Rattle.rules.specs.Passes.{held_entries, imaged_entries}
use Rattle.questions.specs.Groups.{file_passes, FilesLong}
use Rattle.questions.proofs.Shapes.{by_row, of_row}

module _ (z : Sizes) (st : State) (long : FilesLong z st.disk.numbers st.disk.accounts st.disk.maps st.memory.held.addresses st.memory.held.states st.memory.held.owners
    st.memory.slots.active st.memory.slots.updating st.memory.slots.images) where
  abbrev map : ℕ → ℕ
  map = at st.disk.maps

  abbrev address : ℕ → ℕ
  address = at st.memory.held.addresses

  abbrev state : ℕ → ℕ
  state = at st.memory.held.states

  abbrev owner : ℕ → ℕ
  owner = at st.memory.held.owners

  abbrev image : ℕ → ℕ
  image = at st.memory.slots.images

  -- what the passes say of page i of slot s
  abbrev Entries : ℕ → ℕ → Type 0
  Entries s i = Holds (held_entries s (at st.memory.slots.active s) (map i) (address i) state owner) × Holds (imaged_entries s (at st.memory.slots.updating s) (address i) (image i) state owner)

  -- a filed record is no active page's
  not_filed : (s i r : ℕ) → Entries s i → map i ≡ suc r → state r ≡ 1 → ¬ (at st.memory.slots.active s ≡ 1)
  not_filed s i r e m f on = elim (e.0.1.0 r m on) [
    | inl a ↦ elim (e.0.1.1.0 r a).1 [ inl n ↦ omega (arith, f, n) | inr n ↦ omega (arith, f, n) ]
    | inr a ↦ elim a.1 [ inl n ↦ omega (arith, f, n) | inr n ↦ omega (arith, f, n) ]
  ]

  pub of_files : Holds (file_passes z.slots z.pages z.records st.disk.numbers st.disk.maps st.memory.held.addresses st.memory.held.states st.memory.held.owners
      st.memory.slots.active st.memory.slots.updating st.memory.slots.images) → OfRecords z (files st)
  of_files ((e, (held, begun)), (s, h)) =
      let rows = rw long.maps_long at h in
      let entries : (i : ℕ) → i < z.slots * z.pages → Entries (i / z.pages) i = by_row z.slots z.pages long.within.pages Entries (λ s l p m. ((e s l).0 p m, (e s l).1 p m)) in
      record {
        address_fit_holds = held.0;
        image_fit_holds = begun.0;
        state_fit_holds = λ r k. (rows r k).1.0;
        owner_fit_holds = λ r k. (rows r k).0;
        active_fit_holds = λ x k. (s x k).0;
        updating_fit_holds = λ x k. (s x k).1.0;
        held_once_holds = held.1;
        held = λ i k. (entries i k).0.1.1.0;
        held_by_holds = λ r k. (rows r k).1.1.0;
        filed = λ i k. (entries i k).0.0;
        filed_by_holds = λ r k f. let x = (rows r k).1.1.1.0 f in (x.0, x.1, (x.2, not_filed (x.0 / z.pages) x.0 r (entries x.0 x.1) x.2 f));
        mapped = λ i k. (entries i k).0.1.0;
        imaged = λ i k. (entries i k).1.0;
        image_once_holds = λ i k j l r p q n. begun.1 i k j l r p q;
        image_zero_holds = λ i k. (entries i k).1.1;
        leaving_begun_holds = λ r k. (rows r k).1.1.1.1;
        active_filled_holds = λ x k. (s x k).1.1.0;
        address_active_holds = λ i k. (entries i k).0.1.1.1;
        update_active_holds = λ x k. (s x k).1.1.1;
      }

  module _ (o : OfRecords z (files st)) where
    -- a record in an image is of the image's slot
    image_owner : (i : ℕ) → i < z.slots * z.pages → (r : ℕ) → image i ≡ suc r → owner r ≡ i / z.pages
    image_owner i k r q = elim (o.imaged i k r q) [ inl a ↦ (o.held i k r a).0 | inr a ↦ a.0 ]

    pub files_of : Holds (file_passes z.slots z.pages z.records st.disk.numbers st.disk.maps st.memory.held.addresses st.memory.held.states st.memory.held.owners
        st.memory.slots.active st.memory.slots.updating st.memory.slots.images)
    files_of = (
      (
        λ s l. (λ p m. (rows s l p m).0, λ p m. (rows s l p m).1),
        ((o.address_fit_holds, o.held_once_holds), (o.image_fit_holds, λ i k j l r p q. o.image_once_holds i k j l r p q (sym (image_owner i k r p) ∙ image_owner j l r q))),
      ),
      (
        λ s k. (o.active_fit_holds s k, (o.updating_fit_holds s k, (o.active_filled_holds s k, o.update_active_holds s k))),
        rw long.maps_long (λ r k. (o.owner_fit_holds r k, (o.state_fit_holds r k, (o.held_by_holds r k, (λ f. let x = o.filed_by_holds r k f in (x.0, x.1, x.2.0), o.leaving_begun_holds r k))))),
      ),
    )
      where
        rows : (s : ℕ) → s < z.slots → (p : ℕ) → p < z.pages → Entries s (s * z.pages + p)
        rows = of_row z.slots z.pages long.within.pages Entries (λ i k. ((o.filed i k, (o.mapped i k, (o.held i k, o.address_active_holds i k))), (o.imaged i k, o.image_zero_holds i k)))
