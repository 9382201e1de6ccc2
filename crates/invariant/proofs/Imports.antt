-- An import keeps the rules, whole and after each of its stores; a cut before its last store leaves an empty slot.
use mathlib.Core.Path.{◌≡◌, refl, ap, sym, ◌∙◌, subst}
use mathlib.Core.Bool.{Bool, true, false}
use mathlib.Core.List.{List}
use mathlib.Core.Logic.{◌⊎◌, inl, inr}
use Prim.Native.Nat.{ℕ, zero, suc, ◌+◌, ◌*◌, ◌%◌, ◌<◌, ◌≤◌, pred}
use native.Mathlib.Nat.{mod-lt}
use native.Mathlib.Omega.{arith}
use lib.Dec.{T, eqb, eqb→eq, ltb→lt, lt→ltb}
use lib.ListN.{length-set}
use Rattle.tables.specs.Base.{at, if, find}
use Rattle.tables.specs.Laws.{eq→T, if_true}
use Rattle.tables.specs.FindLaws.{find_cases}
use Rattle.tables.specs.Store.{Split, at_store, length_store}
use Rattle.model.specs.declared.sizes.Sizes.{Sizes}
use Rattle.model.specs.Lines.{FREE, FILED}
use Rattle.model.specs.State.{Disk, Held, State, files, free_count, all_pages, slot_of, page_of}
use Rattle.model.specs.Setters.{on_disk, raise, counted}
use Rattle.model.specs.Parts.{of_slot}
use Rattle.model.specs.Pool as P
use Rattle.model.specs.Laws.Ruled.{Ruled}
use Rattle.model.specs.Laws.Fit.{Fit, DiskFit}
use Rattle.model.specs.Laws.Index.{split_set, slot_of_page, place_of_page, page_below}
use Rattle.model.specs.Laws.Fields.{field_of_holds, has_at, field_at}
use Rattle.model.specs.Import.{Sheet, Taking, taking, taken, field_of, has, store_record, entry, store_slot, made, imported}
use Rattle.invariant.proofs.Raised.{raise_fit, raise_ruled}
use Rattle.invariant.proofs.Framed.{Framed}
use Rattle.invariant.proofs.Counts.{counted_framed}
use Rattle.invariant.proofs.Parts.{same_page}
use Rattle.model.specs.Laws.Takes.{taken_below, taken_free, taken_once, state_after, owner_after, states_long, owners_are_long}
use Rattle.invariant.proofs.FreeStore.{not_held, free_fit, free_ruled}
use Rattle.invariant.proofs.Filed.{Filing, filing_keeps, filing_frames}

-- lengths and rules
pub record Sound (z : Sizes) (st : State) : Type 0 where
  pub fit : Fit z st
  pub ruled : Ruled z st

-- ── what is known before an import that is carried out ──
pub record Before (z : Sizes) (st : State) (s q n : ℕ) (h : Sheet) : Type 0 where
  pub fit : Fit z st
  pub ruled : Ruled z st
  -- 3, 32, 5, 6, 33
  pub slot : s < z.slots
  pub account : q < z.accounts
  pub number : 0 < n
  pub low : n < 2147483648
  pub empty : (files st).number s ≡ 0
  pub fresh : (t : ℕ) → t < z.slots → ¬ ((files st).number t ≡ n)
  pub above : at st.disk.highest 0 < n
  -- 29 and 30: pages below N, no two alike
  pub pages : (k : ℕ) → k < h.count → h.page k < z.pages
  pub once : (j k : ℕ) → j < h.count → k < h.count → h.page j ≡ h.page k → j ≡ k
  -- 19
  pub enough : h.count ≤ free_count z (files st).state

module _ (z : Sizes) (st : State) (s q n : ℕ) (h : Sheet) (b : Before z st s q n h) where
  abbrev c : ℕ
  c = h.count

  abbrev nth : ℕ → ℕ
  nth = taken z st s

  -- a record that is taken
  abbrev pub Taken : ℕ → Type 0
  Taken r = (j : ℕ) × (j < c) × (r ≡ nth j)

  pub nth_below : (k : ℕ) → nth k < z.records
  nth_below k = taken_below z st s b.fit.sizes.records b.fit.memory.states b.fit.memory.owners b.ruled.counts.hand k

  pub nth_free : (k : ℕ) → k < c → (files st).state (nth k) ≡ FREE
  nth_free k i = taken_free z st s b.fit.sizes.records b.fit.memory.states b.fit.memory.owners b.ruled.counts.hand c b.enough k i

  pub nth_once : (j k : ℕ) → j < c → k < c → nth j ≡ nth k → j ≡ k
  nth_once = taken_once z st s b.fit.sizes.records b.fit.memory.states b.fit.memory.owners b.ruled.counts.hand c b.enough

  -- ── the number is the highest, and the first k records are stored ──
  abbrev pub mid : ℕ → State
  mid k = on_disk (λ d. made z st s q n h k (raise n d)) st

  pub midway : (k : ℕ) → k ≤ c → Sound z (mid k)
  unfolding made store_record
  midway zero i = record { fit = raise_fit z st n b.fit; ruled = raise_ruled z st n b.ruled }
  midway (suc k) i =
      let m = midway k (omega (arith, i)) in
      record {
        fit = free_fit z (mid k) m.fit m.ruled (nth k) (nth_below k) (nth_free k i) (h.word k);
        ruled = free_ruled z (mid k) m.fit m.ruled (nth k) (nth_below k) (nth_free k i) (h.word k);
      }

  abbrev pub st₁ : State
  st₁ = mid c

  abbrev pub t : Taking
  t = taking z st s c

  abbrev pub disk' : Disk
  disk' = store_slot z st s q n h st₁.disk

  pub middle : Sound z st₁
  middle = midway c (omega arith)

  pub free : (r : ℕ) → Taken r → (files st).state r ≡ FREE
  free r (j, i, e) = ap (files st).state e ∙ nth_free j i

  below : (r : ℕ) → Taken r → r < z.records
  below r (j, i, e) = rw e (nth_below j)

  pub off : ¬ ((files st).active s ≡ 1)
  off e = omega (arith, b.ruled.records.active_filled_holds s b.slot e, b.empty)

  -- ── the map ──
  pub entry_some : (p r : ℕ) → entry z st s q n h p ≡ suc r → T (has h p) × (r ≡ nth (field_of h p))
  unfolding entry
  entry_some p r e = go (has h p) refl
    where
      go : (x : Bool) → has h p ≡ x → T (has h p) × (r ≡ nth (field_of h p))
      go true g = (rw g tt, ap pred (sym e ∙ ap (λ (y : Bool). if y (suc (nth (field_of h p))) 0) g))
      go false g = absurd (omega (arith, sym e ∙ ap (λ (y : Bool). if y (suc (nth (field_of h p))) 0) g))

  pub entry_has : (p : ℕ) → T (has h p) → entry z st s q n h p ≡ suc (nth (field_of h p))
  unfolding entry
  entry_has p t = if_true (has h p) (suc (nth (field_of h p))) 0 t

  pub entry_none : (p : ℕ) → entry z st s q n h p ≡ 0 → ¬ (T (has h p))
  entry_none p e t = omega (arith, e, entry_has p t)

  map_at : (i : ℕ) → i < all_pages z → Split (slot_of z i ≡ s) (at disk'.maps i) (entry z st s q n h (i % z.pages)) (at st₁.disk.maps i)
  unfolding store_slot
  map_at i g = at_store st₁.disk.maps (of_slot z s) (λ j. entry z st s q n h (j % z.pages)) i (rw middle.fit.disk.maps g)

  pub map_here : (i : ℕ) → i < all_pages z → slot_of z i ≡ s → at disk'.maps i ≡ entry z st s q n h (i % z.pages)
  map_here i g e = elim (map_at i g) [ inl x ↦ x.1 | inr x ↦ absurd (x.0 e) ]

  pub map_other : (i : ℕ) → i < all_pages z → ¬ (slot_of z i ≡ s) → at disk'.maps i ≡ at st₁.disk.maps i
  map_other i g e = elim (map_at i g) [ inl x ↦ absurd (e x.0) | inr x ↦ x.1 ]

  -- the field that lists a record
  pub record Listed (i r : ℕ) : Type 0 where
    pub field : ℕ
    pub within : field < c
    pub page : h.page field ≡ i % z.pages
    pub record' : r ≡ nth field

  pub listed : (i : ℕ) → i < all_pages z → slot_of z i ≡ s → (r : ℕ) → at disk'.maps i ≡ suc r → Listed i r
  listed i g e r p =
      let x = entry_some (i % z.pages) r (sym (map_here i g e) ∙ p) in
      let f = field_of_holds h b.once (i % z.pages) x.0 in
      record { field = field_of h (i % z.pages); within = f.0; page = f.1; record' = x.1 }

  -- ── tables by their entries ──
  pub number_at_holds : (k : ℕ) → Split (k ≡ s) (at disk'.numbers k) n (at st₁.disk.numbers k)
  unfolding store_slot
  number_at_holds k = split_set st₁.disk.numbers s n k (rw middle.fit.disk.numbers b.slot)

  pub account_at : (k : ℕ) → Split (k ≡ s) (at disk'.accounts k) q (at st₁.disk.accounts k)
  unfolding store_slot
  account_at k = split_set st₁.disk.accounts s q k (rw middle.fit.disk.accounts b.slot)

  pub same_records : disk'.records ≡ st₁.disk.records
  unfolding store_slot
  same_records = refl

  pub state_at : (r : ℕ) → Split (Taken r) (at t.states r) FILED ((files st).state r)
  state_at r = state_after z st s b.fit.sizes.records b.fit.memory.states b.fit.memory.owners b.ruled.counts.hand c r

  pub owner_at : (r : ℕ) → Split (Taken r) (at t.owners r) s ((files st).owner r)
  owner_at r = owner_after z st s b.fit.sizes.records b.fit.memory.states b.fit.memory.owners b.ruled.counts.hand c r

  -- the first stores leave numbers and maps alone
  pub same_made : (k : ℕ) → ((mid k).disk.numbers ≡ st.disk.numbers) × ((mid k).disk.maps ≡ st.disk.maps)
  unfolding made store_record
  same_made zero = (refl, refl)
  same_made (suc k) = same_made k

  pub number_was : (k : ℕ) → at st₁.disk.numbers k ≡ at st.disk.numbers k
  number_was k = ap (λ (x : List ℕ). at x k) (same_made c).0

  pub bare : (i : ℕ) → i < all_pages z → slot_of z i ≡ s → at st₁.disk.maps i ≡ 0
  bare i g e = middle.ruled.disk.empty_map_holds i g (ap (at st₁.disk.numbers) e ∙ number_was s ∙ b.empty)

  -- ── the rules ──
  filing : Filing z s n q (files st₁) Taken (at disk'.numbers) (at disk'.accounts) (at disk'.maps) (at t.states) (at t.owners)
  filing = record {
    slot = b.slot;
    fits = b.account;
    some = b.number;
    empty = number_was s ∙ b.empty;
    fresh = λ k g e. b.fresh k g (sym (number_was k) ∙ e);
    free = free;
    below = below;
    number = λ k g. number_at_holds k;
    account = λ k g. account_at k;
    state = state_at;
    owner = owner_at;
    map_other = map_other;
    map_here = λ i g e r p. let x = listed i g e r p in (x.field, x.within, x.record');
    map_once_holds = λ i gi ei j gj ej r p w.
        let x = listed i gi ei r p in let y = listed j gj ej r w in
        let f : x.field ≡ y.field = nth_once x.field y.field x.within y.within (sym x.record' ∙ y.record') in
        same_page z.pages i j (ei ∙ sym ej) (sym x.page ∙ ap h.page f ∙ y.page);
    all_listed = λ r (j, i, e).
        let p = b.pages j i in
        let a = page_below z b.fit.sizes.pages s (h.page j) b.slot p in
        let o = slot_of_page z b.fit.sizes.pages s (h.page j) p in (
          page_of z s (h.page j),
          a,
          o,
          map_here (page_of z s (h.page j)) a o ∙ ap (entry z st s q n h) (place_of_page z b.fit.sizes.pages s (h.page j) p) ∙ entry_has (h.page j) (has_at h b.once j i)
              ∙ ap (λ (x : ℕ). suc (nth x)) (field_at h b.once j i) ∙ ap suc (sym e),
        );
  }

  hand_below : (P.taken z t.last st.memory.held.pool).hand < z.records
  unfolding P.taken
  hand_below = go t.last
    where
      go : (a : ℕ) → (P.taken z a st.memory.held.pool).hand < z.records
      go zero = b.ruled.counts.hand
      go (suc r) = mod-lt (suc r) b.fit.sizes.records

  -- a held record was not free
  pub held_stays : (i : ℕ) → i < all_pages z → (r : ℕ) → (files st).address i ≡ suc r → at t.states r ≡ (files st).state r
  held_stays i g r a = elim (state_at r) [ inl x ↦ absurd (not_held z (files st) b.ruled.records r (free r x.0) i g a) | inr x ↦ x.1 ]

  disk_fit : DiskFit z disk'
  unfolding store_slot
  disk_fit = record {
    records = middle.fit.disk.records;
    numbers = length-set st₁.disk.numbers s n ∙ middle.fit.disk.numbers;
    accounts = length-set st₁.disk.accounts s q ∙ middle.fit.disk.accounts;
    maps = length_store st₁.disk.maps (of_slot z s) (λ i. entry z st s q n h (i % z.pages)) ∙ middle.fit.disk.maps;
    limits = middle.fit.disk.limits;
    parents = middle.fit.disk.parents;
    highest = middle.fit.disk.highest;
  }

  abbrev held' : Held
  held' = record { addresses = st.memory.held.addresses; states = t.states; owners = t.owners; free_map = st.memory.held.free_map; pool = record { hand = (P.taken z t.last st.memory.held.pool).hand; free = st.memory.held.pool.free } }

  framed : Framed z (imported z st s q n h)
  unfolding imported
  framed = counted_framed z _ (filing_frames z st₁ middle.fit middle.ruled disk' held' same_records refl held_stays hand_below disk_fit
      (record {
        addresses = b.fit.memory.addresses;
        states = states_long z st s b.fit.sizes.records b.fit.memory.states b.fit.memory.owners b.ruled.counts.hand c;
        owners = owners_are_long z st s b.fit.sizes.records b.fit.memory.states b.fit.memory.owners b.ruled.counts.hand c;
      }))

  pub import_kept : Fit z (imported z st s q n h) × Ruled z (imported z st s q n h)
  unfolding imported counted store_slot
  import_kept =
      let k = filing_keeps z b.fit.sizes.pages s n q (files st₁) middle.ruled.disk middle.ruled.records Taken (at disk'.numbers) (at disk'.accounts) (at disk'.maps) (at t.states) (at t.owners) filing in
      (framed.lengths, record { disk = k.0; records = k.1; queues = framed.queues; frames = framed.frames; counts = framed.counts; line = b.ruled.line })

  -- a cut before the last store leaves an empty slot
  pub slot_empty : (k : ℕ) → at (mid k).disk.numbers s ≡ 0
  slot_empty k = ap (λ (x : List ℕ). at x s) (same_made k).0 ∙ b.empty

  -- the twelfth line: each record's state is left alone, or goes from free to filed
  pub import_line : (r : ℕ) → (at t.states r ≡ (files st).state r) ⊎ (((files st).state r ≡ FREE) × (at t.states r ≡ FILED))
  import_line r = elim (state_at r) [ inl x ↦ inr (free r x.0, x.1) | inr x ↦ inl x.1 ]
