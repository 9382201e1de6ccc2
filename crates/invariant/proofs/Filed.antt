-- The last store keeps the rules: an empty slot takes a number, an account and a map of records that were free; these are filed, of the slot.
use mathlib.Core.Path.{◌≡◌, refl, ap, sym, ◌∙◌, subst}
use mathlib.Core.List.{List}
use mathlib.Core.Logic.{◌⊎◌, inl, inr}
use Prim.Native.Nat.{ℕ, zero, suc, ◌+◌, ◌*◌, ◌%◌, ◌<◌, ◌≤◌}
use native.Mathlib.Omega.{arith}
use native.Mathlib.Decide.{ℕ_discrete}
use lib.ListN.{length}
use Rattle.tables.specs.Base.{at}
use Rattle.tables.specs.Rule.{Holds}
use Rattle.tables.specs.Store.{Split}
use Rattle.model.specs.declared.sizes.Sizes.{Sizes}
use Rattle.model.specs.Lines.{FREE, FILED, NULLED, LIVE, RELEASED, LEAVING}
use Rattle.model.specs.State.{Disk, Held, State, Files, files, frames, all_pages, slot_of}
use Rattle.model.specs.Rules
use Rattle.model.specs.Laws.Ruled.{OnDisk, OfRecords, Ruled}
use Rattle.model.specs.Laws.Fit.{Fit, DiskFit}
use Rattle.model.specs.Laws.Index.{slot_below}
use Rattle.invariant.proofs.Lengths.{HeldFit, long}
use Rattle.invariant.proofs.Framed.{Framing}
use Rattle.invariant.proofs.Seats.{Kept, seated, seat_kept, cooler_same}
use Rattle.invariant.proofs.Stands.{seat_at}
use Rattle.invariant.proofs.Records.{was, turns, stays}
use Rattle.invariant.proofs.FreeStore.{not_held, not_listed, not_imaged}

-- B: a record that the slot takes
pub record Filing (z : Sizes) (s n q : ℕ) (v : Files) (B : ℕ → Type 0) (number' account' map' state' owner' : ℕ → ℕ) : Type 0 where
  pub slot : s < z.slots
  pub fits : q < z.accounts
  pub some : 0 < n
  pub empty : v.number s ≡ 0
  pub fresh : (t : ℕ) → t < z.slots → ¬ (v.number t ≡ n)
  pub free : (r : ℕ) → B r → v.state r ≡ FREE
  pub below : (r : ℕ) → B r → r < z.records
  pub number : (t : ℕ) → t < z.slots → Split (t ≡ s) (number' t) n (v.number t)
  pub account : (t : ℕ) → t < z.slots → Split (t ≡ s) (account' t) q (v.account t)
  pub state : (r : ℕ) → Split (B r) (state' r) FILED (v.state r)
  pub owner : (r : ℕ) → Split (B r) (owner' r) s (v.owner r)
  pub map_other : (i : ℕ) → i < all_pages z → ¬ (slot_of z i ≡ s) → map' i ≡ v.map i
  -- the slot lists records that it takes, each once, and all of them
  pub map_here : (i : ℕ) → i < all_pages z → slot_of z i ≡ s → (r : ℕ) → map' i ≡ suc r → B r
  pub map_once_holds : (i : ℕ) → i < all_pages z → slot_of z i ≡ s → (j : ℕ) → j < all_pages z → slot_of z j ≡ s → (r : ℕ) → map' i ≡ suc r → map' j ≡ suc r → i ≡ j
  pub all_listed : (r : ℕ) → B r → (i : ℕ) × (i < all_pages z) × (slot_of z i ≡ s) × (map' i ≡ suc r)

module _ (z : Sizes) (pos : 0 < z.pages) (s n q : ℕ) (v : Files) (d : OnDisk z v) (k : OfRecords z v) (B : ℕ → Type 0) (number' account' map' state' owner' : ℕ → ℕ) (c : Filing z s n q v B number' account' map' state' owner') where
  abbrev after : Files
  after = record { number = number'; account = account'; limit = v.limit; parent = v.parent; map = map'; address = v.address; state = state'; owner = owner'; active = v.active; updating = v.updating; image = v.image }

  off : ¬ (v.active s ≡ 1)
  off e = omega (arith, k.active_filled_holds s c.slot e, c.empty)

  bare : (i : ℕ) → i < all_pages z → slot_of z i ≡ s → v.map i ≡ 0
  bare i h e = d.empty_map_holds i h (ap v.number e ∙ c.empty)

  -- what is held, imaged or listed elsewhere is not taken
  held_not : (i : ℕ) → i < all_pages z → (r : ℕ) → v.address i ≡ suc r → ¬ (B r)
  held_not i h r p b = not_held z v k r (c.free r b) i h p

  imaged_not : (i : ℕ) → i < all_pages z → (r : ℕ) → v.image i ≡ suc r → ¬ (B r)
  imaged_not i h r p b = not_imaged z v k r (c.free r b) i h p

  listed_not : (i : ℕ) → i < all_pages z → (r : ℕ) → v.map i ≡ suc r → ¬ (B r)
  listed_not i h r p b = not_listed z v k r (c.free r b) i h p

  map_was : (i : ℕ) → i < all_pages z → ¬ (slot_of z i ≡ s) → (r : ℕ) → map' i ≡ suc r → v.map i ≡ suc r
  map_was i h e r p = sym (c.map_other i h e) ∙ p

  map_is : (i : ℕ) → i < all_pages z → (r : ℕ) → v.map i ≡ suc r → map' i ≡ suc r
  map_is i h r p = c.map_other i h (λ e. omega (arith, bare i h e, p)) ∙ p

  -- a state other than filed is as before
  old : (r y : ℕ) → state' r ≡ y → ¬ (y ≡ FILED) → (¬ (B r)) × (v.state r ≡ y)
  old r y e g = was (c.state r) e g

  once : Holds (Rules.map_once z after)
  once i hi j hj r p e = elim (ℕ_discrete (slot_of z i) s) [
    | yes a ↦ elim (ℕ_discrete (slot_of z j) s) [ yes b ↦ c.map_once_holds i hi a j hj b r p e | no b ↦ absurd (listed_not j hj r (map_was j hj b r e) (c.map_here i hi a r p)) ]
    | no a ↦ elim (ℕ_discrete (slot_of z j) s) [ yes b ↦ absurd (listed_not i hi r (map_was i hi a r p) (c.map_here j hj b r e)) | no b ↦ d.map_once_holds i hi j hj r (map_was i hi a r p) (map_was j hj b r e) ]
  ]

  numbers_once : Holds (Rules.number_once z after)
  numbers_once i hi j hj m p w = elim (c.number i hi) [
    | inl t ↦ elim (c.number j hj) [ inl u ↦ t.0 ∙ sym u.0 | inr u ↦ absurd (c.fresh j hj (sym u.1 ∙ w ∙ sym p ∙ t.1)) ]
    | inr t ↦ elim (c.number j hj) [ inl u ↦ absurd (c.fresh i hi (sym t.1 ∙ p ∙ sym w ∙ u.1)) | inr u ↦ d.number_once_holds i hi j hj m (sym t.1 ∙ p) (sym u.1 ∙ w) ]
  ]

  pub filing_keeps : OnDisk z after × OfRecords z after
  filing_keeps = (
    record {
      empty_account_holds = λ t h e. elim (c.number t h) [ inl u ↦ absurd (omega (arith, u.1, e, c.some)) | inr u ↦ stays (c.account t h) u.0 ∙ d.empty_account_holds t h (sym u.1 ∙ e) ];
      empty_map_holds = λ i h e. elim (c.number (slot_of z i) (slot_below z pos i h)) [ inl u ↦ absurd (omega (arith, u.1, e, c.some)) | inr u ↦ c.map_other i h u.0 ∙ d.empty_map_holds i h (sym u.1 ∙ e) ];
      map_fit_holds = λ i h r p. elim (ℕ_discrete (slot_of z i) s) [ yes e ↦ c.below r (c.map_here i h e r p) | no e ↦ d.map_fit_holds i h r (map_was i h e r p) ];
      map_once_holds = once;
      number_once_holds = numbers_once;
      account_fit_holds = λ t h. elim (c.account t h) [ inl u ↦ omega (arith, u.1, c.fits) | inr u ↦ omega (arith, u.1, d.account_fit_holds t h) ];
      parent_lower_holds = d.parent_lower_holds;
    },
    record {
      address_fit_holds = k.address_fit_holds;
      image_fit_holds = k.image_fit_holds;
      state_fit_holds = λ r h. elim (c.state r) [ inl u ↦ omega (arith, u.1) | inr u ↦ omega (arith, u.1, k.state_fit_holds r h) ];
      owner_fit_holds = λ r h. elim (c.owner r) [ inl u ↦ omega (arith, u.1, c.slot) | inr u ↦ omega (arith, u.1, k.owner_fit_holds r h) ];
      active_fit_holds = k.active_fit_holds;
      updating_fit_holds = k.updating_fit_holds;
      held_once_holds = k.held_once_holds;
      held = λ i h r p. let o = k.held i h r p in let b = held_not i h r p in (stays (c.owner r) b ∙ o.0, elim o.1 [ inl e ↦ inl (stays (c.state r) b ∙ e) | inr e ↦ inr (stays (c.state r) b ∙ e) ]);
      held_by_holds = λ r h e. k.held_by_holds r h (elim e [ inl g ↦ inl (old r NULLED g (omega arith)).1 | inr g ↦ inr (old r LIVE g (omega arith)).1 ]);
      filed = λ i h r p a. elim (ℕ_discrete (slot_of z i) s) [
        | yes e ↦ let b = c.map_here i h e r p in (turns (c.owner r) b ∙ sym e, turns (c.state r) b)
        | no e ↦ let w = map_was i h e r p in let b = listed_not i h r w in let o = k.filed i h r w a in (stays (c.owner r) b ∙ o.0, stays (c.state r) b ∙ o.1)
      ];
      filed_by_holds = λ r h e. elim (c.state r) [
        | inl u ↦ let o = c.all_listed r u.0 in (o.0, o.1, (o.3, λ a. off (subst (λ (t : ℕ). v.active t ≡ 1) o.2 a)))
        | inr u ↦ let o = k.filed_by_holds r h (sym u.1 ∙ e) in (o.0, o.1, (map_is o.0 o.1 r o.2.0, o.2.1))
      ];
      mapped = λ i h r p a.
          let e : ¬ (slot_of z i ≡ s) = λ e. off (subst (λ (t : ℕ). v.active t ≡ 1) e a) in
          let w = map_was i h e r p in let b = listed_not i h r w in elim (k.mapped i h r w a) [
            | inl o ↦ inl o
            | inr o ↦ inr (stays (c.owner r) b ∙ o.0, elim o.1 [ inl g ↦ inl (stays (c.state r) b ∙ g) | inr g ↦ inr (stays (c.state r) b ∙ g) ])
          ];
      imaged = λ i h r p. let b = imaged_not i h r p in elim (k.imaged i h r p) [ inl o ↦ inl o | inr o ↦ inr (stays (c.owner r) b ∙ o.0, stays (c.state r) b ∙ o.1) ];
      image_once_holds = k.image_once_holds;
      image_zero_holds = k.image_zero_holds;
      leaving_begun_holds = λ r h e. let o = old r LEAVING e (omega arith) in subst (λ (t : ℕ). v.updating t ≡ 1) (sym (stays (c.owner r) o.0)) (k.leaving_begun_holds r h o.1);
      active_filled_holds = λ t h a. elim (c.number t h) [ inl u ↦ omega (arith, u.1, c.some) | inr u ↦ omega (arith, u.1, k.active_filled_holds t h a) ];
      address_active_holds = k.address_active_holds;
      update_active_holds = k.update_active_holds;
    },
  )

-- the frames: no page in a frame holds a record that is taken
module _ (z : Sizes) (st : State) (f : Fit z st) (r : Ruled z st) (disk' : Disk) (held' : Held) where
  abbrev refiled : State
  refiled = record { disk = disk'; memory = record { core = st.memory.core; held = held'; slots = st.memory.slots; chip = st.memory.chip; line = st.memory.line; used = st.memory.used } }

  pub filing_frames : disk'.records ≡ st.disk.records → held'.addresses ≡ st.memory.held.addresses → ((i : ℕ) → i < all_pages z → (q : ℕ) → (files st).address i ≡ suc q → at held'.states q ≡ (files st).state q)
      → held'.pool.hand < z.records → DiskFit z disk' → HeldFit z held' → Framing z refiled
  filing_frames same_records same-addresses same_state hand df hf = record {
    queues = record { free_queue = r.queues.free_queue; removal_list = r.queues.removal_list };
    frames = seated z (files refiled) (frames st) (at disk'.records) (λ g l. seat_kept (seat_at z st r g l) (cooler_same ((frames st).frame g)) refl refl (λ w b. refl) (record {
      address = λ i e. ap (λ (x : List ℕ). at x i) same-addresses;
      state = λ i e q a. same_state i ((seat_at z st r g l).page_fit i e) q a;
      active = λ i e. refl;
      words = λ i e q a w lw. ap (λ (x : List ℕ). at x (q * z.words + w)) same_records;
    })) r.frames.once;
    hand = hand;
    lengths = record { sizes = f.sizes; disk = df; core = (long z st f).core; held = hf; slots = (long z st f).slots; line = f.memory.line };
  }
