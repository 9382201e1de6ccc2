-- What the events' proofs share about the rules of disk, pages, records and slots: stores, lines, and who owns a listed record.
use mathlib.Core.Path.{◌≡◌, sym, ◌∙◌, subst}
use mathlib.Core.Logic.{◌⊎◌, inl, inr}
use mathlib.Core.List.{List}
use Prim.Native.Nat.{ℕ, suc, ◌<◌}
use native.Mathlib.Omega.{arith}
use native.Mathlib.Decide.{ℕ_discrete}
use lib.Dec.{T}
use lib.ListN.{length, get_or}
use Rattle.tables.specs.Base.{at, if}
use Rattle.tables.specs.Rule.{Rule, Holds, test, decided, told, untold, complete}
use Rattle.tables.specs.Store.{Split}
use Rattle.model.specs.declared.sizes.Sizes.{Sizes}
use Rattle.model.specs.Lines.{FREE, LIVE, RELEASED, line, eleven, led_by, by_event}
use Rattle.model.specs.State.{State, Files, files, all_pages, slot_of, live}
use Rattle.model.specs.Setters.{on_disk, set_limits, counted}
use Rattle.model.specs.Laws.Ruled.{OnDisk, OfRecords}
use Rattle.model.specs.Questions.{would_store}

-- the rules of disk, pages, records and slots
abbrev pub Kept : Sizes → State → Type 0
Kept z st = OnDisk z (files st) × OfRecords z (files st)

-- the disk rules speak of numbers, accounts, parents and maps alone
pub disk_alone : (z : Sizes) (v : Files) → OnDisk z v → (limit' address' state' owner' active' updating' image' : ℕ → ℕ) →
    OnDisk z (record { number = v.number; account = v.account; limit = limit'; parent = v.parent; map = v.map; address = address'; state = state'; owner = owner'; active = active'; updating = updating'; image = image' })
disk_alone z v d limit' address' state' owner' active' updating' image' =
    record { empty_account_holds = d.empty_account_holds; empty_map_holds = d.empty_map_holds; map_fit_holds = d.map_fit_holds; map_once_holds = d.map_once_holds; number_once_holds = d.number_once_holds; account_fit_holds = d.account_fit_holds; parent_lower_holds = d.parent_lower_holds }

-- no rule of these looks at the limits
pub limits_kept : (z : Sizes) (st : State) (limits : List ℕ) → Kept z st → Kept z (on_disk (set_limits limits) st)
limits_kept z st limits k = (
  disk_alone z (files st) k.0 (at limits) _ _ _ _ _ _,
  (let r = k.1 in record {
    address_fit_holds = r.address_fit_holds;
    image_fit_holds = r.image_fit_holds;
    state_fit_holds = r.state_fit_holds;
    owner_fit_holds = r.owner_fit_holds;
    active_fit_holds = r.active_fit_holds;
    updating_fit_holds = r.updating_fit_holds;
    held_once_holds = r.held_once_holds;
    held = r.held;
    held_by_holds = r.held_by_holds;
    filed = r.filed;
    filed_by_holds = r.filed_by_holds;
    mapped = r.mapped;
    imaged = r.imaged;
    image_once_holds = r.image_once_holds;
    image_zero_holds = r.image_zero_holds;
    leaving_begun_holds = r.leaving_begun_holds;
    active_filled_holds = r.active_filled_holds;
    address_active_holds = r.address_active_holds;
    update_active_holds = r.update_active_holds;
  }),
)

-- ── the lines ──
-- each record's state stays, or moves along one of the eleven lines
abbrev pub Moves : Sizes → (ℕ → ℕ) → (ℕ → ℕ) → Type 0
Moves z state state' = (r : ℕ) → r < z.records → (state' r ≡ state r) ⊎ T (by_event (state r) (state' r))

-- line k of the eleven, counted from 0, leads from a to b
pub along_line : (k : ℕ) → k < length eleven → {a b : ℕ} → a ≡ (get_or eleven k (line 0 0)).from → b ≡ (get_or eleven k (line 0 0)).to → T (by_event a b)
unfolding by_event
along_line k h {a} {b} e f = complete (led_by eleven a b) (k, h, (e, f))

-- ── what no rule asks, and every list keeps once restarted ──
-- a free record is of slot 0, and a released one of an active slot
pub record Tidy (z : Sizes) (state owner active : ℕ → ℕ) : Type 0 where
  pub free : (r : ℕ) → r < z.records → state r ≡ FREE → owner r ≡ 0
  pub released : (r : ℕ) → r < z.records → state r ≡ RELEASED → active (owner r) ≡ 1

abbrev pub Tidied : Sizes → State → Type 0
Tidied z st = Tidy z (files st).state (files st).owner (files st).active

-- the rules are kept, the records move along the lines, and what is tidy stays so
abbrev pub Done : Sizes → State → State → Type 0
Done z st st' = Kept z st' × Moves z (files st).state (files st').state × (Tidied z st → Tidied z st')

-- the counts are no table of these
pub counted_done : (z : Sizes) (st st' : State) → Done z st st' → Done z st (counted z st')
unfolding counted
counted_done z st st' k = k

-- ── an entry after a store ──
-- an entry that is not the one stored is as it was
pub was : {A : Type 0} {a x b y : ℕ} → Split A a x b → a ≡ y → ¬ (y ≡ x) → (¬ A) × (b ≡ y)
was (inl t) e d = absurd (d (sym e ∙ t.1))
was (inr t) e d = (t.0, sym t.1 ∙ e)

pub turns : {A : Type 0} {a x b : ℕ} → Split A a x b → A → a ≡ x
turns (inl t) h = t.1
turns (inr t) h = absurd (t.0 h)

pub stays : {A : Type 0} {a x b : ℕ} → Split A a x b → ¬ A → a ≡ b
stays (inl t) h = absurd (h t.0)
stays (inr t) h = t.1

-- a choice by a rule's test
pub split_if : {A : Type 0} (g : Rule) (x y : A) → Split (Holds g) (if (test g) x y) x y
split_if g x y = elim (decided g) [ yes h ↦ inl (h, rw (told g h)) | no h ↦ inr (h, rw (untold g h)) ]

-- what an update now would store is a live address
module _ (z : Sizes) (st : State) where
  pub would_live : (i r : ℕ) → would_store z st i ≡ suc r → ((files st).address i ≡ suc r) × ((files st).state r ≡ LIVE)
  unfolding would_store
  would_live i r e = elim (split_if (live (files st) i) ((files st).address i) 0) [
    | inl t ↦ let p : (files st).address i ≡ suc r = sym t.1 ∙ e in
        let q : t.0.0 ≡ r = omega (arith, t.0.1, p) in (p, subst (λ (n : ℕ). (files st).state n ≡ LIVE) q t.0.2)
    | inr t ↦ absurd (omega (arith, t.1, e))
  ]

  pub live_would : (i r : ℕ) → (files st).address i ≡ suc r → (files st).state r ≡ LIVE → would_store z st i ≡ suc r
  unfolding would_store
  live_would i r p e = turns (split_if (live (files st) i) ((files st).address i) 0) (r, p, e) ∙ p

-- ── a listed record belongs to the slot that lists it ──
module _ (z : Sizes) (v : Files) (k : OfRecords z v) where
  pub map_owner : (i : ℕ) → i < all_pages z → (r : ℕ) → v.map i ≡ suc r → v.owner r ≡ slot_of z i
  map_owner i h r p = elim (ℕ_discrete (v.active (slot_of z i)) 1) [
    | yes a ↦ elim (k.mapped i h r p a) [ inl e ↦ (k.held i h r e).0 | inr e ↦ e.0 ]
    | no a ↦ (k.filed i h r p a).0
  ]

  pub image_owner : (i : ℕ) → i < all_pages z → (r : ℕ) → v.image i ≡ suc r → v.owner r ≡ slot_of z i
  image_owner i h r p = elim (k.imaged i h r p) [ inl e ↦ (k.held i h r e).0 | inr e ↦ e.0 ]
