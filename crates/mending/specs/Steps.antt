-- The passes: what each is given and leaves, and where it stands before a slot.
use Rattle.std.specs.Prelude.{◌≡◌, refl, List, ℕ, zero, suc, ◌+◌, ◌*◌, ◌<◌, ◌≤◌, length}
use Rattle.std.proofs.Common.{ap, sym, inr, add-one, suc-mul, arith}
use Rattle.std.proofs.Math.Arith.{digits_div, digits_mod}
use Rattle.tables.specs.Base.{at}
use Rattle.tables.specs.Rule.{Rule, Holds}
use Rattle.tables.specs.Store.{store, choose_ext}
use Rattle.tables.specs.StoreLoops.{Turned, turn_off, turned_all, turned_none}
use Rattle.model.specs.declared.sizes.Sizes.{Sizes}
use Rattle.model.specs.State.{all_pages}
use Rattle.model.specs.Lent.{disk_of}
use Rattle.model.specs.Laws.Fit.{Within}
use Rattle.mending.specs.Mend.{Pack, Lent, Place, number, account, entry, of_slot, slot_at, all_places, changes, cleared, listed}
use Rattle.mending.specs.Places.{PackFit, place_of_holds, place_account}
use Rattle.mending.specs.Passes.{packed, filled, noted, Lost, listed_to, Standing, of_entry, zeroed, standing_none, standing_skip, place_turn, Agrees, RowDone}

abbrev pub lent_of : List ℕ → List ℕ → List ℕ → List ℕ → List ℕ → List ℕ → List ℕ → List ℕ → Lent
lent_of records numbers accounts maps limits parents highest list = record { disk = disk_of records numbers accounts maps limits parents highest; list = list }

abbrev pub filled_pack : Pack → ℕ
filled_pack d = filled d.numbers + (filled d.accounts + filled d.maps)

-- ── what a pass is given: lengths, and room for as many changes as there are entries above 0 ──
pub record PassGiven (z : Sizes) (d : Pack) (list : List ℕ) (n : ℕ) : Type 0 where
  pub within : Within z
  pub long : PackFit z d
  pub room : 4 * (n + filled_pack d) ≤ length list

pub record AccountsGiven (z : Sizes) (qs list : List ℕ) (n : ℕ) : Type 0 where
  pub within : Within z
  pub long : length qs ≡ z.slots
  pub room : 4 * (n + filled qs) ≤ length list

pub record MapsGiven (z : Sizes) (ms list : List ℕ) (n : ℕ) : Type 0 where
  pub within : Within z
  pub long : length ms ≡ all_pages z
  pub room : 4 * (n + filled ms) ≤ length list

-- ── what the step after k steps leaves of a pack, and of the list from place n on ──
pub record Passed (z : Sizes) (k : ℕ) (d e : Pack) (l l' : List ℕ) (n r : ℕ) : Type 0 where
  pub pack : e ≡ cleared z d (changes z d k)
  pub list : l' ≡ noted l n (listed z d (suc k) (changes z d k))
  pub count : r ≡ n + length (listed z d (suc k) (changes z d k))
  pub kept : r + filled_pack e ≡ n + filled_pack d

pub passed_by : (z : Sizes) (k : ℕ) (d : Pack) {ns qs ms l l' : List ℕ} {n r : ℕ} → ns ≡ store d.numbers (λ s. changes z d k (number s)) zeroed → qs ≡ store d.accounts (λ s. changes z d k (account s)) zeroed
    → ms ≡ store d.maps (of_entry z (changes z d k)) zeroed → Standing z d (suc k) (changes z d k) l n (all_places z) l' r → r + filled_pack (packed ns qs ms) ≡ n + filled_pack d → Passed z k d (packed ns qs ms) l l' n r
unfolding cleared listed listed_to
passed_by z k d a b c st kept = record { pack = λ x. packed (a x) (b x) (c x); list = st.list; count = st.count; kept = kept }

-- a table of which nothing changes
pub untouched : (l : List ℕ) (t : ℕ → Rule) → ((i : ℕ) → ¬ (Holds (t i))) → l ≡ store l t zeroed
unfolding store
untouched l t n = choose_ext l (length l) t zeroed (at l) refl (λ i h. inr (n i, refl))

-- ── a slot's places and the next slot's ──
pub slot_end : (n s : ℕ) → s * (n + 2) + 2 + n ≡ (s + 1) * (n + 2)
slot_end n s = rw add-one (omega (arith, suc-mul s (n + 2)))

pub row_end : (n s : ℕ) → s * n + n ≡ (s + 1) * n
row_end n s = rw add-one (sym (suc-mul s n))

turned_skip : {l m : List ℕ} {t : ℕ → Rule} {g : ℕ → ℕ} (n k : ℕ) → ((i : ℕ) → i < n → ¬ (Holds (t (k + i)))) → Turned l t g k m → Turned l t g (k + n) m
turned_skip zero k f d = let e : k + 0 ≡ k = omega arith in rw e d
turned_skip (suc n) k f d = let e : k + suc n ≡ (k + n) + 1 = omega arith in rw e (turn_off (k + n) (turned_skip n k (λ i h. f i (omega arith)) d) (f n (omega arith)))

-- ── before slot s ──
pub record PackTo (z : Sizes) (k : ℕ) (d : Pack) (l₀ : List ℕ) (n₀ s : ℕ) (ns qs ms l : List ℕ) (n : ℕ) : Type 0 where
  pub numbers : Turned d.numbers (λ t. changes z d k (number t)) zeroed s ns
  pub accounts : Turned d.accounts (λ t. changes z d k (account t)) zeroed s qs
  pub maps : Turned d.maps (of_entry z (changes z d k)) zeroed (s * z.pages) ms
  pub list : Standing z d (suc k) (changes z d k) l₀ n₀ (s * (z.pages + 2)) l n

module _ (z : Sizes) (k : ℕ) (d : Pack) (l₀ : List ℕ) (n₀ : ℕ) where
  abbrev change : Place → Rule
  change = changes z d k

  pub pack_none : PackTo z k d l₀ n₀ 0 d.numbers d.accounts d.maps l₀ n₀
  pack_none = record {
    numbers = turned_none d.numbers (λ t. change (number t)) zeroed 0 (λ i h. omega arith);
    accounts = turned_none d.accounts (λ t. change (account t)) zeroed 0 (λ i h. omega arith);
    maps = turned_none d.maps (of_entry z change) zeroed (0 * z.pages) (λ i h. omega arith);
    list = let e : 0 * (z.pages + 2) ≡ 0 = omega arith in rw e standing_none;
  }

  -- no place of the slot changes
  pub pack_skip : (s : ℕ) {ns qs ms l : List ℕ} {n : ℕ} → ((x : Place) → slot_at x ≡ s → ¬ (Holds (change x))) → PackTo z k d l₀ n₀ s ns qs ms l n → PackTo z k d l₀ n₀ (s + 1) ns qs ms l n
  pack_skip s f r = record {
    numbers = turn_off s r.numbers (f (number s) refl);
    accounts = turn_off s r.accounts (f (account s) refl);
    maps = rw (row_end z.pages s) at (turned_skip z.pages (s * z.pages) (λ p h w. f (entry s p) refl (rw (digits_div s h, digits_mod s h) at w)) r.maps);
    list = let e : s * (z.pages + 2) + (z.pages + 2) ≡ (s + 1) * (z.pages + 2) = omega (arith, slot_end z.pages s) in
        rw e at (standing_skip (z.pages + 2) (s * (z.pages + 2)) r.list (λ j h w. f (of_slot s j) (its_slot j) (rw (place_of_holds z s j h) at w)));
  }
    where
      its_slot : (j : ℕ) → slot_at (of_slot s j) ≡ s
      its_slot zero = refl
      its_slot (suc zero) = refl
      its_slot (suc (suc p)) = refl

  -- the number has had its turn; the account and the row have theirs
  pub pack_next : (s : ℕ) {ns' qs qs' ms ms' l₁ l₂ l₃ : List ℕ} {n₁ n₂ n₃ : ℕ} → s < length d.accounts → length ms ≡ length d.maps
      → Turned d.numbers (λ t. change (number t)) zeroed (s + 1) ns' → Standing z d (suc k) change l₀ n₀ (s * (z.pages + 2) + 1) l₁ n₁
      → Turned d.accounts (λ t. change (account t)) zeroed s qs → Turned d.maps (of_entry z change) zeroed (s * z.pages) ms
      → (hit : Rule) → (Holds hit → Holds (change (account s))) → (Holds (change (account s)) → Holds hit) → Lost hit (suc k) s z.pages s qs qs' l₁ l₂ n₁ n₂
      → (test : ℕ → Rule) → Agrees z d change s test → RowDone (suc k) s z.pages test ms ms' l₂ l₃ n₂ n₃
      → PackTo z k d l₀ n₀ (s + 1) ns' qs' ms' l₃ n₃
  pack_next s {ns'} {qs} {qs'} {ms} {ms'} {l₁} {l₂} {l₃} {n₁} {n₂} {n₃} h lm nu st ac ma hit to from gone test agree row =
      let a = place_turn (account s) (s * (z.pages + 2) + 1) (place_account z s) d.accounts (λ t. change (account t)) s h (λ x. x) (λ x. x) refl hit to from ac st gone in
      let e : s * (z.pages + 2) + 1 + 1 ≡ s * (z.pages + 2) + 2 = omega arith in
      let m = row.carry z d change l₀ n₀ refl (sym lm) agree ma (rw e at a.1) in
      record { numbers = nu; accounts = a.0; maps = rw (row_end z.pages s) at m.0; list = rw (slot_end z.pages s) at m.1 }

  -- all slots
  pub pack_all : (s : ℕ) {ns qs ms l : List ℕ} {n : ℕ} → PackFit z d → s ≡ z.slots → PackTo z k d l₀ n₀ s ns qs ms l n → n + filled_pack (packed ns qs ms) ≡ n₀ + filled_pack d → Passed z k d (packed ns qs ms) l₀ l n₀ n
  pack_all s f e r kept = passed_by z k d
      (turned_all s r.numbers (λ i h w. omega (arith, f.numbers, e, h)))
      (turned_all s r.accounts (λ i h w. omega (arith, f.accounts, e, h)))
      (turned_all (s * z.pages) r.maps (λ i h w. omega (arith, f.maps, ap (λ (t : ℕ). t * z.pages) e, h)))
      (rw e at r.list) kept
