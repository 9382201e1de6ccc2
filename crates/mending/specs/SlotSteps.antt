-- Steps 1 and 2, which empty a slot: the passes over the whole pack, and the laws that their loops cite.
use Rattle.std.specs.Prelude.{◌≡◌, refl, List, [], ℕ, suc, ◌+◌, ◌*◌, ◌<◌, ◌≤◌, length}
use Rattle.std.proofs.Common.{sym, ◌∙◌, arith}
use Rattle.tables.specs.Base.{at}
use Rattle.tables.specs.Rule.{Holds, below}
use Rattle.tables.specs.StoreLoops.{Turned, turn_off, turned_at, part_fits}
use Rattle.model.specs.declared.sizes.Sizes.{Sizes}
use Rattle.model.specs.Laws.Bounds.{pages_most}
use Rattle.mending.specs.Mend.{Pack, Place, number, account, entry, slot_at, wants, changes}
use Rattle.mending.specs.Places.{PackFit, place_number}
use Rattle.mending.specs.Passes.{packed, filled, Lost, lost_kept, lost_long, lost_list_long, Standing, zeroed, standing_off, place_turn, above, RowGiven, RowDone}
use Rattle.mending.specs.Names.{doubled_in, doubled_from, doubled_to}
use Rattle.mending.specs.Steps.{filled_pack, PassGiven, Passed, PackTo, pack_none, pack_skip, pack_next, pack_all}

pub record PackRun (z : Sizes) (k : ℕ) (d : Pack) (l₀ : List ℕ) (n₀ s : ℕ) (ns qs ms l : List ℕ) (n : ℕ) : Type 0 where
  pub most : s ≤ z.slots
  pub numbers_long : length ns ≡ length d.numbers
  pub accounts_long : length qs ≡ length d.accounts
  pub maps_long : length ms ≡ length d.maps
  pub list_long : length l ≡ length l₀
  pub kept : n + filled_pack (packed ns qs ms) ≡ n₀ + filled_pack d
  pub run : PackTo z k d l₀ n₀ s ns qs ms l n

module _ (z : Sizes) (k : ℕ) (d : Pack) (l₀ : List ℕ) (n₀ : ℕ) where
  pub pack_begun : PackRun z k d l₀ n₀ 0 d.numbers d.accounts d.maps l₀ n₀
  pack_begun = record { most = omega arith; numbers_long = refl; accounts_long = refl; maps_long = refl; list_long = refl; kept = refl; run = pack_none z k d l₀ n₀ }

  pub pack_passes : (s : ℕ) {ns qs ms l : List ℕ} {n : ℕ} → s < z.slots → ((x : Place) → slot_at x ≡ s → ¬ (Holds (changes z d k x))) → PackRun z k d l₀ n₀ s ns qs ms l n → PackRun z k d l₀ n₀ (s + 1) ns qs ms l n
  pack_passes s h f r = record {
    most = omega arith;
    numbers_long = r.numbers_long;
    accounts_long = r.accounts_long;
    maps_long = r.maps_long;
    list_long = r.list_long;
    kept = r.kept;
    run = pack_skip z k d l₀ n₀ s f r.run;
  }

  pub pack_ended : (s : ℕ) {ns qs ms l : List ℕ} {n : ℕ} → PackFit z d → z.slots ≤ s → PackRun z k d l₀ n₀ s ns qs ms l n → Passed z k d (packed ns qs ms) l₀ l n₀ n
  pack_ended s f h r = pack_all z k d l₀ n₀ s f (omega (arith, r.most)) r.run r.kept

  -- all that is above 0 changes in the slot
  abbrev Whole : ℕ → Type 0
  Whole s = (x : Place) → slot_at x ≡ s → Holds (wants z d k x)

  -- account and row, once the number has had its turn
  pub pack_rest : (s : ℕ) {ns ns' qs qs' ms ms' l₁ l₂ l₃ l : List ℕ} {n n₁ n₂ n₃ : ℕ} → PackFit z d → s < z.slots → Whole s → PackRun z k d l₀ n₀ s ns qs ms l n
      → length ns' ≡ length ns → length l₁ ≡ length l
      → Turned d.numbers (λ t. changes z d k (number t)) zeroed (s + 1) ns' → Standing z d (suc k) (changes z d k) l₀ n₀ (s * (z.pages + 2) + 1) l₁ n₁ → n₁ + filled ns' ≡ n + filled ns
      → Lost (below 0 (at qs s)) (suc k) s z.pages s qs qs' l₁ l₂ n₁ n₂ → RowDone (suc k) s z.pages (above 0) ms ms' l₂ l₃ n₂ n₃
      → PackRun z k d l₀ n₀ (s + 1) ns' qs' ms' l₃ n₃
  pack_rest s {ns} {ns'} {qs} {qs'} {ms} {ms'} {l₁} {l₂} {l₃} {l} {n} {n₁} {n₂} {n₃} f h whole r ln ll nu st kn gone row =
      let was : at qs s ≡ at d.accounts s = turned_at s r.run.accounts s (omega arith) in
      let ka : n₂ + filled qs' ≡ n₁ + filled qs = lost_kept gone (omega (arith, r.accounts_long, f.accounts)) (λ c e. omega (arith, c, e)) in
      record {
        most = omega arith;
        numbers_long = ln ∙ r.numbers_long;
        accounts_long = lost_long gone ∙ r.accounts_long;
        maps_long = row.long ∙ r.maps_long;
        list_long = row.list_long ∙ lost_list_long gone ∙ ll ∙ r.list_long;
        kept = omega (arith, r.kept, kn, ka, row.kept);
        run = pack_next z k d l₀ n₀ s (omega (arith, f.accounts)) r.maps_long nu st r.run.accounts r.run.maps
            (below 0 (at qs s)) (λ c. (λ e. omega (arith, c, was, e), whole (account s) refl)) (λ c. above_zero (at qs s) (λ e. c.0 (sym was ∙ e))) gone
            (above 0) (λ p g. (λ c. above_zero _ c.0, λ c. (λ e. omega (arith, c, e), whole (entry s p) refl))) row;
      }
    where
      above_zero : (a : ℕ) → ¬ (a ≡ 0) → 0 < a
      above_zero a e = omega arith

-- the same tables by other names
pub pack_by : {z : Sizes} {k : ℕ} {d : Pack} {l₀ : List ℕ} {n₀ s : ℕ} {ns qs ms l ns' qs' ms' l' : List ℕ} {n n' : ℕ} → PackRun z k d l₀ n₀ s ns qs ms l n → ns' ≡ ns → qs' ≡ qs → ms' ≡ ms → l' ≡ l → n' ≡ n → PackRun z k d l₀ n₀ s ns' qs' ms' l' n'
pack_by r a b c e f = rw (a, b, c, e, f) r

-- room for what is to come, and what a row is given
pub pack_room : {z : Sizes} {k : ℕ} {d : Pack} {l₀ : List ℕ} {n₀ s : ℕ} {ns qs ms l : List ℕ} {n : ℕ} → PassGiven z d l₀ n₀ → PackRun z k d l₀ n₀ s ns qs ms l n → 4 * (n + filled_pack (packed ns qs ms)) ≤ length l
pack_room g r = omega (arith, g.room, r.kept, r.list_long)

pub row_given_pack : {z : Sizes} {d : Pack} {l₀ : List ℕ} {n₀ : ℕ} → PassGiven z d l₀ n₀ → (s : ℕ) (ms l : List ℕ) (n : ℕ) → s < z.slots → length ms ≡ length d.maps → 4 * (n + filled ms) ≤ length l → RowGiven s z.pages ms l n
row_given_pack {z} g s ms l n h lm room = record {
  inside = omega (arith, part_fits z.slots z.pages s h, g.long.maps, lm);
  few = omega (arith, pages_most z g.within, g.long.maps, lm);
  slot_few = omega (arith, g.within.slots_most);
  room = room;
}

-- step 1: a doubled slot
pub whole_1 : (z : Sizes) (d : Pack) (s : ℕ) → Holds (doubled_in d.numbers s) → Whole z 0 d [] 0 s
unfolding wants
whole_1 z d s h x e = rw e h

pub none_1 : (z : Sizes) (d : Pack) (s : ℕ) → ¬ (Holds (doubled_in d.numbers s)) → (x : Place) → slot_at x ≡ s → ¬ (Holds (changes z d 0 x))
unfolding wants
none_1 z d s h x e c = h (rw e at c.1)

-- its number
pub number_1 : (z : Sizes) (d : Pack) (l₀ : List ℕ) (n₀ s : ℕ) {ns ns' qs ms l l' : List ℕ} {n r : ℕ} → s < length d.numbers → Holds (doubled_in d.numbers s) → PackTo z 0 d l₀ n₀ s ns qs ms l n → Lost (below 0 1) 1 s z.pages s ns ns' l l' n r
    → Turned d.numbers (λ t. changes z d 0 (number t)) zeroed (s + 1) ns' × Standing z d 1 (changes z d 0) l₀ n₀ (s * (z.pages + 2) + 1) l' r
unfolding wants
number_1 z d l₀ n₀ s h w p gone = place_turn (number s) (s * (z.pages + 2)) (place_number z s) d.numbers (λ t. changes z d 0 (number t)) s h (λ x. x) (λ x. x) refl (below 0 1) (λ _. (w.0, w)) (λ _. omega arith) p.numbers p.list gone

-- the numbers that are left tell which slots are doubled
pub doubled_now : (z : Sizes) (d : Pack) (l₀ : List ℕ) (n₀ s : ℕ) {ns qs ms l : List ℕ} {n : ℕ} → s < length d.numbers → PackTo z 0 d l₀ n₀ s ns qs ms l n
    → (Holds (doubled_in ns s) → Holds (doubled_in d.numbers s)) × (Holds (doubled_in d.numbers s) → Holds (doubled_in ns s))
unfolding wants
doubled_now z d l₀ n₀ s h p = (doubled_from h p.numbers, doubled_to h p.numbers)

-- step 2: an empty slot; no number changes
pub whole_2 : (z : Sizes) (d : Pack) (s : ℕ) → at d.numbers s ≡ 0 → Whole z 1 d [] 0 s
unfolding wants
whole_2 z d s h x e = rw e h

pub none_2 : (z : Sizes) (d : Pack) (s : ℕ) → ¬ (at d.numbers s ≡ 0) → (x : Place) → slot_at x ≡ s → ¬ (Holds (changes z d 1 x))
unfolding wants
none_2 z d s h x e c = h (rw e at c.1)

pub number_2 : (z : Sizes) (d : Pack) (l₀ : List ℕ) (n₀ s : ℕ) {ns qs ms l : List ℕ} {n : ℕ} → PackTo z 1 d l₀ n₀ s ns qs ms l n
    → Turned d.numbers (λ t. changes z d 1 (number t)) zeroed (s + 1) ns × Standing z d 2 (changes z d 1) l₀ n₀ (s * (z.pages + 2) + 1) l n
unfolding wants
number_2 z d l₀ n₀ s p = (turn_off s p.numbers (λ c. c.0 c.1), standing_off (s * (z.pages + 2)) p.list (λ w. let c = rw (place_number z s) at w in c.0 c.1))
