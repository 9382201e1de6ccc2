-- Steps 4 and 5, the passes over the maps alone: no number and no account changes, whatever they are. The laws that their loops cite.
use Rattle.std.specs.Prelude.{◌≡◌, refl, List, ℕ, suc, ◌+◌, ◌*◌, ◌<◌, ◌≤◌, length}
use Rattle.std.proofs.Common.{ap, sym, ◌∙◌, arith}
use Rattle.tables.specs.Base.{at}
use Rattle.tables.specs.Rule.{Rule, Holds}
use Rattle.tables.specs.StoreLoops.{Turned, turned_all, part_fits}
use Rattle.model.specs.declared.sizes.Sizes.{Sizes}
use Rattle.model.specs.State.{all_pages, page_of}
use Rattle.model.specs.Laws.Bounds.{pages_most}
use Rattle.model.specs.Rules.{fit}
use Rattle.mending.specs.Mend.{Pack, number, account, entry, wants, changes}
use Rattle.mending.specs.Places.{place_number, place_account}
use Rattle.mending.specs.Passes.{packed, filled, Standing, of_entry, zeroed, standing_off, Agrees, above, of_shared, RowGiven, RowDone}
use Rattle.mending.specs.Names.{Tally, tally_twice, twice_tally}
use Rattle.mending.specs.Steps.{MapsGiven, Passed, passed_by, untouched, slot_end, row_end, pack_none}

pub record MapsTo (z : Sizes) (k : ℕ) (d : Pack) (l₀ : List ℕ) (n₀ s : ℕ) (ms l : List ℕ) (n : ℕ) : Type 0 where
  pub maps : Turned d.maps (of_entry z (changes z d k)) zeroed (s * z.pages) ms
  pub list : Standing z d (suc k) (changes z d k) l₀ n₀ (s * (z.pages + 2)) l n

pub record MapsRun (z : Sizes) (k : ℕ) (ms₀ l₀ : List ℕ) (n₀ s : ℕ) (ms l : List ℕ) (n : ℕ) : Type 0 where
  pub most : s ≤ z.slots
  pub long : length ms ≡ length ms₀
  pub list_long : length l ≡ length l₀
  pub kept : n + filled ms ≡ n₀ + filled ms₀
  pub run : (ns qs : List ℕ) → MapsTo z k (packed ns qs ms₀) l₀ n₀ s ms l n

module _ (z : Sizes) (k : ℕ) (ms₀ l₀ : List ℕ) (n₀ : ℕ) where
  pub maps_none : MapsRun z k ms₀ l₀ n₀ 0 ms₀ l₀ n₀
  maps_none = record {
    most = omega arith;
    long = refl;
    list_long = refl;
    kept = refl;
    run = λ ns qs. let p = pack_none z k (packed ns qs ms₀) l₀ n₀ in record { maps = p.maps; list = p.list };
  }

  module _ (still : (ns qs : List ℕ) (s : ℕ) → (¬ (Holds (changes z (packed ns qs ms₀) k (number s)))) × (¬ (Holds (changes z (packed ns qs ms₀) k (account s))))) where
    pub maps_next : (s : ℕ) {ms ms' l l' : List ℕ} {n r : ℕ} (test : ℕ → Rule) → s < z.slots → ((ns qs : List ℕ) → Agrees z (packed ns qs ms₀) (changes z (packed ns qs ms₀) k) s test)
        → RowDone (suc k) s z.pages test ms ms' l l' n r → MapsRun z k ms₀ l₀ n₀ s ms l n → MapsRun z k ms₀ l₀ n₀ (s + 1) ms' l' r
    maps_next s {ms} {ms'} {l} {l'} {n} {r} test h agree row m = record {
      most = omega arith;
      long = row.long ∙ m.long;
      list_long = row.list_long ∙ m.list_long;
      kept = row.kept ∙ m.kept;
      run = run;
    }
      where
        run : (ns qs : List ℕ) → MapsTo z k (packed ns qs ms₀) l₀ n₀ (s + 1) ms' l' r
        run ns qs =
            let d = packed ns qs ms₀ in
            let o = m.run ns qs in
            let a = standing_off (s * (z.pages + 2)) o.list (λ w. (still ns qs s).0 (rw (place_number z s) at w)) in
            let b = standing_off (s * (z.pages + 2) + 1) a (λ w. (still ns qs s).1 (rw (place_account z s) at w)) in
            let e : s * (z.pages + 2) + 1 + 1 ≡ s * (z.pages + 2) + 2 = omega arith in
            let c = row.carry z d (changes z d k) l₀ n₀ refl (sym m.long) (agree ns qs) o.maps (rw e at b) in
            record { maps = rw (row_end z.pages s) at c.0; list = rw (slot_end z.pages s) at c.1 }

    pub maps_all : (s : ℕ) {ms l : List ℕ} {n : ℕ} → length ms₀ ≡ all_pages z → z.slots ≤ s → MapsRun z k ms₀ l₀ n₀ s ms l n → (ns qs : List ℕ) → Passed z k (packed ns qs ms₀) (packed ns qs ms) l₀ l n₀ n
    maps_all s {ms} {l} {n} f h m ns qs =
        let d = packed ns qs ms₀ in
        let e : s ≡ z.slots = omega (arith, m.most) in
        passed_by z k d
        (untouched ns (λ t. changes z d k (number t)) (λ t. (still ns qs t).0))
        (untouched qs (λ t. changes z d k (account t)) (λ t. (still ns qs t).1))
        (turned_all (s * z.pages) (m.run ns qs).maps (λ i b w. omega (arith, f, ap (λ (t : ℕ). t * z.pages) e, b)))
        (rw e at (m.run ns qs).list) (omega (arith, m.kept))

-- what a row of the pass is given
pub row_given : {z : Sizes} {ms₀ l₀ : List ℕ} {n₀ : ℕ} → MapsGiven z ms₀ l₀ n₀ → (s : ℕ) {ms l : List ℕ} {n : ℕ} → s < z.slots → length ms ≡ length ms₀ → length l ≡ length l₀ → n + filled ms ≡ n₀ + filled ms₀ → RowGiven s z.pages ms l n
row_given {z} {ms₀} g s h lm ll kept = record {
  inside = omega (arith, part_fits z.slots z.pages s h, g.long, lm);
  few = omega (arith, pages_most z g.within, g.long, lm);
  slot_few = omega (arith, g.within.slots_most);
  room = omega (arith, g.room, kept, ll);
}

-- steps 4 and 5 change entries only
pub still_4 : (z : Sizes) (ms₀ ns qs : List ℕ) (s : ℕ) → (¬ (Holds (changes z (packed ns qs ms₀) 3 (number s)))) × (¬ (Holds (changes z (packed ns qs ms₀) 3 (account s))))
unfolding wants
still_4 z ms₀ ns qs s = (λ c. c.1, λ c. c.1)

pub still_5 : (z : Sizes) (ms₀ ns qs : List ℕ) (s : ℕ) → (¬ (Holds (changes z (packed ns qs ms₀) 4 (number s)))) × (¬ (Holds (changes z (packed ns qs ms₀) 4 (account s))))
unfolding wants
still_5 z ms₀ ns qs s = (λ c. c.1, λ c. c.1)

-- .. those above R; those whose record is counted twice
pub agrees_4 : (z : Sizes) (ms₀ : List ℕ) (s : ℕ) (ns qs : List ℕ) → Agrees z (packed ns qs ms₀) (changes z (packed ns qs ms₀) 3) s (above z.records)
unfolding wants
agrees_4 z ms₀ s ns qs p h = (λ c. c.1, λ c. (λ e. omega (arith, c, e), c))

pub agrees_5 : (z : Sizes) (ms₀ named : List ℕ) (m s : ℕ) → s < z.slots → length ms₀ ≡ all_pages z → z.records ≤ m → Holds (fit (length ms₀) z.records (at ms₀)) → Tally (at ms₀) (length ms₀) m named
    → (ns qs : List ℕ) → Agrees z (packed ns qs ms₀) (changes z (packed ns qs ms₀) 4) s (of_shared named)
unfolding wants
agrees_5 z ms₀ named m s hs f most fits tally ns qs p h = (to, from)
  where
    i : ℕ
    i = page_of z s p

    inside : i < length ms₀
    inside = omega (arith, part_fits z.slots z.pages s hs, f, h)

    to : Holds (changes z (packed ns qs ms₀) 4 (entry s p)) → Holds (of_shared named (at ms₀ i))
    to (nz, (r, e, (a, la, (b, lb, w)))) = (r, e, twice_tally tally r (omega (arith, fits i inside r e, most)) (a, omega (arith, la, f), (b, omega (arith, lb, f), w)))

    from : Holds (of_shared named (at ms₀ i)) → Holds (changes z (packed ns qs ms₀) 4 (entry s p))
    from (r, e, two) =
        let t = tally_twice tally r (omega (arith, fits i inside r e, most)) two in
        (λ o. omega (arith, o, e), (r, e, (t.0, omega (arith, t.1, f), (t.2.0, omega (arith, t.2.1, f), t.2.2))))
