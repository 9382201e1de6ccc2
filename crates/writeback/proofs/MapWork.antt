-- Map done: each of the code's ways out leaves what the definition says.
use mathlib.Core.Path.{◌≡◌, refl, ap, sym, ◌∙◌, subst}
use mathlib.Core.List.{List}
use mathlib.Core.Logic.{inl, inr}
use Prim.Native.Nat.{ℕ, ◌+◌, ◌*◌, ◌/◌, ◌<◌, ◌≤◌}
use native.Mathlib.Omega.{arith}
use lib.Dec.{eqb}
use lib.ListN.{length, set}
use borrow.Author.Tests.{ne_eqb}
use Rattle.tables.specs.Base.{at}
use Rattle.tables.specs.Questions.{first_no, Asked, all_yes}
use Rattle.tables.specs.Rule.{same}
use Rattle.tables.specs.Store.{store, at_store}
use Rattle.model.specs.declared.sizes.Sizes.{Sizes}
use Rattle.model.specs.declared.frame.Pool.{Pool}
use Rattle.model.specs.declared.event.Answer.{Answer}
use Rattle.model.specs.declared.refusals.Refusal.{Refusal}
use Rattle.model.specs.Lines.{FREE, RELEASED}
use Rattle.model.specs.State.{State, free_count}
use Rattle.model.specs.Setters.{counted}
use Rattle.model.specs.Lent.{no_pool}
use Rattle.model.specs.Questions.{questions}
use Rattle.model.specs.Refusals.{number}
use Rattle.model.specs.Writeback
use Rattle.model.specs.Step.{Outcome, carried, result}
use Rattle.model.specs.Laws.Own.{own, completed}
use Rattle.model.specs.Pool.{deposited, deposited_counts}
use Rattle.leaves.specs.Counts.{free_same, free_most}
use Rattle.leaves.specs.FreeMap.{free_map_table, free_map_same}
use Rattle.leaves.specs.Freed.{Freed, leaver_of}
use Rattle.writeback.specs.declared.map_done.Freed as Handed
use Rattle.model.specs.Laws.OwnLaws.{own_yes, own_no}
use Rattle.writeback.specs.Needs.{Mapped}
use Rattle.writeback.specs.Seen.{map_done, seen_map_done}
use Rattle.tables.specs.StoreLoops.{part_fits}
use Rattle.writeback.proofs.Refused.{number_some}

-- what the contract says of the answer, any pool with so many free records, the maps, the states, the slots, the free map, the update switches and the images
abbrev pub Said : (Pool → Outcome State) → ℕ → ℕ → Answer → List ℕ → List ℕ → List ℕ → List ℕ → List ℕ → List ℕ → Type 0
Said o free n a ms ss os fm us is =
    let l = (o no_pool).left in
    record {
      answer : a ≡ (o no_pool).answer;
      pool : (pool : Pool) → pool.free ≡ free → deposited n pool ≡ (o pool).left.memory.held.pool;
      maps : ms ≡ l.disk.maps;
      states : ss ≡ l.memory.held.states;
      owners : os ≡ l.memory.held.owners;
      free_map : fm ≡ l.memory.held.free_map;
      updating : us ≡ l.memory.slots.updating;
      images : is ≡ l.memory.slots.images;
    }

-- .. where it is carried out
abbrev pub handed : ℕ → Handed.Freed
handed count = record { deposited = count; answer = record { refusal = 0; result = 0 } }

-- a released record is as little free as a leaving one
still_taken : (ss os : List ℕ) (s r : ℕ) → r < length ss → eqb (at ss r) FREE ≡ eqb (at (store ss (leaver_of ss os s) (λ k. RELEASED)) r) FREE
still_taken ss os s r h = elim (at_store ss (leaver_of ss os s) (λ k. RELEASED) r h) [
  | inl x ↦ rw x.1 (ne_eqb (at ss r) FREE (λ e. omega (arith, x.0.0)))
  | inr x ↦ rw x.1
]

module _ (z : Sizes) (ns ms ss os fm ac us is : List ℕ) (s good : ℕ) where
  abbrev st : Pool → State
  st pool = seen_map_done pool ns ms ss os fm ac us is

  abbrev out : Pool → Outcome State
  out pool = own z (st pool) (map_done s good)

  abbrev Left : Handed.Freed → List ℕ → List ℕ → List ℕ → List ℕ → List ℕ → List ℕ → Type 0
  Left x ms' ss' os' fm' us' is' = Said out (free_count z (at ss)) x.deposited x.answer ms' ss' os' fm' us' is'

  left_by_holds : {o : Pool → Outcome State} (x : Handed.Freed) {ms' ss' os' fm' us' is' : List ℕ} → ((p : Pool) → out p ≡ o p) → Said o (free_count z (at ss)) x.deposited x.answer ms' ss' os' fm' us' is' → Left x ms' ss' os' fm' us' is'
  left_by_holds x {ms' = ms'} {ss' = ss'} {os' = os'} {fm' = fm'} {us' = us'} {is' = is'} e h = subst (λ (o : Pool → Outcome State). Said o (free_count z (at ss)) x.deposited x.answer ms' ss' os' fm' us' is') (λ i p. sym (e p) i) h

  pub refused : (q : Refusal) → number q ≡ first_no (questions z (st no_pool) (map_done s good)) → {x : Handed.Freed} → x ≡ record { deposited = 0; answer = record { refusal = number q; result = 0 } } → Left x ms ss os fm us is
  unfolding deposited
  refused q e {x} y = left_by_holds x (λ p. sym (own_no z (st p) (map_done s good) _ e (number_some q)))
      (record { answer = ap (λ (a : Handed.Freed). a.answer) y; pool = λ p c. ap (λ (a : Handed.Freed). deposited a.deposited p) y; maps = refl; states = refl; owners = refl; free_map = refl; updating = refl; images = refl })

  module _ (e : 0 ≡ first_no (questions z (st no_pool) (map_done s good))) where
    asked : Asked (questions z (st no_pool) (map_done s good))
    asked = all_yes 2 (questions z (st no_pool) (map_done s good)) tt (sym e)

    inside : s < z.slots
    inside = asked.0.0

    module _ (ready : Mapped z ms ss os fm is) where
      pub maps_fit : s * z.pages + z.pages ≤ length ms
      maps_fit = rw ready.maps_long (part_fits z.slots z.pages s inside)

      pub images_fit : s * z.pages + z.pages ≤ length is
      images_fit = rw ready.images_long (part_fits z.slots z.pages s inside)

      pub good_left : good ≡ 1 → {ms' ss' os' fm' us' is' : List ℕ} {k : ℕ} {x : Handed.Freed} → us' ≡ set us s 0 → ms' ≡ store ms (λ i. same (i / z.pages) s) (at is)
          → is' ≡ store is (λ i. same (i / z.pages) s) (λ i. 0) → Freed z s ss os ss' os' fm' (free_count z (at ss) + k) → x ≡ handed k → Left x ms' ss' os' fm' us' is'
      unfolding carried result Writeback.map_done Writeback.store_image Writeback.update_over counted
      good_left g {ss' = ss'} {k = k} {x = x} a b d w y = left_by_holds x (λ p. sym (own_yes z (st p) (map_done s good) _ e refl) ∙ ap (completed 0) (ap (λ (m : ℕ). carried z (st p) (map_done s m)) g)) (record {
        answer = ap (λ (v : Handed.Freed). v.answer) y;
        pool = λ p c. ap (λ (v : Handed.Freed). deposited v.deposited p) y ∙ deposited_counts k p (omega (arith, c, w.the_count, free_most z (at ss'), ready.records_most))
            ∙ ap (λ (m : ℕ). record { hand = p.hand; free = m }) (ap (λ (m : ℕ). m + k) c ∙ w.the_count ∙ ap (λ (l : List ℕ). free_count z (at l)) w.the_states);
        maps = b;
        states = w.the_states;
        owners = w.the_owners;
        free_map = w.the_map ∙ ap (λ (l : List ℕ). free_map_table z (at l)) w.the_states;
        updating = a;
        images = d;
      })

      pub failed_left : ¬ (good ≡ 1) → {ss' us' is' : List ℕ} {x : Handed.Freed} → us' ≡ set us s 0
          → is' ≡ store is (λ i. same (i / z.pages) s) (λ i. 0) → ss' ≡ store ss (leaver_of ss os s) (λ r. RELEASED) → x ≡ handed 0 → Left x ms ss' os fm us' is'
      unfolding carried result Writeback.map_done Writeback.update_over counted deposited
      failed_left g {x = x} a d w y = left_by_holds x (λ p. sym (own_yes z (st p) (map_done s good) _ e refl)) (rw (ne_eqb good 1 g) (record {
        answer = ap (λ (v : Handed.Freed). v.answer) y;
        pool = λ p c. ap (λ (v : Handed.Freed). deposited v.deposited p) y ∙ ap (λ (m : ℕ). record { hand = p.hand; free = m }) (c ∙ free_same z (at ss) (at (store ss (leaver_of ss os s) (λ r. RELEASED))) taken);
        maps = refl;
        states = w;
        owners = refl;
        free_map = ready.told ∙ free_map_same z (at ss) (at (store ss (leaver_of ss os s) (λ r. RELEASED))) taken;
        updating = a;
        images = d;
      }))
        where
          taken : (r : ℕ) → r < z.records → eqb (at ss r) FREE ≡ eqb (at (store ss (leaver_of ss os s) (λ k. RELEASED)) r) FREE
          taken r h = still_taken ss os s r (rw ready.states_long h)
