-- A store into a free record: nothing names it, and the rules are kept.
use mathlib.Core.Path.{◌≡◌, refl, ap, sym, ◌∙◌, subst}
use mathlib.Core.List.{List, ◌∷◌}
use mathlib.Core.Logic.{◌⊎◌, inl, inr}
use Prim.Native.Nat.{ℕ, zero, suc, ◌+◌, ◌*◌, ◌<◌, ◌≤◌}
use native.Mathlib.Omega.{arith}
use native.Mathlib.Decide.{ℕ_discrete}
use lib.Dec.{T, eqb}
use lib.ListN.{length}
use Rattle.tables.specs.Base.{at, if}
use Rattle.tables.specs.Laws.{if_yes, if_no}
use Rattle.tables.specs.Store.{Split, length_store}
use Rattle.model.specs.declared.sizes.Sizes.{Sizes}
use Rattle.model.specs.Lines.{FREE, FILED, NULLED, LIVE, RELEASED, LEAVING}
use Rattle.model.specs.State.{Disk, State, Files, files, frames, all_pages, slot_of}
use Rattle.model.specs.Setters.{on_disk, set_records}
use Rattle.model.specs.Parts.{set_part}
use Rattle.model.specs.Laws.Ruled.{Ruled, OnDisk, OfRecords}
use Rattle.model.specs.Laws.Fit.{Fit}
use Rattle.invariant.proofs.Parts.{at_part}

-- ── a free record is named by nothing ──
module _ (z : Sizes) (v : Files) (rules : OfRecords z v) (r : ℕ) (free : v.state r ≡ FREE) where
  pub not_held : (i : ℕ) → i < all_pages z → ¬ (v.address i ≡ suc r)
  not_held i h p = elim (rules.held i h r p).1 [ inl e ↦ omega (arith, e, free) | inr e ↦ omega (arith, e, free) ]

  pub not_listed : (i : ℕ) → i < all_pages z → ¬ (v.map i ≡ suc r)
  not_listed i h p = elim (ℕ_discrete (v.active (slot_of z i)) 1) [
    | yes a ↦ elim (rules.mapped i h r p a) [ inl e ↦ not_held i h e | inr e ↦ elim e.1 [ inl g ↦ omega (arith, g, free) | inr g ↦ omega (arith, g, free) ] ]
    | no a ↦ omega (arith, (rules.filed i h r p a).1, free)
  ]

  pub not_imaged : (i : ℕ) → i < all_pages z → ¬ (v.image i ≡ suc r)
  not_imaged i h p = elim (rules.imaged i h r p) [ inl e ↦ not_held i h e | inr e ↦ omega (arith, e.1, free) ]

-- ── the store ──
module _ (z : Sizes) (st : State) (fit : Fit z st) (rules : Ruled z st) (r₀ : ℕ) (below : r₀ < z.records) (free : (files st).state r₀ ≡ FREE) (new : ℕ → ℕ) where
  abbrev pub after : State
  after = on_disk (λ d. set_records (set_part z r₀ new d.records) d) st

  abbrev word : ℕ → ℕ
  word = at st.disk.records

  abbrev word' : ℕ → ℕ
  word' = at (set_part z r₀ new st.disk.records)

  pub word_split : (r n : ℕ) → r < z.records → n < z.words → Split (r ≡ r₀) (word' (r * z.words + n)) (new n) (word (r * z.words + n))
  word_split r n h c = at_part z st.disk.records r₀ new z.records r n fit.disk.records h c

  pub word_other : (r n : ℕ) → r < z.records → n < z.words → ¬ (r ≡ r₀) → word' (r * z.words + n) ≡ word (r * z.words + n)
  word_other r n h c e = elim (word_split r n h c) [ inl y ↦ absurd (e y.0) | inr y ↦ y.1 ]

  pub free_fit : Fit z after
  free_fit = record {
    sizes = fit.sizes;
    disk = record { records = length_store st.disk.records _ _ ∙ fit.disk.records; numbers = fit.disk.numbers; accounts = fit.disk.accounts; maps = fit.disk.maps; limits = fit.disk.limits; parents = fit.disk.parents; highest = fit.disk.highest };
    memory = fit.memory;
  }

  -- "an unmodified frame in service equals its live record": a live record is another
  pub free_ruled : Ruled z after
  free_ruled = record {
    disk = rules.disk;
    records = rules.records;
    queues = record { free_queue = rules.queues.free_queue; removal_list = rules.queues.removal_list };
    frames = (let f = rules.frames in record {
      fit = f.fit;
      in_one_place_holds = f.in_one_place_holds;
      active = f.active;
      once = f.once;
      held = f.held;
      writing = f.writing;
      free = f.free;
      busy = f.busy;
      clean = λ g h i p t m r a w l. f.clean g h i p t m r a w l ∙ same_clean i ((f.fit g h).0 i p) r a w l;
    });
    counts = record { hand = rules.counts.hand; free = rules.counts.free; free_map = rules.counts.free_map; used = rules.counts.used };
    line = rules.line;
  }
    where
      same_clean : (i : ℕ) → i < all_pages z → (r : ℕ) → (files st).address i ≡ suc r → (w : ℕ) → w < z.words
          → if (eqb ((files st).state r) LIVE) (word (r * z.words + w)) 0 ≡ if (eqb ((files st).state r) LIVE) (word' (r * z.words + w)) 0
      same_clean i h r a w l =
          let ne : ¬ (r ≡ r₀) = λ e. not_held z (files st) rules.records r₀ free i h (a ∙ ap suc e) in
          ap (λ (x : ℕ). if (eqb ((files st).state r) LIVE) x 0) (sym (word_other r w (rules.records.address_fit_holds i h r a) l ne))
