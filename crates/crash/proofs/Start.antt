-- The invariant holds of a pack that keeps the disk rules, so of a formatted disk, whatever the memory holds.
use mathlib.Core.Path.{◌≡◌, refl, ap, sym, ◌∙◌}
use mathlib.Core.Bool.{Bool, true}
use mathlib.Core.List.{List}
use mathlib.Core.Logic.{◌⊎◌, inl, inr}
use Prim.Native.Nat.{ℕ, zero, suc, ◌<◌, ◌≤◌}
use native.Mathlib.Decide.{ℕ_discrete}
use native.Mathlib.Nat.{not-suc-le-zero}
use native.Mathlib.Omega.{arith}
use lib.Dec.{T}
use lib.ListN.{get_or, replicate}
use borrow.Author.Tests.{eq-eqb, ne_eqb}
use Rattle.tables.specs.Base.{at, count}
use Rattle.tables.specs.Laws.{last}
use Rattle.tables.specs.CountLaws.{count_none}
use Rattle.tables.specs.Rule.{Holds}
use Rattle.model.specs.declared.sizes.Sizes.{Sizes}
use Rattle.model.specs.Sizes.{sizes_fit}
use Rattle.model.specs.State.{Disk, Memory, files, slot_of}
use Rattle.model.specs.Rules.{lower}
use Rattle.model.specs.Laws.Ruled as R
use Rattle.model.specs.Step.{memory_lengths}
use Rattle.model.specs.Laws.Fit.{DiskFit, within, memory_fit}
use Rattle.model.specs.Restart.{formatted}
use Rattle.model.specs.Ledger.{filled, pack_design, unwritten, no_write, no_update}
use Rattle.model.specs.Acts.{start}
use Rattle.model.specs.Demand3.{last_into, last_update}
use Rattle.invariant.proofs.RecordsCut.{formatted_fit}
use Rattle.invariant.proofs.RestartedRecords.{zero_at, format_disk}
use Rattle.crash.proofs.Writes.{Numbered}
use Rattle.crash.proofs.Steps.{Good}

-- a table of one value
pub one_value : {A : Type 0} (n i : ℕ) (a : A) → get_or (replicate n a) i a ≡ a
one_value zero i a = refl
one_value (suc n) zero a = refl
one_value (suc n) (suc i) a = one_value n i a

-- a table of zeros names nothing
pub names_none : {A : Type 0} (n i r : ℕ) → at (replicate n 0) i ≡ suc r → A
names_none n i r p = absurd (omega (arith, sym (zero_at n i) ∙ p))

-- one that passes is counted from the next number on
counted_on : (p : ℕ → Bool) (i j : ℕ) → i < j → p i ≡ true → count i p < count j p
unfolding count
counted_on p i zero h e = absurd (not-suc-le-zero h)
counted_on p i (suc j) h e = elim (last h) [ inl g ↦ omega (arith, counted_on p i j g e) | inr q ↦ rw (q, ap p (sym q) ∙ e) (omega arith) ]

-- a slot of the pack is filled, and has a design, or empty
pub in_pack_holds : (d : Disk) (s : ℕ) → ((filled d s ≡ true) × (pack_design d s ≡ suc (count s (filled d)))) ⊎ ((at d.numbers s ≡ 0) × (pack_design d s ≡ 0))
unfolding pack_design
in_pack_holds d s = elim (ℕ_discrete (at d.numbers s) 0) [
  | yes e ↦ inr (e, rw (eq-eqb (at d.numbers s) 0 e))
  | no e ↦ inl (rw (ne_eqb (at d.numbers s) 0 e), rw (ne_eqb (at d.numbers s) 0 e))
]

pub young : (d : Disk) (n s : ℕ) → s < n → pack_design d s ≤ count n (filled d)
young d n s h = elim (in_pack_holds d s) [ inl x ↦ omega (arith, x.1, counted_on (filled d) s n h x.0) | inr x ↦ omega (arith, x.1) ]

-- two slots have not one design
pub apart : (d : Disk) (i j r : ℕ) → pack_design d i ≡ suc r → pack_design d j ≡ suc r → ¬ (i < j)
apart d i j r p q h = elim (in_pack_holds d i) [
  | inl x ↦ elim (in_pack_holds d j) [ inl y ↦ omega (arith, x.1, y.1, p, q, counted_on (filled d) i j h x.0) | inr y ↦ omega (arith, y.1, q) ]
  | inr x ↦ omega (arith, x.1, p)
]

pub start_good : (z : Sizes) (pack : Disk) (junk : Memory) → Holds (sizes_fit z) → DiskFit z pack → Holds (memory_lengths z junk) → R.OnDisk z (files (record { disk = pack; memory = junk })) → Good z (start z pack junk)
unfolding start unwritten last_into last_update no_write no_update Numbered
start_good z pack junk sizes disk lengths rules = record {
  fit = record { sizes = within z sizes; disk = disk; memory = memory_fit z junk lengths.0 };
  rules = rules;
  disk = record {
    designs = record {
      born = λ s h n. elim (in_pack_holds pack s) [ inl x ↦ omega (arith, x.1) | inr x ↦ absurd (n x.0) ];
      distinct = λ i hi j hj r p q. omega (arith, apart pack i j r p q, apart pack j i r q p);
      young = λ s h. young pack z.slots s h;
      elder = λ s h. young pack z.slots s h;
      known = λ d p h t. t;
    };
    listing = record {
      owned = λ i h r p. inr (record { none = refl; listed = p; design = refl; words = λ k l. refl });
      numbered = tt;
      after = λ d. omega arith;
      listed = λ i h t. absurd t;
      newborn = λ i h u. record { old = λ e. refl; young = λ n. absurd (n refl) };
      promised = λ i h r p e. elim (in_pack_holds pack (slot_of z i)) [ inl x ↦ absurd (omega (arith, x.1, e)) | inr x ↦ absurd (omega (arith, rules.empty_map_holds i h x.0, p)) ];
    };
  };
  ruled = λ u. absurd u;
  copies = λ u. absurd u;
  memory = λ u. absurd u;
  closed = λ n. record { writing = λ f h t. t; updating = λ s h t. t };
}

-- a formatted disk
pub format_good : (z : Sizes) (parents : List ℕ) (junk : Memory) → Holds (sizes_fit z) → Holds (lower z.accounts (at parents)) → Holds (memory_lengths z junk) → Good z (start z (formatted z parents) junk)
format_good z parents junk sizes low lengths = start_good z (formatted z parents) junk sizes (formatted_fit z parents) lengths (format_disk z (within z sizes) parents low junk)

-- from a format the ledger starts with no design: none is born, and no slot has one
pub format_unborn : (z : Sizes) (parents : List ℕ) → ((unwritten z (formatted z parents)).births ≡ 0) × ((s : ℕ) → (unwritten z (formatted z parents)).design s ≡ 0)
unfolding unwritten formatted
format_unborn z parents = (count_none z.slots (filled (formatted z parents)) (λ s h. empty s), λ s. elim (in_pack_holds (formatted z parents) s) [ inl x ↦ absurd (empty s (rw x.0 tt)) | inr x ↦ x.1 ])
  where
    empty : (s : ℕ) → ¬ (T (filled (formatted z parents) s))
    empty s t = rw (eq-eqb (at (replicate z.slots 0) s) 0 (zero_at z.slots s)) at t
