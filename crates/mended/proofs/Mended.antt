-- Lists from a finished mending: demand 3 holds of them, and where the parents are lower no act of them is answered 1 or 2. What mending leaves of the pack.
use mathlib.Core.Path.{◌≡◌, refl, sym, ◌∙◌}
use mathlib.Core.Bool.{Bool, true, false}
use mathlib.Core.List.{List}
use Prim.Native.Nat.{ℕ, zero, suc, ◌*◌, ◌<◌}
use native.Mathlib.Omega.{arith}
use lib.Dec.{T}
use lib.ListN.{length}
use Rattle.tables.specs.Base.{at}
use Rattle.tables.specs.Questions.{none, ask, all_yes}
use Rattle.tables.specs.Rule.{Holds, below, non, ◌and◌, test, sound, told}
use Rattle.model.specs.declared.sizes.Sizes.{Sizes}
use Rattle.model.specs.State.{Disk, Memory, all_pages}
use Rattle.model.specs.Sizes.{sizes_fit}
use Rattle.model.specs.Rules.{lower, disk_rules}
use Rattle.model.specs.Step.{outcome, disk_lengths, memory_lengths}
use Rattle.model.specs.Acts.{Act, legal, run, start}
use Rattle.model.specs.Demand3.{After}
use Rattle.model.specs.FromPack.{from_pack}
use Rattle.model.specs.OneNumber.{one_number, from_pack_by_number}
use Rattle.model.specs.Terms.{all_answered}
use Rattle.model.specs.Laws.Fit.{within}
use Rattle.model.specs.Laws.Unasked.{not_asked}
use Rattle.invariant.proofs.Never.{never_2_from_pack}
use Rattle.crash.proofs.Demand3.{demand3_from_pack}
use Rattle.crash.proofs.OneNumber.{one_number_holds}
use Rattle.mending.specs.Mend.{Lent, all_changes, pack_of, all_places, mend_answer, mended_lent, mend}
use Rattle.mending.specs.Rules.{mended_rules, mended_lengths, map_once_holds, number_once_holds, pack_fit}
use Rattle.mended.proofs.Refused.{run_still, start_still, still_says, still_one, still_by_number}

-- mending alters no word of a record, no limit and no parent
pub mend_records : (z : Sizes) (l : Lent) → (mend z l).left.disk.records ≡ l.disk.records
unfolding mend
mend_records z l = go (mend_answer z l)
  where
    go : (n : ℕ) → (outcome n (length (all_changes z (pack_of l.disk))) l (mended_lent z l)).left.disk.records ≡ l.disk.records
    go zero = refl
    go (suc n) = refl

pub mend_limits : (z : Sizes) (l : Lent) → ((mend z l).left.disk.limits ≡ l.disk.limits) × ((mend z l).left.disk.parents ≡ l.disk.parents)
unfolding mend
mend_limits z l = go (mend_answer z l)
  where
    go : (n : ℕ) → (let o = outcome n (length (all_changes z (pack_of l.disk))) l (mended_lent z l) in (o.left.disk.limits ≡ l.disk.limits) × (o.left.disk.parents ≡ l.disk.parents))
    go zero = (refl, refl)
    go (suc n) = (refl, refl)

-- what a mending that is carried out leaves: a pack of its lengths that keeps the disk rules, whatever the memory holds
pub record Sound (z : Sizes) (d : Disk) : Type 0 where
  pub sizes : Holds (sizes_fit z)
  pub lengths : Holds (disk_lengths z d)
  pub rules : (m : Memory) → Holds (disk_rules z (record { disk = d; memory = m }))

-- whatever the parents, sizes and lengths fit
pub record Fits (z : Sizes) (d : Disk) : Type 0 where
  pub sizes : Holds (sizes_fit z)
  pub lengths : Holds (disk_lengths z d)

pub mended_fits : (z : Sizes) (l : Lent) → (mend z l).answer.refusal ≡ 0 → Fits z (mend z l).left.disk
unfolding mend
mended_fits z l = go (mend_answer z l) refl
  where
    go : (n : ℕ) → mend_answer z l ≡ n → (let o = outcome n (length (all_changes z (pack_of l.disk))) l (mended_lent z l) in o.answer.refusal ≡ 0 → Fits z o.left.disk)
    go zero e h = let a = all_yes 0 (ask 1 (sizes_fit z and disk_lengths z l.disk) (ask 24 (non (below (length l.list) (4 * all_places z))) none)) tt e in record { sizes = a.0.0; lengths = mended_lengths z l.disk a.0.0 a.0.1 }
    go (suc n) e h = absurd (omega (arith, h))

-- where each account but 0 has a lower parent
pub mended_sound : (z : Sizes) (l : Lent) → Holds (lower z.accounts (at l.disk.parents)) → (mend z l).answer.refusal ≡ 0 → Sound z (mend z l).left.disk
unfolding mend
mended_sound z l low = go (mend_answer z l) refl
  where
    go : (n : ℕ) → mend_answer z l ≡ n → (let o = outcome n (length (all_changes z (pack_of l.disk))) l (mended_lent z l) in o.answer.refusal ≡ 0 → Sound z o.left.disk)
    go zero e h = let a = all_yes 0 (ask 1 (sizes_fit z and disk_lengths z l.disk) (ask 24 (non (below (length l.list) (4 * all_places z))) none)) tt e in record { sizes = a.0.0; lengths = mended_lengths z l.disk a.0.0 a.0.1; rules = mended_rules z l.disk a.0.0 a.0.1 low }
    go (suc n) e h = absurd (omega (arith, h))

-- no mending answers 23
pub mend_never_23 : (z : Sizes) (l : Lent) → ¬ ((mend z l).answer.refusal ≡ 23)
unfolding mend
mend_never_23 z l e = not_asked 23 (ask 1 (sizes_fit z and disk_lengths z l.disk) (ask 24 (non (below (length l.list) (4 * all_places z))) none)) (λ h. omega (arith, h)) (λ t. t) (told_refusal (mend_answer z l) e)
  where
    told_refusal : (n : ℕ) → (outcome n (length (all_changes z (pack_of l.disk))) l (mended_lent z l)).answer.refusal ≡ 23 → n ≡ 23
    told_refusal zero h = h
    told_refusal (suc n) h = h

-- no record stands in two places of what a carried-out mending leaves, whatever the parents
mended_once : (z : Sizes) (l : Lent) → (mend z l).answer.refusal ≡ 0 → (i : ℕ) → i < all_pages z → (j : ℕ) → j < all_pages z → (r : ℕ) → at (mend z l).left.disk.maps i ≡ suc r → at (mend z l).left.disk.maps j ≡ suc r → i ≡ j
unfolding mend
mended_once z l = go (mend_answer z l) refl
  where
    go : (n : ℕ) → mend_answer z l ≡ n → (let o = outcome n (length (all_changes z (pack_of l.disk))) l (mended_lent z l) in o.answer.refusal ≡ 0
        → (i : ℕ) → i < all_pages z → (j : ℕ) → j < all_pages z → (r : ℕ) → at o.left.disk.maps i ≡ suc r → at o.left.disk.maps j ≡ suc r → i ≡ j)
    go zero e h = let a = all_yes 0 (ask 1 (sizes_fit z and disk_lengths z l.disk) (ask 24 (non (below (length l.list) (4 * all_places z))) none)) tt e in
        map_once_holds z (pack_of l.disk) (pack_fit z l.disk a.0.0 a.0.1) (within z a.0.0).accounts
    go (suc n) e h = absurd (omega (arith, h))

pub differ : true ≡ false → ⊥
differ x = let y : ◌≡◌ {A = ℕ} 0 1 = cc in omega arith

-- Demand 3 holds also for lists from a mended pack, its claims on a last finished write only where there is one since mending; whatever its parents: if one is not lower, every restart is refused.
pub demand3_from_mended : (z : Sizes) (l : Lent) (junk : Memory) (acts : List Act) → (mend z l).answer.refusal ≡ 0 → Holds (memory_lengths z junk)
    → (let pack = (mend z l).left.disk in T (legal z (start z pack junk) acts) → (let w = run z (start z pack junk) acts in (w.ledger.pack ≡ pack) × After (from_pack z w) z w))
demand3_from_mended z l junk acts e m t = by (test (lower z.accounts (at l.disk.parents))) refl
  where
    by : (b : Bool) → test (lower z.accounts (at l.disk.parents)) ≡ b → (let w = run z (start z (mend z l).left.disk junk) acts in (w.ledger.pack ≡ (mend z l).left.disk) × After (from_pack z w) z w)
    by true q = let s = mended_sound z l (sound (lower z.accounts (at l.disk.parents)) (rw q tt)) e in demand3_from_pack z (mend z l).left.disk junk acts s.sizes s.lengths m (s.rules junk) t
    by false q = let pack = (mend z l).left.disk in
        let k = run_still z pack (λ h. differ (sym (told (lower z.accounts (at l.disk.parents)) (rw (mend_limits z l).1 at h)) ∙ q)) acts (start z pack junk) t (start_still z pack junk) in
        (k.pack_kept, still_says z pack (run z (start z pack junk) acts) k (mended_once z l e))

-- no two slots of it have the same number
mended_number_once : (z : Sizes) (l : Lent) → (mend z l).answer.refusal ≡ 0
    → (i : ℕ) → i < z.slots → (j : ℕ) → j < z.slots → (r : ℕ) → at (mend z l).left.disk.numbers i ≡ suc r → at (mend z l).left.disk.numbers j ≡ suc r → i ≡ j
unfolding mend
mended_number_once z l = go (mend_answer z l) refl
  where
    go : (n : ℕ) → mend_answer z l ≡ n → (let o = outcome n (length (all_changes z (pack_of l.disk))) l (mended_lent z l) in o.answer.refusal ≡ 0
        → (i : ℕ) → i < z.slots → (j : ℕ) → j < z.slots → (r : ℕ) → at o.left.disk.numbers i ≡ suc r → at o.left.disk.numbers j ≡ suc r → i ≡ j)
    go zero e h = let a = all_yes 0 (ask 1 (sizes_fit z and disk_lengths z l.disk) (ask 24 (non (below (length l.list) (4 * all_places z))) none)) tt e in
        number_once_holds z (pack_of l.disk) (pack_fit z l.disk a.0.0 a.0.1) (within z a.0.0).accounts
    go (suc n) e h = absurd (omega (arith, h))

-- "also from a mended or sound older pack, no two designs have the same number, and same design there means same number", whatever its parents
pub one_number_from_mended : (z : Sizes) (l : Lent) (junk : Memory) (acts : List Act) → (mend z l).answer.refusal ≡ 0 → Holds (memory_lengths z junk)
    → (let pack = (mend z l).left.disk in T (legal z (start z pack junk) acts) → (let w = run z (start z pack junk) acts in Holds (one_number w) × Holds (from_pack_by_number z w)))
one_number_from_mended z l junk acts e m t = by (test (lower z.accounts (at l.disk.parents))) refl
  where
    by : (b : Bool) → test (lower z.accounts (at l.disk.parents)) ≡ b → (let w = run z (start z (mend z l).left.disk junk) acts in Holds (one_number w) × Holds (from_pack_by_number z w))
    by true q = let s = mended_sound z l (sound (lower z.accounts (at l.disk.parents)) (rw q tt)) e in one_number_holds z (mend z l).left.disk junk acts s.sizes s.lengths m (s.rules junk) t
    by false q = let pack = (mend z l).left.disk in
        let k = run_still z pack (λ h. differ (sym (told (lower z.accounts (at l.disk.parents)) (rw (mend_limits z l).1 at h)) ∙ q)) acts (start z pack junk) t (start_still z pack junk) in
        let w = run z (start z pack junk) acts in
        (still_one z pack w k (mended_number_once z l e), still_by_number z pack w k (mended_once z l e))

-- no event and no page look of such a list is answered 1 or 2, and no restart is refused
pub never_2_from_mended : (z : Sizes) (l : Lent) (junk : Memory) (acts : List Act) → Holds (lower z.accounts (at l.disk.parents)) → (mend z l).answer.refusal ≡ 0 → Holds (memory_lengths z junk)
    → (let w = start z (mend z l).left.disk junk in T (legal z w acts) → Holds (all_answered z w acts))
never_2_from_mended z l junk acts low e m t = let s = mended_sound z l low e in never_2_from_pack z (mend z l).left.disk junk acts s.sizes s.lengths m (s.rules junk) t
