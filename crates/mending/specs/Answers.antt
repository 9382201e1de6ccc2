-- The call by its questions: what its three answers leave, for code that asks them and then makes the five passes.
use Rattle.std.specs.Prelude.{◌≡◌, ℕ, suc, ◌+◌, ◌*◌, ◌≤◌, drop}
use Rattle.std.proofs.Math.Path.{refl, ap, sym}
use Rattle.std.proofs.Common.{◌∙◌, mul-add, mul-le-mul}
use mathlib.Core.List.{List, ◌++◌}
use native.Mathlib.Omega.{arith}
use Rattle.std.proofs.Math.ListN.{length, length-append}
use Rattle.std.proofs.lemmas.List.Edits.{sets-eq}
use Rattle.std.proofs.Math.Seq.{length-sets}
use Rattle.tables.specs.Base.{at}
use Rattle.tables.specs.Laws.{count_bound}
use Rattle.tables.specs.Questions.{Questions, none, ask, first_no}
use Rattle.tables.specs.Rule.{Rule, Holds, non, below, ◌and◌}
use Rattle.model.specs.declared.sizes.Sizes.{Sizes}
use Rattle.model.specs.State.{all_pages}
use Rattle.model.specs.Sizes.{sizes_fit}
use Rattle.model.specs.Laws.Fit.{Within, within}
use Rattle.model.specs.Laws.Own.{first_yes, first_no_holds}
use Rattle.model.specs.Rules.{fit}
use Rattle.model.specs.Step.{Outcome, outcome, disk_lengths}
use Rattle.mending.specs.Mend.{Pack, Lent, all_places, changes, cleared, listed, after, listed_by, all_changes, pack_of, with_pack, flat, mended_lent, mend}
use Rattle.mending.specs.Places.{PackFit, after_fit}
use Rattle.mending.specs.Rules.{pack_fit, map_fit_4}
use Rattle.mending.specs.Exact.{changes_exact}
use Rattle.mending.specs.Passes.{filled, noted, noted_on, length_flat}
use Rattle.mending.specs.Steps.{filled_pack, PassGiven, AccountsGiven, MapsGiven, Passed}

-- an answer and what is left
abbrev pub answered : ℕ → ℕ → Lent → Outcome Lent
answered n result l = record { answer = record { refusal = n; result = result }; left = l }

-- ── the two questions ──
abbrev pub fits : Sizes → Lent → Rule
fits z l = sizes_fit z and disk_lengths z l.disk

abbrev pub roomy : Sizes → Lent → Rule
roomy z l = non (below (length l.list) (4 * all_places z))

module _ (z : Sizes) (l : Lent) where
  abbrev by : ℕ → Outcome Lent
  by n = outcome n (length (all_changes z (pack_of l.disk))) l (mended_lent z l)

  abbrev rest : Questions
  rest = ask 24 (roomy z l) none

  nothing_left : first_no none ≡ 0
  unfolding first_no
  nothing_left = refl

  pub mend_unfit : ¬ (Holds (fits z l)) → answered 1 0 l ≡ mend z l
  unfolding mend
  mend_unfit h = sym (ap by (first_no_holds 1 (fits z l) rest h))

  pub mend_short : Holds (fits z l) → ¬ (Holds (roomy z l)) → answered 24 0 l ≡ mend z l
  unfolding mend
  mend_short f h = sym (ap by (first_yes 1 (fits z l) rest f ∙ first_no_holds 24 (roomy z l) none h))

  mend_done : Holds (fits z l) → Holds (roomy z l) → answered 0 (length (all_changes z (pack_of l.disk))) (mended_lent z l) ≡ mend z l
  unfolding mend
  mend_done f h = sym (ap by (first_yes 1 (fits z l) rest f ∙ first_yes 24 (roomy z l) none h ∙ nothing_left))

-- ── room for all that can change ──
pub filled_most : (l : List ℕ) → filled l ≤ length l
unfolding filled
filled_most l = count_bound (length l) _

pub places_most : (z : Sizes) → Within z → all_places z ≤ 16512
places_most z w = mul-le-mul {n₂ = 64} {m₂ = 258} (omega (arith, w.slots_most)) (omega (arith, w.pages_most))

places_sum : (z : Sizes) → all_places z ≡ all_pages z + 2 * z.slots
places_sum z = omega (arith, mul-add z.slots z.pages 2)

module _ (z : Sizes) (l : Lent) (f : Holds (fits z l)) where
  abbrev d : Pack
  d = pack_of l.disk

  abbrev w : Within z
  w = within z f.0

  abbrev long : PackFit z d
  long = pack_fit z l.disk f.0 f.1

  few : filled_pack d ≤ all_places z
  few = omega (arith, places_sum z, filled_most d.numbers, filled_most d.accounts, filled_most d.maps, long.numbers, long.accounts, long.maps)

  -- what the first pass is given
  pub given_first : Holds (roomy z l) → PassGiven z d l.list 0
  given_first r = record { within = w; long = long; room = omega (arith, few, r) }

  -- ── after k passes ──
  pub record Chained (k : ℕ) (e : Pack) (list : List ℕ) (n : ℕ) : Type 0 where
    pub pack : e ≡ after z d k
    pub listing : list ≡ noted l.list 0 (listed_by z d k)
    pub count : n ≡ length (listed_by z d k)
    pub kept : n + filled_pack e ≡ filled_pack d

  pub chain_none : Chained 0 d l.list 0
  unfolding after listed_by
  chain_none = record { pack = refl; listing = refl; count = refl; kept = omega arith }

  pub chain_next : (k : ℕ) {e e' : Pack} {m m' : List ℕ} {n n' : ℕ} → Chained k e m n → Passed z k e e' m m' n n' → Chained (suc k) e' m' n'
  unfolding after listed_by
  chain_next k {e} {e'} {m} {m'} {n} {n'} c p =
      let same : listed z e (suc k) (changes z e k) ≡ listed z (after z d k) (suc k) (changes z (after z d k) k) = ap (λ (x : Pack). listed z x (suc k) (changes z x k)) c.pack in
      let a = listed_by z d k in
      let b = listed z (after z d k) (suc k) (changes z (after z d k) k) in
      let starts : n ≡ 0 + length a = omega (arith, c.count) in
      record {
        pack = p.pack ∙ ap (λ (x : Pack). cleared z x (changes z x k)) c.pack;
        listing = p.list ∙ ap (noted m n) same ∙ ap (λ (x : List ℕ). noted x n b) c.listing ∙ noted_on l.list 0 n a b starts;
        count = omega (arith, p.count, ap length same, c.count, length-append a b);
        kept = p.kept ∙ c.kept;
      }

  -- what the next pass is given
  module _ (r : Holds (roomy z l)) {k : ℕ} {e : Pack} {m : List ℕ} {n : ℕ} (c : Chained k e m n) where
    abbrev listing_long : length m ≡ length l.list
    listing_long = ap length c.listing ∙ length-sets l.list (4 * 0) (flat (listed_by z d k))

    pub given_next : PassGiven z e m n
    given_next = record { within = w; long = rw c.pack (after_fit z d k long); room = omega (arith, few, r, c.kept, listing_long) }

    pub given_accounts : AccountsGiven z e.accounts m n
    given_accounts = let g = given_next in record { within = w; long = g.long.accounts; room = omega (arith, g.room) }

    pub given_maps : MapsGiven z e.maps m n
    given_maps = let g = given_next in record { within = w; long = g.long.maps; room = omega (arith, g.room) }

  -- after step 4 entries are at most R
  pub chain_fit : {e : Pack} {m : List ℕ} {n : ℕ} → Chained 4 e m n → Holds (fit (length e.maps) z.records (at e.maps))
  chain_fit {e} c i h r q =
      let ms : e.maps ≡ (after z d 4).maps = ap (λ (x : Pack). x.maps) c.pack in
      let g : length e.maps ≡ all_pages z = ap length ms ∙ (after_fit z d 4 long).maps in
      let v : at e.maps i ≡ at (after z d 4).maps i = ap (λ (x : List ℕ). at x i) ms in
      omega (arith, map_fit_4 z d long w.accounts i (omega (arith, g, h)), v, q)

  -- the count is small
  pub chain_most : {k : ℕ} {e : Pack} {m : List ℕ} {n : ℕ} → Chained k e m n → n ≤ 16512
  chain_most c = omega (arith, c.kept, few, places_most z w)

  -- ── after all five ──
  pub chain_all : Holds (roomy z l) → {e : Pack} {m : List ℕ} {n : ℕ} → Chained 5 e m n → answered 0 n (record { disk = with_pack l.disk e; list = m }) ≡ mend z l
  chain_all r {e} {m} {n} c =
      let cs = flat (all_changes z d) in
      let b : 0 + length cs ≤ length l.list = omega (arith, length_flat (all_changes z d), (changes_exact z d long).most, r) in
      let s : 0 + length cs ≡ length cs = omega arith in
      let q : m ≡ cs ++ drop (length cs) l.list = c.listing ∙ sets-eq cs l.list 0 b ∙ ap (λ (x : ℕ). cs ++ drop x l.list) s in
      (λ x. answered 0 (c.count x) (record { disk = with_pack l.disk (c.pack x); list = q x })) ∙ mend_done z l f r
