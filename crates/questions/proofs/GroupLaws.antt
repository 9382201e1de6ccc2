-- What the proofs of the groups cite: tests joined, and tables made on the way put in place of what they tell.
use mathlib.Core.Path.{◌≡◌, refl, sym, ◌∙◌}
use mathlib.Core.Bool.{Bool, true, false, ◌&&◌, and_assoc}
use mathlib.Core.List.{List}
use Prim.Native.Nat.{ℕ, suc, ◌-◌, ◌*◌, ◌<◌}
use native.Mathlib.Omega.{arith}
use native.Mathlib.Decide.{ℕ_discrete}
use borrow.Author.Tests.{eq-eqb, ne_eqb}
use lib.Dec.{eqb}
use lib.ListN.{length}
use Rattle.tables.specs.Base.{at}
use Rattle.tables.specs.Queue.{queue}
use Rattle.tables.specs.Marks.{bit_of}
use Rattle.tables.specs.Rule.{Rule, same, below, ◌and◌, each, Holds, test, alike}
use Rattle.tables.specs.Turn.{both, four}
use Rattle.model.specs.declared.frame.Frame.{Frame}
use Rattle.model.specs.declared.sizes.Sizes.{Sizes}
use Rattle.model.specs.State.{frame_at}
use Rattle.model.specs.Rules.{fit, once}
use Rattle.model.specs.Laws.Bounds.{pages_most}
use Rattle.rules.specs.Passes.{distinct, marked, counted, address_of, frame_rows, record_row, record_rows, HeldFit, ImagedFit, FramesFit}
use Rattle.questions.specs.Groups.{record_held, records_held, frame_passes, FilesLong, FramesLong}
use Rattle.questions.proofs.Shapes.{each_same}

-- ── tests that came out true, or false ──
pub both_true : (a b : Bool) → a && b ≡ true → (a ≡ true) × (b ≡ true)
both_true true b e = (refl, e)
both_true false b e = (e, absurd (unlearn_false e))
  where
    unlearn_false : false ≡ true → ⊥
    unlearn_false q = let z : ◌≡◌ {A = ℕ} 0 1 = cc in omega arith

pub three_true : (a b c : Bool) → (a && b) && c ≡ true → (a ≡ true) × (b ≡ true) × (c ≡ true)
three_true a b c e = let x = both_true (a && b) c e in let y = both_true a b x.0 in (y.0, y.1, x.1)

pub four_true : (a b c d : Bool) → ((a && b) && c) && d ≡ true → a ≡ true
four_true a b c d e = (three_true a b c (both_true ((a && b) && c) d e).0).0

pub five_true : (a b c d e : Bool) → (((a && b) && c) && d) && e ≡ true → a ≡ true
five_true a b c d e x = four_true a b c d (both_true (((a && b) && c) && d) e x).0

pub five : (f g h k l : Rule) (a b c d e : Bool) → a ≡ test f → b ≡ test g → c ≡ test h → d ≡ test k → e ≡ test l → (((a && b) && c) && d) && e ≡ test (f and g and h and k and l)
five f g h k l a b c d e p q r s t = and_assoc ((a && b) && c) d e ∙ four f g h (k and l) a b c (d && e) p q r (both k l d e s t)

pub same_told : (a b x : ℕ) → x ≡ b → eqb a x ≡ test (same a b)
unfolding test
same_told a b x e = rw e

-- ── what is named, by the entries or by the marks ──
module _ (m n : ℕ) (entry : ℕ → ℕ) (marks : List ℕ) (v : Holds (marked m n entry marks)) (r : ℕ) where
  pub marked_some : r < m → bit_of marks r ≡ 1 → (i : ℕ) × (i < n) × (entry i ≡ suc r)
  marked_some less on = v.1 r less on

  pub some_marked : (i : ℕ) × (i < n) × (entry i ≡ suc r) → bit_of marks r ≡ 1
  some_marked x = v.0 x.0 x.1 r x.2

module _ (records slots : ℕ) (held listed maps addresses states owners updating : List ℕ)
    (h : Holds (marked records (length maps) (at addresses) held)) (l : Holds (marked records (length maps) (at maps) listed)) where
  pub rows_held : test (record_rows records slots (bit_of held) (bit_of listed) states owners updating) ≡ test (records_held records slots maps addresses states owners updating)
  rows_held = each_same records _ _ (λ r k. alike
      (record_row slots (bit_of held r) (bit_of listed r) (at states r) (at owners r) (at updating))
      (record_held slots (length maps) (at addresses) (at maps) (at states r) (at owners r) (at updating) r)
      (λ x. (x.0, (x.1.0, (λ e. marked_some records (length maps) (at addresses) held h r k (x.1.1.0 e), (λ e. marked_some records (length maps) (at maps) listed l r k (x.1.1.1.0 e), x.1.1.1.1)))))
      (λ x. (x.0, (x.1.0, (λ e. some_marked records (length maps) (at addresses) held h r (x.1.1.0 e), (λ e. some_marked records (length maps) (at maps) listed l r (x.1.1.1.0 e), x.1.1.1.1))))))

-- ── what the pass over pages needs of the lengths ──
module _ (z : Sizes) (numbers account maps addresses states owners active updating images : List ℕ) (long : FilesLong z numbers account maps addresses states owners active updating images) where
  pub held_fit : Holds (fit (length maps) z.records (at maps)) → HeldFit z.records maps addresses states owners
  held_fit m = record {
    addresses_long = long.addresses_long ∙ sym long.maps_long;
    few = omega (arith, pages_most z long.within, long.maps_long);
    states_long = long.states_long;
    owners_long = long.owners_long;
    maps_fit = m;
  }

  pub imaged_fit : ImagedFit z.records addresses images states owners
  imaged_fit = record { images_long = long.images_long ∙ sym long.addresses_long; states_long = long.states_long; owners_long = long.owners_long }

-- ── the address of the page that an entry names ──
module _ (address : ℕ → ℕ) (page : ℕ) where
  address_named : (i : ℕ) → page ≡ suc i → address_of address page ≡ address i
  address_named i e = let d : ¬ (page ≡ 0) = λ z. omega (arith, e, z) in let b : page - 1 ≡ i = omega (arith, e) in rw (ne_eqb page 0 d, b)

  named_address : (r : ℕ) → address_of address page ≡ suc r → (page ≡ suc (page - 1)) × (address (page - 1) ≡ suc r)
  named_address r e = elim (ℕ_discrete page 0) [
    | yes z ↦ absurd (let n : 0 ≡ suc r = rw (eq-eqb page 0 z) at e in omega (arith, n))
    | no d ↦ (omega (arith, d), rw (ne_eqb page 0 d) at e)
  ]

-- ── what the pass over frames needs, and frames by the tables of their places ──
module _ (z : Sizes) (account records words free removal addresses states active : List ℕ) (long : FramesLong z account records words free removal addresses states active) where
  pub frames_fit : Holds (fit (length addresses) z.records (at addresses)) → Holds (each (length account) λ s. below (at account s) z.accounts) → FramesFit z account active addresses states words records
  frames_fit a q = record {
    few = omega (arith, long.within.frames_most);
    pages = long.within.pages;
    accounts_long = omega (arith, long.accounts_long, long.active_long);
    accounts_fit = λ s h. omega (arith, q s h, long.within.accounts_most);
    addresses_long = rw long.active_long long.addresses_long;
    addresses_fit = rw long.states_long a;
    words_long = omega (arith, long.words_long);
    records_long = rw long.states_long (omega (arith, long.records_long));
  }

  -- where both queues are queues, and no record is held twice, the pass over the frames decides
  module _ (frames : List Frame) (queued removing : List ℕ) (o : Holds (distinct (length addresses) z.records (at addresses))) where
    abbrev page : ℕ → ℕ
    page f = (frame_at frames f).page

    abbrev paged : Rule
    paged = fit z.frames (length addresses) page

    abbrev records_apart : Rule
    records_apart = distinct z.frames (length states) (λ f. address_of (at addresses) (page f))

    abbrev rows : Rule
    rows = frame_rows z.frames z.words z.pages frames words records active addresses states queued removing

    -- a page in two frames would have one record in both
    pages_once : Holds records_apart → Holds rows → Holds (once z.frames page)
    pages_once d h f l g m i e q =
        let some = ((h f l).0.1.1.1.1.1.1 i e).0 in
        let r : at addresses i ≡ suc (at addresses i - 1) = omega (arith, some) in
        d.1 f l g m (at addresses i - 1) (address_named (at addresses) (page f) i e ∙ r) (address_named (at addresses) (page g) i q ∙ r)

    -- a record of two frames' pages would be that of one page
    records_once : Holds (distinct z.frames (length addresses) page) → Holds records_apart
    records_once p = (
      λ f l r e. let n = named_address (at addresses) (page f) r e in rw long.states_long (o.0 (page f - 1) (p.0 f l (page f - 1) n.0) r n.1),
      λ f l g m r e q.
          let n = named_address (at addresses) (page f) r e in
          let k = named_address (at addresses) (page g) r q in
          let same_page : page f - 1 ≡ page g - 1 = o.1 (page f - 1) (p.0 f l (page f - 1) n.0) (page g - 1) (p.0 g m (page g - 1) k.0) r n.1 k.1 in
          p.1 f l g m (page f - 1) n.0 (rw same_page k.0),
    )

    pub frames_decide : Holds (counted 64 free queued) → Holds (counted 64 removal removing) → Holds (queue z.frames free) → Holds (queue z.frames removal)
        → test (paged and records_apart and rows) ≡ test (frame_passes z.frames z.words z.pages (z.slots * z.pages) (frame_at frames) records words free removal addresses states active)
    frames_decide a b q p = alike
        (paged and records_apart and rows)
        (frame_passes z.frames z.words z.pages (z.slots * z.pages) (frame_at frames) records words free removal addresses states active)
        (λ h. (((rw long.addresses_long at h.0, pages_once h.1.0 h.1.1), (q, p)), λ f l. rw (a f (omega (arith, l, long.within.frames_most)), b f (omega (arith, l, long.within.frames_most))) at (h.1.1 f l)))
        (λ h. let d : Holds (distinct z.frames (length addresses) page) = rw long.addresses_long h.0.0 in (d.0, (records_once d, λ f l. rw (a f (omega (arith, l, long.within.frames_most)), b f (omega (arith, l, long.within.frames_most))) (h.1 f l))))

-- twelve tests, joined from the left or from the right
pub twelve : (a b c d e f g h i j k l : Bool) → ((((((((((a && b) && c) && d) && e) && f) && g) && h) && i) && j) && k) && l ≡ a && (b && (c && (d && (e && (f && (g && (h && (i && (j && (k && l))))))))))
twelve false b c d e f g h i j k l = refl
twelve true false c d e f g h i j k l = refl
twelve true true false d e f g h i j k l = refl
twelve true true true false e f g h i j k l = refl
twelve true true true true false f g h i j k l = refl
twelve true true true true true false g h i j k l = refl
twelve true true true true true true false h i j k l = refl
twelve true true true true true true true false i j k l = refl
twelve true true true true true true true true false j k l = refl
twelve true true true true true true true true true false k l = refl
twelve true true true true true true true true true true false l = refl
twelve true true true true true true true true true true true l = refl
