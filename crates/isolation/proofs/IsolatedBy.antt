-- Another mill's pattern cannot show, every design by its number: over every two lists, from any two packs that are alike.
use mathlib.Core.Path.{◌≡◌, refl}
use mathlib.Core.Bool.{true}
use mathlib.Core.List.{List, [], ◌∷◌}
use Prim.Native.Nat.{ℕ, ◌<◌}
use native.Mathlib.Omega.{arith}
use native.Mathlib.Decide.{dec_lt}
use lib.Dec.{T}
use lib.ListN.{get_or-eq_default}
use Rattle.tables.specs.Base.{at}
use Rattle.tables.specs.Laws.{and_left, and_right, and_intro}
use Rattle.tables.specs.Rule.{Holds}
use Rattle.model.specs.declared.sizes.Sizes.{Sizes}
use Rattle.model.specs.State.{Disk, Memory, slot_of}
use Rattle.model.specs.Sizes.{sizes_fit}
use Rattle.model.specs.Rules.{disk_rules}
use Rattle.model.specs.Laws.Ruled as R
use Rattle.model.specs.Parts.{word_at}
use Rattle.model.specs.Restart.{formatted}
use Rattle.model.specs.Laws.Fit.{disk_fit, fit_disk}
use Rattle.model.specs.Laws.Index.{slot_below}
use Rattle.model.specs.Step.{disk_lengths, memory_lengths}
use Rattle.model.specs.Ledger.{unwritten}
use Rattle.model.specs.Acts.{Act, World, act, allowed, legal, run, start}
use Rattle.invariant.proofs.Kept
use Rattle.invariant.proofs.RecordsCut.{formatted_fit}
use Rattle.crash.proofs.Writes.{In}
use Rattle.crash.proofs.Steps.{Good}
use Rattle.crash.proofs.Start.{start_good}
use Rattle.crash.proofs.Demand3.{act_keeps}
use Rattle.crash.proofs.Births.{Born, run_born}
use Rattle.crash.proofs.Given.{Given, view}
use Rattle.crash.proofs.GivenAlong.{run_given}
use Rattle.crash.proofs.GivenStart.{start_given}
use Rattle.isolation.specs.Twins.{Twin, both, written, cut, cut_in, Twins, packs_like, AlikePacks}
use Rattle.isolation.specs.Isolated.{Seen}
use Rattle.isolation.specs.ByNumber.{packs_like_by, AlikePacksBy, TwinsBy, SeenBy, AlongTwinsBy, IsolatedBy, IsolatedByFormatted}
use Rattle.isolation.proofs.Told.{same_like}
use Rattle.isolation.proofs.Numbers.{run_keeps}
use Rattle.isolation.proofs.ByNumber.{like_by, Names, named, names_before, by_slot, shown_by}
use Rattle.isolation.proofs.AnswersBy.{answers_by}
use Rattle.isolation.proofs.Isolated.{isolated}

-- what is known of a board: demand 3's invariant, that each writer was born, and that no two designs have the same number
pub record Numbered (z : Sizes) (w : World) : Type 0 where
  pub good : Good z w
  pub born : Born w
  pub given : Given z w.up (view w)

module _ (z : Sizes) (hidden n : ℕ) (some : 0 < n) where
  numbered_on : (w : World) (a : Act) → T (allowed z w a) → Numbered z w → Numbered z (act z w a)
  unfolding run legal
  numbered_on w a t k =
      let one : T (legal z w (a ∷ [])) = and_intro (allowed z w a) true t tt in
      record { good = act_keeps z w a t k.good; born = run_born z (a ∷ []) w one k.good k.born; given = run_given z (a ∷ []) w one k.good k.given }

  -- ── twins by the number are twins ──
  twin_of : (w : World) → Numbered z w → Names hidden n w → {x y : Act} → Twin n (at w.state.disk.numbers) x y → Twin hidden w.ledger.design x y
  twin_of w k m (both x) = both x
  twin_of w k m (written s p c x y e f g) = elim (dec_lt s z.slots) [
    | yes l ↦ written s p c x y ((by_slot z hidden n w k.good k.born k.given m s l).0 e) f g
    | no l ↦ (let out : at w.state.disk.numbers s ≡ 0 = get_or-eq_default w.state.disk.numbers 0 (omega (arith, l, k.good.fit.disk.numbers)) in absurd (omega (arith, e, out, some)))
  ]
  twin_of w k m (cut writes updates j j') = cut writes updates j j'
  twin_of w k m (cut_in c i writes updates j j') = cut_in c i writes updates j j'

  -- the hidden design has the number after the list, so before each act of it
  abbrev Named : World → List Act → Type 0
  Named w acts = Names hidden n (run z w acts)

  now : (w : World) (acts : List Act) → Named w acts → Names hidden n w
  now w acts m = names_before hidden n w (run z w acts) (run_keeps z acts w) m

  pub twins_of : (acts acts' : List Act) (w : World) → T (legal z w acts) → Numbered z w → Named w acts → TwinsBy z n w acts acts' → Twins z hidden w acts acts'
  unfolding run legal
  twins_of [] [] w t k m h = tt
  twins_of [] (y ∷ ys) w t k m h = absurd h
  twins_of (x ∷ xs) [] w t k m h = absurd h
  twins_of (x ∷ xs) (y ∷ ys) w t k m h =
      let may = and_left (allowed z w x) (legal z (act z w x) xs) t in
      (twin_of w k (now w (x ∷ xs) m) h.0, twins_of xs ys (act z w x) (and_right (allowed z w x) (legal z (act z w x) xs) t) (numbered_on w x may k) m h.1)

  -- ── what is seen ──
  pub seen_by : (acts acts' : List Act) (w w' : World) → T (legal z w acts) → Numbered z w → Named w acts → Twins z hidden w acts acts' → Seen z hidden w w' acts acts' → SeenBy z n w w' acts acts'
  unfolding run legal
  seen_by [] [] w w' t k m h s = shown_by z hidden n w k.good k.born k.given (now w [] m) w' s
  seen_by [] (y ∷ ys) w w' t k m h s = absurd h
  seen_by (x ∷ xs) [] w w' t k m h s = absurd h
  seen_by (x ∷ xs) (y ∷ ys) w w' t k m h (shown, (answers, rest)) =
      let may = and_left (allowed z w x) (legal z (act z w x) xs) t in
      let c = now w (x ∷ xs) m in (
        shown_by z hidden n w k.good k.born k.given c w' shown,
        (
          answers_by z hidden n w k.good k.born k.given c w' h.0 answers,
          seen_by xs ys (act z w x) (act z w' y) (and_right (allowed z w x) (legal z (act z w x) xs) t) (numbered_on w x may k) m h.1 rest,
        ),
      )

-- ── the start ──
module _ (z : Sizes) (n : ℕ) (pack pack' : Disk) (junk : Memory) (some : 0 < n) where
  alike_by : (hidden : ℕ) → Numbered z (start z pack junk) → Names hidden n (start z pack junk) → AlikePacksBy z n pack pack' → AlikePacks z hidden pack pack'
  unfolding start unwritten packs_like packs_like_by
  alike_by hidden k m p = record {
    tables = p.tables;
    words = λ i h r e c d.
        let (f, g) = by_slot z hidden n (start z pack junk) k.good k.born k.given m (slot_of z i) (slot_below z k.good.fit.sizes.pages i h) in
        like_by n hidden _ _ _ _ (g, f) (p.words i h r e c d);
  }

-- nothing is written yet
start_born : (z : Sizes) (pack : Disk) (junk : Memory) → Born (start z pack junk)
unfolding start unwritten In
start_born z pack junk y i = absurd i

-- where no two designs of the pack have the same number
isolated_where : (z : Sizes) (n : ℕ) (pack pack' : Disk) (junk junk' : Memory) → 0 < n → Holds (sizes_fit z) → Holds (disk_lengths z pack) → Holds (disk_lengths z pack')
    → Holds (memory_lengths z junk) → Holds (memory_lengths z junk') → Holds (disk_rules z (record { disk = pack; memory = junk })) → Given z (start z pack junk).up (view (start z pack junk)) → AlikePacksBy z n pack pack'
    → AlongTwinsBy z n (start z pack junk) (start z pack' junk')
isolated_where z n pack pack' junk junk' some sizes lengths lengths' memory memory' rules given p acts acts' t t' h =
    let w = start z pack junk in
    let good = start_good z pack junk sizes (disk_fit z pack lengths) memory (R.disk_ruled z (record { disk = pack; memory = junk }) rules) in
    let k : Numbered z w = record { good = good; born = start_born z pack junk; given = given } in
    let (hidden, m) = named z (run z w acts) (run_given z acts w t good given) n in
    let m₀ = now z hidden n some w acts m in
    let twins = twins_of z hidden n some acts acts' w t k m h in
    seen_by z hidden n some acts acts' w (start z pack' junk') t k m twins
    (isolated z hidden pack pack' junk junk' sizes lengths lengths' memory memory' rules (alike_by z n pack pack' junk some hidden k m₀ p) acts acts' t t' twins)

-- No two designs of a pack that keeps the disk rules have the same number.
pub isolated_by : IsolatedBy
unfolding start
isolated_by z n pack pack' junk junk' some sizes lengths lengths' memory memory' rules p =
    isolated_where z n pack pack' junk junk' some sizes lengths lengths' memory memory' rules (start_given z pack junk (R.disk_ruled z (record { disk = pack; memory = junk }) rules)) p

-- a pack is like itself
same_packs_by : (z : Sizes) (n : ℕ) (pack : Disk) → AlikePacksBy z n pack pack
unfolding packs_like_by
same_packs_by z n pack = record { tables = refl; words = λ i h r e k m. same_like n (at pack.numbers (slot_of z i)) (word_at z pack.records r k) }

pub isolated_by_formatted : IsolatedByFormatted
isolated_by_formatted z n parents junk junk' some sizes low memory memory' =
    let pack = formatted z parents in
    let lengths = fit_disk z pack (formatted_fit z parents) in
    isolated_by z n pack pack junk junk' some sizes lengths lengths memory memory' (Kept.formatted z parents junk sizes low) (same_packs_by z n pack)
