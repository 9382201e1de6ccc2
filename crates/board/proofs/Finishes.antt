-- Every call is reported and every recovery ends: some number of steps later the board is ready.
use mathlib.Core.Path.{◌≡◌, refl, ap, sym, ◌∙◌, subst}
use mathlib.Core.Bool.{Bool, true, false, not}
use mathlib.Core.Logic.{inl, inr}
use mathlib.Core.List.{List, [], ◌∷◌}
use Prim.Native.Nat.{ℕ, zero, suc, ◌+◌, ◌-◌, ◌<◌, ◌≤◌}
use native.Mathlib.Omega.{arith}
use lib.Dec.{T, ltb}
use lib.ListN.{length, get_or}
use borrow.Author.Tests.{ltb-true}
use Rattle.tables.specs.Base.{if}
use Rattle.tables.specs.Laws.{T→true}
use Rattle.model.specs.declared.sizes.Sizes.{Sizes}
use Rattle.model.specs.Acts as K
use Rattle.invariant.proofs.Never.{Safe, start_safe}
use Rattle.journal.specs.Device.{Sectors, Op}
use Rattle.journal.specs.Layout.{Store, next_sequence, fits}
use Rattle.journal.specs.Journal as J
use Rattle.journal.specs.Journal.{idle, storing, journal}
use Rattle.journal.specs.Claims.{nexts}
use Rattle.journal.proofs.Ends.{mode_ends}
use Rattle.journal.proofs.Counting.{More, same, one}
use Rattle.layout.specs.Laid.{room}
use Rattle.board.specs.Calls.{Entry, written}
use Rattle.board.specs.Board.{Calling, Phase, ready, calling, lost, lost_in, Board, next, no_entry, Driver, driver, is_idle, on_journal, counted, reported, handed, go_on, move, runs, fresh}
use Rattle.board.specs.Claims.{steps, EachEntry, Finishes}
use Rattle.board.proofs.Sound.{found, flown, Under, In, Sound}
use Rattle.board.proofs.Recovered.{journal_more}
use Rattle.board.proofs.Settled.{idle_or_not}
use Rattle.board.proofs.Moves.{move_good, runs_good}
use Rattle.board.proofs.Theorem.{fresh_good}

each_at : (P : Entry → Type 0) (es : List Entry) (k : ℕ) → EachEntry P es → k < length es → P (get_or es k no_entry)
each_at P [] k h l = absurd (omega (arith, l))
each_at P (e ∷ es) zero h l = h.0
each_at P (e ∷ es) (suc k) h l = each_at P es k h.1 (omega (arith, l))

-- ── the journal's own steps ──
module _ (p : J.Protocol) where
  next_op : (j : J.World) (n : ℕ) (s : Store) (o : Op) (ops : List Op) → j.mode ≡ storing n s (o ∷ ops) → ((J.act p j J.next).mode ≡ storing n s ops) × ((J.act p j J.next).kept ≡ j.kept)
  unfolding J.act J.go_on
  next_op j n s o ops e = rw e (refl, refl)

  next_last : (j : J.World) (n : ℕ) (s : Store) → j.mode ≡ storing n s [] → (J.act p j J.next).kept ≡ s ∷ j.kept
  unfolding J.act J.go_on
  next_last j n s e = rw e refl

  begin_stores : (j : J.World) (n : ℕ) (s : Store) → j.mode ≡ idle n → fits p.most p.room s ≡ true
      → ((J.act p j (J.begin s)).mode ≡ storing (next_sequence n) s (p.plan (next_sequence n) s)) × ((J.act p j (J.begin s)).kept ≡ j.kept)
  unfolding J.act J.take_up
  begin_stores j n s e h = rw (e, h) (refl, refl)

module _ (z : Sizes) (most : ℕ) (f : Sectors) (w₀ : K.World) (safe : Safe z w₀) (areas : 8 ≤ most) where
  abbrev World : Board → K.World
  World b = K.run z w₀ b.past

  abbrev Good : Board → Type 0
  Good b = Sound z most f w₀ b

  abbrev J' : J.Protocol
  J' = journal most (room z) 0

  abbrev D' : Driver
  D' = driver z most

  abbrev Leads : Board → Type 0
  Leads b = (k : ℕ) × ((runs z D' b (steps k [])).phase ≡ ready)

  one_later : (b : Board) → Leads (move z D' b next) → Leads b
  unfolding runs
  one_later b l = (suc l.0, l.1)

  is_ready_holds : (b : Board) → b.phase ≡ ready → Leads b
  unfolding runs
  is_ready_holds b e = (0, e)

  step_good : (b : Board) → Good b → Good (move z D' b next)
  step_good b g = move_good z most f w₀ safe b next tt g

  -- a step, by the phase and whether the journal is idle
  step_as : (b : Board) (p : Phase) → b.phase ≡ p → move z D' b next ≡ go_on z D' b p
  unfolding move
  step_as b p e = ap (go_on z D' b) e

  abbrev Waits : Board → ℕ → Type 0
  Waits b k = (n : ℕ) × ((J.run J' b.journal (nexts k [])).mode ≡ idle n)

  waiting : (b : Board) → Good b → (k : ℕ) × Waits b k
  waiting b g = let x = mode_ends most (room z) 0 (found z most f) b.journal.device b.journal.kept b.journal.flight b.journal.mode g.journal in (x.0, (x.1, x.2))

  -- ── a recovery ──
  busy_idle : {A : Type 0} (b : Board) → Waits b 0 → is_idle b.journal.mode ≡ false → A
  unfolding J.run
  busy_idle b w x = absurd (subst (λ (t : Bool). T t) (sym (ap is_idle w.1) ∙ x) tt)

  waits_less : (b : Board) (k : ℕ) → Waits b (suc k) → Waits (on_journal z D' J.next b) k
  unfolding J.run driver
  waits_less b k w = w

  lost_step : (b : Board) → b.phase ≡ lost → (is_idle b.journal.mode ≡ false → Leads (on_journal z D' J.next b)) → Leads b
  unfolding go_on
  lost_step b e then = one_later b (subst Leads (sym (step_as b lost e)) (elim (idle_or_not b.journal.mode) [ inl x ↦ rw (ap is_idle x.1) (is_ready_holds _ refl) | inr x ↦ rw x (then x) ]))

  lost_leads : (k : ℕ) (b : Board) → b.phase ≡ lost → Waits b k → Leads b
  lost_leads zero b e w = lost_step b e (λ x. busy_idle b w x)
  lost_leads (suc k) b e w = lost_step b e (λ x. lost_leads k (on_journal z D' J.next b) e (waits_less b k w))

  lost_in_step : (b : Board) (c : Calling) → b.phase ≡ lost_in c → (is_idle b.journal.mode ≡ false → Leads (on_journal z D' J.next b)) → Leads b
  unfolding go_on
  lost_in_step b c e then = one_later b (subst Leads (sym (step_as b (lost_in c) e)) (elim (idle_or_not b.journal.mode) [ inl x ↦ rw (ap is_idle x.1) (is_ready_holds _ refl) | inr x ↦ rw x (then x) ]))

  lost_in_leads : (k : ℕ) (b : Board) (c : Calling) → b.phase ≡ lost_in c → Waits b k → Leads b
  lost_in_leads zero b c e w = lost_in_step b c e (λ x. busy_idle b w x)
  lost_in_leads (suc k) b c e w = lost_in_step b c e (λ x. lost_in_leads k (on_journal z D' J.next b) c e (waits_less b k w))

  -- ── calls ──
  -- a step while the journal is at work
  busy_step : (b : Board) (c : Calling) → b.phase ≡ calling c → is_idle b.journal.mode ≡ false → move z D' b next ≡ on_journal z D' J.next b
  unfolding go_on
  busy_step b c e x = step_as b (calling c) e ∙ rw x refl

  busy_good : (b : Board) (c : Calling) → b.phase ≡ calling c → is_idle b.journal.mode ≡ false → Good b → Good (on_journal z D' J.next b)
  busy_good b c e x g = subst Good (busy_step b c e x) (step_good b g)

  -- a store under way comes to its end, and one more counts
  store_leads : (ops : List Op) (b : Board) (c : Calling) (n : ℕ) (s : Store) → b.phase ≡ calling c → b.journal.mode ≡ storing n s ops → Good b
      → ((a : Board) → Good a → a.phase ≡ calling c → length a.journal.kept ≡ suc (length b.journal.kept) → Leads a) → Leads b
  unfolding driver
  store_leads [] b c n s e m g then =
      let busy : is_idle b.journal.mode ≡ false = ap is_idle m in
      let a : Board = on_journal z D' J.next b in
      one_later b (subst Leads (sym (busy_step b c e busy)) (then a (busy_good b c e busy g) e (ap (length {A = Store}) (next_last J' b.journal n s m))))
  store_leads (o ∷ ops) b c n s e m g then =
      let busy : is_idle b.journal.mode ≡ false = ap is_idle m in
      let a : Board = on_journal z D' J.next b in
      let x = next_op J' b.journal n s o ops m in
      one_later b (subst Leads (sym (busy_step b c e busy)) (store_leads ops a c n s e x.0 (busy_good b c e busy g) (λ d h p l. then d h p (l ∙ ap (λ (i : List Store). suc (length i)) x.1))))

  under : (b : Board) (c : Calling) → b.phase ≡ calling c → Good b → Under z most f b.journal (World b) c
  under b c e g = (subst (In z most f b (World b)) e g.phase).0

  -- more entries count after a step, or as many
  counts_on : (b : Board) → Good b → length b.journal.kept ≤ length (J.act J' b.journal J.next).kept
  counts_on b g = go (journal_more z most f w₀ safe b.journal g.journal)
    where
      go : More b.journal (J.act J' b.journal J.next) → length b.journal.kept ≤ length (J.act J' b.journal J.next).kept
      go (same k i) = let x : length (J.act J' b.journal J.next).kept ≡ length b.journal.kept = ap (length {A = Store}) k in omega (arith, x)
      go (one s i k j) = let x : length (J.act J' b.journal J.next).kept ≡ suc (length b.journal.kept) = ap (length {A = Store}) k in omega (arith, x)

  -- an entry is handed over, and comes to its end
  hand_leads : (b : Board) (c : Calling) (n : ℕ) → b.phase ≡ calling c → b.journal.mode ≡ idle n → Good b → Good (handed z D' b c) → counted z D' b c < length c.entries
      → ((a : Board) → Good a → a.phase ≡ calling c → length a.journal.kept ≡ suc (length b.journal.kept) → Leads a) → Leads (handed z D' b c)
  unfolding driver journal
  hand_leads b c n e m g h l then =
      let s : Store = flown z most f c (counted z D' b c) in
      let fit : T (fits most (room z) s) = each_at (λ x. T (fits most (room z) (written z x.disk x.sectors))) c.entries (counted z D' b c) ((under b c e g).fitting areas) l in
      let x = begin_stores J' b.journal n s m (T→true (fits most (room z) s) fit) in
      store_leads _ (handed z D' b c) c (next_sequence n) s e x.0 h (λ a k p q. then a k p (q ∙ ap (λ (i : List Store). suc (length i)) x.1))

  -- with an idle journal: the report, or the next entry
  idle_leads : (b : Board) (c : Calling) (n : ℕ) → b.phase ≡ calling c → b.journal.mode ≡ idle n → Good b
      → (counted z D' b c < length c.entries → (a : Board) → Good a → a.phase ≡ calling c → length a.journal.kept ≡ suc (length b.journal.kept) → Leads a) → Leads b
  unfolding go_on driver
  idle_leads b c n e m g then = settle (ltb (counted z D' b c) (length c.entries)) refl
    where
      stepped : (t : Bool) → ltb (counted z D' b c) (length c.entries) ≡ t → move z D' b next ≡ if (not t) (reported z D' b c) (handed z D' b c)
      stepped t q = step_as b (calling c) e ∙ rw (ap is_idle m) (ap (λ (u : Bool). if (not u) (reported z D' b c) (handed z D' b c)) q)

      settle : (t : Bool) → ltb (counted z D' b c) (length c.entries) ≡ t → Leads b
      settle true q =
          let few : counted z D' b c < length c.entries = ltb-true (counted z D' b c) (length c.entries) q in
          one_later b (subst Leads (sym (stepped true q)) (hand_leads b c n e m g (subst Good (stepped true q) (step_good b g)) few (then few)))
      settle false q = one_later b (subst Leads (sym (stepped false q)) (is_ready_holds (reported z D' b c) refl))

  -- this many entries are left at most
  abbrev Few : Board → Calling → ℕ → Type 0
  Few b c left = length c.entries + c.before ≤ length b.journal.kept + left

  fewer : (b : Board) (c : Calling) (left : ℕ) → Good b → Few b c left → Few (on_journal z D' J.next b) c left
  unfolding driver
  fewer b c left g l = omega (arith, l, counts_on b g)

  -- once the journal is idle it goes on so
  wait_leads : (left k : ℕ) (b : Board) (c : Calling) → b.phase ≡ calling c → Good b → Few b c left → Waits b k
      → ((a : Board) (n : ℕ) → a.journal.mode ≡ idle n → a.phase ≡ calling c → Good a → Few a c left → Leads a) → Leads b
  wait_leads left zero b c e g l w then = unfold J.run in then b w.0 w.1 e g l
  wait_leads left (suc k) b c e g l w then = elim (idle_or_not b.journal.mode) [
    | inl x ↦ then b x.0 x.1 e g l
    | inr x ↦ one_later b (subst Leads (sym (busy_step b c e x)) (wait_leads left k (on_journal z D' J.next b) c e (busy_good b c e x g) (fewer b c left g l) (waits_less b k w) then))
  ]

  calling_leads : (left : ℕ) (b : Board) (c : Calling) → b.phase ≡ calling c → Good b → Few b c left → Leads b
  calling_leads zero b c e g l = let x = waiting b g in wait_leads 0 x.0 b c e g l x.1 (λ a n m p h i. idle_leads a c n p m h (λ j d o q r. absurd (omega (arith, i, j, (under a c p h).counts))))
  calling_leads (suc left) b c e g l = let x = waiting b g in
      wait_leads (suc left) x.0 b c e g l x.1 (λ a n m p h i. idle_leads a c n p m h (λ j d o q r. calling_leads left d c q o (omega (arith, i, r))))

  pub good_leads : (b : Board) (p : Phase) → b.phase ≡ p → Good b → Leads b
  good_leads b ready e g = is_ready_holds b e
  good_leads b (calling c) e g = calling_leads (length c.entries + c.before) b c e g (omega arith)
  good_leads b lost e g = let x = waiting b g in lost_leads x.0 b e x.1
  good_leads b (lost_in c) e g = let x = waiting b g in lost_in_leads x.0 b c e x.1

-- Whatever happened, some number of steps later nothing is under way.
pub finishes : Finishes
finishes z most pack junk f moves sizes areas disk lengths rules laid tidy =
    let w = K.start z pack junk in
    let safe = start_safe z pack junk sizes disk lengths rules in
    let b : Board = runs z (driver z most) (fresh f (record { disk = pack; memory = junk })) moves in
    good_leads z most f w safe areas b b.phase refl (runs_good z most f w safe moves (fresh f (record { disk = pack; memory = junk })) tidy (fresh_good z most f pack junk lengths laid))
