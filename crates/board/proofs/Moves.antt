-- Every move leaves a board sound: calls, the next step, cuts and kills.
use mathlib.Core.Path.{◌≡◌, refl, ap, sym, ◌∙◌, subst}
use mathlib.Core.Bool.{Bool, true, false, not, ◌&&◌}
use mathlib.Core.List.{List, [], ◌∷◌, ◌++◌}
use mathlib.Core.Logic.{◌⊎◌, inl, inr}
use Prim.Native.Nat.{ℕ, ◌+◌, ◌-◌, ◌<◌, ◌≤◌}
use native.Mathlib.Omega.{arith}
use lib.Dec.{T, ltb}
use borrow.Author.Tests.{ltb-true, ltb-false}
use lib.ListN.{length}
use Rattle.tables.specs.Base.{if}
use Rattle.tables.specs.Rule.{Holds}
use Rattle.model.specs.declared.sizes.Sizes.{Sizes}
use Rattle.model.specs.Sizes.{sizes_fit}
use Rattle.model.specs.State.{Memory, State}
use Rattle.model.specs.Step.{memory_lengths}
use Rattle.model.specs.Acts as K
use Rattle.model.specs.Acts.{Act}
use Rattle.invariant.proofs.Never.{Safe}
use Rattle.journal.specs.Device.{Sectors}
use Rattle.journal.specs.Layout.{Store, fits}
use Rattle.journal.specs.Journal as J
use Rattle.journal.specs.Journal.{idle, journal}
use Rattle.journal.proofs.Whole as Whole
use Rattle.layout.specs.Laid.{room}
use Rattle.board.specs.Calls.{Entry, written, entries_of, together}
use Rattle.board.specs.Board.{Calling, Phase, ready, calling, lost, lost_in, Board, Move, call, calls, next, cut, kill, may_call, may_join, cut_only, interrupted, left_after, up_after, Driver, driver, is_idle, is_ready, on_journal, counted, reported, handed, go_on, losing, begun, may_share, move, runs}
use Rattle.board.specs.Claims.{Lengths}
use Rattle.board.proofs.Listed.{run_after, legal_after}
use Rattle.board.proofs.Entries.{disk_after}
use Rattle.board.proofs.Underway.{Kind, single, shared, kind_left, kind_whole}
use Rattle.board.proofs.Settled.{idle_or_not, Settles, act_settles, begin_flies}
use Rattle.board.proofs.Fitting.{entries_fit}
use Rattle.board.proofs.Sound.{Fitting, found, Journalled, Stored, flown, Under, Same, In, Sound}
use Rattle.board.proofs.Recovered.{one_highest, quiet_next, step_under, nothing_flies, read_good_holds, cut_found, lost_found}

module _ (z : Sizes) (most : ℕ) (f : Sectors) (w₀ : K.World) (safe : Safe z w₀) where
  abbrev World : Board → K.World
  World b = K.run z w₀ b.past

  abbrev Good : Board → Type 0
  Good b = Sound z most f w₀ b

  abbrev J' : J.Protocol
  J' = journal most (room z) 0

  abbrev D' : Driver
  D' = driver z most

  sizes : Holds (sizes_fit z)
  sizes = safe.sizes

  -- ── the next step ──
  -- an operation of the journal, while the board's own part stays
  next_good : (b : Board) → Good b → In z most f (on_journal z D' J.next b) (World b) b.phase → Good (on_journal z D' J.next b)
  unfolding driver
  next_good b g p = record { journal = Whole.act_holds most (room z) 0 (found z most f) b.journal J.next g.journal; settles = act_settles J' b.journal J.next g.settles; legal = g.legal; phase = p }

  -- how many entries count is what the board reckons
  reckoned : (b : Board) (c : Calling) (u : Under z most f b.journal (World b) c) → counted z D' b c ≡ u.far
  reckoned b c u = omega (arith, u.counts)

  lost_good : (b : Board) → Good b → b.phase ≡ lost → Good (go_on z D' b lost)
  unfolding go_on driver
  lost_good b g p = elim (idle_or_not b.journal.mode) [
    | inl x ↦ rw (ap is_idle x.1) (read_good_holds z most f w₀ safe b x.0 (cut_only b.state.memory ∷ []) (World b).state.disk g x.1 here.1 (cut_found z most f w₀ safe b here.2))
    | inr x ↦ rw x (next_good b g (subst (In z most f (on_journal z D' J.next b) (World b)) (sym p) later))
  ]
    where
      here : In z most f b (World b) lost
      here = subst (In z most f b (World b)) p g.phase

      later : In z most f (on_journal z D' J.next b) (World b) lost
      later = let q = quiet_next z most f w₀ safe b.journal g.journal here.0 in (q.1, rw q.0 here.1, here.2)

  lost_in_good : (b : Board) (c : Calling) → Good b → b.phase ≡ lost_in c → Good (go_on z D' b (lost_in c))
  unfolding go_on driver
  lost_in_good b c g p = elim (idle_or_not b.journal.mode) [
    | inl x ↦ rw (ap is_idle x.1) (rw (reckoned b c here.0) (read_good_holds z most f w₀ safe b x.0 (interrupted c here.0.far b.state.memory) (disk_after (World b).state.disk c.entries here.0.far) g x.1 here.0.stored (lost_found z most f w₀ safe b c g here.0 here.1)))
    | inr x ↦ rw x (next_good b g (subst (In z most f (on_journal z D' J.next b) (World b)) (sym p) later))
  ]
    where
      here : In z most f b (World b) (lost_in c)
      here = subst (In z most f b (World b)) p g.phase

      later : In z most f (on_journal z D' J.next b) (World b) (lost_in c)
      later = (step_under z most f w₀ safe b c g here.0, here.1)

  -- ── calls: the report, and the next entry ──
  report_good : (b : Board) (c : Calling) (n : ℕ) → Good b → b.journal.mode ≡ idle n → (u : Under z most f b.journal (World b) c) → Same z most f b (World b) → length c.entries ≤ u.far → Good (reported z D' b c)
  report_good b c n g e u s l =
      let x = kind_left z sizes (World b) c.acts c.entries u.kind in
      let past : K.run z w₀ (b.past ++ c.acts) ≡ K.run z (World b) c.acts = run_after z w₀ b.past c.acts in
      let far : u.far ≡ length c.entries = omega (arith, l, u.within) in
      let disk : disk_after (World b).state.disk c.entries u.far ≡ (K.run z w₀ (b.past ++ c.acts)).state.disk =
      ap (disk_after (World b).state.disk c.entries) far ∙ kind_whole z sizes (World b) c.acts c.entries (one_highest z most f w₀ safe b g) u.kind ∙ ap (λ (w : K.World). w.state.disk) (sym past) in
      record {
        journal = g.journal;
        settles = g.settles;
        legal = legal_after z w₀ b.past c.acts g.legal x.legal;
        phase = (
          nothing_flies z most f w₀ safe b.journal n e g.settles,
          subst (Stored z most f b.journal) disk u.stored,
          (
            ap (λ (t : State). up_after z t b.up c.acts) s.1 ∙ ap (λ (v : Bool). up_after z (World b).state v c.acts) s.0 ∙ sym (ap (λ (w : K.World). w.up) past ∙ x.up),
            ap (λ (t : State). left_after z t c.acts) s.1 ∙ sym (ap (λ (w : K.World). w.state) past ∙ x.state),
          ),
        );
      }

  hand_good : (b : Board) (c : Calling) (n : ℕ) → Good b → b.phase ≡ calling c → b.journal.mode ≡ idle n → (u : Under z most f b.journal (World b) c) → Same z most f b (World b) → u.far < length c.entries → Good (handed z D' b c)
  unfolding driver
  hand_good b c n g p e u s l = rw (reckoned b c u) (record {
    journal = Whole.act_holds most (room z) 0 (found z most f) b.journal (J.begin (flown z most f c u.far)) g.journal;
    settles = act_settles J' b.journal (J.begin (flown z most f c u.far)) g.settles;
    legal = g.legal;
    phase = subst (In z most f (on_journal z D' (J.begin (flown z most f c u.far)) b) (World b)) (sym p) (
      record {
        kind = u.kind;
        fitting = u.fitting;
        far = u.far;
        counts = ap (length {A = Store}) x.0 ∙ u.counts;
        within = u.within;
        flying = elim x.1 [ inl q ↦ inl q | inr q ↦ inr (l, q) ];
        stored = rw x.0 u.stored;
      },
      s,
    );
  })
    where
      x : ((J.act J' b.journal (J.begin (flown z most f c u.far))).kept ≡ b.journal.kept) × (((J.act J' b.journal (J.begin (flown z most f c u.far))).flight ≡ []) ⊎ ((J.act J' b.journal (J.begin (flown z most f c u.far))).flight ≡ flown z most f c u.far ∷ []))
      x = begin_flies J' b.journal n (flown z most f c u.far) e (nothing_flies z most f w₀ safe b.journal n e g.settles)

  calling_good : (b : Board) (c : Calling) → Good b → b.phase ≡ calling c → Good (go_on z D' b (calling c))
  unfolding go_on driver
  calling_good b c g p = elim (idle_or_not b.journal.mode) [
    | inl x ↦ rw (ap is_idle x.1) (settle x.0 x.1 (ltb (counted z D' b c) (length c.entries)) refl)
    | inr x ↦ rw x (next_good b g (subst (In z most f (on_journal z D' J.next b) (World b)) (sym p) (step_under z most f w₀ safe b c g here.0, here.1)))
  ]
    where
      here : In z most f b (World b) (calling c)
      here = subst (In z most f b (World b)) p g.phase

      settle : (n : ℕ) → b.journal.mode ≡ idle n → (t : Bool) → ltb (counted z D' b c) (length c.entries) ≡ t → Good (if (not t) (reported z D' b c) (handed z D' b c))
      settle n e true q = hand_good b c n g p e here.0 here.1 (omega (arith, ltb-true (counted z D' b c) (length c.entries) q, reckoned b c here.0))
      settle n e false q = report_good b c n g e here.0 here.1 (omega (arith, ltb-false (counted z D' b c) (length c.entries) q, reckoned b c here.0))

  -- ── calls are made ──
  begun_good : (b : Board) (acts : List Act) (entries : List Entry) → Good b → In z most f b (World b) ready → Kind z (World b) acts entries → Fitting z most f entries → Good (begun z D' b acts entries)
  unfolding disk_after
  begun_good b acts entries g r k l = record {
    journal = g.journal;
    settles = g.settles;
    legal = g.legal;
    phase = (record { kind = k; fitting = l; far = 0; counts = omega arith; within = omega arith; flying = inl r.0; stored = r.1 }, r.2);
  }

  call_good : (b : Board) (p : Phase) (a : Act) → b.phase ≡ p → Good b → Good (if (is_ready p && may_call b.up a) (begun z D' b (a ∷ []) (entries_of z b.state a)) b)
  call_good b ready a e g = go (may_call b.up a) refl
    where
      here : In z most f b (World b) ready
      here = subst (In z most f b (World b)) e g.phase

      go : (t : Bool) → may_call b.up a ≡ t → Good (if t (begun z D' b (a ∷ []) (entries_of z b.state a)) b)
      go true q = begun_good b (a ∷ []) (entries_of z b.state a) g here (single a refl (subst (λ (u : Bool). T (may_call u a)) here.2.0 (rw q tt)) (ap (λ (t : State). entries_of z t a) here.2.1)) (λ l. entries_fit z most sizes l b.state a)
      go false q = g
  call_good b (calling c) a e g = g
  call_good b lost a e g = g
  call_good b (lost_in c) a e g = g

  calls_good : (b : Board) (p : Phase) (acts : List Act) → b.phase ≡ p → Good b → Good (if (is_ready p && may_share z D' b acts) (begun z D' b acts (together z b.state acts ∷ [])) b)
  unfolding driver journal
  calls_good b ready acts e g = go (may_join b.up acts) (fits D'.protocol.most D'.protocol.room (written z (together z b.state acts).disk (together z b.state acts).sectors)) refl refl
    where
      here : In z most f b (World b) ready
      here = subst (In z most f b (World b)) e g.phase

      go : (t u : Bool) → may_join b.up acts ≡ t → fits most (room z) (written z (together z b.state acts).disk (together z b.state acts).sectors) ≡ u → Good (if (t && u) (begun z D' b acts (together z b.state acts ∷ [])) b)
      go true true q r = begun_good b acts (together z b.state acts ∷ []) g here (shared (subst (λ (u : Bool). T (may_join u acts)) here.2.0 (rw q tt)) (ap (λ (t : State). together z t acts ∷ []) here.2.1)) (λ l. (rw r tt, tt))
      go true false q r = g
      go false u q r = g
  calls_good b (calling c) acts e g = g
  calls_good b lost acts e g = g
  calls_good b (lost_in c) acts e g = g

  -- ── a cut, and an end of the program ──
  loses_good : (b : Board) (i : J.World) (junk : Memory) → i.kept ≡ b.journal.kept → i.flight ≡ b.journal.flight → Journalled z most f i → Settles i → Holds (memory_lengths z junk) → Good b
      → Good (record { journal = i; phase = losing z D' b.phase; up = false; state = record { disk = b.state.disk; memory = junk }; past = b.past })
  loses_good b i junk k l h s m g = record { journal = h; settles = s; legal = g.legal; phase = go b.phase g.phase }
    where
      under : (c : Calling) → Under z most f b.journal (World b) c → Under z most f i (World b) c
      under c u = record { kind = u.kind; fitting = u.fitting; far = u.far; counts = ap (length {A = Store}) k ∙ u.counts; within = u.within; flying = rw l u.flying; stored = rw k u.stored }

      go : (p : Phase) → In z most f b (World b) p → In z most f (record { journal = i; phase = losing z D' b.phase; up = false; state = record { disk = b.state.disk; memory = junk }; past = b.past }) (World b) (losing z D' p)
      go ready r = (l ∙ r.0, rw k r.1, m)
      go (calling c) r = (under c r.0, m)
      go lost r = (l ∙ r.0, rw k r.1, m)
      go (lost_in c) r = (under c r.0, m)

  -- ── every move ──
  phase_good : (b : Board) (p : Phase) → b.phase ≡ p → Good b → Good (go_on z D' b p)
  phase_good b ready e g = unfold go_on in g
  phase_good b (calling c) e g = calling_good b c g e
  phase_good b lost e g = lost_good b g e
  phase_good b (lost_in c) e g = lost_in_good b c g e

  pub move_good : (b : Board) (m : Move) → Lengths z (m ∷ []) → Good b → Good (move z D' b m)
  unfolding move driver J.act journal
  move_good b (call a) l g = call_good b b.phase a refl g
  move_good b (calls acts) l g = calls_good b b.phase acts refl g
  move_good b next l g = phase_good b b.phase refl g
  move_good b (cut lands junk) l g = loses_good b (J.act J' b.journal (J.cutting lands)) junk refl refl (Whole.act_holds most (room z) 0 (found z most f) b.journal (J.cutting lands) g.journal) tt l.0 g
  move_good b (kill junk) l g = loses_good b (J.act J' b.journal J.killing) junk refl refl (Whole.act_holds most (room z) 0 (found z most f) b.journal J.killing g.journal) tt l.0 g

  pub runs_good : (moves : List Move) (b : Board) → Lengths z moves → Good b → Good (runs z D' b moves)
  unfolding runs
  runs_good [] b l g = g
  runs_good (call a ∷ moves) b l g = runs_good moves (move z D' b (call a)) l (move_good b (call a) tt g)
  runs_good (calls acts ∷ moves) b l g = runs_good moves (move z D' b (calls acts)) l (move_good b (calls acts) tt g)
  runs_good (next ∷ moves) b l g = runs_good moves (move z D' b next) l (move_good b next tt g)
  runs_good (cut lands junk ∷ moves) b l g = runs_good moves (move z D' b (cut lands junk)) l.1 (move_good b (cut lands junk) (l.0, tt) g)
  runs_good (kill junk ∷ moves) b l g = runs_good moves (move z D' b (kill junk)) l.1 (move_good b (kill junk) (l.0, tt) g)
