-- What a recovery reads: the tables that a list of the keeper's acts leaves, with the calls that were under way in it as far as they had come.
use mathlib.Core.Path.{◌≡◌, refl, ap, sym, ◌∙◌, subst}
use mathlib.Core.Bool.{Bool, true, false}
use mathlib.Core.List.{List, [], ◌∷◌, ◌++◌}
use mathlib.Core.Logic.{inl, inr}
use Prim.Native.Nat.{ℕ, zero, suc, ◌+◌, ◌-◌, ◌<◌, ◌≤◌}
use native.Mathlib.Omega.{arith}
use lib.Dec.{T, ltb}
use borrow.Author.Tests.{ne_eqb, ltb-true, ltb-false}
use lib.ListN.{length}
use Rattle.tables.specs.Base.{if}
use Rattle.tables.specs.Rule.{Holds}
use Rattle.model.specs.declared.sizes.Sizes.{Sizes}
use Rattle.model.specs.Sizes.{sizes_fit}
use Rattle.model.specs.State.{Disk, State}
use Rattle.model.specs.Step.{disk_lengths, memory_lengths}
use Rattle.model.specs.Laws.Fit.{disk_fit}
use Rattle.model.specs.Acts as K
use Rattle.model.specs.Acts.{Act}
use Rattle.invariant.proofs.Never.{Safe, all_answered_holds}
use Rattle.journal.specs.Device.{Sectors, now}
use Rattle.journal.specs.Layout.{Store, home_at}
use Rattle.journal.specs.Journal as J
use Rattle.journal.specs.Journal.{Mode, idle, journal}
use Rattle.journal.proofs.Whole as Whole
use Rattle.journal.proofs.Counting.{More, quiet_more}
use Rattle.layout.specs.Laid.{room, laid, read_disk}
use Rattle.layout.proofs.Back.{read_back_holds}
use Rattle.board.specs.Board.{Calling, Board, next, cut_only, cut_inside, interrupted, Driver, driver, read}
use Rattle.board.proofs.Listed.{run_after, legal_after, legal_one, cut_left, cut_allowed}
use Rattle.board.proofs.Entries.{disk_after}
use Rattle.board.proofs.Underway.{Kind, kind_left, kind_whole, kind_inside}
use Rattle.board.proofs.Settled.{Settles, Settled}
use Rattle.board.proofs.Sound.{found, Journalled, Stored, Under, Sound, under_more}

module _ (z : Sizes) (most : ℕ) (f : Sectors) (w₀ : K.World) (safe : Safe z w₀) where
  abbrev World : Board → K.World
  World b = K.run z w₀ b.past

  abbrev Good : Board → Type 0
  Good b = Sound z most f w₀ b

  abbrev J' : J.Protocol
  J' = journal most (room z) 0

  sizes : Holds (sizes_fit z)
  sizes = safe.sizes

  safe_after : (acts : List Act) → T (K.legal z w₀ acts) → Safe z (K.run z w₀ acts)
  safe_after acts t = (all_answered_holds z w₀ acts t safe).1

  pub one_highest : (b : Board) → Good b → length (World b).state.disk.highest ≡ 1
  one_highest b g = (disk_fit z (World b).state.disk (safe_after b.past g.legal).disk).highest

  -- ── an operation of the journal ──
  pub journal_more : (j : J.World) → Journalled z most f j → More j (J.act J' j J.next)
  journal_more j h = unfold J.run in quiet_more most (room z) 0 (found z most f) (J.next ∷ []) j tt h

  -- with nothing in flight, as many stores count as before
  pub quiet_next : (j : J.World) → Journalled z most f j → j.flight ≡ [] → ((J.act J' j J.next).kept ≡ j.kept) × ((J.act J' j J.next).flight ≡ [])
  quiet_next j h n = go (journal_more j h)
    where
      go : More j (J.act J' j J.next) → ((J.act J' j J.next).kept ≡ j.kept) × ((J.act J' j J.next).flight ≡ [])
      go (More.same k (inl g)) = (k, g ∙ n)
      go (More.same k (inr g)) = (k, g)
      go (More.one s g k e) = absurd (let x : length {A = Store} [] ≡ suc zero = sym (ap (length {A = Store}) n) ∙ ap (length {A = Store}) g in omega (arith, x))

  pub step_under : (b : Board) (c : Calling) → Good b → Under z most f b.journal (World b) c → Under z most f (J.act J' b.journal J.next) (World b) c
  step_under b c g u = under_more z most f sizes b.journal (J.act J' b.journal J.next) (World b) c (journal_more b.journal g.journal) u

  -- ── home, as a read finds it in an idle journal ──
  home_read : (j : J.World) (n : ℕ) (d : Disk) → j.mode ≡ idle n → Journalled z most f j → Stored z most f j d → (x : ℕ) → x < room z → now j.device (home_at most x) ≡ laid z d x
  home_read j n d e h s x l = idle_home.1.1 x ∙ s x l
    where
      idle_home : Whole.Held most (room z) 0 (found z most f) j.device j.kept j.flight (idle n)
      idle_home = subst (λ (m : Mode). Whole.Held most (room z) 0 (found z most f) j.device j.kept j.flight m) e h

  disk_read : (j : J.World) (n : ℕ) (d : Disk) → j.mode ≡ idle n → Journalled z most f j → Stored z most f j d → Holds (disk_lengths z d) → read_disk z (λ x. now j.device (home_at most x)) ≡ d
  disk_read j n d e h s l = read_back_holds z d (λ x. now j.device (home_at most x)) sizes l (home_read j n d e h s)

  -- ── the disk part is read ──
  abbrev D' : Driver
  D' = driver z most

  pub nothing_flies : (j : J.World) (n : ℕ) → j.mode ≡ idle n → Settles j → j.flight ≡ []
  nothing_flies j n e s = subst (λ (m : Mode). Settled m j.flight) e s

  -- what a recovery has found: this disk part, and a list of acts that leaves it with the memory lost
  pub record Found (b : Board) (happened : List Act) (d : Disk) : Type 0 where
    pub legal : T (K.legal z (World b) happened)
    pub state : (K.run z (World b) happened).state ≡ record { disk = d; memory = b.state.memory }
    pub up : (K.run z (World b) happened).up ≡ false

  pub read_good_holds : (b : Board) (n : ℕ) (happened : List Act) (d : Disk) → Good b → b.journal.mode ≡ idle n → Stored z most f b.journal d → Found b happened d → Good (read z D' b happened)
  unfolding driver journal
  read_good_holds b n happened d g e s x =
      let all : T (K.legal z w₀ (b.past ++ happened)) = legal_after z w₀ b.past happened g.legal x.legal in
      let past : K.run z w₀ (b.past ++ happened) ≡ K.run z (World b) happened = run_after z w₀ b.past happened in
      let left : (K.run z w₀ (b.past ++ happened)).state ≡ record { disk = d; memory = b.state.memory } = ap (λ (w : K.World). w.state) past ∙ x.state in
      let disk : (K.run z w₀ (b.past ++ happened)).state.disk ≡ d = ap (λ (t : State). t.disk) left in
      let long : Holds (disk_lengths z d) = subst (λ (c : Disk). Holds (disk_lengths z c)) disk (safe_after (b.past ++ happened) all).disk in
      record {
        journal = g.journal;
        settles = g.settles;
        legal = all;
        phase = (nothing_flies b.journal n e g.settles, subst (Stored z most f b.journal) (sym disk) s, (sym (ap (λ (w : K.World). w.up) past ∙ x.up), ap (λ (c : Disk). record { disk = c; memory = b.state.memory }) (disk_read b.journal n d e g.journal s long) ∙ sym left));
      }

  pub cut_found : (b : Board) → Holds (memory_lengths z b.state.memory) → Found b (cut_only b.state.memory ∷ []) (World b).state.disk
  unfolding K.run
  cut_found b h = let x = cut_left z (World b) b.state.memory in record { legal = legal_one z (World b) (cut_only b.state.memory) (cut_allowed z (World b) b.state.memory h); state = x.0; up = x.1 }

  -- .. with the calls that were under way
  whole_found : (b : Board) (c : Calling) → Good b → Kind z (World b) c.acts c.entries → Holds (memory_lengths z b.state.memory)
      → Found b (c.acts ++ cut_only b.state.memory ∷ []) (disk_after (World b).state.disk c.entries (length c.entries))
  unfolding K.run
  whole_found b c g k h =
      let l = kind_left z sizes (World b) c.acts c.entries k in
      let w : K.World = K.run z (World b) c.acts in
      let x = cut_left z w b.state.memory in
      let past : K.run z (World b) (c.acts ++ cut_only b.state.memory ∷ []) ≡ K.act z w (cut_only b.state.memory) = run_after z (World b) c.acts (cut_only b.state.memory ∷ []) in
      let whole = kind_whole z sizes (World b) c.acts c.entries (one_highest b g) k in
      record {
        legal = legal_after z (World b) c.acts (cut_only b.state.memory ∷ []) l.legal (legal_one z w (cut_only b.state.memory) (cut_allowed z w b.state.memory h));
        state = ap (λ (v : K.World). v.state) past ∙ x.0 ∙ ap (λ (d : Disk). record { disk = d; memory = b.state.memory }) (sym whole);
        up = ap (λ (v : K.World). v.up) past ∙ x.1;
      }

  pub lost_found : (b : Board) (c : Calling) → Good b → (u : Under z most f b.journal (World b) c) → Holds (memory_lengths z b.state.memory)
      → Found b (interrupted c u.far b.state.memory) (disk_after (World b).state.disk c.entries u.far)
  unfolding interrupted disk_after
  lost_found b c g u h = go u.far u.within
    where
      inner : (k : ℕ) (t : Bool) → ltb (suc k) (length c.entries) ≡ t → suc k ≤ length c.entries
          → Found b (if t (cut_inside c.acts (suc k) b.state.memory) (c.acts ++ cut_only b.state.memory ∷ [])) (disk_after (World b).state.disk c.entries (suc k))
      inner k true q l = let x = kind_inside z sizes (World b) c.acts c.entries (suc k) b.state.memory u.kind (omega arith) (ltb-true (suc k) (length c.entries) q) h in record { legal = x.legal; state = x.state; up = x.up }
      inner k false q l = let n : length c.entries ≡ suc k = omega (arith, l, ltb-false (suc k) (length c.entries) q) in
          subst (λ (m : ℕ). Found b (c.acts ++ cut_only b.state.memory ∷ []) (disk_after (World b).state.disk c.entries m)) n (whole_found b c g u.kind h)

      go : (k : ℕ) → k ≤ length c.entries → Found b (interrupted c k b.state.memory) (disk_after (World b).state.disk c.entries k)
      go zero l = cut_found b h
      go (suc k) l = rw (ne_eqb (suc k) 0 (λ e. omega (arith, e))) (inner k (ltb (suc k) (length c.entries)) refl l)
