-- The theorems over every list of stores with cuts and kills anywhere, also inside a recovery.
use Rattle.std.proofs.Common.{◌≡◌, ℕ, true, leb, ◌⊎◌, List, [], ◌∷◌, ap, ◌∙◌, subst, inl, inr, arith, le→leb}
use Rattle.tables.specs.Base.{all}
use Rattle.tables.specs.Rule.{test}
use Rattle.tables.specs.Laws.{and_intro}
use Rattle.journal.specs.Device.{Sectors, put, landed}
use Rattle.journal.specs.Layout.{Store, commit_at, home_at, most_homes, commit_of, count_fits, fits}
use Rattle.journal.specs.Journal.{journal, Mode, idle, World, sequence, Act, run, start}
use Rattle.journal.specs.Claims.{becomes, after, reached, HomeIs, WholeOrNot, OneMore, CountsForEver, NeverRefused}
use Rattle.journal.proofs.Places.{put_here, put_there, home_commit}
use Rattle.journal.proofs.Good.{Good}
use Rattle.journal.proofs.Whole.{Held, Holds, run_holds}
use Rattle.journal.proofs.Counting.{More, same, one, quiet_more, run_grows}

-- a formatted device names store 0, which is empty
start_good : (most room : ℕ) (f : Sectors) → Good most room 0 [] (λ x. f (home_at most x)) (put (record { place = commit_at; words = commit_of 0 [] }) f)
unfolding becomes fits all test
start_good most room f = record {
  fit = and_intro (count_fits most 0) true (and_intro (leb 0 most) (leb 0 most_homes) (le→leb 0 most (omega arith)) tt) tt;
  names = put_here commit_at (commit_of 0 []) f;
  whole = tt;
  restores = λ x. put_there commit_at (home_at most x) (commit_of 0 []) f (home_commit most x);
}

module _ (most room late : ℕ) where
  -- home as the format found it
  abbrev found : Sectors → Sectors
  found f x = f (home_at most x)

  abbrev world : Sectors → List Act → World
  world f acts = reached (journal most room late) f acts

  start_holds : (f : Sectors) → Holds most room late (found f) (start f)
  unfolding start landed after sequence
  start_holds f = (λ lands. inl (start_good most room f), inl (λ lands. start_good most room f))

  pub holds : (f : Sectors) (acts : List Act) → Holds most room late (found f) (world f acts)
  holds f acts = run_holds most room late (found f) acts (start f) (start_holds f)

  -- what holds of an idle world
  idle_holds : (f : Sectors) (w : World) (n : ℕ) → w.mode ≡ idle n → Holds most room late (found f) w → Held most room late (found f) w.device w.kept w.flight (idle n)
  idle_holds f w n e h = subst (λ (m : Mode). Held most room late (found f) w.device w.kept w.flight m) e h

  -- Once the journal is idle, home is as after the stores that count.
  pub whole_or_not : WholeOrNot (journal most room late)
  unfolding WholeOrNot journal
  whole_or_not f acts n e = let h = idle_holds f (world f acts) n e (holds f acts) in (h.0, h.1.1)

  -- With no new store begun, it is as after those that counted, or these and the one in flight.
  pub one_more : OneMore (journal most room late)
  unfolding OneMore journal
  one_more f acts later n q e =
      let before = world f acts in
      let then = run (journal most room late) before later in
      go (quiet_more most room late (found f) later before q (holds f acts)) (idle_holds f then n e (run_holds most room late (found f) later before (holds f acts))).1.1
    where
      go : More (world f acts) (run (journal most room late) (world f acts) later)
          → HomeIs (journal most room late) f (run (journal most room late) (world f acts) later) (run (journal most room late) (world f acts) later).kept
          → HomeIs (journal most room late) f (run (journal most room late) (world f acts) later) (world f acts).kept ⊎ ((s : Store) × ((world f acts).flight ≡ s ∷ []) × HomeIs (journal most room late) f (run (journal most room late) (world f acts) later) (s ∷ (world f acts).kept))
      go (same k i) h = inl (λ x. h x ∙ ap (λ (l : List Store). after (found f) l x) k)
      go (one s i k j) h = inr (s, i, λ x. h x ∙ ap (λ (l : List Store). after (found f) l x) k)

  -- A store that counts, counts for ever.
  pub counts_for_ever : CountsForEver (journal most room late)
  unfolding CountsForEver
  counts_for_ever f acts later = run_grows most room late (found f) later (world f acts) (holds f acts)

  -- No cut and no kill damages the commit sector.
  pub never_refused : NeverRefused (journal most room late)
  unfolding NeverRefused
  never_refused f acts e = subst (λ (m : Mode). Held most room late (found f) (world f acts).device (world f acts).kept (world f acts).flight m) e (holds f acts)
