-- Which stores count as acts go on: those that counted, and of those in flight at most the one.
use Rattle.std.proofs.Common.{◌≡◌, ℕ, zero, suc, Bool, true, false, ◌⊎◌, List, [], ◌∷◌, ◌++◌, length, sym, refl, ap, ◌∙◌, inl, inr, append_assoc, arith, eq-eqb, ne_eqb}
use Rattle.tables.specs.Base.{if}
use Rattle.journal.specs.Device.{Sectors, Device, now}
use Rattle.journal.specs.Layout.{Store, commit_at, next_sequence, fits}
use Rattle.journal.specs.Journal.{journal, Mode, down, refused, idle, storing, recovering, World, sequence, Act, begin, next, cutting, killing, look, go_on, take_up, act, run}
use Rattle.journal.specs.Claims.{quiet}
use Rattle.journal.specs.Laws.Sequence.{next_other}
use Rattle.journal.proofs.Cuts.{always_now}
use Rattle.journal.proofs.Whole.{Found, Held, Holds, GoodFor, look_is, act_holds}

-- the same stores count, or one more, which was in flight
pub data More (w v : World) : Type 0 where
  same : v.kept ≡ w.kept → (v.flight ≡ w.flight) ⊎ (v.flight ≡ []) → More w v
  one : (s : Store) → w.flight ≡ s ∷ [] → v.kept ≡ s ∷ w.kept → v.flight ≡ [] → More w v

nothing_is_none : {s : Store} {l : List Store} → l ≡ [] → l ≡ s ∷ [] → ⊥
nothing_is_none {s} {l} e h = let k : length {A = Store} [] ≡ suc zero = sym (ap (length {A = Store}) e) ∙ ap (length {A = Store}) h in omega (arith, k)

more_more : {w v u : World} → More w v → More v u → More w u
more_more (same a (inl b)) (same c (inl d)) = same (c ∙ a) (inl (d ∙ b))
more_more (same a (inl b)) (same c (inr d)) = same (c ∙ a) (inr d)
more_more (same a (inr b)) (same c (inl d)) = same (c ∙ a) (inr (d ∙ b))
more_more (same a (inr b)) (same c (inr d)) = same (c ∙ a) (inr d)
more_more (same a (inl b)) (one s c d e) = one s (sym b ∙ c) (d ∙ ap (λ (k : List Store). s ∷ k) a) e
more_more (same a (inr b)) (one s c d e) = absurd (nothing_is_none b c)
more_more (one s a b c) (same d (inl e)) = one s a (d ∙ b) (e ∙ c)
more_more (one s a b c) (same d (inr e)) = one s a (d ∙ b) e
more_more (one s a b c) (one t d e f) = absurd (nothing_is_none c d)

module _ (most room : ℕ) (late : ℕ) (home : Sectors) where
  look_more : (w : World) → Found most room late home w.kept w.flight w.device → More w (look (journal most room late) w.device w.kept w.flight (now w.device commit_at))
  unfolding sequence
  look_more w (inl g) = rw (look_is most room late home w.device w.kept w.flight w.kept (rw (eq-eqb (sequence w.kept) (sequence w.kept) refl)) (always_now (GoodFor most room late home w.kept) w.device g)) (same refl (inr refl))
  look_more w (inr h) = rw (look_is most room late home w.device w.kept w.flight (h.0 ∷ w.kept) (rw (ne_eqb (next_sequence (sequence w.kept)) (sequence w.kept) (next_other (sequence w.kept)), h.1)) (always_now (GoodFor most room late home (h.0 ∷ w.kept)) w.device h.2)) (one h.0 h.1 refl refl)

  next_more : (d : Device) (kept flight : List Store) (m : Mode) → Held most room late home d kept flight m → More (record { device = d; mode = m; kept = kept; flight = flight }) (go_on (journal most room late) d kept flight m)
  unfolding go_on
  next_more d kept flight (down []) h = look_more (record { device = d; mode = down []; kept = kept; flight = flight }) h.1
  next_more d kept flight (down (o ∷ ops)) h = same refl (inl refl)
  next_more d kept flight refused h = absurd h
  next_more d kept flight (idle n) h = same refl (inl refl)
  next_more d kept flight (storing n s []) h = one s h.1 refl refl
  next_more d kept flight (storing n s (o ∷ ops)) h = same refl (inl refl)
  next_more d kept flight (recovering n []) h = same refl (inl refl)
  next_more d kept flight (recovering n (o ∷ ops)) h = same refl (inl refl)

  pub quiet_more : (acts : List Act) (w : World) → quiet acts → Holds most room late home w → More w (run (journal most room late) w acts)
  unfolding run act
  quiet_more [] w q h = same refl (inl refl)
  quiet_more (begin s ∷ acts) w q h = absurd q
  quiet_more (next ∷ acts) w q h = more_more (next_more w.device w.kept w.flight w.mode h) (quiet_more acts (act (journal most room late) w next) q (act_holds most room late home w next h))
  quiet_more (cutting lands ∷ acts) w q h = more_more (same refl (inl refl)) (quiet_more acts (act (journal most room late) w (cutting lands)) q (act_holds most room late home w (cutting lands) h))
  quiet_more (killing ∷ acts) w q h = more_more (same refl (inl refl)) (quiet_more acts (act (journal most room late) w killing) q (act_holds most room late home w killing h))

  -- ── the stores that count later are those that count now, and newer ones before them ──
  grown : (w v : World) → More w v → (more : List Store) × (v.kept ≡ more ++ w.kept)
  grown w v (same k i) = ([], k)
  grown w v (one s i k j) = (s ∷ [], k)

  begin_same : (d : Device) (kept flight : List Store) (m : Mode) (s : Store) → (take_up (journal most room late) d kept flight m s).kept ≡ kept
  unfolding take_up
  begin_same d kept flight (down ops) s = refl
  begin_same d kept flight refused s = refl
  begin_same d kept flight (idle n) s = go (fits (journal most room late).most (journal most room late).room s)
    where
      go : (b : Bool) → (if {A = World} b (record { device = d; mode = storing (next_sequence n) s ((journal most room late).plan (next_sequence n) s); kept = kept; flight = s ∷ [] }) (record { device = d; mode = idle n; kept = kept; flight = flight })).kept ≡ kept
      go true = refl
      go false = refl
  begin_same d kept flight (storing n t ops) s = refl
  begin_same d kept flight (recovering n ops) s = refl

  act_grows : (w : World) (a : Act) → Holds most room late home w → (more : List Store) × ((act (journal most room late) w a).kept ≡ more ++ w.kept)
  unfolding act
  act_grows w (begin s) h = ([], begin_same w.device w.kept w.flight w.mode s)
  act_grows w next h = grown w (go_on (journal most room late) w.device w.kept w.flight w.mode) (next_more w.device w.kept w.flight w.mode h)
  act_grows w (cutting lands) h = ([], refl)
  act_grows w killing h = ([], refl)

  pub run_grows : (acts : List Act) (w : World) → Holds most room late home w → (more : List Store) × ((run (journal most room late) w acts).kept ≡ more ++ w.kept)
  unfolding run
  run_grows [] w h = ([], refl)
  run_grows (a ∷ acts) w h =
      let x = act_grows w a h in
      let y = run_grows acts (act (journal most room late) w a) (act_holds most room late home w a h) in
      (y.0 ++ x.0, y.1 ∙ ap (λ (l : List Store). y.0 ++ l) x.1 ∙ sym (append_assoc y.0 x.0 w.kept))
