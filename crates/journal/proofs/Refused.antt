-- A damaged or foreign commit sector is refused, and nothing is written, along every list of acts.
use Rattle.std.proofs.Common.{◌≡◌, ℕ, false, List, [], ◌∷◌, sym, refl, ap, subst}
use Rattle.journal.specs.Device.{Sectors, Device, landed, now, Op, write, sync, carry, cut}
use Rattle.journal.specs.Layout.{Store, commit_at, valid}
use Rattle.journal.specs.Journal.{Protocol, journal, Mode, down, refused, idle, storing, recovering, World, Act, begin, next, cutting, killing, look, go_on, take_up, act, run, opened}
use Rattle.journal.specs.Claims.{Untouched}

-- these sectors, and nothing open
abbrev clean : Sectors → Device
clean f = record { durable = f; unsynced = [] }

-- nothing but syncs is left to do
abbrev OnlySyncs : List Op → Type 0
OnlySyncs [] = Unit {0}
OnlySyncs (write w ∷ ops) = ⊥
OnlySyncs (sync ∷ ops) = OnlySyncs ops

-- before the look, or refused
abbrev Waits : Mode → Type 0
Waits (down ops) = OnlySyncs ops
Waits refused = Unit {0}
Waits (idle n) = ⊥
Waits (storing n s ops) = ⊥
Waits (recovering n ops) = ⊥

module _ (most room late : ℕ) (f : Sectors) (bad : valid most room (f commit_at) ≡ false) where
  abbrev p : Protocol
  p = journal most room late

  abbrev Still : World → Type 0
  Still w = (w.device ≡ clean f) × Waits w.mode

  next_still : (kept flight : List Store) (m : Mode) → Waits m → Still (go_on p (clean f) kept flight m)
  unfolding go_on look journal now landed carry
  next_still kept flight (down []) h = rw bad (refl, tt)
  next_still kept flight (down (write w ∷ ops)) h = absurd h
  next_still kept flight (down (sync ∷ ops)) h = (refl, h)
  next_still kept flight refused h = (refl, tt)
  next_still kept flight (idle n) h = absurd h
  next_still kept flight (storing n s ops) h = absurd h
  next_still kept flight (recovering n ops) h = absurd h

  begin_still : (kept flight : List Store) (m : Mode) (s : Store) → Waits m → Still (take_up p (clean f) kept flight m s)
  unfolding take_up
  begin_still kept flight (down ops) s h = (refl, h)
  begin_still kept flight refused s h = (refl, tt)
  begin_still kept flight (idle n) s h = absurd h
  begin_still kept flight (storing n t ops) s h = absurd h
  begin_still kept flight (recovering n ops) s h = absurd h

  act_still : (w : World) (a : Act) → Still w → Still (act p w a)
  unfolding act cut landed journal
  act_still w (begin s) h = subst (λ (d : Device). Still (take_up p d w.kept w.flight w.mode s)) (sym h.0) (begin_still w.kept w.flight w.mode s h.1)
  act_still w next h = subst (λ (d : Device). Still (go_on p d w.kept w.flight w.mode)) (sym h.0) (next_still w.kept w.flight w.mode h.1)
  act_still w (cutting lands) h = (ap (cut lands) h.0, tt)
  act_still w killing h = (h.0, tt)

  run_still : (acts : List Act) (w : World) → Still w → Still (run p w acts)
  unfolding run
  run_still [] w h = h
  run_still (a ∷ acts) w h = run_still acts (act p w a) (act_still w a h)

  start_still : Still (opened p f)
  unfolding opened journal
  start_still = (refl, tt)

pub untouched : (most room late : ℕ) → Untouched (journal most room late)
unfolding Untouched landed journal
untouched most room late f acts bad =
    let h = run_still most room late f bad acts (opened (journal most room late) f) (start_still most room late f bad) in
    (λ lands. ap (λ (d : Device). landed d.durable d.unsynced lands) h.0, λ n e. subst Waits e h.1)
