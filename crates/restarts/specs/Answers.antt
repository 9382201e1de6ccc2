-- Restart by its two questions: what its three answers leave, for code that asks them and then sets the tables anew.
use Rattle.std.specs.Prelude.{◌≡◌, Bool, false, List, ℕ}
use Rattle.std.proofs.Math.Path.{refl, ap}
use Rattle.std.proofs.Common.{◌∙◌}
use Rattle.std.proofs.Math.Bool.{true}
use Rattle.tables.specs.Base.{if}
use Rattle.tables.specs.Questions.{first_no}
use Rattle.tables.specs.Rule.{test, sound}
use Rattle.model.specs.declared.sizes.Sizes.{Sizes}
use Rattle.model.specs.declared.frame.Frame.{Frame}
use Rattle.model.specs.declared.frame.Pool.{Pool}
use Rattle.model.specs.State.{Disk, Memory, State, files, charged, payer, used_of}
use Rattle.model.specs.Rules.{disk_rules}
use Rattle.model.specs.Laws.Ruled.{OnDisk, disk_ruled}
use Rattle.model.specs.Lent.{state_of, same_state}
use Rattle.model.specs.Laws.Fit.{Fit, fit}
use Rattle.model.specs.Chip.{empty_chip}
use Rattle.model.specs.Setters.{set_chip, counted}
use Rattle.model.specs.Restart.{raised, restarted, is_listed, listed_at}
use Rattle.model.specs.Laws.Own.{refusal}
use Rattle.model.specs.Step.{Outcome, outcome, all_fit, restart}
use Rattle.restarts.specs.Restarts.{seen}
use Rattle.restarts.specs.Numbers.{numbered, raised_seen}

-- the restarted memory looks at the accounts, the maps, the limits and the parents alone
pub restarted_seen : (z : Sizes) (d : Disk) → (restarted z (seen d.accounts d.maps d.limits d.parents)).memory ≡ (restarted z d).memory
unfolding restarted counted is_listed listed_at used_of payer charged
restarted_seen z d = refl

-- a state whose disk part stands and whose memory is the restarted one
pub restarted_whole : (z : Sizes) (d : Disk) → record { disk = d; memory = (restarted z (seen d.accounts d.maps d.limits d.parents)).memory } ≡ restarted z d
unfolding restarted counted
restarted_whole z d = ap (λ (m : Memory). record { disk = d; memory = m }) (restarted_seen z d)

-- .. table by table, the highest number raised; the chip, which is emptied apart from them, stands beside
module _ (z : Sizes) (d : Disk) where
  abbrev m : Memory
  m = (restarted z (seen d.accounts d.maps d.limits d.parents)).memory

  pub restarted_tables : {frames : List Frame} {pool : Pool} {highest words free_queue removal_list addresses states owners free_map active updating images used : List ℕ}
      → highest ≡ (raised z (numbered d.numbers d.highest)).highest → frames ≡ m.core.frames → pool ≡ m.held.pool → words ≡ m.core.words → free_queue ≡ m.core.free_queue → removal_list ≡ m.core.removal_list
      → addresses ≡ m.held.addresses → states ≡ m.held.states → owners ≡ m.held.owners → free_map ≡ m.held.free_map
      → active ≡ m.slots.active → updating ≡ m.slots.updating → images ≡ m.slots.images → used ≡ m.used
      → set_chip (empty_chip z) (state_of frames pool d.records d.numbers d.accounts d.maps d.limits d.parents highest words free_queue removal_list addresses states owners free_map active updating images used)
      ≡ restarted z (raised z d)
  unfolding restarted counted raised
  restarted_tables h f p w q r a s o e c u i n = same_state f p refl refl refl refl refl refl (h ∙ raised_seen d z) w q r a s o e c u i n ∙ restarted_whole z (raised z d)

module _ (z : Sizes) (st : State) where
  -- questions 1 and 2, tested
  pub fit_told : true ≡ test (all_fit z st) → Fit z st
  fit_told e = fit z st (sound (all_fit z st) (rw (← e) tt))

  pub disk_told : true ≡ test (disk_rules z st) → OnDisk z (files st)
  disk_told e = disk_ruled z st (sound (disk_rules z st) (rw (← e) tt))

  abbrev by : Bool → Bool → Outcome State
  by a b = outcome (if a (if b 0 2) 1) 0 st (restarted z (raised z st.disk))

  pub restart_unfit : false ≡ test (all_fit z st) → refusal 1 st ≡ restart z st
  unfolding restart first_no
  restart_unfit e = ap (λ (a : Bool). by a (test (disk_rules z st))) e

  pub restart_unruled : true ≡ test (all_fit z st) → false ≡ test (disk_rules z st) → refusal 2 st ≡ restart z st
  unfolding restart first_no
  restart_unruled e r = ap (λ (b : Bool). by true b) r ∙ ap (λ (a : Bool). by a (test (disk_rules z st))) e

  pub restart_done : true ≡ test (all_fit z st) → true ≡ test (disk_rules z st) → refusal 0 (restarted z (raised z st.disk)) ≡ restart z st
  unfolding restart first_no
  restart_done e r = ap (λ (b : Bool). by true b) r ∙ ap (λ (a : Bool). by a (test (disk_rules z st))) e
