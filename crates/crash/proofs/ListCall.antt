-- Demand 3 speaks of a list of requests in one call too: the call leaves what its events leave one after the other, and the claim holds after it.
use mathlib.Core.Path.{◌≡◌}
use mathlib.Core.List.{List, ◌++◌}
use Prim.Native.Nat.{ℕ}
use lib.Dec.{T}
use lib.ListN.{length}
use Rattle.tables.specs.Base.{at}
use Rattle.tables.specs.Rule.{Holds}
use Rattle.model.specs.declared.sizes.Sizes.{Sizes}
use Rattle.model.specs.Sizes.{sizes_fit}
use Rattle.model.specs.State.{Disk, Memory}
use Rattle.model.specs.Rules.{lower, disk_rules}
use Rattle.model.specs.Restart.{formatted}
use Rattle.model.specs.Step.{disk_lengths, memory_lengths}
use Rattle.model.specs.ApplyAll.{request_count, apply_all}
use Rattle.model.specs.Acts.{Act, World, legal, run, start}
use Rattle.model.specs.Demand3.{After, demand3}
use Rattle.model.specs.FromPack.{from_pack}
use Rattle.model.specs.Terms.{acts_to}
use Rattle.model.specs.Laws.ListedActs.{run_on, legal_on, legal_acts, call_acts}
use Rattle.crash.proofs.Demand3 as D

-- the world after a call with these requests, room for these answers, made in a world w
abbrev pub called : Sizes → World → List ℕ → List ℕ → World
called z w requests answers = run z w (acts_to requests (request_count (length requests) (length answers)))

-- the call and its acts leave the same tables, and the acts are legal once the keeper is restarted
module _ (z : Sizes) (w₀ : World) (acts : List Act) (requests answers : List ℕ) (t : T (legal z w₀ acts)) (up : T (run z w₀ acts).up) where
  abbrev calling : List Act
  calling = acts_to requests (request_count (length requests) (length answers))

  all_legal : T (legal z w₀ (acts ++ calling))
  all_legal = legal_on z w₀ acts calling t (legal_acts z (run z w₀ acts) requests (request_count (length requests) (length answers)) up)

-- From a format: after any legal list that leaves the keeper restarted, and then the call.
pub demand3_call : (z : Sizes) (parents : List ℕ) (junk : Memory) (acts : List Act) (requests answers : List ℕ) → Holds (sizes_fit z) → Holds (lower z.accounts (at parents)) → Holds (memory_lengths z junk)
    → (let w₀ = start z (formatted z parents) junk in T (legal z w₀ acts) → T (run z w₀ acts).up
    → (let w = run z w₀ acts in let w' = called z w requests answers in (w'.state ≡ (apply_all z requests answers w.state).left) × After (demand3 z w') z w'))
demand3_call z parents junk acts requests answers sizes low lengths t up =
    let w₀ = start z (formatted z parents) junk in
    (call_acts z (run z w₀ acts) requests answers, rw (← run_on z w₀ acts (calling z w₀ acts requests answers t up)) (D.demand3 z parents junk (acts ++ calling z w₀ acts requests answers t up) sizes low lengths (all_legal z w₀ acts requests answers t up)))

-- From any pack that keeps the disk rules.
pub demand3_call_from_pack : (z : Sizes) (pack : Disk) (junk : Memory) (acts : List Act) (requests answers : List ℕ) → Holds (sizes_fit z) → Holds (disk_lengths z pack) → Holds (memory_lengths z junk)
    → Holds (disk_rules z (record { disk = pack; memory = junk }))
    → (let w₀ = start z pack junk in T (legal z w₀ acts) → T (run z w₀ acts).up
    → (let w = run z w₀ acts in let w' = called z w requests answers in (w'.state ≡ (apply_all z requests answers w.state).left) × After (from_pack z w') z w'))
demand3_call_from_pack z pack junk acts requests answers sizes disk lengths rules t up =
    let w₀ = start z pack junk in (
      call_acts z (run z w₀ acts) requests answers,
      rw (← run_on z w₀ acts (calling z w₀ acts requests answers t up)) (D.demand3_from_pack z pack junk (acts ++ calling z w₀ acts requests answers t up) sizes disk lengths rules (all_legal z w₀ acts requests answers t up)).1,
    )
