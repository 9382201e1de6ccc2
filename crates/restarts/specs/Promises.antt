-- The contracts of restart by the tables' names: what its functions are given, and the restarted memory that they leave.
use Rattle.std.specs.Prelude.{List, ℕ}
use Rattle.model.specs.declared.sizes.Sizes.{Sizes}
use Rattle.model.specs.State.{Memory}
use Rattle.model.specs.Lent.{Table}
use Rattle.model.specs.Restart.{restarted}
use Rattle.restarts.specs.Restarts.{seen, Recorded, Ready}

-- the tables that follow from the maps
abbrev pub RecordsGiven : Sizes → (accounts maps limits parents states owners free_map used : List ℕ) → Type 0
RecordsGiven z accounts maps limits parents states owners free_map used = Recorded z accounts maps limits parents states owners free_map used

-- all that restart is lent but the disk's other tables
abbrev pub TablesGiven : Sizes → (accounts maps limits parents words free_queue removal_list addresses states owners free_map active updating images used : List ℕ) → Type 0
TablesGiven z accounts maps limits parents words free_queue removal_list addresses states owners free_map active updating images used =
    Ready z accounts maps limits parents words free_queue removal_list addresses states owners free_map active updating images used

-- the memory part of the restarted state, from the tables that restart reads
abbrev pub restarted_from : Sizes → (accounts maps limits parents : Table) → Memory
restarted_from z accounts maps limits parents = (restarted z (seen accounts.entry.now maps.entry.now limits.entry.now parents.entry.now)).memory
