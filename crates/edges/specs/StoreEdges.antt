-- The stores that each event makes itself, and cuts inside events, as one table under one theorem, by computation.
use Rattle.std.specs.Prelude.{◌≡◌, refl, Bool, true, false, List, [], ◌∷◌, ◌++◌, ℕ, length}
use Rattle.model.specs.State.{State}
use Rattle.model.specs.Stores
use Rattle.model.specs.Acts
use Rattle.model.specs.Acts.{Act, legal}
use Rattle.edges.specs.Lists.{limit, move, create, delete, activate, deactivate, fault, read, write, claim, truncate, update, page_done, map_done, restart, small, cut, cut_in, said, begin, leaves}
use Rattle.edges.specs.Runs.{holds}

-- how many stores an event makes after a list of acts
abbrev count : State → Act → ℕ
count st (Acts.event e) = length (Stores.made small st (Stores.event e))
count st (Acts.looking s p) = 0
count st (Acts.importing s q n b) = length (Stores.made small st (Stores.importing s q n b))
count st (Acts.exporting s buffer) = 0
count st Acts.restarting = 0
count st (Acts.cutting writes updates m) = 0
count st (Acts.cutting_in c k writes updates m) = 0

unfoldable pub made : List Act → Act → ℕ
unfolding said leaves
made acts a = count (leaves small acts) a

unfoldable pub may_be : List Act → Bool
unfolding said begin
may_be acts = legal small (begin small) acts

-- an active design whose page 0 is being written; then the write is done and its update is under way
abbrev opened : List Act
opened = restart ∷ limit 0 3 ∷ create 0 0 7 ∷ activate 0 ∷ []

abbrev writing : List Act
writing = opened ++ fault 0 0 ∷ write 0 0 1 9 ∷ claim ∷ []

abbrev updating : List Act
updating = writing ++ page_done 0 1 ∷ update 0 ∷ []

pub record StoreEdges : Type 0 where
  -- two stores: create, the highest number and then the slot; one: delete, limit, a good done of a write and of an update
  create_two : made opened (create 1 0 8) ≡ 2
  delete_one : made (opened ++ deactivate 0 ∷ []) (delete 0) ≡ 1
  limit_one : made opened (limit 0 2) ≡ 1
  write_done : made writing (page_done 0 1) ≡ 1
  update_done : made updating (map_done 0 1) ≡ 1
  -- none: a failed done, a good done of a read, events that change memory alone, a refused event
  write_failed_holds : made writing (page_done 0 0) ≡ 0
  update_failed : made updating (map_done 0 0) ≡ 0
  read_done : made (updating ++ map_done 0 1 ∷ fault 0 0 ∷ []) (page_done 1 1) ≡ 0
  activate_none : made (restart ∷ limit 0 3 ∷ create 0 0 7 ∷ []) (activate 0) ≡ 0
  fault_none : made opened (fault 0 0) ≡ 0
  write_none : made (opened ++ fault 0 0 ∷ []) (write 0 0 1 9) ≡ 0
  claim_none : made (opened ++ fault 0 0 ∷ write 0 0 1 9 ∷ []) claim ≡ 0
  truncate_none : made opened (truncate 0 0) ≡ 0
  update_none : made opened (update 0) ≡ 0
  refused_none : made opened (create 0 0 8) ≡ 0
  -- a cut inside falls before the last store of an event that is carried out, once restarted
  inside : may_be (opened ++ cut_in (create 1 0 8) 0 [] [] ∷ restart ∷ []) ≡ true
  between : may_be (opened ++ cut_in (create 1 0 8) 1 [] [] ∷ restart ∷ []) ≡ true
  not_after_the_last : may_be (opened ++ cut_in (create 1 0 8) 2 [] [] ∷ []) ≡ false
  not_of_a_refused : may_be (opened ++ cut_in (create 0 0 8) 0 [] [] ∷ []) ≡ false
  not_without_a_store : may_be (opened ++ cut_in (fault 0 0) 0 [] [] ∷ []) ≡ false
  not_before_restart : may_be (cut_in (limit 0 3) 0 [] [] ∷ []) ≡ false
  -- cuts inside a create, a delete, a limit and good dones, with open transfers that land or do not: claim, invariant and rules hold after every act
  in_create : holds (opened ++ cut_in (create 1 0 8) 0 [] [] ∷ restart ∷ create 1 0 8 ∷ []) ≡ true
  in_delete : holds (opened ++ deactivate 0 ∷ cut_in (delete 0) 0 [] [] ∷ restart ∷ activate 0 ∷ []) ≡ true
  in_limit : holds (updating ++ cut_in (limit 0 2) 0 [] (0 ∷ []) ∷ restart ∷ activate 0 ∷ fault 0 0 ∷ page_done 0 1 ∷ read 0 0 1 ∷ []) ≡ true
  in_write_done : holds (writing ++ cut_in (page_done 0 1) 0 (0 ∷ []) [] ∷ restart ∷ []) ≡ true
  in_update_done : holds (updating ++ cut_in (map_done 0 1) 0 [] [] ∷ restart ∷ []) ≡ true

pub store_edges : StoreEdges
unfolding made may_be holds
store_edges = record {
  create_two = refl;
  delete_one = refl;
  limit_one = refl;
  write_done = refl;
  update_done = refl;
  write_failed_holds = refl;
  update_failed = refl;
  read_done = refl;
  activate_none = refl;
  fault_none = refl;
  write_none = refl;
  claim_none = refl;
  truncate_none = refl;
  update_none = refl;
  refused_none = refl;
  inside = refl;
  between = refl;
  not_after_the_last = refl;
  not_of_a_refused = refl;
  not_without_a_store = refl;
  not_before_restart = refl;
  in_create = refl;
  in_delete = refl;
  in_limit = refl;
  in_write_done = refl;
  in_update_done = refl;
}
