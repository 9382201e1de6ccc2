-- The words that theorems are said with, computed: which events, acts and requests they mean, and which tables and answers.
use Rattle.std.specs.Prelude.{◌≡◌, refl, Bool, true, false, not, List, [], ◌∷◌, ◌++◌, ℕ, T}
use Rattle.tables.specs.Rule.{test}
use Rattle.model.specs.declared.request.Request.{Request}
use Rattle.model.specs.State.{State}
use Rattle.model.specs.Setters.{on_disk, on_held, set_numbers, set_used, set_states, set_owners}
use Rattle.model.specs.Requests.{decoded}
use Rattle.model.specs.Acts
use Rattle.model.specs.Acts.{Act, World}
use Rattle.model.specs.Carried.{spares, all_spare}
use Rattle.model.specs.Terms.{passes, tidy, blameless, answered, all_answered, no_limits, asks_limit, sum, other, all_other, asks_done, acts_to}
use Rattle.edges.specs.Lists.{limit, move, create, delete, activate, deactivate, fault, read, write, wire, unwire, claim, truncate, update, page_done, map_done, join, turn, look, restart, small, cut, cut_in, said, begin, leaves}
use Rattle.edges.specs.Sheets.{bare, import}
use Rattle.edges.specs.Edges.{opened}
use Rattle.edges.specs.Worlds.{on_state}

-- an act of every kind but limit
abbrev others : List Act
others =
    (move 0 1 1 ∷ create 0 0 7 ∷ delete 0 ∷ activate 0 ∷ deactivate 0 ∷ fault 0 0 ∷ read 0 0 0 ∷ write 0 0 0 9 ∷ wire 0 0 ∷ unwire 0 0 ∷ claim ∷ truncate 0 0 ∷ update 0 ∷ page_done 0 1 ∷ map_done 0 1 ∷ join 0 0 ∷ turn ∷ look 0 0 ∷ restart ∷ cut [] [] ∷ [])
    ++ import 0 7 bare ∷ Acts.exporting 0 [] ∷ cut_in (create 0 0 7) 0 [] [] ∷ cut_in (import 0 7 bare) 0 [] [] ∷ []

-- an act of every kind but a restart, a cut and frame 0's done
abbrev beside : List Act
beside = limit 0 1 ∷ move 0 1 1 ∷ create 0 0 7 ∷ delete 0 ∷ activate 0 ∷ deactivate 0 ∷ fault 0 0 ∷ read 0 0 0 ∷ write 0 0 0 9 ∷ wire 0 0 ∷ unwire 0 0 ∷ claim ∷ truncate 0 0 ∷ update 0 ∷ page_done 1 1 ∷ map_done 0 1 ∷ join 0 0 ∷ turn ∷ look 0 0 ∷ import 0 7 bare ∷ Acts.exporting 0 [] ∷ []

-- a request of a kind with these values
abbrev ask : ℕ → ℕ → ℕ → Request
ask k a b = record { kind = k; first = a; second = b; third = 0; fourth = 0 }

unfoldable good : State → Bool
unfolding said leaves
good st = test (passes small st)

unfoldable tidied : State → Bool
unfolding said leaves
tidied st = test (tidy small st)

unfoldable blamed : ℕ → Bool
unfolding said
blamed n = not (test (blameless n))

-- of a disk part with one number in two slots
unfoldable restartable : Bool
unfolding said begin
restartable = test (answered small (on_state (on_disk (set_numbers (7 ∷ 7 ∷ []))) (begin small)) restart)

-- a list, some of whose acts are refused, from a format
unfoldable unblamed : List Act → Bool
unfolding said begin
unblamed acts = test (all_answered small (begin small) acts)

-- page 1 of slot 0 is spared, by an act and by all of a list
unfoldable sparing : Act → Bool
unfolding said
sparing a = test (spares small 1 a)

unfoldable sparing_all : List Act → Bool
unfolding said
sparing_all acts = test (all_spare small 1 acts)

-- tables with a wrong used count, and with a record that is free and of slot 1
abbrev miscounted : State
miscounted = set_used (9 ∷ []) (leaves small (opened 2))

abbrev untidy : State
untidy = on_held (set_owners (0 ∷ 0 ∷ 1 ∷ 0 ∷ [])) (leaves small (opened 2))

-- a released record of a slot that is not active
abbrev stray : State
stray = on_held (set_states (4 ∷ 0 ∷ 0 ∷ 0 ∷ [])) (on_held (set_owners (1 ∷ 0 ∷ 0 ∷ 0 ∷ [])) (leaves small (opened 2)))

pub record TermsEdges : Type 0 where
  -- the limit event, and no other
  limit_none : no_limits others ≡ true
  limit_one : no_limits (restart ∷ limit 0 4 ∷ []) ≡ false
  limit_asked : asks_limit (decoded (ask 15 0 4)) ≡ true
  move_asked : asks_limit (decoded (ask 17 0 1)) ≡ false
  unknown_asked : asks_limit (decoded (ask 99 0 1)) ≡ false
  sum_all : sum (3 ∷ 0 ∷ 4 ∷ []) ≡ 7
  -- frame 0's done, a restart and a cut, and no other
  done_none : all_other 0 beside ≡ true
  done_good : other 0 (page_done 0 1) ≡ false
  done_failed : other 0 (page_done 0 0) ≡ false
  done_restart : other 0 restart ≡ false
  done_cut : other 0 (cut [] []) ≡ false
  done_asked : asks_done 0 (decoded (ask 13 0 1)) ≡ true
  done_elsewhere : asks_done 0 (decoded (ask 13 1 0)) ≡ false
  done_unknown : asks_done 0 (decoded (ask 99 0 1)) ≡ false
  -- tables that pass 1 and 2, and tables that do not
  good_opened : T (good (leaves small (opened 2)))
  good_miscounted : good miscounted ≡ false
  good_junk : good (begin small).state ≡ false
  -- a free record is of slot 0, and a released one of an active slot
  tidy_opened : T (tidied (leaves small (opened 2 ++ write 0 0 0 9 ∷ truncate 0 0 ∷ [])))
  tidy_free : tidied untidy ≡ false
  tidy_released : tidied stray ≡ false
  -- 1 and 2 blame the tables, and no other answer does
  blame : blamed 1 ∷ blamed 2 ∷ blamed 0 ∷ blamed 3 ∷ blamed 27 ∷ [] ≡ true ∷ true ∷ false ∷ false ∷ false ∷ []
  -- each act is asked, refused or not; before a restart every event, and a look, is answered 2; a restart of a disk part that breaks a rule is refused
  answered_all : T (unblamed (opened 2 ++ create 0 0 7 ∷ look 0 1 ∷ cut [] [] ∷ restart ∷ []))
  answered_event : unblamed (limit 0 2 ∷ []) ≡ false
  answered_look : unblamed (look 0 0 ∷ []) ≡ false
  answered_later : unblamed (restart ∷ cut [] [] ∷ turn ∷ []) ≡ false
  answered_restart : restartable ≡ false
  answered_import : unblamed (import 0 7 bare ∷ []) ≡ false
  answered_export : unblamed (Acts.exporting 0 [] ∷ []) ≡ false
  -- a page is spared by all but its write, its truncate, a create, a delete and an import in its slot, and a cut inside that import
  spares_most : T (sparing_all (restart ∷ limit 0 1 ∷ move 0 1 1 ∷ create 1 0 7 ∷ delete 1 ∷ activate 0 ∷ deactivate 0 ∷ fault 0 1 ∷ read 0 1 0 ∷ write 0 0 0 9 ∷ write 1 1 0 9 ∷ wire 0 1 ∷ unwire 0 1 ∷ claim ∷ truncate 0 2 ∷ truncate 1 0
      ∷ update 0 ∷ page_done 0 0 ∷ map_done 0 1 ∷ join 0 1 ∷ turn ∷ look 0 1 ∷ import 1 7 bare ∷ Acts.exporting 0 [] ∷ cut (0 ∷ []) (0 ∷ []) ∷ cut_in (import 1 7 bare) 0 [] [] ∷ cut_in (delete 0) 0 [] [] ∷ []))
  spares_no_write : sparing (write 0 1 0 9) ≡ false
  spares_no_truncate : sparing (truncate 0 1) ≡ false
  spares_no_create : sparing (create 0 0 7) ≡ false
  spares_no_delete : sparing (delete 0) ≡ false
  spares_no_import : sparing (import 0 7 bare) ≡ false
  spares_no_part : sparing (cut_in (import 0 7 bare) 0 [] []) ≡ false
  spares_not_one : sparing_all (restart ∷ write 0 1 0 9 ∷ restart ∷ []) ≡ false
  -- a list of requests: a limit, a kind that is no event, a claim
  acts : acts_to (15 ∷ 0 ∷ 2 ∷ 0 ∷ 0 ∷ 99 ∷ 0 ∷ 0 ∷ 0 ∷ 0 ∷ 8 ∷ 0 ∷ 0 ∷ 0 ∷ 0 ∷ []) 3 ≡ limit 0 2 ∷ claim ∷ []

pub terms_edges : TermsEdges
unfolding sum good tidied unblamed blamed restartable sparing sparing_all acts_to decoded leaves
terms_edges = record {
  limit_none = refl;
  limit_one = refl;
  limit_asked = refl;
  move_asked = refl;
  unknown_asked = refl;
  sum_all = refl;
  done_none = refl;
  done_good = refl;
  done_failed = refl;
  done_restart = refl;
  done_cut = refl;
  done_asked = refl;
  done_elsewhere = refl;
  done_unknown = refl;
  good_opened = tt;
  good_miscounted = refl;
  good_junk = refl;
  tidy_opened = tt;
  tidy_free = refl;
  tidy_released = refl;
  blame = refl;
  answered_all = tt;
  answered_event = refl;
  answered_look = refl;
  answered_later = refl;
  answered_restart = refl;
  answered_import = refl;
  answered_export = refl;
  spares_most = tt;
  spares_no_write = refl;
  spares_no_truncate = refl;
  spares_no_create = refl;
  spares_no_delete = refl;
  spares_no_import = refl;
  spares_no_part = refl;
  spares_not_one = refl;
  acts = refl;
}
