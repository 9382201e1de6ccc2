-- More worlds that demand 3's claim must deny: the promised page is in a frame, woven further, being written again, failed, or only looked at as the update begins; lists with a waiting line.
use Rattle.std.specs.Prelude.{◌≡◌, refl, List, [], ◌∷◌, ◌++◌, ℕ, T}
use Rattle.model.specs.State.{Disk}
use Rattle.model.specs.Setters.{set_maps}
use Rattle.model.specs.Acts.{Act, run}
use Rattle.edges.specs.Lists.{limit, create, activate, deactivate, fault, read, write, wire, unwire, claim, truncate, update, page_done, map_done, restart, join, turn, look, cut, small}
use Rattle.edges.specs.Runs.{holds}
use Rattle.edges.specs.Sheets.{sheet, import}
use Rattle.edges.specs.Worlds.{nine, five, stored, written, dropped, older, hurt, seen, denied}

-- the page is stored, and in a frame again
abbrev back : List Act
back = nine ++ fault 0 0 ∷ []

-- .. as the update begins; woven further; being written again; its second write failed; claimed unmodified; after an update that is finished
abbrev framed : List Act
framed = back ++ stored

abbrev woven : List Act
woven = back ++ write 0 0 1 5 ∷ stored

abbrev writing : List Act
writing = nine ++ five ++ stored

abbrev failed : List Act
failed = nine ++ five ++ page_done 1 0 ∷ stored

abbrev passed : List Act
passed = back ++ claim ∷ stored

abbrev twice : List Act
twice = written ++ stored

-- pages 0 and 1 stored, put to rest and awake: both live by the activate
abbrev both : List Act
both = nine ++ fault 0 1 ∷ write 0 1 1 4 ∷ claim ∷ page_done 1 1 ∷ stored ++ deactivate 0 ∷ activate 0 ∷ stored

-- the line: a turn that faults, one that serves, one that claims and begins a write
abbrev waited : List Act
waited = restart ∷ limit 0 4 ∷ create 0 0 7 ∷ activate 0 ∷ join 0 0 ∷ turn ∷ turn ∷ write 0 0 1 9 ∷ fault 0 1 ∷ wire 0 1 ∷ join 0 2 ∷ turn ∷ page_done 0 1 ∷ turn ∷ turn ∷ stored

-- the saved page is cut away and written anew, into another record; that write lands at a cut, and the restart finds the old record listed
abbrev lost : List Act
lost = nine ++ stored ++ truncate 0 0 ∷ five ++ cut (1 ∷ []) [] ∷ restart ∷ []

-- whatever neither writes nor truncates the page: it is read, wired, claimed and saved, another is asked for and served, another design comes by a sheet
abbrev spared : List Act
spared = restart ∷ activate 0 ∷ fault 0 0 ∷ page_done 0 1 ∷ read 0 0 1 ∷ look 0 0 ∷ wire 0 0 ∷ unwire 0 0 ∷ claim ∷ join 0 1 ∷ turn ∷ turn ∷ update 0 ∷ map_done 0 0 ∷ update 0 ∷ map_done 0 1 ∷ limit 0 5 ∷ import 1 8 sheet ∷ []

-- the record that was lost is listed in place of the old one
abbrev found : Disk → Disk
found = set_maps (2 ∷ 0 ∷ 0 ∷ 0 ∷ 0 ∷ 0 ∷ [])

-- of two pages the second is dropped
abbrev second : Disk → Disk
second = set_maps (1 ∷ 0 ∷ 0 ∷ 0 ∷ 0 ∷ 0 ∷ [])

-- what `seen` says of a world whose promised page is not listed
abbrev unlisted : List (List ℕ)
unlisted = (3 ∷ 5 ∷ []) ∷ (3 ∷ 4 ∷ 5 ∷ []) ∷ (3 ∷ 5 ∷ []) ∷ (3 ∷ 4 ∷ 5 ∷ []) ∷ []

pub record MoreWorlds : Type 0 where
  framed_right : T (holds framed)
  framed_dropped : seen (hurt dropped framed) ≡ unlisted
  -- Neither a write, nor a write that begins or fails, nor a claim of an unmodified page, nor an update ends the promise.
  woven_right : T (holds woven)
  woven_dropped : seen (hurt dropped woven) ≡ unlisted
  writing_right : T (holds writing)
  writing_dropped : seen (hurt dropped writing) ≡ unlisted
  failed_right : T (holds failed)
  failed_dropped : seen (hurt dropped failed) ≡ unlisted
  passed_right : T (holds passed)
  passed_dropped : seen (hurt dropped passed) ≡ unlisted
  twice_right : T (holds twice)
  twice_dropped : seen (hurt dropped twice) ≡ unlisted
  -- An activate makes every page live that it finds listed.
  both_right : T (holds both)
  both_second : seen (hurt second both) ≡ unlisted
  -- The promise stands while the design is put to rest and woken.
  rest_older : denied (run small (hurt older written) (restart ∷ activate 0 ∷ deactivate 0 ∷ activate 0 ∷ [])) ≡ 2 ∷ 4 ∷ 5 ∷ []
  -- .. and through all that neither writes nor truncates the page.
  spared_older : denied (run small (hurt older written) spared) ≡ 2 ∷ 4 ∷ 5 ∷ []
  -- A write that a restart did not find listed counts no more, also if a later restart finds it.
  lost_right : T (holds lost)
  lost_found : denied (run small (hurt found lost) (restart ∷ [])) ≡ 4 ∷ 5 ∷ []
  -- A listed record has a finished write: not a record of zeros that an empty slot lists.
  unowned : seen (hurt second (restart ∷ [])) ≡ (2 ∷ 5 ∷ []) ∷ (2 ∷ 5 ∷ []) ∷ (2 ∷ 5 ∷ []) ∷ (2 ∷ 5 ∷ []) ∷ []
  -- Turns feed the ledger what their faults and claims feed: the claim holds after each act, and the page that a turn's claim has stored is promised.
  waited_right : T (holds (waited ++ cut [] [] ∷ restart ∷ []))
  waited_dropped : seen (hurt dropped waited) ≡ unlisted

pub more_worlds : MoreWorlds
unfolding hurt seen denied holds
more_worlds = record {
  framed_right = tt;
  framed_dropped = refl;
  woven_right = tt;
  woven_dropped = refl;
  writing_right = tt;
  writing_dropped = refl;
  failed_right = tt;
  failed_dropped = refl;
  passed_right = tt;
  passed_dropped = refl;
  twice_right = tt;
  twice_dropped = refl;
  both_right = tt;
  both_second = refl;
  rest_older = refl;
  spared_older = refl;
  lost_right = tt;
  lost_found = refl;
  unowned = refl;
  waited_right = tt;
  waited_dropped = refl;
}
