-- Worlds that only the sentence beyond the papers denies (`listed_live` of FromPack): a page that was cut away, or that no finished update found live, stands in the map.
use Rattle.std.specs.Prelude.{◌≡◌, refl, Bool, true, false, ◌&&◌, List, [], ◌∷◌, ◌++◌, ℕ, T}
use Rattle.tables.specs.Rule.{test}
use Rattle.model.specs.State.{Disk}
use Rattle.model.specs.Setters.{set_maps}
use Rattle.model.specs.Acts.{Act, World, act, run}
use Rattle.model.specs.Demand3.{last_update}
use Rattle.model.specs.FromPack.{listed_live}
use Rattle.edges.specs.Lists.{limit, create, delete, activate, deactivate, fault, write, claim, truncate, update, page_done, map_done, restart, small, cut, begin}
use Rattle.edges.specs.RuleList.{says_no}
use Rattle.edges.specs.Runs.{holds}
use Rattle.edges.specs.Worlds.{nine, stored, written, whole, hurt, seen}
use Rattle.edges.specs.Packs as Packs

-- after each act
unfoldable along : World → List Act → Bool
unfolding begin last_update listed_live
along w [] = test (listed_live small w)
along w (a ∷ acts) = let rest = along (act small w a) acts in test (listed_live small w) && rest

unfoldable always : List Act → Bool
unfolding along
always acts = along (begin small) acts

unfoldable from_pack : Disk → List Act → Bool
unfolding along Packs.from
from_pack pack acts = along (Packs.from pack) acts

-- 1: the sentence says no; as the world stands, and after a cut, before any restart and after it
unfoldable relisted : World → List (List ℕ)
unfolding says_no last_update listed_live
relisted w = let says : World → List ℕ = λ x. says_no 1 (listed_live small x ∷ []) in says w ∷ says (run small w (cut [] [] ∷ [])) ∷ says (run small w (cut [] [] ∷ restart ∷ [])) ∷ []

abbrev all : List (List ℕ)
all = (1 ∷ []) ∷ (1 ∷ []) ∷ (1 ∷ []) ∷ []

-- page 0 saved, cut away, and the design saved again
abbrev cut_away : List Act
cut_away = nine ++ stored ++ truncate 0 0 ∷ stored

-- the design saved, then page 0 stored, and nothing saved since
abbrev unsaved : List Act
unsaved = restart ∷ limit 0 4 ∷ create 0 0 7 ∷ activate 0 ∷ stored ++ fault 0 0 ∷ write 0 0 1 9 ∷ claim ∷ page_done 0 1 ∷ []

-- page 0 saved, written to zeros and claimed, and the design saved again
abbrev zeroed : List Act
zeroed = nine ++ stored ++ fault 0 0 ∷ page_done 1 1 ∷ write 0 0 1 0 ∷ claim ∷ stored

-- page 0 saved, cut away and saved again, put to rest and deleted, and its slot taken again
abbrev another : List Act
another = cut_away ++ deactivate 0 ∷ delete 0 ∷ create 0 0 8 ∷ []

-- two updates of which only the first is finished: the page is cut away in between
abbrev failed : List Act
failed = nine ++ stored ++ truncate 0 0 ∷ update 0 ∷ map_done 0 0 ∷ update 0 ∷ []

abbrev first : Disk → Disk
first = set_maps (1 ∷ 0 ∷ 0 ∷ 0 ∷ 0 ∷ 0 ∷ [])

pub record Relisted : Type 0 where
  -- The sentence holds after each act of these lists, cuts and packs among them.
  cut_right : T (always (cut_away ++ cut [] [] ∷ restart ∷ activate 0 ∷ stored))
  unsaved_right : T (always (unsaved ++ update 0 ∷ cut [] (0 ∷ []) ∷ restart ∷ activate 0 ∷ stored))
  zeroed_right : T (always zeroed)
  another_right : T (always another)
  failed_right : T (always (failed ++ cut [] [] ∷ restart ∷ []))
  pack_right : T (from_pack Packs.one (restart ∷ activate 1 ∷ fault 1 0 ∷ page_done 0 1 ∷ truncate 1 1 ∷ update 1 ∷ map_done 1 1 ∷ restart ∷ []))
  -- A page that was cut away is listed again; demand 3 says nothing of it, and need not by its words.
  cut_again : relisted (hurt first cut_away) ≡ all
  cut_unseen : seen (hurt first cut_away) ≡ [] ∷ [] ∷ [] ∷ [] ∷ []
  -- A page is listed that the last finished update did not find live.
  unsaved_again : relisted (hurt first unsaved) ≡ all
  unsaved_unseen : seen (hurt first unsaved) ≡ [] ∷ [] ∷ [] ∷ [] ∷ []
  zeroed_again : relisted (hurt first zeroed) ≡ all
  another_again : relisted (hurt first another) ≡ all
  -- The last finished update found it live, and a later one has not finished.
  failed_whole : relisted (hurt whole failed) ≡ [] ∷ [] ∷ [] ∷ []
  written_whole : relisted (hurt whole written) ≡ [] ∷ [] ∷ [] ∷ []
  -- Before an update is finished, a record that the pack did not list there is denied.
  pack_moved : relisted (Packs.hurt Packs.one (set_maps (0 ∷ 0 ∷ 0 ∷ 0 ∷ 2 ∷ 1 ∷ [])) (restart ∷ activate 1 ∷ [])) ≡ all
  -- What the pack listed is not listed again once an update has let it go, nor for the next design in its slot.
  pack_again : relisted (Packs.hurt Packs.one Packs.again (restart ∷ activate 1 ∷ truncate 1 0 ∷ update 1 ∷ map_done 1 1 ∷ [])) ≡ all
  pack_another : relisted (Packs.hurt Packs.one Packs.again Packs.another) ≡ all

pub relisted_told : Relisted
unfolding always from_pack relisted hurt seen Packs.hurt
relisted_told = record {
  cut_right = tt;
  unsaved_right = tt;
  zeroed_right = tt;
  another_right = tt;
  failed_right = tt;
  pack_right = tt;
  cut_again = refl;
  cut_unseen = refl;
  unsaved_again = refl;
  unsaved_unseen = refl;
  zeroed_again = refl;
  another_again = refl;
  failed_whole = refl;
  written_whole = refl;
  pack_moved = refl;
  pack_again = refl;
  pack_another = refl;
}
