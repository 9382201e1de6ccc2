-- Paper 01's edges that are marked P, as one table under one theorem, by computation; edge 12 and the worked example by a run.
use Rattle.std.specs.Prelude.{◌≡◌, refl, Bool, true, false, ◌&&◌, List, [], ◌∷◌, ◌++◌, ℕ, T, eqb}
use Rattle.model.specs.declared.frame.Frame.{Frame}
use Rattle.model.specs.State.{State}
use Rattle.model.specs.Step
use Rattle.model.specs.Acts.{Act}
use Rattle.edges.specs.Lists.{limit, create, activate, fault, read, write, wire, unwire, claim, truncate, update, page_done, map_done, restart, sized, small, junk, cut, trace, begin, says, leaves}

-- a design of limit n with page 0 in a frame
abbrev pub opened : ℕ → List Act
opened n = restart ∷ limit 0 n ∷ create 0 0 7 ∷ activate 0 ∷ fault 0 0 ∷ []

-- its page written, stored and listed
abbrev pub listing : List Act
listing = opened 2 ++ write 0 0 1 9 ∷ claim ∷ page_done 0 1 ∷ update 0 ∷ map_done 0 1 ∷ []

-- the listed page in a frame again, written to zeros and claimed
abbrev blanked : List Act
blanked = listing ++ fault 0 0 ∷ write 0 0 1 0 ∷ claim ∷ []

-- the frames as numbers in a row
abbrev flat : List Frame → List ℕ
flat [] = []
flat (g ∷ gs) = g.page ∷ g.used ∷ g.modified ∷ g.wired ∷ g.initial ∷ g.transfer ∷ flat gs

-- all tables in a row
unfoldable pub tables : State → List ℕ
tables st = st.disk.records ++ st.disk.numbers ++ st.disk.accounts ++ st.disk.maps ++ st.disk.limits ++ st.disk.parents ++ st.disk.highest ++ flat st.memory.core.frames ++ st.memory.core.words
    ++ st.memory.core.free_queue ++ st.memory.core.removal_list ++ st.memory.held.addresses ++ st.memory.held.states ++ st.memory.held.owners ++ st.memory.held.free_map
    ++ st.memory.held.pool.hand ∷ st.memory.held.pool.free ∷ st.memory.slots.active ++ st.memory.slots.updating ++ st.memory.slots.images
    ++ st.memory.chip.words ++ st.memory.chip.copies ++ st.memory.chip.next ++ st.memory.line ++ st.memory.used

unfoldable pub equal : List ℕ → List ℕ → Bool
equal [] [] = true
equal [] (y ∷ ys) = false
equal (x ∷ xs) [] = false
equal (x ∷ xs) (y ∷ ys) = eqb x y && equal xs ys

-- one record in two entries
abbrev twice : State
twice = record { disk = record { records = 0 ∷ 0 ∷ 0 ∷ 0 ∷ 0 ∷ 0 ∷ 0 ∷ 0 ∷ []; numbers = 7 ∷ 0 ∷ []; accounts = 0 ∷ 0 ∷ []; maps = 1 ∷ 1 ∷ 0 ∷ 0 ∷ 0 ∷ 0 ∷ []; limits = 0 ∷ []; parents = 0 ∷ []; highest = 0 ∷ [] }; memory = junk small }

-- (edges 1 to 4 and 6 for all sizes and states: `edges_all` of crates/invariant/proofs/EdgesAll.antt)
pub record Edges : Type 0 where
  -- 1. R = 0 gives 1; 1 and 4,096 pass; 4,097 gives 1.
  e1_none : says (sized 0 1) (restart ∷ []) ≡ 1 ∷ 0 ∷ []
  e1_least : says (sized 1 1) (restart ∷ []) ≡ 0 ∷ 0 ∷ []
  e1_most : says (sized 4096 1) (restart ∷ []) ≡ 0 ∷ 0 ∷ []
  e1_more : says (sized 4097 1) (restart ∷ []) ≡ 1 ∷ 0 ∷ []
  -- 2. create with number 0 gives 3.
  e2 : says small (restart ∷ create 0 0 0 ∷ []) ≡ 3 ∷ 0 ∷ []
  -- 3. word W−1 is read; word W gives 3.
  e3_last : says small (opened 2 ++ write 0 0 1 9 ∷ read 0 0 1 ∷ []) ≡ 0 ∷ 9 ∷ []
  e3_past : says small (opened 2 ++ read 0 0 2 ∷ []) ≡ 3 ∷ 0 ∷ []
  -- 4. truncate to N changes nothing; N+1 gives 3.
  e4_all : says small (opened 2 ++ truncate 0 3 ∷ []) ≡ 0 ∷ 0 ∷ []
  e4_same : T (equal (tables (leaves small (opened 2 ++ truncate 0 3 ∷ []))) (tables (leaves small (opened 2))))
  e4_past : says small (opened 2 ++ truncate 0 4 ∷ []) ≡ 3 ∷ 0 ∷ []
  -- 5. empty page, used = limit, no record, no frame: (02) now gives 19, and 20 with a record free.
  e5_used : (leaves (sized 1 1) (opened 1 ++ write 0 0 0 9 ∷ [])).memory.used ≡ 1 ∷ []
  e5_record : says (sized 1 1) (opened 1 ++ write 0 0 0 9 ∷ fault 0 1 ∷ []) ≡ 19 ∷ 0 ∷ []
  e5_frame : says (sized 2 1) (opened 1 ++ write 0 0 0 9 ∷ fault 0 1 ∷ []) ≡ 20 ∷ 0 ∷ []
  -- 6. claim, one entry, initial on: 2 looks. n entries, all used: n+1.
  e6_one : says small (opened 2 ++ claim ∷ []) ≡ 0 ∷ 2 ∷ []
  e6_all : says small (opened 2 ++ fault 0 1 ∷ wire 0 0 ∷ unwire 0 0 ∷ wire 0 1 ∷ unwire 0 1 ∷ read 0 0 0 ∷ read 0 1 0 ∷ claim ∷ []) ≡ 0 ∷ 3 ∷ []
  -- 7. a fresh untouched page claimed: nulled, (02) the charge does not fall.
  e7_state : (leaves small (opened 2 ++ claim ∷ [])).memory.held.states ≡ 2 ∷ 0 ∷ 0 ∷ 0 ∷ []
  e7_before : (leaves small (opened 2)).memory.used ≡ 0 ∷ []
  e7_after : (leaves small (opened 2 ++ claim ∷ [])).memory.used ≡ 0 ∷ []
  -- 8. a listed page written to zeros and claimed: no write; a cut now brings the old words back.
  e8_none : (leaves small blanked).memory.core.free_queue ≡ 1 ∷ 2 ∷ []
  e8_back : says small (blanked ++ cut [] [] ∷ restart ∷ activate 0 ∷ fault 0 0 ∷ page_done 0 1 ∷ read 0 0 1 ∷ []) ≡ 0 ∷ 9 ∷ []
  -- 9. truncate while an update is under way: that update's end frees none of the cut records.
  e9 : (leaves small (listing ++ update 0 ∷ truncate 0 0 ∷ map_done 0 1 ∷ [])).memory.held.states ≡ 4 ∷ 0 ∷ 0 ∷ 0 ∷ []
  -- 10. a failed map done leaves the map; leaving becomes released.
  e10_before : (leaves small (listing ++ truncate 0 0 ∷ update 0 ∷ [])).memory.held.states ≡ 5 ∷ 0 ∷ 0 ∷ 0 ∷ []
  e10_map : (leaves small (listing ++ truncate 0 0 ∷ update 0 ∷ map_done 0 0 ∷ [])).disk.maps ≡ 1 ∷ 0 ∷ 0 ∷ 0 ∷ 0 ∷ 0 ∷ []
  e10_state : (leaves small (listing ++ truncate 0 0 ∷ update 0 ∷ map_done 0 0 ∷ [])).memory.held.states ≡ 4 ∷ 0 ∷ 0 ∷ 0 ∷ []
  -- 11. restart, one record in two entries: 2.
  e11 : (Step.restart small twice).answer.refusal ≡ 2

pub edges : Edges
unfolding says leaves trace tables equal
edges = record {
  e1_none = refl;
  e1_least = refl;
  e1_most = refl;
  e1_more = refl;
  e2 = refl;
  e3_last = refl;
  e3_past = refl;
  e4_all = refl;
  e4_same = tt;
  e4_past = refl;
  e5_used = refl;
  e5_record = refl;
  e5_frame = refl;
  e6_one = refl;
  e6_all = refl;
  e7_state = refl;
  e7_before = refl;
  e7_after = refl;
  e8_none = refl;
  e8_back = refl;
  e9 = refl;
  e10_before = refl;
  e10_map = refl;
  e10_state = refl;
  e11 = refl;
}

-- 12. Limit 1, design A's listed page claimed as zeros, design B's page written and updated, cut: restart gives used 2; (02) the fault is accepted and the first write gives 18.
twelfth : List Act
twelfth = restart ∷ limit 0 1 ∷ create 0 0 7 ∷ create 1 0 8 ∷ activate 0 ∷ fault 0 0 ∷ write 0 0 0 9 ∷ claim ∷ page_done 0 1 ∷ update 0 ∷ map_done 0 1 ∷ fault 0 0 ∷ write 0 0 0 0 ∷ claim
    ∷ activate 1 ∷ fault 1 0 ∷ write 1 0 0 4 ∷ claim ∷ page_done 0 1 ∷ update 1 ∷ map_done 1 1 ∷ cut [] [] ∷ restart ∷ []

e12_used : (leaves small twelfth).memory.used ≡ 2 ∷ []
unfolding leaves twelfth
e12_used = refl

e12_fault : says small (twelfth ++ activate 0 ∷ fault 0 1 ∷ []) ≡ 0 ∷ 0 ∷ []
unfolding says trace twelfth
e12_fault = refl

e12_write : says small (twelfth ++ activate 0 ∷ fault 0 1 ∷ write 0 1 0 4 ∷ []) ≡ 18 ∷ 0 ∷ []
unfolding says trace twelfth
e12_write = refl

-- the worked example of the event program
example : List Act
example = limit 0 2 ∷ create 0 0 7 ∷ activate 0 ∷ fault 0 0 ∷ write 0 0 1 9 ∷ claim ∷ update 0 ∷ page_done 0 1 ∷ map_done 0 1 ∷ cut [] [] ∷ restart ∷ activate 0 ∷ fault 0 0 ∷ read 0 0 1 ∷ update 0 ∷ update 0 ∷ []

worked : trace small (begin small) (restart ∷ example) ≡ 0 ∷ 0 ∷ 0 ∷ 0 ∷ 0 ∷ 0 ∷ 0 ∷ 0 ∷ 0 ∷ 0 ∷ 0 ∷ 0 ∷ 0 ∷ 2 ∷ 0 ∷ 0 ∷ 0 ∷ 0 ∷ 0 ∷ 0 ∷ 0 ∷ 0 ∷ 0 ∷ 0 ∷ 0 ∷ 0 ∷ 0 ∷ 0 ∷ 0 ∷ 0 ∷ 10 ∷ 0 ∷ []
unfolding trace example says
worked = refl
