-- Demand 3's claim and its invariant, computed after every act of lists with cuts: a wrong claim or a wrong event shows here before anything is proved.
use Rattle.std.specs.Prelude.{Bool, true, false, ◌&&◌, List, [], ◌∷◌, ◌++◌, ℕ, T, eqb}
use Rattle.tables.specs.Rule.{test}
use Rattle.model.specs.Rules.{all_rules}
use Rattle.model.specs.Acts.{Act, World, act, legal}
use Rattle.model.specs.Demand3.{last_into, last_update, each_of, some_of, own_words, live_listed, live_reads, demand3}
use Rattle.model.specs.FromPack.{written_words, pack_words, written_reads, pack_reads, birth_maps, from_packed, from_pack}
use Rattle.model.specs.OneNumber.{one_number, by_number, demand3_by_number, from_pack_by_number}
use Rattle.edges.specs.Linked.{linked}
use Rattle.edges.specs.Lists.{limit, create, delete, activate, deactivate, fault, read, write, wire, unwire, claim, truncate, update, page_done, map_done, move, join, turn, look, restart, small, cut, said, begin}

-- the claim from any pack, by birth and by number, and the invariant hold, no two designs have one number, and once restarted the rules
unfoldable pub right : World → Bool
unfolding said last_into last_update each_of some_of written_words pack_words live_listed written_reads pack_reads birth_maps from_packed from_pack linked one_number by_number
right w = test (from_pack small w) && test (linked small w) && test (one_number w) && test (from_pack_by_number small w) && rules_kept w.up
  where
    rules_kept : Bool → Bool
    rules_kept true = test (all_rules small w.state)
    rules_kept false = true

-- and the claim from a format
unfoldable pub right_formatted : World → Bool
unfolding right own_words live_reads demand3
right_formatted w = test (demand3 small w) && test (demand3_by_number small w) && right w

-- each act is carried out, and all is right after it
unfoldable pub accepted : World → Act → Bool
unfolding said
accepted w a = go (said small w a)
  where
    go : List ℕ → Bool
    go [] = true
    go (n ∷ ns) = eqb n 0

unfoldable pub always : (World → Bool) → World → List Act → Bool
unfolding accepted begin
always ok w [] = ok w
always ok w (a ∷ acts) = let rest = always ok (act small w a) acts in ok w && accepted w a && rest

-- the list is legal, each act of it is carried out, and after each act all is right
unfoldable pub holds : List Act → Bool
unfolding always right_formatted
holds acts = legal small (begin small) acts && always right_formatted (begin small) acts

-- the list is legal, and after each act all is right, whether it is carried out or refused
unfoldable pub always_right : World → List Act → Bool
unfolding right_formatted begin
always_right w [] = right_formatted w
always_right w (a ∷ acts) = let rest = always_right (act small w a) acts in right_formatted w && rest

unfoldable pub stands : List Act → Bool
unfolding always_right
stands acts = legal small (begin small) acts && always_right (begin small) acts

-- an active design, none of its pages in a frame
abbrev opened : List Act
opened = restart ∷ limit 0 3 ∷ create 0 0 7 ∷ activate 0 ∷ []

-- a page put on the disk: faulted, written, claimed, done good (by the frame that it takes)
abbrev put : ℕ → ℕ → ℕ → List Act
put p x f = fault 0 p ∷ write 0 p 1 x ∷ claim ∷ page_done f 1 ∷ []

abbrev reread : List Act
reread = restart ∷ activate 0 ∷ fault 0 0 ∷ page_done 0 1 ∷ read 0 0 1 ∷ []

-- written, stored, listed; written again, and a cut at which the open write lands
r₁ : T (holds (opened ++ put 0 9 0 ++ update 0 ∷ map_done 0 1 ∷ fault 0 0 ∷ write 0 0 1 5 ∷ claim ∷ cut (1 ∷ []) [] ∷ reread))
unfolding holds
r₁ = tt

-- the same, and the open write does not land
r₂ : T (holds (opened ++ put 0 9 0 ++ update 0 ∷ map_done 0 1 ∷ fault 0 0 ∷ write 0 0 1 5 ∷ claim ∷ cut [] [] ∷ reread))
unfolding holds
r₂ = tt

-- an update lands at a cut, and the cut record of a truncated page is not taken before
r₃ : T (holds (opened ++ put 0 9 0 ++ update 0 ∷ fault 0 1 ∷ truncate 0 0 ∷ fault 0 1 ∷ write 0 1 0 4 ∷ claim ∷ cut (1 ∷ 0 ∷ []) (0 ∷ []) ∷ reread))
unfolding holds
r₃ = tt

-- two designs, failed dones, records freed and taken again, three cuts
r₄ : T (holds (restart ∷ limit 0 4 ∷ create 0 0 7 ∷ create 1 0 8 ∷ activate 0 ∷ activate 1 ∷ fault 0 0 ∷ write 0 0 0 5 ∷ fault 1 0 ∷ write 1 0 1 6 ∷ claim ∷ claim ∷ page_done 0 1 ∷ page_done 1 0 ∷ claim ∷ page_done 1 1
    ∷ update 0 ∷ update 1 ∷ map_done 0 1 ∷ map_done 1 0 ∷ update 1 ∷ cut [] (1 ∷ []) ∷ cut (0 ∷ []) (0 ∷ []) ∷ restart ∷ activate 0 ∷ activate 1 ∷ truncate 0 0 ∷ update 0 ∷ map_done 0 1
    ∷ fault 1 1 ∷ write 1 1 0 3 ∷ fault 1 0 ∷ page_done 1 1 ∷ write 1 0 0 2 ∷ claim ∷ claim ∷ update 1 ∷ cut (0 ∷ 1 ∷ []) []
    ∷ restart ∷ activate 1 ∷ fault 1 0 ∷ page_done 0 0 ∷ fault 1 0 ∷ page_done 1 1 ∷ read 1 0 0 ∷ update 1 ∷ cut [] (1 ∷ []) ∷ restart ∷ []))
unfolding holds
r₄ = tt

-- a design is put to rest and deleted, and its slot taken again
r₅ : T (holds (opened ++ put 0 9 0 ++ update 0 ∷ map_done 0 1 ∷ deactivate 0 ∷ activate 0 ∷ fault 0 0 ∷ page_done 1 1 ∷ wire 0 0 ∷ unwire 0 0 ∷ truncate 0 0 ∷ update 0 ∷ map_done 0 1 ∷ deactivate 0 ∷ delete 0
    ∷ create 0 0 9 ∷ activate 0 ∷ fault 0 1 ∷ write 0 1 0 4 ∷ claim ∷ page_done 0 1 ∷ update 0 ∷ cut [] (0 ∷ []) ∷ restart ∷ []))
unfolding holds
r₅ = tt

-- a write that counts no more: the page was truncated and written again, and write and update land at one cut
r₆ : T (holds (opened ++ put 0 9 0 ++ update 0 ∷ truncate 0 0 ∷ fault 0 0 ∷ write 0 0 1 5 ∷ claim ∷ cut (1 ∷ []) (0 ∷ []) ∷ restart ∷ activate 0 ∷ update 0 ∷ map_done 0 1 ∷ restart ∷ []))
unfolding holds
r₆ = tt

-- a fresh page is not listed
r₇ : T (holds (opened ++ fault 0 0 ∷ update 0 ∷ map_done 0 1 ∷ write 0 0 0 3 ∷ cut [] [] ∷ restart ∷ activate 0 ∷ fault 0 0 ∷ read 0 0 0 ∷ []))
unfolding holds
r₇ = tt

-- a write under way when the update begins is not listed by it
r₈ : T (holds (opened ++ fault 0 0 ∷ write 0 0 1 9 ∷ claim ∷ update 0 ∷ map_done 0 1 ∷ page_done 0 1 ∷ cut [] [] ∷ restart ∷ []))
unfolding holds
r₈ = tt

-- the image is as it was begun: the page is truncated while the update is under way
r₉ : T (holds (opened ++ put 0 9 0 ++ update 0 ∷ truncate 0 0 ∷ map_done 0 1 ∷ fault 0 1 ∷ write 0 1 1 6 ∷ claim ∷ page_done 1 1 ∷ cut [] [] ∷ reread))
unfolding holds
r₉ = tt

-- a void record is not read: its write landed at a cut, but its page was never listed
r₁₀ : T (holds (opened ++ fault 0 0 ∷ write 0 0 1 9 ∷ claim ∷ cut (0 ∷ []) [] ∷ restart ∷ activate 0 ∷ fault 0 0 ∷ claim ∷ fault 0 0 ∷ read 0 0 1 ∷ []))
unfolding holds
r₁₀ = tt

-- a record leaves while its slot's update is under way, the update fails, and the next one frees it
r₁₁ : T (holds (opened ++ put 0 9 0 ++ update 0 ∷ map_done 0 1 ∷ truncate 0 0 ∷ fault 0 1 ∷ claim ∷ update 0 ∷ map_done 0 0 ∷ update 0 ∷ map_done 0 1 ∷ put 2 4 0 ++ cut [] [] ∷ restart ∷ []))
unfolding holds
r₁₁ = tt

-- a page is read and looked at while its write is under way: the write fails, is begun again and lands at a cut
r₁₂ : T (holds (opened ++ fault 0 0 ∷ write 0 0 1 9 ∷ claim ∷ read 0 0 1 ∷ look 0 0 ∷ page_done 0 0 ∷ read 0 0 1 ∷ write 0 0 0 4 ∷ claim ∷ read 0 0 0 ∷ page_done 0 1 ∷ update 0 ∷ map_done 0 1
    ∷ fault 0 0 ∷ write 0 0 1 5 ∷ claim ∷ read 0 0 1 ∷ look 0 0 ∷ cut (1 ∷ []) [] ∷ reread))
unfolding holds
r₁₂ = tt

-- joins, turns and a move, and refused acts among them: 25, 5, 6, 3, 22, 22, 13, 10, 10, 7, 9, a look that is refused and a second restart
r₁₃ : T (stands (opened ++ move 0 0 1 ∷ join 0 1 ∷ turn ∷ turn ∷ join 0 2 ∷ claim ∷ turn ∷ claim ∷ create 0 0 7 ∷ create 1 0 7 ∷ truncate 0 4 ∷ put 0 9 0 ++ map_done 0 1 ∷ page_done 1 1 ∷ read 0 0 1 ∷ look 0 0 ∷ update 0
    ∷ update 0 ∷ deactivate 0 ∷ map_done 0 1 ∷ delete 0 ∷ activate 0 ∷ cut [] [] ∷ restart ∷ reread))
unfolding stands
r₁₃ = tt

-- the chip: a third page takes the first one's place, which is read, and goes in at the second one's; a copy that a fault takes is written further and replaced, and taken again
r₁₄ : T (holds (opened ++ put 0 9 0 ++ put 1 4 1 ++ put 2 7 0 ++ fault 0 0 ∷ page_done 1 1 ∷ read 0 0 1 ∷ fault 0 2 ∷ read 0 2 1 ∷ write 0 2 1 8 ∷ claim ∷ page_done 0 1 ∷ fault 0 2 ∷ read 0 2 1 ∷ update 0 ∷ map_done 0 1
    ∷ cut [] [] ∷ reread))
unfolding holds
r₁₄ = tt

-- a copy is taken by a turn's fault, dropped as its page is claimed all zeros, and the page is written again; it is dropped as the design is put to rest, and by a truncate
r₁₅ : T (holds (opened ++ put 0 9 0 ++ join 0 0 ∷ turn ∷ turn ∷ read 0 0 1 ∷ write 0 0 1 0 ∷ claim ∷ fault 0 0 ∷ read 0 0 1 ∷ write 0 0 0 6 ∷ claim ∷ page_done 0 1 ∷ update 0 ∷ map_done 0 1 ∷ deactivate 0 ∷ activate 0 ∷ fault 0 0
    ∷ page_done 1 1 ∷ truncate 0 0 ∷ fault 0 0 ∷ read 0 0 0 ∷ claim ∷ update 0 ∷ map_done 0 1 ∷ cut [] [] ∷ restart ∷ []))
unfolding holds
r₁₅ = tt
