-- Edges of the choice of a free record, as one table under one theorem, by computation: which record a page takes, and where the hand stands then.
use Rattle.std.specs.Prelude.{◌≡◌, refl, List, [], ◌∷◌, ◌++◌, ℕ}
use Rattle.model.specs.declared.sizes.Sizes.{Sizes}
use Rattle.model.specs.Acts.{Act}
use Rattle.edges.specs.Lists.{limit, create, activate, fault, write, claim, truncate, update, page_done, map_done, restart, sized, trace, says, leaves}

-- two active designs, in slots 0 and 1
abbrev opened : List Act
opened = restart ∷ limit 0 9 ∷ create 0 0 7 ∷ create 1 0 8 ∷ activate 0 ∷ activate 1 ∷ []

-- the pages of slot 1 that are in no frame give their records back
abbrev given_back : List Act
given_back = update 1 ∷ map_done 1 1 ∷ []

-- each page's address (record + 1), and the hand
unfoldable pub taken : Sizes → List Act → List ℕ
unfolding leaves
taken z acts = let h = (leaves z acts).memory.held in h.pool.hand ∷ h.addresses

pub record NearEdges : Type 0 where
  -- nothing below: the hand decides, also where a higher page has a record
  nothing_below : taken (sized 8 4) (opened ++ fault 0 2 ∷ fault 1 0 ∷ fault 0 1 ∷ []) ≡ 3 ∷ 0 ∷ 3 ∷ 1 ∷ 2 ∷ 0 ∷ 0 ∷ []
  -- one below: the nearest to its record; the hand then stands just past it
  one_below : taken (sized 8 4) (opened ++ fault 0 0 ∷ fault 1 0 ∷ fault 1 1 ∷ fault 0 1 ∷ []) ≡ 4 ∷ 1 ∷ 4 ∷ 0 ∷ 2 ∷ 3 ∷ 0 ∷ []
  -- a tie: record 1 has 0 and 2 free beside it, and 0 is taken; the hand goes back to 1
  tie : taken (sized 8 4) (opened ++ fault 1 0 ∷ fault 0 0 ∷ claim ∷ claim ∷ given_back ++ fault 0 1 ∷ []) ≡ 1 ∷ 2 ∷ 1 ∷ 0 ∷ 0 ∷ 0 ∷ 0 ∷ []
  -- the page just below has none, the one two below has
  two_below : taken (sized 8 4) (opened ++ fault 0 0 ∷ fault 1 0 ∷ fault 0 2 ∷ []) ≡ 3 ∷ 1 ∷ 0 ∷ 3 ∷ 2 ∷ 0 ∷ 0 ∷ []
  -- the record below is released: nobody holds it, and the hand decides
  released_below : taken (sized 8 4) (opened ++ fault 1 0 ∷ fault 1 1 ∷ fault 0 0 ∷ truncate 0 0 ∷ claim ∷ claim ∷ given_back ++ fault 0 1 ∷ []) ≡ 4 ∷ 0 ∷ 4 ∷ 0 ∷ 0 ∷ 0 ∷ 0 ∷ []
  -- the end 0: all that is free lies above
  at_first : taken (sized 4 4) (opened ++ fault 0 0 ∷ fault 1 0 ∷ fault 0 1 ∷ []) ≡ 3 ∷ 1 ∷ 3 ∷ 0 ∷ 2 ∷ 0 ∷ 0 ∷ []
  -- the end R − 1: all that is free lies below, and the hand then stands at R − 1
  at_last : taken (sized 4 4) (opened ++ fault 1 0 ∷ fault 1 1 ∷ fault 1 2 ∷ fault 0 0 ∷ claim ∷ claim ∷ claim ∷ claim ∷ given_back ++ fault 0 1 ∷ []) ≡ 3 ∷ 4 ∷ 3 ∷ 0 ∷ 0 ∷ 0 ∷ 0 ∷ []
  -- a nulled page keeps its record, and the hand stays
  nulled_again : taken (sized 8 4) (opened ++ fault 0 0 ∷ claim ∷ fault 1 0 ∷ fault 0 0 ∷ []) ≡ 2 ∷ 1 ∷ 0 ∷ 0 ∷ 2 ∷ 0 ∷ 0 ∷ []
  -- one record free, the farthest
  one_free : taken (sized 4 4) (opened ++ fault 0 0 ∷ fault 1 0 ∷ fault 1 1 ∷ fault 0 1 ∷ []) ≡ 0 ∷ 1 ∷ 4 ∷ 0 ∷ 2 ∷ 3 ∷ 0 ∷ []

pub near_edges : NearEdges
unfolding taken leaves says trace
near_edges = record { nothing_below = refl; one_below = refl; tie = refl; two_below = refl; released_below = refl; at_first = refl; at_last = refl; nulled_again = refl; one_free = refl }
