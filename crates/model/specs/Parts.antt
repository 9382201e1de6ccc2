-- Parts that several events share: the pages and words of a slot, a record or a frame; a page's frame; the choice of a free record.
use Rattle.std.specs.Prelude.{Bool, ◌&&◌, ◌||◌, List, ℕ, zero, suc, ◌+◌, ◌-◌, ◌*◌, ◌/◌, ◌%◌, eqb, leb, ltb}
use Rattle.tables.specs.Base.{at, if, find}
use Rattle.tables.specs.Rule.{Rule, same, below, non, ◌and◌}
use Rattle.tables.specs.Store.{store}
use Rattle.model.specs.declared.sizes.Sizes.{Sizes}
use Rattle.model.specs.Lines.{FREE}
use Rattle.model.specs.State.{Frames, slot_of}

-- the page is of the slot
abbrev pub of_slot : Sizes → ℕ → ℕ → Rule
of_slot z s i = same (slot_of z i) s

-- the page is of the slot, from page k up
abbrev pub from_page : Sizes → ℕ → ℕ → ℕ → Rule
from_page z s k i = same (slot_of z i) s and non (below (i % z.pages) k)

-- a part of W words, a record's or a frame's, takes words
abbrev pub set_part : Sizes → ℕ → (ℕ → ℕ) → List ℕ → List ℕ
set_part z r word xs = store xs (λ k. same (k / z.words) r) (λ k. word (k % z.words))

-- word w of part r
abbrev pub word_at : Sizes → List ℕ → ℕ → ℕ → ℕ
word_at z xs r w = at xs (r * z.words + w)

-- the frame that a page is in, or F where it is in none
unfoldable pub frame_of : Sizes → Frames → ℕ → ℕ
frame_of z c i = find z.frames (λ f. eqb (c.frame f).page (suc i)) 0

-- ── the choice of a free record ──
-- the first free record counting up from the hand (after R−1 comes 0)
unfoldable pub by_hand : Sizes → (ℕ → ℕ) → ℕ → ℕ
by_hand z state hand = (hand + find z.records (λ k. eqb (state ((hand + k) % z.records)) FREE) 0) % z.records

-- the address of the closest lower page of a page's design that has one, or 0: the pages i − 1, i − 2, .. of its slot
unfoldable pub neighbour : Sizes → (ℕ → ℕ) → ℕ → ℕ
neighbour z address i = let k = find (i % z.pages) (λ k. ltb 0 (address (i - k))) 1 in if (leb k (i % z.pages)) (address (i - k)) 0

-- a record below R that is free
abbrev pub is_free : Sizes → (ℕ → ℕ) → ℕ → Bool
is_free z state r = ltb r z.records && eqb (state r) FREE

-- .. so far below record r, and so far above it
abbrev pub free_below : Sizes → (ℕ → ℕ) → ℕ → ℕ → Bool
free_below z state r d = leb d r && is_free z state (r - d)

abbrev pub free_above : Sizes → (ℕ → ℕ) → ℕ → ℕ → Bool
free_above z state r d = is_free z state (r + d)

-- the free record nearest to r. Of two equally near, the lower number is taken.
unfoldable pub nearest : Sizes → (ℕ → ℕ) → ℕ → ℕ
nearest z state r =
    let d = find (suc (r + z.records)) (λ d. free_below z state r d || free_above z state r d) 0 in
    if (free_below z state r d) (r - d) (r + d) % z.records

-- by the neighbour's address, or by the hand where there is none
abbrev pub picked : Sizes → (ℕ → ℕ) → ℕ → ℕ → ℕ
picked z state hand zero = by_hand z state hand
picked z state hand (suc r) = nearest z state r

-- A page without an address takes the free record nearest to the one held by the closest lower page of its design that has one.
-- If no lower page has one, the hand decides.
unfoldable pub pick : Sizes → (ℕ → ℕ) → (ℕ → ℕ) → ℕ → ℕ → ℕ
pick z address state hand i = picked z state hand (neighbour z address i)
