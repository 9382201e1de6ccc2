-- Demand 3: the claim about every list of acts.
use Rattle.std.specs.Prelude.{◌≡◌, List, [], ◌∷◌, ℕ, suc, ◌%◌, ◌<◌, T, eqb, length}
use Rattle.tables.specs.Base.{at, if}
use Rattle.tables.specs.Rule.{Rule, same, below, is, non, ◌and◌, ◌or◌, ◌then◌, each, named, Holds}
use Rattle.model.specs.declared.sizes.Sizes.{Sizes}
use Rattle.model.specs.declared.event.Page.TheVariants.{Read}
use Rattle.model.specs.declared.event.Event.TheVariants as Event
use Rattle.model.specs.Sizes.{sizes_fit}
use Rattle.model.specs.State.{Memory, files, all_pages, page_of, slot_of}
use Rattle.model.specs.Parts.{word_at}
use Rattle.model.specs.Rules.{lower, map_once}
use Rattle.model.specs.Restart.{formatted}
use Rattle.model.specs.Step.{memory_lengths, step, look}
use Rattle.model.specs.Ledger.{Write, Update, no_write, no_update}
use Rattle.model.specs.Acts.{Act, World, legal, run, start}

-- the last finished write into a record
unfoldable pub last_into : ℕ → List Write → Write
last_into r [] = no_write
last_into r (x ∷ xs) = let rest = last_into r xs in if (eqb x.record' r) x rest

-- a design's last finished update
unfoldable pub last_update : ℕ → List Update → Update
last_update d [] = no_update
last_update d (x ∷ xs) = let rest = last_update d xs in if (eqb x.design d) x rest

-- each, and some, write of a list
unfoldable pub each_of : List Write → (Write → Rule) → Rule
each_of [] rule = same 0 0
each_of (x ∷ xs) rule = rule x and each_of xs rule

unfoldable pub some_of : List Write → (Write → Rule) → Rule
some_of [] rule = same 0 1
some_of (x ∷ xs) rule = rule x or some_of xs rule

module _ (z : Sizes) (w : World) where
  abbrev pub design_of : ℕ → ℕ
  design_of i = w.ledger.design (slot_of z i)

  -- the last finished map update of a page's design
  abbrev pub last_update_at : ℕ → Update
  last_update_at i = last_update (design_of i) w.ledger.stored

  -- no record stands in two places of the file maps
  abbrev pub in_one_place_of_maps : Rule
  in_one_place_of_maps = map_once z (files w.state)

  -- the last finished write into each listed record was of that same page of that same design, and its words stand there
  unfoldable pub own_words : Rule
  own_words = each (all_pages z) λ i. named (at w.state.disk.maps i) λ r. (let x = last_into r w.ledger.finished in
      below 0 x.serial and same x.design (design_of i) and same x.page (i % z.pages) and each z.words λ k. same (word_at z w.state.disk.records r k) (x.words k))

  -- a page that was live when its design's last finished map update began is listed,
  unfoldable pub live_listed : Rule
  live_listed = each (all_pages z) λ i. is ((last_update_at i).live (i % z.pages)) then non (same (at w.state.disk.maps i) 0)

  -- a finished write of the page that still counts
  abbrev pub of_page : ℕ → Write → Rule
  of_page i x = same x.design (design_of i) and same x.page (i % z.pages) and is x.counts

  -- of the page's writes that count, none that was among the first n finished is newer than x
  abbrev pub newest : ℕ → ℕ → Write → Rule
  newest i n x = each_of w.ledger.finished λ y. of_page i y then below y.serial (suc n) then below y.serial (suc x.serial)

  -- and after a restart, until next written or truncated, reads as its last write finished before then, or a later finished one
  unfoldable pub live_reads : Rule
  live_reads = each (all_pages z) λ i. is w.up then is ((last_update_at i).live (i % z.pages)) then is (w.ledger.pages.kept i) then
      some_of w.ledger.finished λ x. of_page i x and newest i (last_update_at i).after x and each z.words λ k. same (w.ledger.pages.text i k) (x.words k)

  unfoldable pub demand3 : Rule
  demand3 = in_one_place_of_maps and own_words and live_listed and live_reads

-- after a list of acts: a claim's rules, and the reads of demand 2, of one word and of a page
pub record After (claim : Rule) (z : Sizes) (w : World) : Type 0 where
  pub disk : Holds claim
  pub reads : (s p n : ℕ) → T w.up → (let o = step z w.state (Event.Page (Read s p n)) in o.answer.refusal ≡ 0 → o.answer.result ≡ w.ledger.pages.text (page_of z s p) n)
  -- a look that is not refused hands back W words, each the page's text
  pub looks : (s p : ℕ) → T w.up → (let o = look z w.state s p in o.answer.refusal ≡ 0 → (length o.left ≡ z.words) × ((n : ℕ) → n < z.words → at o.left n ≡ w.ledger.pages.text (page_of z s p) n))

-- for all sizes within limits, parents that a format takes, any memory of its lengths, and every legal list of acts from that finished format on
abbrev pub Demand3 : Type 0
Demand3 = (z : Sizes) (parents : List ℕ) (junk : Memory) (acts : List Act) → Holds (sizes_fit z) → Holds (lower z.accounts (at parents)) → Holds (memory_lengths z junk)
    → T (legal z (start z (formatted z parents) junk) acts) → (let w = run z (start z (formatted z parents) junk) acts in After (demand3 z w) z w)
