-- What two boards hold between two acts: the tables, and the words by the design that they are of.
use Rattle.std.specs.Prelude.{◌≡◌, ℕ, suc}
use Rattle.tables.specs.Base.{at}
use Rattle.tables.specs.Rule.{Rule, same, below, is, non, ◌and◌, ◌then◌, each, named, Holds}
use Rattle.model.specs.declared.sizes.Sizes.{Sizes}
use Rattle.model.specs.Lines.{LIVE}
use Rattle.model.specs.State.{files, frames, READING, all_pages, slot_of}
use Rattle.model.specs.Parts.{word_at}
use Rattle.model.specs.Demand3.{last_into}
use Rattle.model.specs.Acts.{World}
use Rattle.isolation.specs.Words.{bare_disk, bare, part_like}

module _ (z : Sizes) (hidden : ℕ) (w w' : World) where
  -- ── .. and so are .. all words of other designs, .. ──
  -- the design of page i, by the first board's ledger (the second's has the same)
  abbrev pub design_of : ℕ → ℕ
  design_of i = w.ledger.design (slot_of z i)

  -- record r of page i
  abbrev pub record_like : ℕ → ℕ → Rule
  record_like i r = part_like z hidden (design_of i) w.state.disk.records w'.state.disk.records r

  -- by their holder: the records that the file maps list, whatever their state; the filed ones are among these
  unfoldable pub listed_like : Rule
  listed_like = each (all_pages z) λ i. named ((files w.state).map i) λ r. record_like i r

  -- those that begun images list
  unfoldable pub imaged_like : Rule
  imaged_like = each (all_pages z) λ i. named ((files w.state).image i) λ r. record_like i r

  -- the live ones
  unfoldable pub live_like : Rule
  live_like = each (all_pages z) λ i. named ((files w.state).address i) λ r. same ((files w.state).state r) LIVE then record_like i r

  -- .. but not what an earlier holder left in a reading frame ..
  unfoldable pub frames_like : Rule
  frames_like = each z.frames λ f. named ((frames w.state).frame f).page λ i. non (same ((frames w.state).frame f).transfer READING)
      then part_like z hidden (design_of i) w.state.memory.core.words w'.state.memory.core.words f

  -- the chip's: a copy's, by the page that holds its record
  unfoldable pub copies_like : Rule
  copies_like = each z.chip λ b. named (at w.state.memory.chip.copies b) λ r. each (all_pages z) λ i. same ((files w.state).address i) (suc r)
      then part_like z hidden (design_of i) w.state.memory.chip.words w'.state.memory.chip.words b

  -- and an empty place's, which are nobody's, are the same
  unfoldable pub places_like : Rule
  places_like = each z.chip λ b. same (at w.state.memory.chip.copies b) 0
      then each z.words λ k. same (word_at z w.state.memory.chip.words b k) (word_at z w'.state.memory.chip.words b k)

  -- .. or a nulled, released or leaving record: these, and free ones, by the design whose finished write was the last into them
  unfoldable pub written_like : Rule
  written_like = each z.records λ r. (let x = last_into r w.ledger.finished in
      below 0 x.serial then part_like z hidden x.design w.state.disk.records w'.state.disk.records r)

  -- and where none was finished since the start, each word that was equal then
  unfoldable pub untouched_like : Rule
  untouched_like = each z.records λ r. same (last_into r w.ledger.finished).serial 0 then each z.words λ k.
      same (word_at z w.ledger.pack.records r k) (word_at z w'.ledger.pack.records r k) then same (word_at z w.state.disk.records r k) (word_at z w'.state.disk.records r k)

  -- Until restart only the disk is compared.
  unfoldable pub words_like : Rule
  words_like = listed_like and written_like and untouched_like and (is w.up then imaged_like and live_like and frames_like and copies_like and places_like)

  -- ── .. and so are all tables .. ──
  pub record Shown : Type 0 where
    pub up : w.up ≡ w'.up
    pub disk : bare_disk w.state.disk ≡ bare_disk w'.state.disk
    pub tables : Holds (is w.up) → bare w.state ≡ bare w'.state
    pub words : Holds words_like
    -- each slot has the same design on both
    pub designs : w.ledger.design ≡ w'.ledger.design
