-- Demand 3 for lists from any pack that keeps the disk rules, as a mended one does: its claims on a last finished write only where there is one since the start.
use Rattle.std.specs.Prelude.{◌≡◌, List, ℕ, suc, ◌%◌, T}
use Rattle.tables.specs.Base.{at}
use Rattle.tables.specs.Rule.{Rule, same, below, is, non, ◌and◌, ◌or◌, ◌then◌, each, named, Holds}
use Rattle.model.specs.declared.sizes.Sizes.{Sizes}
use Rattle.model.specs.Sizes.{sizes_fit}
use Rattle.model.specs.State.{Disk, Memory, all_pages, slot_of}
use Rattle.model.specs.Parts.{word_at}
use Rattle.model.specs.Rules.{disk_rules}
use Rattle.model.specs.Step.{disk_lengths, memory_lengths}
use Rattle.model.specs.Ledger.{pack_design}
use Rattle.model.specs.Acts.{Act, World, legal, run, start}
use Rattle.model.specs.Demand3.{After, last_into, some_of, design_of, last_update_at, in_one_place_of_maps, live_listed, of_page, newest}

module _ (z : Sizes) (w : World) where
  -- a write into the record is finished since the start
  abbrev pub wrote_into : ℕ → Rule
  wrote_into r = below 0 (last_into r w.ledger.finished).serial

  -- the last finished write into each listed record, where there is one since the start, was of that same page of that same design, and its words stand there
  unfoldable pub written_words : Rule
  written_words = each (all_pages z) λ i. named (at w.state.disk.maps i) λ r. wrote_into r then (let x = last_into r w.ledger.finished in
      same x.design (design_of z w i) and same x.page (i % z.pages) and each z.words λ k. same (word_at z w.state.disk.records r k) (x.words k))

  -- (a page that was live when its design's last finished map update began is listed: `live_listed`)
  -- and where a finished write of it still counts, it reads after a restart, until next written or truncated, as its last write finished before then, or a later finished one
  unfoldable pub written_reads : Rule
  written_reads = each (all_pages z) λ i. is w.up then is ((last_update_at z w i).live (i % z.pages)) then is (w.ledger.pages.kept i) then some_of w.ledger.finished (of_page z w i) then
      some_of w.ledger.finished λ x. of_page z w i x and newest z w i (last_update_at z w i).after x and each z.words λ k. same (w.ledger.pages.text i k) (x.words k)

  -- a page whose listed record no write since the start went into reads, until next written or truncated, as the pack has it
  unfoldable pub pack_reads : Rule
  pack_reads = each (all_pages z) λ i. is w.up then is (w.ledger.pages.kept i) then named (at w.state.disk.maps i) λ r. non (wrote_into r) then
      each z.words λ k. same (w.ledger.pages.text i k) (word_at z w.ledger.pack.records r k)

  -- an update of the page's design is finished since the start
  abbrev pub updated : ℕ → Rule
  updated i = same (last_update_at z w i).design (design_of z w i)

  -- packed: the design that each slot had in the pack
  module _ (packed : ℕ → ℕ) where
    -- a page's design is the one that its slot had in the pack
    abbrev pub as_in_pack : ℕ → Rule
    as_in_pack i = same (design_of z w i) (packed (slot_of z i))

    -- where no write into a listed record is finished since the start, the pack listed the record there, for that same design, and the pack's words stand there
    unfoldable pub pack_words : Rule
    pack_words = each (all_pages z) λ i. named (at w.state.disk.maps i) λ r. non (wrote_into r) then same (at w.ledger.pack.maps i) (suc r) and as_in_pack i
        and each z.words λ k. same (word_at z w.state.disk.records r k) (word_at z w.ledger.pack.records r k)

    -- until an update of its design is finished, a page's map entry is as at the design's birth: as the pack has it, or zero
    unfoldable pub birth_maps : Rule
    birth_maps = each (all_pages z) λ i. non (updated i) then (as_in_pack i then same (at w.state.disk.maps i) (at w.ledger.pack.maps i)) and (non (as_in_pack i) then same (at w.state.disk.maps i) 0)

    unfoldable pub from_packed : Rule
    from_packed = in_one_place_of_maps z w and written_words and pack_words and live_listed z w and written_reads and pack_reads and birth_maps

  -- each slot's design in the pack, by its birth
  abbrev pub in_pack : ℕ → ℕ
  in_pack = pack_design w.ledger.pack

  unfoldable pub from_pack : Rule
  from_pack = from_packed in_pack

  -- Beyond the papers: no page is listed that an update did not find live. A listed page was live when its design's last finished map update began;
  -- or none is finished since the start, and the pack listed the record there, for that same design
  unfoldable pub listed_live : Rule
  listed_live = each (all_pages z) λ i. named (at w.state.disk.maps i) λ r. is ((last_update_at z w i).live (i % z.pages)) or
      non (updated i) and as_in_pack in_pack i and same (at w.ledger.pack.maps i) (suc r)

-- for all sizes within limits, any pack of its lengths that keeps the disk rules, any memory of its lengths, and every legal list of acts; the ledger keeps the pack as it was
abbrev pub FromPack : Type 0
FromPack = (z : Sizes) (pack : Disk) (junk : Memory) (acts : List Act) → Holds (sizes_fit z) → Holds (disk_lengths z pack) → Holds (memory_lengths z junk)
    → Holds (disk_rules z (record { disk = pack; memory = junk })) → T (legal z (start z pack junk) acts)
    → (let w = run z (start z pack junk) acts in (w.ledger.pack ≡ pack) × After (from_pack z w) z w)

-- the same lists, and the sentence beyond the papers
abbrev pub ListedLive : Type 0
ListedLive = (z : Sizes) (pack : Disk) (junk : Memory) (acts : List Act) → Holds (sizes_fit z) → Holds (disk_lengths z pack) → Holds (memory_lengths z junk)
    → Holds (disk_rules z (record { disk = pack; memory = junk })) → T (legal z (start z pack junk) acts) → Holds (listed_live z (run z (start z pack junk) acts))
