-- What ties the ledger to the disk and the memory after every act: the invariant behind demand 3, as a rule that is computed along runs.
use Rattle.std.specs.Prelude.{not, ℕ, suc, ◌+◌, ◌*◌, ◌%◌, length}
use Rattle.tables.specs.Base.{at}
use Rattle.tables.specs.Rule.{Rule, same, below, is, non, ◌and◌, ◌or◌, ◌then◌, each, named, names}
use Rattle.model.specs.declared.sizes.Sizes.{Sizes}
use Rattle.model.specs.Lines.{LIVE}
use Rattle.model.specs.State.{Files, Frames, files, frames, READING, WRITING, all_pages, slot_of, live}
use Rattle.model.specs.Rules.{is_active}
use Rattle.model.specs.Parts.{word_at}
use Rattle.model.specs.Ledger.{Write, Pages, Pending, pack_design}
use Rattle.model.specs.Acts.{World}
use Rattle.model.specs.FromPack.{in_pack, as_in_pack, updated}
use Rattle.model.specs.Demand3.{last_into, last_update_at, each_of, design_of, of_page, newest}

module _ (z : Sizes) (w : World) where
  abbrev v : Files
  v = files w.state

  abbrev c : Frames
  c = frames w.state

  abbrev known : Pages
  known = w.ledger.pages

  abbrev pending : Pending
  pending = w.ledger.pending

  -- the last finished write into a record
  abbrev last : ℕ → Write
  last r = last_into r w.ledger.finished

  -- word k of record r on the disk
  abbrev disk_word : ℕ → ℕ → ℕ
  disk_word r k = word_at z w.state.disk.records r k

  -- the last finished write into r was of page i and still counts, and its words stand in r
  abbrev written : ℕ → ℕ → Rule
  written i r = below 0 (last r).serial and of_page z w i (last r) and each z.words λ k. same (disk_word r k) ((last r).words k)

  -- no write into r is finished since the start; the pack listed it at page i, of the same design, and its words stand in r
  abbrev untouched : ℕ → ℕ → Rule
  untouched i r = same (last r).serial 0 and same (at w.ledger.pack.maps i) (suc r) and as_in_pack z w (in_pack z w) i and each z.words λ k. same (disk_word r k) (word_at z w.ledger.pack.records r k)

  abbrev own : ℕ → ℕ → Rule
  own i r = written i r or untouched i r

  -- and no write of the page that counts is newer (where none went into r, there is none)
  abbrev latest : ℕ → ℕ → Rule
  latest i r = each_of w.ledger.finished λ y. of_page z w i y then below y.serial (suc (last r).serial)

  -- ── the disk, whether restarted or not ──
  -- each listed record's last finished write, or the pack's words
  abbrev disk_own : Rule
  disk_own = each (all_pages z) λ i. named (v.map i) λ r. own i r

  -- the pages live when the last finished update began are listed, by no older write than the last finished before then
  abbrev disk_live : Rule
  disk_live = each (all_pages z) λ i. is ((last_update_at z w i).live (i % z.pages)) then names (v.map i) λ r. newest z w i (last_update_at z w i).after (last r)

  -- once an update of its design is finished, a listed page was live when the last one began
  abbrev disk_promised : Rule
  disk_promised = each (all_pages z) λ i. updated z w i then named (v.map i) λ r. is ((last_update_at z w i).live (i % z.pages))

  -- finished writes are numbered, and no update is past the count
  abbrev serials : Rule
  serials = (each z.records λ r. below (last r).serial (suc (length w.ledger.finished))) and each (all_pages z) λ i. below (last_update_at z w i).after (suc (length w.ledger.finished))

  -- a filled slot has a design of its own, an empty one has none
  abbrev designs : Rule
  designs = each z.slots λ s. (same (v.number s) 0 then same (w.ledger.design s) 0) and (non (same (v.number s) 0) then below 0 (w.ledger.design s))
      and below (w.ledger.design s) (suc w.ledger.births) and each z.slots λ t. named (w.ledger.design s) λ d. same (w.ledger.design t) (suc d) then same s t

  -- a design that the pack had is no younger than the count
  abbrev elders : Rule
  elders = each z.slots λ s. below (pack_design w.ledger.pack s) (suc w.ledger.births)

  -- before a restart nothing is open
  abbrev nothing_open : Rule
  nothing_open = (each z.frames λ f. non (is (pending.writing f))) and each z.slots λ s. non (is (pending.updating s))

  -- ── the memory, once restarted ──
  abbrev image_own : Rule
  image_own = each (all_pages z) λ i. named (v.image i) λ r. own i r

  abbrev address_own : Rule
  address_own = each (all_pages z) λ i. named (v.address i) λ r. same (v.state r) LIVE then own i r and latest i r

  -- the open updates are the slots with an update under way; the pages live when it began have an image entry
  abbrev open_updates : Rule
  open_updates = each z.slots λ s. (is (pending.updating s) then same (v.updating s) 1) and (same (v.updating s) 1 then is (pending.updating s) and same (pending.update s).design (w.ledger.design s))

  abbrev image_live : Rule
  image_live = each (all_pages z) λ i. same (v.updating (slot_of z i)) 1 then is ((pending.update (slot_of z i)).live (i % z.pages)) then
      names (v.image i) λ r. newest z w i (pending.update (slot_of z i)).after (last r)

  -- and no others have
  abbrev image_promised : Rule
  image_promised = each (all_pages z) λ i. same (v.updating (slot_of z i)) 1 then named (v.image i) λ r. is ((pending.update (slot_of z i)).live (i % z.pages))

  -- live in the ledger: a live address, and no other page has one
  abbrev live_address : Rule
  live_address = each (all_pages z) λ i. (is (known.live i) then live v i) and (live v i then is (known.live i))

  -- a frame with a page carries the ledger's note of that design and page; its modified switch says "written since its fault", and is off while it is being read; unless it is, it holds the page's text
  abbrev framed_text : Rule
  framed_text = each z.frames λ f. named (c.frame f).page λ i. same (pending.noted f).place i and same (pending.noted f).design (design_of z w i)
      and (same (c.frame f).modified 1 then is (known.touched i)) and (is (known.touched i) then same (c.frame f).modified 1 and non (same (c.frame f).transfer READING))
      and (non (same (c.frame f).transfer READING) then each z.words λ k. same (c.word (f * z.words + k)) (known.text i k))

  -- the page is in no frame, or its words are still awaited
  abbrev away : ℕ → Rule
  away i = each z.frames λ f. same (c.frame f).page (suc i) then same (c.frame f).transfer READING

  -- a page that is away: its live record's words, or zeros
  abbrev away_text : Rule
  away_text = each (all_pages z) λ i. is_active v (slot_of z i) then away i then (live v i then named (v.address i) λ r. each z.words λ k. same (disk_word r k) (known.text i k))
      and (non (live v i) then each z.words λ k. same (known.text i k) 0)

  -- a page of an inactive design: its listed record's words, of its last write that counts, or zeros
  abbrev filed_text : Rule
  filed_text = each (all_pages z) λ i. non (is_active v (slot_of z i)) then (same (v.map i) 0 then each z.words λ k. same (known.text i k) 0)
      and named (v.map i) λ r. latest i r and each z.words λ k. same (known.text i k) (disk_word r k)

  -- the open writes are the writing frames; each has that page, the record of its present address, and the page's text
  abbrev open_writes : Rule
  open_writes = each z.frames λ f. (is (pending.writing f) then same (c.frame f).transfer WRITING) and (same (c.frame f).transfer WRITING then is (pending.writing f) and named (c.frame f).page λ i.
      same (pending.write f).design (design_of z w i) and same (pending.write f).page (i % z.pages) and same (v.address i) (suc (pending.write f).record')
      and each z.words λ k. same ((pending.write f).words k) (known.text i k))

  -- a page not written or truncated since the restart reads as each record that names it, and no write of it that counts is newer than the last into that record
  abbrev kept_as : ℕ → ℕ → Rule
  kept_as i r = latest i r and each z.words λ k. same (known.text i k) (disk_word r k)

  abbrev kept_text : Rule
  kept_text = each (all_pages z) λ i. is (known.kept i) then (named (v.map i) λ r. kept_as i r) and (named (v.image i) λ r. kept_as i r) and named (v.address i) λ r. same (v.state r) LIVE then kept_as i r

  unfoldable pub linked : Rule
  linked = disk_own and disk_live and disk_promised and serials and designs and elders and (is (not w.up) then nothing_open)
      and (is w.up then image_own and address_own and open_updates and image_live and image_promised and live_address and framed_text and away_text and filed_text and open_writes and kept_text)
