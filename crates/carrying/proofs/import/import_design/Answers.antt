-- `import_design` meets its contract: the highest number, the pages, then the slot.
use mathlib.Core.Path.{◌≡◌, ap, ◌∙◌}
use mathlib.Core.List.{List}
use Prim.Native.Nat.{ℕ, ◌/◌, ◌%◌, ◌<◌}
use native.Mathlib.Omega.{arith}
use lib.ListN.{length, replicate}
use Rattle.tables.specs.Base.{at}
use Rattle.tables.specs.Laws.{at_zeros}
use Rattle.tables.specs.Rule.{same}
use Rattle.tables.specs.Store.{store}
use Rattle.sheets.specs.Sheet.{count_in, pages_in, page_in}
use Rattle.sheets.specs.Laws.Formed.{Formed, page_of_holds, page_once}
use Rattle.model.specs.Import.{sheet_of}
use Rattle.carrying.specs.Seen.{seen, entries_after}
use Rattle.carrying.proofs.Entries.{map_is}
use Rattle.carrying.proofs.import.import_design.Goals as goal

-- no entry yet
abbrev blank : List ℕ
blank = replicate 256 0

page-below-256 : (b : List ℕ) (f : Formed b) (n : ℕ) → n ≡ pages_in b → n < 257 → (k : ℕ) → k < count_in b → page_in b k < length blank
page-below-256 b f n e l k h = omega (arith, (page_of_holds b f k h).below, e, l)

pub returns : goal.returns
returns c =
    let a = c.args in
    let e = c.carry_pages-last.ensures in
    let slot = c.store_slot.ensures in
    let st = seen a.hand a.states.now a.owners.now in
    let h = sheet_of a.sheet.now in
    let k = c.requires.2 in
    let listed = e.entries ∙ ap (λ (n : ℕ). entries_after a.sizes st a.slot h n blank) k.count_is in
    let maps = slot.maps ∙ ap (λ (es : List ℕ). store a.maps.now (λ i. same (i / a.sizes.pages) a.slot) (λ i. at es (i % a.sizes.pages))) listed
    ∙ map_is a.sizes st a.slot h blank (at_zeros 256) (page_once a.sheet.now k.formed) (page-below-256 a.sheet.now k.formed a.sizes.pages k.pages c.requires.1.sizes.pages_most)
    a.account a.number a.sizes.pages a.slot a.maps.now in
    record {
      last = e.last;
      records = e.records;
      numbers = slot.numbers;
      accounts = slot.accounts;
      maps = maps;
      highest = c.store_highest.ensures;
      states = e.states;
      owners = e.owners;
      map = e.map;
    }
