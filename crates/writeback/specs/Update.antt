-- Update: the pages that leave, and what the pass over a slot's pages is given and leaves.
use Rattle.std.specs.Prelude.{◌≡◌, List, ℕ, suc, ◌+◌, ◌*◌, ◌<◌, ◌≤◌, length}
use Rattle.tables.specs.Base.{at}
use Rattle.tables.specs.Rule.{Rule, Holds, same, non, some, names, ◌and◌}
use Rattle.tables.specs.Store.{store}
use Rattle.model.specs.declared.sizes.Sizes.{Sizes}
use Rattle.model.specs.declared.frame.Frame.{Frame}
use Rattle.model.specs.Lines.{NULLED, LEAVING}
use Rattle.model.specs.Parts.{of_slot}
use Rattle.model.specs.Rules.{once}
use Rattle.writeback.specs.Pages.{framed}

-- the page's record is nulled, and the page is in no frame
abbrev pub leaving : ℕ → List Frame → List ℕ → List ℕ → ℕ → Rule
leaving n fs addresses states i = (names (at addresses i) λ r. same (at states r) NULLED) and non (framed n fs i)

-- .. and it is of the slot
abbrev pub leaving_page : Sizes → List Frame → List ℕ → List ℕ → ℕ → ℕ → Rule
leaving_page z fs addresses states s i = of_slot z s i and leaving z.frames fs addresses states i

-- what the pages of a slot keep, for the pass over them
pub record SlotPages (z : Sizes) (s : ℕ) (addresses states : List ℕ) : Type 0 where
  pub frames_most : z.frames < 65
  pub pages_some : 0 < z.pages
  pub long : s * z.pages + z.pages ≤ length addresses
  pub short : length addresses < 65535
  pub inside : (i r : ℕ) → i < length addresses → at addresses i ≡ suc r → r < length states
  pub held_once_holds : Holds (once (length addresses) (at addresses))

-- .. as the pass is given them
abbrev pub PagesGiven : Sizes → ℕ → List ℕ → List ℕ → Type 0
PagesGiven = SlotPages

-- .. and what the pass leaves: these pages have no address, and their records leave
abbrev pub PagesLeft : Sizes → ℕ → List Frame → (ads states ads' states' : List ℕ) → Type 0
PagesLeft z s fs ads states ads' states' =
    let gone = leaving_page z fs ads states s in
    (ads' ≡ store ads gone (λ i. 0))
    × (states' ≡ store states (λ r. some (length ads) λ i. gone i and same (at ads i) (suc r)) (λ r. LEAVING))
