-- The frames of one slot's pages, as a table: frame f as entry f + 1, 0 for a page in none.
use Rattle.std.specs.Prelude.{◌≡◌, List, ℕ, suc, ◌+◌, ◌-◌, ◌*◌, ◌<◌, length}
use Rattle.tables.specs.Base.{at}
use Rattle.tables.specs.Rule.{Rule, Holds, same, non, some, ◌and◌, ◌or◌}
use Rattle.model.specs.declared.frame.Frame.{Frame}
use Rattle.model.specs.State.{frame_at}
use Rattle.writeback.specs.Pages.{live}

-- of the first n frames
pub record ByPage (n pages s : ℕ) (fs : List Frame) (table : List ℕ) : Type 0 where
  pub long : length table ≡ 256
  pub in_one : (p f : ℕ) → p < pages → at table p ≡ suc f → (f < n) × ((frame_at fs f).page ≡ suc (s * pages + p))
  pub in_none : (p : ℕ) → p < pages → at table p ≡ 0 → ¬ Holds (some n λ f. same (frame_at fs f).page (suc (s * pages + p)))

-- an entry names a modified frame
abbrev pub modified_entry : ℕ → List Frame → Rule
modified_entry e fs = non (same e 0) and same (frame_at fs (e - 1)).modified 1

-- a page is charged: its address is live, or its entry names a modified frame
abbrev pub charged_entry : ℕ → List Frame → List ℕ → List ℕ → ℕ → Rule
charged_entry e fs addresses states i = live addresses states i or modified_entry e fs
