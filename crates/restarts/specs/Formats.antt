-- Format by its two questions: what its three answers leave.
use Rattle.std.specs.Prelude.{◌≡◌, Bool, false, List, ℕ, eqb, length, replicate}
use Rattle.std.proofs.Math.Path.{ap}
use Rattle.std.proofs.Common.{◌∙◌}
use Rattle.std.proofs.Math.Bool.{true}
use Rattle.tables.specs.Base.{at, if, tab}
use Rattle.tables.specs.Questions.{first_no}
use Rattle.tables.specs.Rule.{Rule, ◌and◌, test, sound}
use Rattle.model.specs.declared.sizes.Sizes.{Sizes}
use Rattle.model.specs.State.{Disk}
use Rattle.model.specs.Sizes.{sizes_fit}
use Rattle.model.specs.Rules.{lower}
use Rattle.model.specs.Lent.{disk_of}
use Rattle.model.specs.Laws.Fit.{DiskFit, disk_fit}
use Rattle.model.specs.Restart.{formatted}
use Rattle.model.specs.Step.{Outcome, outcome, format_lengths, format}

-- as many zeros as each table is long; the wanted parents
abbrev pub zeroed : List ℕ → Disk → Disk
zeroed wanted d = disk_of (replicate (length d.records) 0) (replicate (length d.numbers) 0) (replicate (length d.accounts) 0) (replicate (length d.maps) 0) (replicate (length d.limits) 0)
    (tab (length d.parents) (λ a. if (eqb a 0) 0 (at wanted a)) 0) (replicate (length d.highest) 0)

pub formatted_long : (z : Sizes) (wanted : List ℕ) (d : Disk) → DiskFit z d → zeroed wanted d ≡ formatted z wanted
unfolding formatted
formatted_long z wanted d h = λ x. disk_of (replicate (h.records x) 0) (replicate (h.numbers x) 0) (replicate (h.accounts x) 0) (replicate (h.maps x) 0) (replicate (h.limits x) 0) (tab (h.parents x) (λ a. if (eqb a 0) 0 (at wanted a)) 0)
    (replicate (h.highest x) 0)

abbrev pub formats_to : ℕ → Disk → Outcome Disk
formats_to n d = record { answer = record { refusal = n; result = 0 }; left = d }

module _ (z : Sizes) (wanted : List ℕ) (d : Disk) where
  abbrev lengths : Rule
  lengths = sizes_fit z and format_lengths z wanted d

  abbrev rule : Rule
  rule = lower z.accounts (at wanted)

  abbrev by : Bool → Bool → Outcome Disk
  by a b = outcome (if a (if b 0 3) 1) 0 d (formatted z wanted)

  pub format_no : false ≡ test (sizes_fit z and format_lengths z wanted d) → formats_to 1 d ≡ format z wanted d
  unfolding format first_no
  format_no e = ap (λ (a : Bool). by a (test rule)) e

  pub format_high : true ≡ test (sizes_fit z and format_lengths z wanted d) → false ≡ test (lower z.accounts (at wanted)) → formats_to 3 d ≡ format z wanted d
  unfolding format first_no
  format_high e r = ap (λ (b : Bool). by true b) r ∙ ap (λ (a : Bool). by a (test rule)) e

  pub format_yes : true ≡ test (sizes_fit z and format_lengths z wanted d) → true ≡ test (lower z.accounts (at wanted)) → formats_to 0 (zeroed wanted d) ≡ format z wanted d
  unfolding format first_no
  format_yes e r = ap (formats_to 0) (formatted_long z wanted d (disk_fit z d (sound lengths (rw (← e) tt)).1.0)) ∙ ap (λ (b : Bool). by true b) r ∙ ap (λ (a : Bool). by a (test rule)) e
