-- The sizes and their limits, and what the constructor of the sizes answers.
use Rattle.std.specs.Prelude.{◌≡◌, refl, Bool, true, false, ℕ, suc, eqb, Option, Some, None, is_some}
use Rattle.std.proofs.Common.{ap, ◌∙◌}
use Rattle.tables.specs.Base.{if}
use Rattle.tables.specs.Questions.{none, ask, first_no}
use Rattle.tables.specs.Rule.{Rule, below, ◌and◌, test}
use Rattle.model.specs.declared.sizes.Sizes.{Sizes}

-- "W words of 32 bits in a page, 1 to 1,024; R records, 1 to 4,096; F frames, 1 to 64; S design slots, 1 to 64;
-- N pages in a design, 1 to 256; Q accounts, 1 to 16". (02) "a chip of B pages, 1 to 256"
abbrev pub most_words : ℕ
most_words = 1024

abbrev pub most_records : ℕ
most_records = 4096

abbrev pub most_frames : ℕ
most_frames = 64

abbrev pub most_slots : ℕ
most_slots = 64

abbrev pub most_pages : ℕ
most_pages = 256

abbrev pub most_accounts : ℕ
most_accounts = 16

abbrev pub most_chip : ℕ
most_chip = 256

-- 1 to the most
abbrev pub up_to : ℕ → ℕ → Rule
up_to n most = below 0 n and below n (suc most)

abbrev pub sizes_fit : Sizes → Rule
sizes_fit z =
    up_to z.words most_words
    and up_to z.records most_records
    and up_to z.frames most_frames
    and up_to z.slots most_slots
    and up_to z.pages most_pages
    and up_to z.accounts most_accounts
    and up_to z.chip most_chip

abbrev pub sizes_of : ℕ → ℕ → ℕ → ℕ → ℕ → ℕ → ℕ → Sizes
sizes_of w r f s n q b = record { words = w; records = r; frames = f; slots = s; pages = n; accounts = q; chip = b }

-- what a constructor of sizes answers
unfoldable pub sized : Sizes → Option Sizes
sized z = if (test (sizes_fit z)) (Some z) None

-- the paper's number for each case
abbrev pub sized_number : Option Sizes → ℕ
sized_number (Some z) = 0
sized_number None = 1

-- question 1 of the sizes alone: 0, or its number
abbrev pub sizes_answer : Sizes → ℕ
sizes_answer z = first_no (ask 1 (sizes_fit z) none)

-- the constructor's answer, and the paper's number for it
abbrev pub Made : Sizes → Option Sizes → Type 0
Made z r = (r ≡ sized z) × (sized_number r ≡ sizes_answer z)

-- the answer by the rule's test; and the test by the answer's number
sized_number_holds : (z : Sizes) → sized_number (sized z) ≡ sizes_answer z
unfolding sized first_no
sized_number_holds z = go (test (sizes_fit z))
  where
    go : (b : Bool) → sized_number (if b (Some z) None) ≡ if b 0 1
    go true = refl
    go false = refl

pub made_by : (z : Sizes) (b : Bool) → test (sizes_fit z) ≡ b → Made z (if b (Some z) None)
unfolding sized
made_by z b e = let m : if b (Some z) None ≡ sized z = rw e in (m, ap sized_number m ∙ sized_number_holds z)

pub number_by : (z : Sizes) → eqb (sized_number (sized z)) 0 ≡ test (sizes_fit z)
unfolding sized
number_by z = go (test (sizes_fit z))
  where
    go : (b : Bool) → eqb (sized_number (if b (Some z) None)) 0 ≡ b
    go true = refl
    go false = refl

-- .. and by whether there is one
pub some_by : (z : Sizes) → is_some (sized z) ≡ test (sizes_fit z)
unfolding sized
some_by z = go (test (sizes_fit z))
  where
    go : (b : Bool) → is_some (if b (Some z) None) ≡ b
    go true = refl
    go false = refl
