-- The questions about a design, in the parts in which the code asks them.
use Rattle.std.specs.Prelude.{List, ℕ, suc, ◌+◌, ◌*◌}
use Rattle.tables.specs.Base.{at}
use Rattle.tables.specs.Questions.{Questions, none, ask}
use Rattle.tables.specs.Rule.{Rule, same, non, ◌and◌, ◌or◌, ◌then◌, each, some}
use Rattle.model.specs.declared.sizes.Sizes.{Sizes}
use Rattle.model.specs.declared.frame.Frame.{Frame}
use Rattle.model.specs.Lines.{NULLED, RELEASED}
use Rattle.model.specs.State.{frame_at}
use Rattle.leaves.specs.Addresses.{live_address}

-- 6: the number in no slot
abbrev pub new_number : ℕ → List ℕ → ℕ → Rule
new_number slots numbers n = each slots λ s. non (same (at numbers s) n)

-- 7: the slot's map all 0
abbrev pub zero_map : List ℕ → ℕ → ℕ → Rule
zero_map maps pages s = each pages λ p. same (at maps (s * pages + p)) 0

-- 9: the slot inactive
abbrev pub inactive_asked : List ℕ → ℕ → Questions
inactive_asked active s = ask 9 (non (same (at active s) 1)) none

-- 7 and 9
abbrev pub empty_asked : List ℕ → List ℕ → ℕ → ℕ → Questions
empty_asked maps active pages s = ask 7 (zero_map maps pages s) (inactive_asked active s)

-- 11: no page of the slot in a frame
abbrev pub unframed : ℕ → List Frame → ℕ → ℕ → Rule
unframed count fs pages s = each pages λ p. non (some count λ f. same (frame_at fs f).page (suc (s * pages + p)))

-- 12: the slot's map is what an update now would store,
abbrev pub true_map : List ℕ → List ℕ → List ℕ → ℕ → ℕ → Rule
true_map maps addresses states pages s = each pages λ p. same (at maps (s * pages + p)) (live_address addresses states (s * pages + p))

-- .. and no record of it nulled or released
abbrev pub settled_record : ℕ → ℕ → ℕ → Rule
settled_record state owner s = same owner s then non (same state NULLED or same state RELEASED)

abbrev pub settled : ℕ → List ℕ → List ℕ → ℕ → Rule
settled records states owners s = each records λ r. settled_record (at states r) (at owners r) s

-- 11 and 12
abbrev pub held_asked : Sizes → ℕ → List Frame → List ℕ → List ℕ → List ℕ → List ℕ → Questions
held_asked z s fs maps addresses states owners = ask 11 (unframed z.frames fs z.pages s) (ask 12 (true_map maps addresses states z.pages s and settled z.records states owners s) none)
