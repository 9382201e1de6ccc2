-- "Mend a pack that restart turns away." Each step under its sentence, as a rule of places; then the mended disk part, the list of changes, and the call.
use Rattle.std.specs.Prelude.{Bool, false, List, [], ◌∷◌, ◌++◌, ℕ, zero, suc, ◌+◌, ◌*◌, ◌/◌, ◌%◌, length, drop}
use Rattle.tables.specs.Base.{at, if}
use Rattle.tables.specs.Questions.{none, ask, first_no}
use Rattle.tables.specs.Rule.{Rule, same, below, is, non, ◌and◌, some, names, test}
use Rattle.tables.specs.Store.{store}
use Rattle.model.specs.declared.sizes.Sizes.{Sizes}
use Rattle.model.specs.Sizes.{sizes_fit}
use Rattle.model.specs.State.{Disk, all_pages, page_of}
use Rattle.model.specs.Setters.{set_numbers, set_accounts, set_maps}
use Rattle.model.specs.Step.{Outcome, outcome, disk_lengths}

-- what mending looks at and changes: per slot a number, an account and a map
pub record Pack : Type 0 where
  pub numbers : List ℕ
  pub accounts : List ℕ
  pub maps : List ℕ

-- ── places, in the order of the list: "Within a step slots rise, and in a slot number, account and rising pages follow each other." ──
pub data Place : Type 0 where
  number : ℕ → Place
  account : ℕ → Place
  entry : ℕ → ℕ → Place

-- S × (N + 2) of them
abbrev pub all_places : Sizes → ℕ
all_places z = z.slots * (z.pages + 2)

-- place k of slot s
abbrev pub of_slot : ℕ → ℕ → Place
of_slot s zero = number s
of_slot s (suc zero) = account s
of_slot s (suc (suc p)) = entry s p

-- place i of all
unfoldable pub place_at : Sizes → ℕ → Place
place_at z i = of_slot (i / (z.pages + 2)) (i % (z.pages + 2))

abbrev pub slot_at : Place → ℕ
slot_at (number s) = s
slot_at (account s) = s
slot_at (entry s p) = s

-- "A change to a number or account is listed with page N."
abbrev pub page_at : Sizes → Place → ℕ
page_at z (number s) = z.pages
page_at z (account s) = z.pages
page_at z (entry s p) = p

-- what stands there
abbrev pub held : Sizes → Pack → Place → ℕ
held z d (number s) = at d.numbers s
held z d (account s) = at d.accounts s
held z d (entry s p) = at d.maps (page_of z s p)

-- ── the steps: which places of a pack become 0 ──
module _ (z : Sizes) (d : Pack) where
  -- "First, of filled slots with the same number, all but the lowest are emptied, number, account and map."
  abbrev pub doubled : ℕ → Rule
  doubled s = non (same (at d.numbers s) 0) and some s λ t. same (at d.numbers t) (at d.numbers s)

  abbrev pub first : Place → Rule
  first x = doubled (slot_at x)

  -- "Then empty slots get account 0 and a zero map,"
  abbrev pub second : Place → Rule
  second x = same (at d.numbers (slot_at x)) 0

  -- "an account of Q or more becomes 0,"
  abbrev pub third : Place → Rule
  third (number s) = is false
  third (account s) = non (below (at d.accounts s) z.accounts)
  third (entry s p) = is false

  -- "and an entry above R becomes 0."
  abbrev pub fourth : Place → Rule
  fourth (number s) = is false
  fourth (account s) = is false
  fourth (entry s p) = below z.records (at d.maps (page_of z s p))

  -- "Last, a record still named twice loses all its entries."
  abbrev pub twice : ℕ → Rule
  twice r = some (all_pages z) λ i. some (all_pages z) λ j. non (same i j) and same (at d.maps i) (suc r) and same (at d.maps j) (suc r)

  abbrev pub fifth : Place → Rule
  fifth (number s) = is false
  fifth (account s) = is false
  fifth (entry s p) = names (at d.maps (page_of z s p)) twice

  -- the step that follows k steps
  unfoldable pub wants : ℕ → Place → Rule
  wants zero = first
  wants (suc zero) = second
  wants (suc (suc zero)) = third
  wants (suc (suc (suc zero))) = fourth
  wants (suc (suc (suc (suc k)))) = fifth

  -- a place changes that the step wants to be 0 and that is not
  abbrev pub changes : ℕ → Place → Rule
  changes k x = non (same (held z d x) 0) and wants k x

-- ── what a step leaves, and what it lists ──
-- "A tool mends the disk part": the changing places become 0
unfoldable pub cleared : Sizes → Pack → (Place → Rule) → Pack
cleared z d change = record {
  numbers = store d.numbers (λ s. change (number s)) (λ s. 0);
  accounts = store d.accounts (λ s. change (account s)) (λ s. 0);
  maps = store d.maps (λ i. change (entry (i / z.pages) (i % z.pages))) (λ i. 0);
}

-- "and lists each change as slot, page, old entry and reason"
pub record Change : Type 0 where
  pub slot : ℕ
  pub page : ℕ
  pub old : ℕ
  pub reason : ℕ

abbrev pub change_at : Sizes → Pack → ℕ → Place → Change
change_at z d reason x = record { slot = slot_at x; page = page_at z x; old = held z d x; reason = reason }

-- of the first n numbers those that pass, each by f, in order
unfoldable pub gather : {A : Type 0} → ℕ → (ℕ → Bool) → (ℕ → A) → List A
gather zero p f = []
gather (suc n) p f = gather n p f ++ if (p n) (f n ∷ []) []

unfoldable pub listed : Sizes → Pack → ℕ → (Place → Rule) → List Change
listed z d reason change = gather (all_places z) (λ i. test (change (place_at z i))) (λ i. change_at z d reason (place_at z i))

-- ── "The five steps, in this order, give the reasons 1 to 5.": each on what the earlier ones left ──
unfoldable pub after : Sizes → Pack → ℕ → Pack
after z d zero = d
after z d (suc k) = let e = after z d k in cleared z e (changes z e k)

unfoldable pub listed_by : Sizes → Pack → ℕ → List Change
listed_by z d zero = []
listed_by z d (suc k) = let e = after z d k in listed_by z d k ++ listed z e (suc k) (changes z e k)

abbrev pub mended : Sizes → Pack → Pack
mended z d = after z d 5

abbrev pub all_changes : Sizes → Pack → List Change
all_changes z d = listed_by z d 5

-- ── the call ──
abbrev pub pack_of : Disk → Pack
pack_of d = record { numbers = d.numbers; accounts = d.accounts; maps = d.maps }

-- the other tables of the disk part stay
abbrev pub with_pack : Disk → Pack → Disk
with_pack d p = set_maps p.maps (set_accounts p.accounts (set_numbers p.numbers d))

-- a list is lent as numbers, four a place
abbrev pub flat : List Change → List ℕ
flat [] = []
flat (c ∷ cs) = c.slot ∷ c.page ∷ c.old ∷ c.reason ∷ flat cs

-- what is lent: the disk part and the list
pub record Lent : Type 0 where
  pub disk : Disk
  pub list : List ℕ

-- "Errors: 24, asked after 1, when the lent list has fewer than S × (N + 2) places."
abbrev pub mend_answer : Sizes → Lent → ℕ
mend_answer z l = first_no (ask 1 (sizes_fit z and disk_lengths z l.disk) (ask 24 (non (below (length l.list) (4 * all_places z))) none))

-- "their count is the result and later places are untouched"
abbrev pub mended_lent : Sizes → Lent → Lent
mended_lent z l = let p = pack_of l.disk in let c = flat (all_changes z p) in record { disk = with_pack l.disk (mended z p); list = c ++ drop (length c) l.list }

unfoldable pub mend : Sizes → Lent → Outcome Lent
mend z l = outcome (mend_answer z l) (length (all_changes z (pack_of l.disk))) l (mended_lent z l)
