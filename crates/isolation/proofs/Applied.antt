-- The theorem's premises can be met, from a format and from two packs that are alike and not equal; and what it says there of a look and an export of another design.
use mathlib.Core.Path.{◌≡◌, refl}
use mathlib.Core.List.{List, [], ◌∷◌}
use Prim.Native.Nat.{ℕ}
use native.Mathlib.Omega.{arith}
use lib.ListN.{replicate, take}
use Rattle.tables.specs.Base.{at}
use Rattle.tables.specs.Rule.{sound}
use Rattle.model.specs.Sizes.{sizes_fit}
use Rattle.model.specs.State.{Disk, Memory}
use Rattle.model.specs.Rules.{lower, disk_rules}
use Rattle.model.specs.Step.{disk_lengths, memory_lengths, look}
use Rattle.model.specs.Export.{export}
use Rattle.model.specs.OneNumber.{by_number}
use Rattle.model.specs.Acts.{Act, World, run, start}
use Rattle.edges.specs.Lists.{activate, fault, page_done, restart, small, junk, among, said}
use Rattle.edges.specs.Lists as Lists
use Rattle.isolation.specs.Twins.{both, written, cut, packs_like, AlikePacks}
use Rattle.isolation.specs.Isolated.{Seen}
use Rattle.isolation.specs.ByNumber.{packs_like_by, AlikePacksBy, TwinsBy, SeenBy}
use Rattle.isolation.specs.Pairs.{Board, first, second, fresh, rubbish, cut_at, export_to, short, twins}
use Rattle.isolation.proofs.Isolated.{isolated, isolated_formatted}
use Rattle.isolation.proofs.IsolatedBy.{isolated_by}

met : Seen small 1 (fresh first) (fresh second) (short first) (short second)
unfolding said fresh rubbish
met = isolated_formatted small 1 (0 ∷ []) (junk small) rubbish (sound (sizes_fit small) tt) (sound (lower 1 (at (0 ∷ []))) tt) (sound (memory_lengths small (junk small)) tt) (sound (memory_lengths small rubbish) tt)
    (short first) (short second) tt tt twins

-- ── two packs ──
-- the hidden design is in slot 0 and lists record 0, another one in slot 1 lists record 1; record 2 is listed by none
abbrev pack_of : List ℕ → Disk
pack_of records = record { records = records; numbers = 7 ∷ 8 ∷ []; accounts = 0 ∷ 0 ∷ []; maps = 1 ∷ 0 ∷ 0 ∷ 2 ∷ 0 ∷ 0 ∷ []; limits = 4 ∷ []; parents = 0 ∷ []; highest = 8 ∷ [] }

abbrev here : Disk
here = pack_of (9 ∷ 0 ∷ 0 ∷ 6 ∷ 5 ∷ 5 ∷ 0 ∷ 0 ∷ [])

abbrev there : Disk
there = pack_of (4 ∷ 0 ∷ 0 ∷ 6 ∷ 1 ∷ 0 ∷ 0 ∷ 0 ∷ [])

alike : AlikePacks small 1 here there
unfolding said packs_like
alike = record { tables = refl; words = sound (packs_like small 1 here there) tt }

-- exported, brought in and looked at
abbrev acts : List Act
acts = restart ∷ export_to 1 30 ∷ activate 1 ∷ fault 1 0 ∷ page_done 0 1 ∷ Lists.look 1 0 ∷ []

-- the worlds after the first k acts
unfoldable after : ℕ → Disk → Memory → World
unfolding said rubbish
after k pack m = run small (start small pack m) (take k acts)

seen : Seen small 1 (start small here (junk small)) (start small there rubbish) acts acts
unfolding said rubbish
seen = isolated small 1 here there (junk small) rubbish (sound (sizes_fit small) tt) (sound (disk_lengths small here) tt) (sound (disk_lengths small there) tt) (sound (memory_lengths small (junk small)) tt) (sound (memory_lengths small rubbish) tt)
    (sound (disk_rules small (record { disk = here; memory = junk small })) tt) alike acts acts tt tt (both _, (both _, (both _, (both _, (both _, (both _, tt))))))

-- so the other design's sheet and page are the same on both boards
same_sheet : (export small (after 1 here (junk small)).state 1 (replicate 30 7)).left ≡ (export small (after 1 there rubbish).state 1 (replicate 30 7)).left
unfolding after said
same_sheet = let (s₀, (a₀, (s₁, (a₁, rest)))) = seen in a₁.handed (λ e. omega (arith, e))

same_look : (look small (after 5 here (junk small)).state 1 0).left ≡ (look small (after 5 there rubbish).state 1 0).left
unfolding after said
same_look = let (s₀, (a₀, (s₁, (a₁, (s₂, (a₂, (s₃, (a₃, (s₄, (a₄, (s₅, (a₅, rest)))))))))))) = seen in a₅.handed (λ e. omega (arith, e))

-- ── by the number ──
-- the design of number 7 is written, another value on each board, and stored at a cut
abbrev woven : Board → List Act
woven b = restart ∷ activate 0 ∷ fault 0 0 ∷ page_done 0 1 ∷ Lists.write 0 0 1 (b.value 1) ∷ Lists.claim ∷ cut_at b (0 ∷ []) [] ∷ restart ∷ []

alike_by : AlikePacksBy small 7 here there
unfolding said packs_like_by
alike_by = record { tables = refl; words = sound (packs_like_by small 7 here there) tt }

twins_by : TwinsBy small 7 (start small here (junk small)) (woven first) (woven second)
unfolding said rubbish
twins_by = (both _, (both _, (both _, (both _, (written 0 0 1 9 4 refl (λ e. absurd (omega (arith, e))) (λ e. absurd (omega (arith, e))), (both _, (cut (among (0 ∷ [])) (among []) (junk small) rubbish, (both _, tt))))))))

met_by : SeenBy small 7 (start small here (junk small)) (start small there rubbish) (woven first) (woven second)
unfolding said rubbish
met_by = isolated_by small 7 here there (junk small) rubbish (omega arith) (sound (sizes_fit small) tt) (sound (disk_lengths small here) tt) (sound (disk_lengths small there) tt) (sound (memory_lengths small (junk small)) tt) (sound (memory_lengths small rubbish) tt)
    (sound (disk_rules small (record { disk = here; memory = junk small })) tt) alike_by (woven first) (woven second) tt tt twins_by

-- .. and what it says of the other design, that of number 8: its sheet and its page are the same on both boards
seen_by : SeenBy small 7 (start small here (junk small)) (start small there rubbish) acts acts
unfolding said rubbish
seen_by = isolated_by small 7 here there (junk small) rubbish (omega arith) (sound (sizes_fit small) tt) (sound (disk_lengths small here) tt) (sound (disk_lengths small there) tt) (sound (memory_lengths small (junk small)) tt) (sound (memory_lengths small rubbish) tt)
    (sound (disk_rules small (record { disk = here; memory = junk small })) tt) alike_by acts acts tt tt (both _, (both _, (both _, (both _, (both _, (both _, tt))))))

same_sheet_by : (export small (after 1 here (junk small)).state 1 (replicate 30 7)).left ≡ (export small (after 1 there rubbish).state 1 (replicate 30 7)).left
unfolding after said by_number
same_sheet_by = let (s₀, (a₀, (s₁, (a₁, rest)))) = seen_by in a₁.handed (λ e. omega (arith, e))

same_look_by : (look small (after 5 here (junk small)).state 1 0).left ≡ (look small (after 5 there rubbish).state 1 0).left
unfolding after said by_number
same_look_by = let (s₀, (a₀, (s₁, (a₁, (s₂, (a₂, (s₃, (a₃, (s₄, (a₄, (s₅, (a₅, rest)))))))))))) = seen_by in a₅.handed (λ e. omega (arith, e))
