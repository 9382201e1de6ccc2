-- The theorems on carried designs and on their numbers, applied: lists for which every premise is met, by computation.
use mathlib.Core.Path.{◌≡◌, refl, ap, subst}
use mathlib.Core.Bool.{Bool, true, ◌&&◌}
use mathlib.Core.List.{List, [], ◌∷◌, ◌++◌}
use Prim.Native.Nat.{ℕ, zero, suc, ◌<◌}
use native.Mathlib.Omega.{arith}
use lib.Dec.{T, eqb, ltb, ltb→lt}
use lib.ListN.{length, replicate, take}
use Rattle.tables.specs.Base.{at}
use Rattle.tables.specs.Laws.{and_left, and_right}
use Rattle.tables.specs.Rule.{sound}
use Rattle.tables.specs.Queue.{size}
use Rattle.sheets.specs.Sheet.{text_in}
use Rattle.model.specs.declared.sizes.Sizes.{Sizes}
use Rattle.model.specs.declared.event.Page.TheVariants.{Read}
use Rattle.model.specs.declared.event.Event.TheVariants as Event
use Rattle.model.specs.State.{State, files, page_of}
use Rattle.model.specs.Sizes.{sizes_fit}
use Rattle.model.specs.Rules.{disk_rules}
use Rattle.model.specs.Restart.{formatted}
use Rattle.model.specs.Step.{disk_lengths, memory_lengths, step}
use Rattle.model.specs.Import.{import}
use Rattle.model.specs.Export.{export}
use Rattle.model.specs.Acts as Acts
use Rattle.model.specs.Acts.{Act, World}
use Rattle.model.specs.Carried.{all_spare, Board, from, Narrow, AsImported}
use Rattle.edges.specs.Lists.{limit, create, activate, deactivate, fault, write, claim, update, page_done, map_done, restart, small, junk, among, said, begin}
use Rattle.edges.specs.Sheets.{sheet}
use Rattle.edges.specs.Used as Used
use Rattle.crash.proofs.Carried.{carried_over, stays_imported}
use Rattle.crash.proofs.OneNumber.{one_number_holds}
use Rattle.crash.proofs.ReadAgain.{bring, read_again}

-- every entry of a table is below 2^32
unfoldable narrow : List ℕ → Bool
narrow [] = true
narrow (x ∷ xs) = let rest = narrow xs in ltb x 4294967296 && rest

narrow_at : (xs : List ℕ) → T (narrow xs) → (i : ℕ) → at xs i < 4294967296
unfolding narrow
narrow_at [] t i = omega arith
narrow_at (x ∷ xs) t zero = ltb→lt x 4294967296 (and_left (ltb x 4294967296) (narrow xs) t)
narrow_at (x ∷ xs) t (suc i) = narrow_at xs (and_right (ltb x 4294967296) (narrow xs) t) i

-- ── two boards, just formatted: W and N are the same, nothing else is ──
abbrev pub other : Sizes
other = record { words = 2; records = 6; frames = 1; slots = 3; pages = 3; accounts = 2; chip = 1 }

unfoldable board_here : Board small
unfolding said
board_here = record {
  pack = formatted small (0 ∷ []);
  junk = junk small;
  sizes = sound (sizes_fit small) tt;
  lengths = sound (disk_lengths small (formatted small (0 ∷ []))) tt;
  memory = sound (memory_lengths small (junk small)) tt;
  rules = sound (disk_rules small (record { disk = formatted small (0 ∷ []); memory = junk small })) tt;
}

unfoldable board_there : Board other
unfolding said
board_there = record {
  pack = formatted other (0 ∷ 0 ∷ []);
  junk = junk other;
  sizes = sound (sizes_fit other) tt;
  lengths = sound (disk_lengths other (formatted other (0 ∷ 0 ∷ []))) tt;
  memory = sound (memory_lengths other (junk other)) tt;
  rules = sound (disk_rules other (record { disk = formatted other (0 ∷ 0 ∷ []); memory = junk other })) tt;
}

abbrev cut_there : List ℕ → List ℕ → Act
cut_there fs ss = Acts.cutting (among fs) (among ss) (junk other)

-- ── carried over ──
-- here a design is woven and put to rest: word 1 of page 0 holds 9
abbrev woven : List Act
woven = restart ∷ limit 0 3 ∷ create 0 0 7 ∷ activate 0 ∷ fault 0 0 ∷ write 0 0 1 9 ∷ claim ∷ page_done 0 1 ∷ update 0 ∷ map_done 0 1 ∷ deactivate 0 ∷ []

abbrev room : List ℕ
room = replicate 40 7

unfoldable sent : List ℕ
unfolding said board_here
sent = let o = export small (from small board_here woven).state 0 room in take o.answer.result o.left

-- there it comes into slot 2, for account 1, under number 5; its map is stored anew at a cut, another design is created and cut; it is woken and its page comes into the one frame
abbrev opened : List Act
opened = restart ∷ limit 1 2 ∷ []

abbrev later : List Act
later = activate 2 ∷ update 2 ∷ cut_there [] (2 ∷ []) ∷ restart ∷ create 0 0 8 ∷ cut_there [] [] ∷ restart ∷ activate 2 ∷ fault 2 0 ∷ page_done 0 1 ∷ []

unfoldable pub there : World
unfolding said board_there sent
there = from other board_there (opened ++ Acts.importing 2 1 5 sent ∷ later)

-- the read there is carried out, and shows 9 by the theorem
pub carried : (step other there.state (Event.Page (Read 2 0 1))).answer.result ≡ 9
unfolding said board_here board_there sent there narrow
carried = carried_over small other refl refl board_here board_there woven tt tt
    (record { words = narrow_at (from small board_here woven).state.disk.records tt; numbers = narrow_at (from small board_here woven).state.disk.numbers tt })
    0 room refl opened later 2 1 5 tt refl 0 1 (omega arith) (omega arith) (sound (all_spare other (page_of other 2 0) later) tt) tt refl

-- ── an imported page stays ──
-- the same acts after the sheet of the edges: page 2, of which nothing is asked, is still listed, on the disk and to be read
unfoldable pub kept : World
unfolding said board_there
kept = from other board_there (opened ++ Acts.importing 2 1 5 sheet ∷ later)

as_imported : AsImported other kept 2 2 sheet
unfolding said board_there kept
as_imported = stays_imported other board_there opened later 2 1 5 sheet tt refl 2 (omega arith) (sound (all_spare other (page_of other 2 2) later) tt)

pub still_listed : ¬ (at kept.state.disk.maps (page_of other 2 2) ≡ 0)
unfolding said board_there kept
still_listed = as_imported.listed tt

-- after a cut and a restart it can be read, and word 1 shows 70,000
abbrev again : List Act
again = cut_there [] [] ∷ restart ∷ []

unfoldable pub found : World
unfolding said board_there
found = from other board_there (opened ++ Acts.importing 2 1 5 sheet ∷ again)

resting : ¬ ((files found.state).active 2 ≡ 1)
unfolding said board_there found
resting e = absurd (subst T (ap (λ (n : ℕ). eqb n 0) e) tt)

pub shown : (f : ℕ) × (let o = step other (Acts.run other found (bring 2 2 f)).state (Event.Page (Read 2 2 1)) in (o.answer.refusal ≡ 0) × (o.answer.result ≡ 70000))
unfolding said board_there found text_in
shown = read_again other board_there opened again 2 1 5 sheet tt refl 2 (omega arith) tt (sound (all_spare other (page_of other 2 2) again) tt) tt resting (ltb→lt 0 (size found.state.memory.core.free_queue) tt) 1 (omega arith)

-- ── one number, one design ──
-- the pack's design, the one whose import was cut and the created one have three numbers
pub three_numbers : ¬ ((Used.numbered_world).ledger.number 1 ≡ (Used.numbered_world).ledger.number 2) × (¬ ((Used.numbered_world).ledger.number 1 ≡ (Used.numbered_world).ledger.number 3) × ¬ ((Used.numbered_world).ledger.number 2 ≡ (Used.numbered_world).ledger.number 3))
three_numbers = Used.three_numbers one_number_holds
