-- Drivers that the claim denies: each differs from the right one in one thing, and has a list of moves that it fails on, computed.
use mathlib.Core.Path.{◌≡◌, refl, ap, sym, ◌∙◌}
use mathlib.Core.Bool.{Bool, true, false, not}
use mathlib.Core.List.{List, [], ◌∷◌, ◌++◌}
use Prim.Native.Nat.{ℕ, ◌+◌}
use native.Mathlib.Omega.{arith}
use lib.Dec.{eqb, ltb}
use borrow.Author.Tests.{le-ltb}
use Rattle.tables.specs.Base.{at}
use Rattle.tables.specs.Rule.{Holds, test, sound}
use Rattle.model.specs.Sizes.{sizes_fit}
use Rattle.model.specs.State.{Disk, State}
use Rattle.model.specs.Rules.{disk_rules}
use Rattle.model.specs.Step.{disk_lengths, memory_lengths}
use Rattle.edges.specs.Lists.{small, junk, restart, limit, create, said}
use Rattle.journal.specs.Claims as Journal
use Rattle.journal.specs.Device.{Content, Op, sync}
use Rattle.journal.specs.Layout.{Store, area_at, home_at}
use Rattle.journal.specs.Journal.{to_area, to_home, commit}
use Rattle.layout.specs.Rows.{row_sector}
use Rattle.layout.specs.Laid.{records, room, laid, read_disk}
use Rattle.layout.specs.Touched.{row_at}
use Rattle.model.specs.Setters.{set_records}
use Rattle.model.specs.Parts.{set_part}
use Rattle.board.specs.Calls.{written}
use Rattle.board.specs.Board.{Move, call, cut, kill, Driver}
use Rattle.board.specs.Claims.{steps, Laid, Lengths, Readable, world, OnSectors}
use Rattle.board.proofs.Applied.{most, pack, device, done, after, shows}

-- ── what it is to fail: tables that are read and are not those of the board's past ──
record Fails (v : Driver) : Type 0 where
  pub moves : List Move
  pub lengths : Lengths small moves
  pub readable : Readable (after v moves).phase
  pub entry : Disk → ℕ
  pub finds : ℕ
  pub wants : ℕ
  pub found : entry (after v moves).state.disk ≡ finds
  pub wanted : entry (world small pack (junk small) (after v moves)).state.disk ≡ wants
  pub apart : ¬ (finds ≡ wants)

sizes_fit_holds : Holds (sizes_fit small)
unfolding test
sizes_fit_holds = sound (sizes_fit small) tt

pack_long : Holds (disk_lengths small pack)
unfolding said
pack_long = sound (disk_lengths small pack) tt

junk_long : Holds (memory_lengths small (junk small))
unfolding said
junk_long = sound (memory_lengths small (junk small)) tt

pack_ruled : Holds (disk_rules small (record { disk = pack; memory = junk small }))
unfolding said
pack_ruled = sound (disk_rules small (record { disk = pack; memory = junk small })) tt

laid_down : Laid small most pack device
unfolding home_at
laid_down x l = rw (le-ltb (1 + 4 + 4 + x) 9 (omega arith)) (ap (laid small pack) (omega arith))

denied : (v : Driver) → Fails v → ¬ OnSectors small most v
unfolding OnSectors
denied v x h = x.apart (sym x.found ∙ ap (λ (s : State). x.entry s.disk) ((h pack (junk small) device x.moves sizes_fit_holds pack_long junk_long pack_ruled laid_down x.lengths).1 x.readable).1 ∙ x.wanted)

-- ── the drivers ──
-- reported once all entries count
abbrev when_all : ℕ → ℕ → Bool
when_all k n = not (ltb k n)

-- the journal with this area, this plan, and a recovery that begins so
abbrev wrong : (ℕ → ℕ → ℕ) → (ℕ → Store → List Op) → List Op → Driver
wrong area plan before_look = record { protocol = record { most = most; room = room small; area = area; plan = plan; before_look = before_look; before_home = []; after_home = [] }; reports = when_all }

-- the journal's own plan
abbrev planned : ℕ → Store → List Op
planned n s = to_area most (area_at most n) 0 s ++ (sync ∷ commit most n s ∷ sync ∷ to_home most s)

-- up, with a limit of 3, reported
abbrev limited : List Move → List Move
limited moves = steps 5 (done restart (done (limit 0 3) moves))

-- .. and then calls under way for so many steps, and the power fails: these of the open writes land
abbrev cut_at : ℕ → (ℕ → Bool) → List Move
cut_at n lands = limited (call (create 0 0 7) ∷ steps n (cut lands (junk small) ∷ steps 9 []))

-- ── done is reported before the store ──
abbrev early : Driver
early = record { protocol = (wrong (area_at most) planned (sync ∷ [])).protocol; reports = λ k n. true }

early_fails : Fails early
unfolding shows
early_fails = record {
  moves = steps 5 (done restart (call (limit 0 3) ∷ steps 1 (kill (junk small) ∷ steps 9 [])));
  lengths = (junk_long, tt);
  readable = tt;
  entry = λ d. at d.limits 0;
  finds = 0;
  wants = 3;
  found = refl;
  wanted = refl;
  apart = omega arith;
}

pub early_denied : ¬ OnSectors small most early
early_denied = denied early early_fails

-- ── a store goes past the journal: a slot's account lands and its number does not ──
abbrev bypass : Driver
bypass = wrong (area_at most) (λ n s. to_home most s ++ (sync ∷ [])) (sync ∷ [])

bypass_fails : Fails bypass
unfolding shows
bypass_fails = record {
  moves = cut_at 7 (λ i. eqb i 0);
  lengths = (junk_long, tt);
  readable = tt;
  entry = λ d. at d.numbers 0;
  finds = 0;
  wants = 7;
  found = refl;
  wanted = refl;
  apart = omega arith;
}

pub bypass_denied : ¬ OnSectors small most bypass
bypass_denied = denied bypass bypass_fails

-- ── no sync between the contents and the commit sector: the commit sector lands, and the contents do not ──
abbrev no_first : Driver
no_first = wrong (area_at most) (λ n s. to_area most (area_at most n) 0 s ++ (commit most n s ∷ sync ∷ to_home most s)) (sync ∷ [])

no_first_fails : Fails no_first
unfolding shows
no_first_fails = record {
  moves = cut_at 3 (λ i. eqb i 0);
  lengths = (junk_long, tt);
  readable = tt;
  entry = λ d. at d.highest 0;
  finds = 0;
  wants = 7;
  found = refl;
  wanted = refl;
  apart = omega arith;
}

pub no_first_denied : ¬ OnSectors small most no_first
no_first_denied = denied no_first no_first_fails

-- ── no sync behind the commit sector: reported, and the power takes it back ──
abbrev no_second : Driver
no_second = wrong (area_at most) (λ n s. to_area most (area_at most n) 0 s ++ (sync ∷ commit most n s ∷ to_home most s)) (sync ∷ [])

no_second_fails : Fails no_second
unfolding shows
no_second_fails = record {
  moves = limited (cut (λ i. false) (junk small) ∷ steps 9 []);
  lengths = (junk_long, tt);
  readable = tt;
  entry = λ d. at d.limits 0;
  finds = 0;
  wants = 3;
  found = refl;
  wanted = refl;
  apart = omega arith;
}

pub no_second_denied : ¬ OnSectors small most no_second
no_second_denied = denied no_second no_second_fails

-- ── one area: the contents of the store in flight take the place of those that the commit sector names ──
abbrev one_area : Driver
one_area = wrong (λ n. area_at most 0) (λ n s. to_area most (area_at most 0) 0 s ++ (sync ∷ commit most n s ∷ sync ∷ to_home most s)) (sync ∷ [])

one_area_fails : Fails one_area
unfolding shows
one_area_fails = record {
  moves = cut_at 2 (λ i. true);
  lengths = (junk_long, tt);
  readable = tt;
  entry = λ d. at d.limits 0;
  finds = 7;
  wants = 3;
  found = refl;
  wanted = refl;
  apart = omega arith;
}

pub one_area_denied : ¬ OnSectors small most one_area
one_area_denied = denied one_area one_area_fails

-- ── a recovery that does not sync before it looks: the program ends with the commit sector open, a recovery reads it and a design is there, and the power takes it back ──
abbrev looks_first : Driver
looks_first = wrong (area_at most) planned []

looks_first_fails : Fails looks_first
unfolding shows
looks_first_fails = record {
  moves = limited (call (limit 0 2) ∷ steps 4 (kill (junk small) ∷ steps 9 (cut (λ i. false) (junk small) ∷ steps 9 [])));
  lengths = (junk_long, (junk_long, tt));
  readable = tt;
  entry = λ d. at d.limits 0;
  finds = 3;
  wants = 2;
  found = refl;
  wanted = refl;
  apart = omega arith;
}

pub looks_first_denied : ¬ OnSectors small most looks_first
looks_first_denied = denied looks_first looks_first_fails

-- ── two records in one sector ──
-- The records of a pack in one row, so that all of them share a sector; a store writes that sector as the lent copy has it, with its own record's words.
abbrev sharing : Disk → Content
sharing d = row_sector 8 d.records 0

-- record r takes these words
abbrev takes : ℕ → ℕ → Disk → Disk
takes r x d = set_records (set_part small r (λ k. x) d.records) d

-- Two records are in transfer, and each is stored before either is reported, so from one lent copy: 9 into record 0, then 8 into record 1.
abbrev shared : List Store
shared = (record { place = 1; words = sharing (takes 1 8 pack) } ∷ []) ∷ (record { place = 1; words = sharing (takes 0 9 pack) } ∷ []) ∷ []

-- .. and with sectors of their own
abbrev own : List Store
own = written small (takes 1 8 pack) (row_at small records 1) ∷ written small (takes 0 9 pack) (row_at small records 0) ∷ []

-- The second store puts the first one's old words back where they share a sector, and leaves them where they do not.
pub shared_loses : (at (Journal.after (λ x. sharing pack) shared 1) 0 ≡ 0) × (at (read_disk small (Journal.after (laid small pack) own)).records 0 ≡ 9)
unfolding shows Journal.becomes Journal.after
shared_loses = (refl, refl)
