-- The contracts of the counts by bare names: what a pass is given, and what it leaves counted.
use Rattle.std.specs.Prelude.{◌≡◌, List, [], ℕ, ◌*◌, ◌<◌, ◌≤◌, length}
use Rattle.tables.specs.Base.{at}
use Rattle.tables.specs.Rule.{same, below, each, Holds}
use Rattle.model.specs.declared.sizes.Sizes.{Sizes}
use Rattle.model.specs.declared.frame.Frame.{Frame}
use Rattle.model.specs.Sizes.{most_accounts}
use Rattle.model.specs.State.{State, files, frames, frame_at, all_pages, used_of}
use Rattle.model.specs.Lent.{Ref, Table}
use Rattle.model.specs.Rules.{fit}
use Rattle.model.specs.Laws.Fit.{Within}
use Rattle.model.specs.Laws.Woven.{woven_page}
use Rattle.leaves.specs.Packed.{unpacked, frames_given, frames_entered}
use Rattle.rules.specs.Passes.{Seated, most_entries, count_room, used_table, framed_table}
use Rattle.rules.specs.Promises.{MutRef, MutTable}
use Rattle.accounts.specs.Seen.{seen}

-- ── every slot ──
abbrev pub SlotsGiven : (slots pages : ℕ) (totals : MutRef) (payers active maps addresses states : Ref) → Type 0
SlotsGiven slots pages totals payers active maps addresses states =
    (0 < pages) × (slots ≤ length payers.now) × (slots ≤ length active.now) × (length maps.now ≡ slots * pages) × (length addresses.now ≡ length maps.now)
    × (length maps.now ≤ most_entries) × Holds (fit (length addresses.now) (length states.now) (at addresses.now))
    × Holds (each slots λ s. below (at payers.now s) most_accounts)
    × (length totals.now ≡ most_accounts) × Holds (each most_accounts λ q. same (at totals.now q) 0)

abbrev pub SlotsLeft : (slots pages : ℕ) (totals : MutTable) (payers active maps addresses states : Table) → Type 0
SlotsLeft slots pages totals payers active maps addresses states =
    Holds (used_table slots pages payers.entry.now active.entry.now maps.entry.now addresses.entry.now states.entry.now totals.exit.now)

-- ── every frame ──
abbrev pub FramesGiven : Sizes → (frames : Ref) (totals : MutRef) (payers addresses states : Ref) → Type 0
FramesGiven z frames totals payers addresses states =
    (z.frames ≤ 64) × (0 < z.pages) × ((f : ℕ) → f < z.frames → ((frame_at (unpacked frames.now) f).page ≤ length payers.now * z.pages) × ((frame_at (unpacked frames.now) f).page ≤ length addresses.now))
    × Holds (fit (length addresses.now) (length states.now) (at addresses.now))
    × Holds (each (length payers.now) λ s. below (at payers.now s) most_accounts)
    × (length totals.now ≡ most_accounts) × Holds (each most_accounts λ q. below (at totals.now q) count_room)

abbrev pub FramesLeft : Sizes → (frames : Table) (totals : MutTable) (payers addresses states : Table) → Type 0
FramesLeft z frames totals payers addresses states =
    Holds (framed_table z.frames z.pages (λ f. woven_page (frame_at (unpacked frames.entry.now) f)) payers.entry.now addresses.entry.now states.entry.now totals.entry.now totals.exit.now)

-- ── all that count ──
-- what the rules give, whatever the limits
pub record Countable (z : Sizes) (fs : List Frame) (accounts maps addresses states active : List ℕ) : Type 0 where
  pub within : Within z
  pub frames_long : length fs ≡ z.frames
  pub accounts_long : length accounts ≡ z.slots
  pub maps_long : length maps ≡ all_pages z
  pub addresses_long : length addresses ≡ all_pages z
  pub states_long : length states ≡ z.records
  pub active_long : length active ≡ z.slots
  pub account_fit_holds : Holds (each z.slots λ s. below (at accounts s) z.accounts)
  pub address_fit_holds : Holds (fit (all_pages z) z.records (at addresses))
  pub seated : Seated z (at active) (frames (seen fs accounts maps [] [] addresses states active []))

abbrev pub CountsGiven : Sizes → (frames : Ref) (totals : MutRef) (accounts maps addresses states active : Ref) → Type 0
CountsGiven z frames totals accounts maps addresses states active =
    Countable z (frames_given z frames) accounts.now maps.now addresses.now states.now active.now
    × (length totals.now ≡ most_accounts) × Holds (each most_accounts λ q. same (at totals.now q) 0)

-- each account's count is as defined, and fits 16 bits
abbrev pub Counts : Sizes → State → List ℕ → Type 0
Counts z st totals = (q : ℕ) → q < most_accounts → (at totals q ≡ used_of z (files st) (frames st) q) × (at totals q < 65536)

abbrev pub CountsLeft : Sizes → (frames : Table) (totals : MutTable) (accounts maps limits parents addresses states active : Table) → Type 0
CountsLeft z frames totals accounts maps limits parents addresses states active =
    Counts z (seen (frames_entered z frames) accounts.entry.now maps.entry.now limits.entry.now parents.entry.now addresses.entry.now states.entry.now active.entry.now []) totals.exit.now

-- ── an event about an account ──
-- a move,
pub record Ready (z : Sizes) (fs : List Frame) (accounts maps limits addresses states active used : List ℕ) : Type 0 where
  pub countable : Countable z fs accounts maps addresses states active
  pub limits_long : length limits ≡ z.accounts
  pub used_long : length used ≡ z.accounts

abbrev pub ReadyGiven : Sizes → (frames accounts maps : Ref) (limits : MutRef) (addresses states active : Ref) (used : MutRef) → Type 0
ReadyGiven z frames accounts maps limits addresses states active used =
    Ready z (frames_given z frames) accounts.now maps.now limits.now addresses.now states.now active.now used.now

-- a limit, which leaves the used counts where who pays stays as it is: they are as defined
pub record LimitReady (z : Sizes) (fs : List Frame) (accounts maps limits parents addresses states active used : List ℕ) : Type 0 where
  pub ready : Ready z fs accounts maps limits addresses states active used
  pub counted : (let st = seen fs accounts maps limits parents addresses states active used in (q : ℕ) → q < z.accounts → at used q ≡ used_of z (files st) (frames st) q)

abbrev pub LimitGiven : Sizes → (frames accounts maps : Ref) (limits : MutRef) (parents addresses states active : Ref) (used : MutRef) → Type 0
LimitGiven z frames accounts maps limits parents addresses states active used =
    LimitReady z (frames_given z frames) accounts.now maps.now limits.now parents.now addresses.now states.now active.now used.now
