-- The counts by the table of payers are as defined.
use mathlib.Core.Path.{◌≡◌, ap, sym, ◌∙◌}
use mathlib.Core.List.{List, []}
use Prim.Native.Nat.{ℕ, ◌+◌, ◌-◌, ◌*◌, ◌/◌, ◌<◌, ◌≤◌}
use native.Mathlib.Nat.{le_trans, mul-le-mul_right}
use native.Mathlib.Omega.{arith}
use native.Mathlib.Decide.{ℕ_discrete}
use lib.Dec.{eqb}
use mathlib.Core.Bool.{◌&&◌}
use lib.ListN.{length, take}
use lib.Seq.{get_or-take}
use Rattle.tables.specs.Base.{at, tab}
use Rattle.tables.specs.Laws.{count_same, count_bound}
use Rattle.tables.specs.Rule.{Holds, test}
use Rattle.model.specs.declared.sizes.Sizes.{Sizes}
use Rattle.model.specs.declared.frame.Frame.{Frame}
use Rattle.model.specs.Payer.{payer}
use Rattle.model.specs.State as S
use Rattle.model.specs.State.{State, files, frame_at, no_frame, used_of}
use Rattle.model.specs.Laws.Bounds.{pages_most}
use Rattle.model.specs.Laws.Woven.{woven_page}
use Rattle.leaves.specs.Payers.{Paying, paying, paying_below}
use Rattle.rules.specs.Passes.{used_page, used_table, framed_page, framed_table}
use Rattle.rules.proofs.Used.{total}
use Rattle.accounts.specs.Seen.{seen}
use Rattle.accounts.specs.Promises.{Countable, Counts}

module _ (z : Sizes) (fs : List Frame) (accounts maps limits parents addresses states active : List ℕ) (k : Countable z (take z.frames fs) accounts maps addresses states active)
    (payers : List ℕ) (n : ℕ) (e : n ≡ 64) (t : payers ≡ tab n (λ s. payer (at parents) (at limits) (at accounts s)) 0) where
  abbrev st : State
  st = seen (take z.frames fs) accounts maps limits parents addresses states active []

  told : Paying st payers
  told = paying st payers n e t

  pub payers_enough : z.slots ≤ length payers
  payers_enough = omega (arith, told.long, k.within.slots_most)

  pub payers_few : (s : ℕ) → s < length payers → at payers s < 16
  payers_few s h = omega (arith, paying_below z st k.accounts_long k.account_fit_holds k.within.accounts payers told s h, k.within.accounts_most)

  -- the frames that the code has are the state's
  same : (f : ℕ) → f < z.frames → frame_at fs f ≡ frame_at (take z.frames fs) f
  same f h = sym (get_or-take z.frames fs f no_frame h)

  page_inside : (f : ℕ) → f < z.frames → (frame_at fs f).page ≤ S.all_pages z
  page_inside f h = elim (ℕ_discrete (frame_at fs f).page 0) [
    | yes w ↦ omega (arith, w)
    | no w ↦ let g = ap (λ (x : Frame). x.page) (same f h) in omega (arith, k.seated.fit f h ((frame_at fs f).page - 1) (omega (arith, g, w)), w)
  ]

  pub pages_inside : (f : ℕ) → f < z.frames → ((frame_at fs f).page ≤ length payers * z.pages) × ((frame_at fs f).page ≤ length addresses)
  pages_inside f h = (le_trans (page_inside f h) (mul-le-mul_right z.pages payers_enough), omega (arith, page_inside f h, k.addresses_long))

  -- by address or map
  pub sums_few : (sums : List ℕ) → Holds (used_table z.slots z.pages payers active maps addresses states sums) → (q : ℕ) → q < 16 → at sums q < 32768
  sums_few sums sum q h = omega (arith, sum q h, pages_most z k.within, count_bound (z.slots * z.pages) (λ i. eqb (at payers (i / z.pages)) q && used_page (at active (i / z.pages)) (at maps i) (at addresses i) (at states)))

  -- .. then by the frames too
  module _ (sums totals : List ℕ) (sum : Holds (used_table z.slots z.pages payers active maps addresses states sums))
      (more : Holds (framed_table z.frames z.pages (λ f. woven_page (frame_at fs f)) payers addresses states sums totals)) where
    pub counts : Counts z (seen (take z.frames fs) accounts maps limits parents addresses states active []) totals
    counts q h = (
      total z st k.seated k.within.pages payers (λ s l. told.entries s (omega (arith, l, k.within.slots_most))) sums totals sum own q h,
      omega (arith, more q h, sums_few sums sum q h, count_bound z.frames (λ f. test (framed_page z.pages q (woven_page (frame_at fs f)) (at payers) (at addresses) (at states))), k.within.frames_most),
    )
      where
        own : Holds (framed_table z.frames z.pages (λ f. woven_page (frame_at (take z.frames fs) f)) payers addresses states sums totals)
        own q h = more q h ∙ ap (λ (m : ℕ). at sums q + m) (count_same z.frames _ _ (λ f l. ap (λ (x : Frame). test (framed_page z.pages q (woven_page x) (at payers) (at addresses) (at states))) (same f l)))
