-- The records of two frames in transfer at once share no sector.
use mathlib.Core.Path.{◌≡◌, sym, ap, ◌∙◌}
use Prim.Native.Nat.{ℕ, suc, pred, ◌*◌, ◌<◌}
use native.Mathlib.Omega.{arith}
use Rattle.tables.specs.Laws.{not_zero, if_no}
use Rattle.model.specs.declared.sizes.Sizes.{Sizes}
use Rattle.model.specs.State.{State, files, frames, NONE}
use Rattle.model.specs.Writeback.{record_in}
use Rattle.model.specs.Laws.Ruled.{Ruled, ruled}
use Rattle.layout.specs.Laid.{records, rows}
use Rattle.layout.specs.Claims.{TransfersApart}
use Rattle.layout.proofs.Apart.{apart}
use Rattle.layout.proofs.Homes.{record_below}

module _ (z : Sizes) (st : State) (r : Ruled z st) where
  abbrev page : ℕ → ℕ
  page f = ((frames st).frame f).page

  -- a frame in transfer has a page, and that page a record
  has_page : (f : ℕ) → f < z.frames → ¬ (((frames st).frame f).transfer ≡ NONE) → page f ≡ suc (pred (page f))
  has_page f h busy = not_zero (page f) (r.frames.busy f h (omega (arith, r.frames.in_one_place_holds f h, if_no {A = ℕ} ((frames st).frame f).transfer NONE 0 1 busy)))

  has_record : (f : ℕ) → f < z.frames → ¬ (((frames st).frame f).transfer ≡ NONE) → (files st).address (pred (page f)) ≡ suc (record_in z st f)
  has_record f h busy = not_zero ((files st).address (pred (page f))) (r.frames.held f h (pred (page f)) (has_page f h busy)).0

  page_there : (f : ℕ) → f < z.frames → ¬ (((frames st).frame f).transfer ≡ NONE) → pred (page f) < z.slots * z.pages
  page_there f h busy = (r.frames.fit f h).0 (pred (page f)) (has_page f h busy)

  -- two frames in transfer with one record are one frame
  one_frame : (f g : ℕ) → f < z.frames → g < z.frames → ¬ (((frames st).frame f).transfer ≡ NONE) → ¬ (((frames st).frame g).transfer ≡ NONE) → record_in z st f ≡ record_in z st g → f ≡ g
  one_frame f g hf hg bf bg e =
      let pages : pred (page f) ≡ pred (page g) = r.records.held_once_holds (pred (page f)) (page_there f hf bf) (pred (page g)) (page_there g hg bg) (record_in z st f) (has_record f hf bf) (has_record g hg bg ∙ ap suc (sym e)) in
      r.frames.once f hf g hg (pred (page f)) (has_page f hf bf) (has_page g hg bg ∙ ap suc (sym pages))

-- The records of two frames in transfer at once share no sector, in every state that keeps the rules.
pub transfers_apart : TransfersApart
unfolding rows
transfers_apart z fit st rules f g x hf hg other bf bg i j = let r = ruled z st rules in
    other (one_frame z st r f g hf hg bf bg (apart z fit records records (record_in z st f) (record_in z st g) x (record_below z fit st r f hf) (record_below z fit st r g hg) i j).1)
