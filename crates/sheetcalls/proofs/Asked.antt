-- Export and import once questions 1 and 2 are asked: what they rest on, and the call's outcome by the event's.
use mathlib.Core.Path.{◌≡◌, refl, ap, sym, ◌∙◌}
use mathlib.Core.List.{List}
use Prim.Native.Nat.{ℕ}
use native.Mathlib.Omega.{arith}
use lib.ListN.{length}
use Rattle.sheets.specs.Sheet.{number_in, laid}
use Rattle.model.specs.declared.sizes.Sizes.{Sizes}
use Rattle.model.specs.declared.frame.Frame.{Frame}
use Rattle.model.specs.declared.refusals.Refusal.{Refusal}
use Rattle.model.specs.State.{State, files}
use Rattle.model.specs.Calls.{frames_of}
use Rattle.model.specs.Questions.{import_questions, export_questions}
use Rattle.model.specs.Laws.Ruled.{Ruled, ruled}
use Rattle.model.specs.Laws.Fit.{Fit, fit}
use Rattle.model.specs.Refusals.{number, refused, number_above}
use Rattle.model.specs.Laws.Own.{leaves}
use Rattle.model.specs.Laws.OwnLaws.{outcome_no}
use Rattle.model.specs.Step.{Outcome, outcome}
use Rattle.model.specs.Ledger.{found}
use Rattle.model.specs.Import.{sheet_of, imported, import, import_answer}
use Rattle.model.specs.Export.{exported, export}
use Rattle.leaves.specs.FreeMap.{free_map}
use Rattle.carrying.specs.Imports.{Importing}
use Rattle.carrying.specs.Exports.{Exporting, seen_export, handed, export_of}
use Rattle.calls.specs.Common.{common, common_gives, common_passes, common_refuses}

-- what is asked of the packed frames is asked of the frames that were packed
pub of_packed : (z : Sizes) (at : List Frame → State) (lent : ℕ) {packed frames : List Frame} → packed ≡ frames → {m : ℕ} → m ≡ common z (at (frames_of packed lent)) → m ≡ common z (at (frames_of frames lent))
of_packed z at lent e h = h ∙ ap (λ (fs : List Frame). common z (at (frames_of fs lent))) e

module _ (z : Sizes) (st : State) where
  module _ (e : common z st ≡ 0) where
    pub fits : Fit z st
    fits = fit z st (common_gives z st e).0

    pub keeps : Ruled z st
    keeps = ruled z st (common_gives z st e).1

    -- what import rests on
    pub importing : Importing z st.memory.held.pool st.disk.records st.disk.maps st.memory.held.states st.memory.held.owners st.memory.held.free_map
    importing = record {
      sizes = fits.sizes;
      records_long = fits.disk.records;
      maps_long = fits.disk.maps;
      states_long = fits.memory.states;
      owners_long = fits.memory.owners;
      told = free_map z (files st).state st.memory.held.free_map fits.memory.free_map keeps.counts.free_map;
      free = keeps.counts.free;
      hand = keeps.counts.hand;
    }

    -- and export
    pub exporting : Exporting z st.disk.records st.disk.maps
    exporting = record {
      sizes = fits.sizes;
      records_long = fits.disk.records;
      maps_long = fits.disk.maps;
      listed = keeps.disk.map_fit_holds;
    }

  -- ── refused by question 1 or 2 ──
  pub import_unfit : (s q n : ℕ) (b : List ℕ) (why : Refusal) → number why ≡ common z st → leaves (refused why) st ≡ import z st s q n b
  unfolding import import_answer
  import_unfit s q n b why e =
      let new = imported z st s q n (sheet_of b) in
      let some : ¬ (number why ≡ 0) = λ h. omega (arith, number_above why, h) in
      sym (outcome_no (number why) (number_in b) st new some) ∙ ap (λ (k : ℕ). outcome k (number_in b) st new) (common_refuses z st (import_questions z st s q n b) (number why) e some)

  module _ (s : ℕ) (buffer : List ℕ) where
    abbrev sheet : List ℕ
    sheet = exported z st s

    abbrev by : ℕ → Outcome (List ℕ)
    by k = outcome k (length sheet) buffer (laid buffer 0 sheet)

    pub export_unfit : (why : Refusal) → number why ≡ common z st → handed (refused why) buffer ≡ export z st s buffer
    unfolding export
    export_unfit why e =
        let some : ¬ (number why ≡ 0) = λ h. omega (arith, number_above why, h) in
        sym (outcome_no (number why) (length sheet) buffer (laid buffer 0 sheet) some) ∙ ap by (common_refuses z st (export_questions z st s (length sheet) (length buffer)) (number why) e some)

    -- it looks at records, numbers, maps and active switches alone
    seen_export_holds : export_of z (seen_export st.disk.records st.disk.numbers st.disk.maps st.memory.slots.active) s buffer ≡ export_of z st s buffer
    unfolding export_of exported found
    seen_export_holds = refl

    own_export : common z st ≡ 0 → export_of z st s buffer ≡ export z st s buffer
    unfolding export export_of
    own_export e = ap by (sym (common_passes z st (export_questions z st s (length sheet) (length buffer)) e))

    pub export_done : {o : Outcome (List ℕ)} → common z st ≡ 0 → o ≡ export_of z (seen_export st.disk.records st.disk.numbers st.disk.maps st.memory.slots.active) s buffer → o ≡ export z st s buffer
    export_done e p = p ∙ seen_export_holds ∙ own_export e
