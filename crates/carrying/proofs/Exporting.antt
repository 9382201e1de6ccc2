-- Export by its questions: refused, or the sheet laid over the buffer.
use mathlib.Core.Path.{◌≡◌, ap, sym, ◌∙◌}
use mathlib.Core.List.{List}
use Prim.Native.Nat.{ℕ, ◌+◌, ◌*◌, ◌<◌}
use native.Mathlib.Omega.{arith}
use lib.ListN.{length}
use Rattle.tables.specs.Questions.{Questions, none, ask, first_no, all_yes, yes_all}
use Rattle.tables.specs.Rule.{non, below}
use Rattle.tables.specs.Also.{◌also◌}
use Rattle.tables.specs.StoreLoops.{part_fits}
use Rattle.sheets.specs.Sheet.{laid}
use Rattle.model.specs.declared.sizes.Sizes.{Sizes}
use Rattle.model.specs.declared.refusals.Refusal.{Refusal}
use Rattle.model.specs.declared.event.Design.TheVariants as Design
use Rattle.model.specs.declared.event.Event.TheVariants as Event
use Rattle.model.specs.State.{State}
use Rattle.model.specs.Questions.{questions}
use Rattle.model.specs.Refusals.{number, refused, number_above, no_also, yes_also}
use Rattle.model.specs.Laws.Own.{first_no_holds}
use Rattle.model.specs.Laws.OwnLaws.{outcome_no}
use Rattle.model.specs.Step.{outcome}
use Rattle.model.specs.Export.{exported}
use Rattle.carrying.specs.Texts.{Printing}
use Rattle.carrying.specs.Exports.{seen_export, Exporting, handed, export_of}

module _ (z : Sizes) (s : ℕ) (records numbers maps active buffer : List ℕ) where
  abbrev st : State
  st = seen_export records numbers maps active

  abbrev sheet : List ℕ
  sheet = exported z st s

  -- 3, 4 and 9; then 31
  abbrev slots : Questions
  slots = questions z st (Event.Design (Design.Activate s))

  abbrev room : Questions
  room = ask 31 (non (below (length buffer) (length sheet))) none

  pub export_no : (why : Refusal) → number why ≡ first_no slots → handed (refused why) buffer ≡ export_of z st s buffer
  unfolding export_of
  export_no why e = sym (outcome_no (number why) (length sheet) buffer (laid buffer 0 sheet) (λ h. omega (arith, number_above why, h))) ∙ ap (λ (k : ℕ). outcome k (length sheet) buffer (laid buffer 0 sheet)) (no_also why slots room e)

  module _ (yes : 0 ≡ first_no slots) where
    asked : first_no room ≡ first_no (slots also room)
    asked = yes_also slots room tt yes

    pub export_short : length buffer < length sheet → handed (record { refusal = 31; result = 0 }) buffer ≡ export_of z st s buffer
    unfolding export_of
    export_short l = ap (λ (k : ℕ). outcome k (length sheet) buffer (laid buffer 0 sheet)) (sym (first_no_holds 31 _ none (λ h. h l)) ∙ asked)

    pub export_yes : {long : ℕ} {left : List ℕ} → ¬ (length buffer < length sheet) → long ≡ length sheet → left ≡ laid buffer 0 sheet → handed (record { refusal = 0; result = long }) left ≡ export_of z st s buffer
    unfolding export_of
    export_yes h el eb = (λ i. handed (record { refusal = 0; result = el i }) (eb i)) ∙ ap (λ (k : ℕ). outcome k (length sheet) buffer (laid buffer 0 sheet)) (sym (yes_all room (h, tt)) ∙ asked)

    -- what printing needs
    pub printing : Exporting z records maps → Printing z.pages z.words s records maps
    printing k =
        let (in_range, filled) = all_yes 0 slots tt (sym yes) in
        let fits = part_fits z.slots z.pages s in_range in
        record {
          words = k.sizes.words;
          words_most = omega (arith, k.sizes.words_most);
          pages_most = omega (arith, k.sizes.pages_most);
          maps_long = omega (arith, fits, k.maps_long);
          listed = λ p h r f. omega (arith, part_fits z.records z.words r (k.listed (s * z.pages + p) (omega (arith, fits, h)) r f), k.records_long);
        }
