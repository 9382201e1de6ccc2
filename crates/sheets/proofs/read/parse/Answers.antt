-- `parse` meets its contract, case by case.
use mathlib.Core.Path.{◌≡◌, sym, ◌∙◌, subst}
use mathlib.Core.List.{List}
use Prim.Native.Nat.{ℕ, ◌+◌, ◌-◌, ◌*◌, ◌/◌}
use native.Mathlib.Omega.{arith}
use lib.ListN.{length}
use Rattle.tables.specs.Rule.{Holds, each}
use Rattle.sheets.specs.Sheet.{words_in, number_in, count_in, page_fits, headed}
use Rattle.sheets.specs.Laws.Runs.{number_2_below}
use Rattle.sheets.proofs.Cases.{says_no_holds, says_yes, wrong, right, words_are, pages_are, number_is, count_is, place_is, place_by, size_by}
use Rattle.sheets.proofs.read.parse.Goals as goal

pub returns-then-long-lt17 : goal.returns-then-long-lt17
returns-then-long-lt17 c = wrong c.args.s.now (λ f. omega (arith, f.long, c.if-long-lt17.true))

pub returns-then-not-is_headed : goal.returns-then-not-is_headed
returns-then-not-is_headed c =
    wrong c.args.s.now (λ f. says_no_holds (headed c.args.s.now 0 3 4) (sym c.is_headed.ensures ∙ c.if-not-is_headed.true) f.three)

pub returns-then-not-is_headed-2 : goal.returns-then-not-is_headed-2
returns-then-not-is_headed-2 c =
    wrong c.args.s.now (λ f. says_no_holds (headed c.args.s.now 7 1 4) (sym c.is_headed-2.ensures ∙ c.if-not-is_headed-2.true) f.one)

pub returns-then-number-eq0 : goal.returns-then-number-eq0
returns-then-number-eq0 c =
    wrong c.args.s.now (λ f. omega (arith, f.number, number_is c.args.s.now c.number_at-number.ensures, c.if-number-eq0.true))

pub returns-then-taken-rest : goal.returns-then-taken-rest
returns-then-taken-rest c =
    let sheet : List ℕ = c.args.s.now in
    let wide : ℕ = c.number_at-words.result in
    let room : ℕ = (length sheet - 17) / (5 + 4 * wide) in
    let words : wide ≡ words_in sheet = words_are sheet c.number_at-words.ensures in
    let counted : room ≡ count_in sheet = count_is sheet wide words in
    wrong sheet (λ f. c.if-taken-rest.true (size_by sheet wide _ words counted ∙ omega (arith, f.size)))

pub pages_fit-requires : goal.pages_fit-requires
pages_fit-requires c =
    let sheet : List ℕ = c.args.s.now in
    let wide : ℕ = c.number_at-words.result in
    let room : ℕ = (length sheet - 17) / (5 + 4 * wide) in
    let words : wide ≡ words_in sheet = words_are sheet c.number_at-words.ensures in
    (words, pages_are sheet c.number_at-pages.ensures, omega (arith, c.number_at-words.ensures, number_2_below sheet (λ i. omega (arith, c.type_inv.s i)) 3), omega (arith, place_by sheet wide room words, c.if-taken-rest.false))

pub returns-then-not-pages_fit : goal.returns-then-not-pages_fit
returns-then-not-pages_fit c =
    let sheet : List ℕ = c.args.s.now in
    let wide : ℕ = c.number_at-words.result in
    let room : ℕ = (length sheet - 17) / (5 + 4 * wide) in
    let words : wide ≡ words_in sheet = words_are sheet c.number_at-words.ensures in
    let counted : room ≡ count_in sheet = count_is sheet wide words in
    wrong sheet (λ f. says_no_holds (each room (page_fits sheet)) (sym c.pages_fit.ensures ∙ c.if-not-pages_fit.true) (λ k l. f.pages k (omega (arith, counted, l))))

pub returns : goal.returns
returns c =
    let sheet : List ℕ = c.args.s.now in
    let wide : ℕ = c.number_at-words.result in
    let room : ℕ = (length sheet - 17) / (5 + 4 * wide) in
    let words : wide ≡ words_in sheet = words_are sheet c.number_at-words.ensures in
    let counted : room ≡ count_in sheet = count_is sheet wide words in
    let last : ℕ = 14 + room * (5 + 4 * wide) in
    let a : List ℕ = sheet in
    let number : c.number_at-number.result ≡ number_in a = number_is a c.number_at-number.ensures in
    right a wide c.number_at-pages.result c.number_at-number.result _ words (pages_are a c.number_at-pages.ensures) number counted
    (record {
      long = omega (arith, c.if-long-lt17.false);
      three = says_yes (headed a 0 3 4) (sym c.is_headed.ensures ∙ c.if-not-is_headed.false);
      one = says_yes (headed a 7 1 4) (sym c.is_headed-2.ensures ∙ c.if-not-is_headed-2.false);
      number = omega (arith, number, c.if-number-eq0.false);
      size = omega (arith, c.if-long-lt17.false, sym (size_by a wide _ words counted) ∙ c.if-taken-rest.false);
      pages = λ k i. says_yes (each room (page_fits a)) (sym c.pages_fit.ensures ∙ c.if-not-pages_fit.false) k (omega (arith, counted, i));
      four = subst (λ (i : ℕ). Holds (headed a i 4 0)) (place_is a wide _ words counted) (says_yes (headed a last 4 0) (sym c.is_headed-3.ensures ∙ c.if-not-is_headed-3.false));
    })

pub returns-then-not-is_headed-3 : goal.returns-then-not-is_headed-3
returns-then-not-is_headed-3 c =
    let sheet : List ℕ = c.args.s.now in
    let wide : ℕ = c.number_at-words.result in
    let room : ℕ = (length sheet - 17) / (5 + 4 * wide) in
    let words : wide ≡ words_in sheet = words_are sheet c.number_at-words.ensures in
    let counted : room ≡ count_in sheet = count_is sheet wide words in
    let last : ℕ = 14 + room * (5 + 4 * wide) in
    wrong sheet (λ f. says_no_holds (headed sheet last 4 0) (sym c.is_headed-3.ensures ∙ c.if-not-is_headed-3.true)
    (subst (λ (i : ℕ). Holds (headed sheet i 4 0)) (sym (place_is sheet wide _ words counted)) f.four))
