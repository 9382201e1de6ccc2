-- An import that is carried out: it passes questions 1 and 2 again, moves its records along the twelfth line, and leaves frames and free records in order.
use mathlib.Core.Path.{◌≡◌, refl, ap, sym, ◌∙◌}
use mathlib.Core.List.{List, [], ◌∷◌}
use mathlib.Core.Logic.{◌⊎◌, inl, inr}
use Prim.Native.Nat.{ℕ, zero, suc, ◌<◌, ◌≤◌}
use native.Mathlib.Omega.{arith}
use lib.Dec.{T}
use Rattle.tables.specs.Base.{at}
use Rattle.tables.specs.Questions.{all_yes}
use Rattle.tables.specs.Rule.{complete}
use Rattle.sheets.specs.Sheet.{number_in, count_in}
use Rattle.sheets.specs.Laws.Formed.{formed, page_of_holds, page_once}
use Rattle.model.specs.declared.sizes.Sizes.{Sizes}
use Rattle.model.specs.Lines.{twelfth, led_by, by_import}
use Rattle.model.specs.State.{State, files}
use Rattle.model.specs.Setters.{on_disk, raise, counted}
use Rattle.model.specs.Questions.{import_questions}
use Rattle.model.specs.Laws.Ruled.{ruled, rules}
use Rattle.model.specs.Laws.Fit.{fit, all_fit_holds}
use Rattle.model.specs.Step.{outcome, asked}
use Rattle.model.specs.Import.{sheet_of, made, imported, import_answer, import}
use Rattle.model.specs.Terms.{Good, MovedBy}
use Rattle.invariant.proofs.ChipKept.{Copies}
use Rattle.invariant.proofs.Kept.{good_chip}
use Rattle.invariant.proofs.ImportChip.{midway_chip, import_chip}
use Rattle.invariant.proofs.Records.{Tidied}
use Rattle.invariant.proofs.Imports.{Sound, Before, midway, import_kept, import_line, state_at, owner_at}

module _ (z : Sizes) (st : State) (s q n : ℕ) (b : List ℕ) where
  pub import_before : import_answer z st s q n b ≡ 0 → Before z st s q n (sheet_of b)
  unfolding import_answer
  import_before e =
      let (sound, (keeps, own)) = all_yes 0 (asked z st (import_questions z st s q n b)) tt e in
      let ((slot, (account, number)), (small, (empty, (fresh, (above, (form, ((words, pages), (limit, (room, none))))))))) = own in
      let r = ruled z st keeps in
      let f = formed b form in
      record {
        fit = fit z st sound;
        ruled = r;
        slot = slot;
        account = account;
        number = number;
        low = small;
        empty = empty;
        fresh = fresh;
        above = above;
        pages = λ i g. omega (arith, (page_of_holds b f i g).below, pages);
        once = page_once b f;
        enough = enough (count_in b) room r.counts.free;
      }
    where
      enough : (c : ℕ) {a f : ℕ} → (0 < c → ¬ (a < c)) → a ≡ f → c ≤ f
      enough zero h e = omega arith
      enough (suc c) h e = let g = h (omega arith) in omega (arith, g, e)

  sound_good : (st' : State) → Sound z st' → Copies z st' → Good z st'
  sound_good st' k c = (all_fit_holds z st' k.fit c.fit, rules z st' k.ruled c.rules)

  chip_before : import_answer z st s q n b ≡ 0 → Copies z st
  unfolding import_answer
  chip_before e = let (sound, (keeps, own)) = all_yes 0 (asked z st (import_questions z st s q n b)) tt e in good_chip z st (sound, keeps)

  -- an import, carried out or refused
  pub import_good : Good z st → Good z (import z st s q n b).left
  unfolding import
  import_good g = go (import_answer z st s q n b) refl
    where
      go : (m : ℕ) → import_answer z st s q n b ≡ m → Good z (outcome m (number_in b) st (imported z st s q n (sheet_of b))).left
      go zero e = let k = import_kept z st s q n (sheet_of b) (import_before e) in sound_good _ (record { fit = k.0; ruled = k.1 }) (import_chip z st s q n (sheet_of b) (import_before e) (chip_before e))
      go (suc m) e = g

  -- and once the number is the highest and the first k records are stored
  pub import_midway : import_answer z st s q n b ≡ 0 → (k : ℕ) → k ≤ count_in b → Good z (on_disk (λ d. made z st s q n (sheet_of b) k (raise n d)) st)
  import_midway e k i = sound_good _ (midway z st s q n (sheet_of b) (import_before e) k i) (midway_chip z st s q n (sheet_of b) (import_before e) (chip_before e) k i)

  -- each record's state is left alone, or goes from free to filed
  import_along : import_answer z st s q n b ≡ 0 → MovedBy by_import z st (imported z st s q n (sheet_of b))
  unfolding imported counted by_import
  import_along e r h = elim (import_line z st s q n (sheet_of b) (import_before e) r) [ inl x ↦ inl x | inr x ↦ inr (complete (led_by (twelfth ∷ []) _ _) (0, omega arith, (x.0, x.1))) ]

  pub import_moves : MovedBy by_import z st (import z st s q n b).left
  unfolding import
  import_moves = go (import_answer z st s q n b) refl
    where
      go : (m : ℕ) → import_answer z st s q n b ≡ m → MovedBy by_import z st (outcome m (number_in b) st (imported z st s q n (sheet_of b))).left
      go zero e = import_along e
      go (suc m) e = λ r h. inl refl

  imported_tidy : import_answer z st s q n b ≡ 0 → Tidied z st → Tidied z (imported z st s q n (sheet_of b))
  unfolding imported counted
  imported_tidy e t = let k = import_before e in record {
    free = λ r h o. elim (state_at z st s q n (sheet_of b) k r) [
      | inl x ↦ absurd (omega (arith, x.1, o))
      | inr x ↦ elim (owner_at z st s q n (sheet_of b) k r) [ inl y ↦ absurd (x.0 y.0) | inr y ↦ y.1 ∙ t.free r h (sym x.1 ∙ o) ]
    ];
    released = λ r h o. elim (state_at z st s q n (sheet_of b) k r) [
      | inl x ↦ absurd (omega (arith, x.1, o))
      | inr x ↦ elim (owner_at z st s q n (sheet_of b) k r) [ inl y ↦ absurd (x.0 y.0) | inr y ↦ rw y.1 (t.released r h (sym x.1 ∙ o)) ]
    ];
  }

  pub import_tidy : Tidied z st → Tidied z (import z st s q n b).left
  unfolding import
  import_tidy t = go (import_answer z st s q n b) refl
    where
      go : (m : ℕ) → import_answer z st s q n b ≡ m → Tidied z (outcome m (number_in b) st (imported z st s q n (sheet_of b))).left
      go zero e = imported_tidy e t
      go (suc m) e = t
