-- An import, carried out or refused on both boards: the same answer, and the boards are left alike.
use mathlib.Core.Path.{◌≡◌, refl, ap, sym, ◌∙◌, subst}
use mathlib.Core.List.{List}
use Prim.Native.Nat.{ℕ, zero, suc}
use native.Mathlib.Omega.{arith}
use lib.Dec.{T, eqb}
use borrow.Author.Tests.{ne_eqb}
use Rattle.tables.specs.Base.{if}
use Rattle.tables.specs.Questions.{first_no}
use Rattle.sheets.specs.Sheet.{number_in}
use Rattle.model.specs.declared.sizes.Sizes.{Sizes}
use Rattle.model.specs.State.{State}
use Rattle.model.specs.Questions.{import_questions}
use Rattle.model.specs.Step.{outcome}
use Rattle.model.specs.Import.{sheet_of, imported, import_answer, import}
use Rattle.model.specs.Acts.{importing, World, wholly, act, allowed}
use Rattle.crash.proofs.Demand3.{act_keeps}
use Rattle.isolation.specs.Words.{bare}
use Rattle.isolation.specs.Answers.{Answers}
use Rattle.isolation.proofs.Reworded.{reworded_as, is_reworded}
use Rattle.isolation.proofs.Told.{told, ToldLike}
use Rattle.isolation.proofs.StandingAlong.{act_stands}
use Rattle.isolation.proofs.Importing.{imported_bare, wholly_like}
use Rattle.isolation.proofs.Alike.{Alike}
use Rattle.isolation.proofs.Events.{own_questions, refused}

module _ (z : Sizes) (hidden : ℕ) (w w' : World) (a : Alike z hidden w w') (u : T w.up) (s q n : ℕ) (b : List ℕ) where
  abbrev st : State
  st = w.state

  u' : T w'.up
  u' = rw a.up at u

  -- the second board's state, as the first's with other words
  abbrev other : State
  other = reworded_as w'.state st

  is_other : w'.state ≡ other
  is_other = is_reworded st w'.state (a.tables u)

  answer_same : import_answer z w'.state s q n b ≡ import_answer z st s q n b
  unfolding import_answer
  answer_same =
      own_questions z w' (import_questions z w'.state s q n b) u' a.good' ∙ ap (λ (x : State). first_no (import_questions z x s q n b)) is_other ∙ sym (own_questions z w (import_questions z st s q n b) u a.good)

  -- ── the answers ──
  pub import_answers : Answers z hidden w w' (importing s q n b) (importing s q n b)
  unfolding import
  import_answers = record {
    refusal = refused (import_answer z st s q n b) _ _ _ ∙ sym answer_same ∙ sym (refused (import_answer z w'.state s q n b) _ _ _);
    result = subst (λ (m : ℕ). (outcome (import_answer z st s q n b) (number_in b) st (imported z st s q n (sheet_of b))).answer.result ≡ (outcome m (number_in b) w'.state (imported z w'.state s q n (sheet_of b))).answer.result) (sym answer_same) (go (import_answer z st s q n b));
    handed = tt;
  }
    where
      go : (m : ℕ) → (outcome m (number_in b) st (imported z st s q n (sheet_of b))).answer.result ≡ (outcome m (number_in b) w'.state (imported z w'.state s q n (sheet_of b))).answer.result
      go zero = refl
      go (suc m) = refl

  -- ── what an answer leaves ──
  abbrev after : World → ℕ → World
  after x m = let o = outcome m (number_in b) x.state (imported z x.state s q n (sheet_of b)) in
      record { up = x.up; state = o.left; ledger = if (eqb o.answer.refusal 0) (wholly z x.state s n (sheet_of b) x.ledger) x.ledger }

  tables_after : (m : ℕ) → bare (after w m).state ≡ bare (after w' m).state
  tables_after zero = sym (ap (λ (x : State). bare (imported z x s q n (sheet_of b))) is_other ∙ (imported_bare z st _ _ _ s q n (sheet_of b)).tables)
  tables_after (suc m) = a.tables u

  told_after : (m : ℕ) → ToldLike z hidden (told (after w m).ledger) (told (after w' m).ledger)
  told_after zero = subst (λ (x : State). ToldLike z hidden (told (wholly z st s n (sheet_of b) w.ledger)) (told (wholly z x s n (sheet_of b) w'.ledger))) (sym is_other) (wholly_like z st _ _ _ s hidden n (sheet_of b) w.ledger w'.ledger a.ledger)
  told_after (suc m) = rw (ne_eqb (suc m) 0 (λ x. omega (arith, x))) a.ledger

  -- once restarted an import may come
  may : (x : World) → T x.up → T (allowed z x (importing s q n b))
  unfolding allowed
  may x v = v

  pub import_alike : Alike z hidden (act z w (importing s q n b)) (act z w' (importing s q n b))
  unfolding act import
  import_alike = record {
    good = act_keeps z w (importing s q n b) (may w u) a.good;
    good' = act_keeps z w' (importing s q n b) (may w' u') a.good';
    stands = act_stands z w (importing s q n b) (may w u) a.good a.stands;
    stands' = act_stands z w' (importing s q n b) (may w' u') a.good' a.stands';
    chip = ((act_keeps z w (importing s q n b) (may w u) a.good).copies u).fit;
    chip' = ((act_keeps z w' (importing s q n b) (may w' u') a.good').copies u').fit;
    up = a.up;
    disk = ap (λ (x : State). x.disk) t;
    tables = λ x. t;
    ledger = subst (λ (m : ℕ). ToldLike z hidden (told (after w (import_answer z st s q n b)).ledger) (told (after w' m).ledger)) (sym answer_same) (told_after (import_answer z st s q n b));
  }
    where
      t : bare (after w (import_answer z st s q n b)).state ≡ bare (after w' (import_answer z w'.state s q n b)).state
      t = subst (λ (m : ℕ). bare (after w (import_answer z st s q n b)).state ≡ bare (after w' m).state) (sym answer_same) (tables_after (import_answer z st s q n b))
