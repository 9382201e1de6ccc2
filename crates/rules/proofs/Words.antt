-- The rule of a frame's words, by the tests that the code makes.
use mathlib.Core.Path.{◌≡◌, ◌∙◌}
use mathlib.Core.Bool.{Bool, true}
use mathlib.Core.List.{List}
use Prim.Native.Nat.{ℕ, ◌+◌, ◌-◌, ◌*◌}
use borrow.Author.Tests.{eq-eqb, ne_eqb}
use Rattle.tables.specs.Base.{at}
use Rattle.tables.specs.Rule.{Rule, same, named, ◌then◌, each, test}
use Rattle.tables.specs.Turn.{unless, when, named_none, named_one}
use Rattle.model.specs.declared.frame.Frame.{Frame}
use Rattle.rules.specs.Passes.{content, clean_frame}

module _ (w f r state : ℕ) (words records : List ℕ) where
  pub live_words : state ≡ 3 → test (each w (λ k. same (at words (f * w + k)) (at records (r * w + k)))) ≡ test (content w f r state words records)
  live_words e = rw (eq-eqb state 3 e)

  pub zero_words : ¬ (state ≡ 3) → test (each w (λ k. same (at words (f * w + k)) 0)) ≡ test (content w f r state words records)
  zero_words e = rw (ne_eqb state 3 e)

module _ (w : ℕ) (x : Frame) (f : ℕ) (words records addresses states : List ℕ) (d : ¬ (x.page ≡ 0)) where
  abbrev words_of : ℕ → Rule
  words_of r = content w f r (at states r) words records

  abbrev of_page_holds : ℕ → Rule
  of_page_holds i = same x.transfer 0 then same x.modified 0 then named (at addresses i) words_of

  abbrev entry : ℕ
  entry = at addresses (x.page - 1)

  pub in_transfer : ¬ (x.transfer ≡ 0) → true ≡ test (clean_frame w x f words records addresses states)
  in_transfer e = unless (same x.transfer 0) (same x.modified 0 then named entry words_of) e ∙ named_one x.page of_page_holds d

  module _ (t : x.transfer ≡ 0) where
    pub modified : ¬ (x.modified ≡ 0) → true ≡ test (clean_frame w x f words records addresses states)
    modified e = when (same x.transfer 0) (same x.modified 0 then named entry words_of) true t (unless (same x.modified 0) (named entry words_of) e) ∙ named_one x.page of_page_holds d

    module _ (m : x.modified ≡ 0) where
      in_service : (b : Bool) → b ≡ test (named (at addresses (x.page - 1)) words_of) → b ≡ test (clean_frame w x f words records addresses states)
      in_service b e = when (same x.transfer 0) (same x.modified 0 then named entry words_of) b t (when (same x.modified 0) (named entry words_of) b m e) ∙ named_one x.page of_page_holds d

      pub no_record : at addresses (x.page - 1) ≡ 0 → true ≡ test (clean_frame w x f words records addresses states)
      no_record e = in_service true (named_none entry words_of e)

      pub has_record : (b : Bool) → ¬ (at addresses (x.page - 1) ≡ 0) → b ≡ test (content w f (at addresses (x.page - 1) - 1) (at states (at addresses (x.page - 1) - 1)) words records)
          → b ≡ test (clean_frame w x f words records addresses states)
      has_record b n e = in_service b (e ∙ named_one entry words_of n)
