-- Runs of bytes laid over a buffer: one after another is one.
use Rattle.std.specs.Prelude.{◌≡◌, refl, List, [], ◌∷◌, ◌++◌, ℕ, ◌+◌, ◌-◌, ◌*◌, ◌/◌, ◌%◌, ◌<◌, ◌≤◌, length, set, take, drop}
use Rattle.std.proofs.Math.Path.{ap}
use Rattle.std.proofs.Common.{sym, ◌∙◌, inl, inr, add-one, arith, length-append, length-set, get_or-append-add, get_or-set_same, get_or-set_other}
use Rattle.std.proofs.Math.Decide.{ℕ_discrete, dec_lt}
use Rattle.std.proofs.Math.ListN.{get_or-append}
use Rattle.std.proofs.lemmas.List.{length-take, length-drop, get_or-take, get_or-drop}
use Rattle.tables.specs.Base.{at}
use Rattle.tables.specs.Rule.{Rule, Holds, below, non, ◌and◌}
use Rattle.tables.specs.Store.{store, choose_ext, at_store, length_store, Split}
use Rattle.sheets.specs.Sheet.{bytes, runs, field, page_field, head, laid}
use Rattle.sheets.specs.Laws.Runs.{length_runs, length_bytes}

-- the places that a run of n bytes from i on takes
abbrev within : ℕ → ℕ → ℕ → Rule
within i n k = non (below k i) and below k (i + n)

pub at_laid : (b : List ℕ) (i : ℕ) (run : List ℕ) (k : ℕ) → k < length b → Split (Holds (within i (length run) k)) (at (laid b i run) k) (at run (k - i)) (at b k)
unfolding laid
at_laid b i run k h = at_store b (within i (length run)) (λ k. at run (k - i)) k h

pub length_laid : (b : List ℕ) (i : ℕ) (run : List ℕ) → length (laid b i run) ≡ length b
unfolding laid
length_laid b i run = length_store b (within i (length run)) (λ k. at run (k - i))

-- a buffer with these entries is the run laid over it
pub laid_by : (l b : List ℕ) (i : ℕ) (run : List ℕ) → length l ≡ length b → ((k : ℕ) → k < length b → Split (Holds (within i (length run) k)) (at l k) (at run (k - i)) (at b k)) → l ≡ laid b i run
unfolding laid store
laid_by l b i run e f = choose_ext l (length b) (within i (length run)) (λ k. at run (k - i)) (at b) e f

pub laid_none : (b : List ℕ) (i : ℕ) → b ≡ laid b i []
laid_none b i = laid_by b b i [] refl (λ k h. inr (λ p. omega (arith, p.0, p.1), refl))

pub laid_one : (b : List ℕ) (i v : ℕ) → i < length b → set b i v ≡ laid b i (v ∷ [])
laid_one b i v l = laid_by (set b i v) b i (v ∷ []) (length-set b i v) (λ k h. elim (ℕ_discrete k i) [
  | yes e ↦ inl ((λ p. omega (arith, p, e), omega (arith, e)), ap (at (set b i v)) e ∙ get_or-set_same b i v 0 l ∙ ap (at (v ∷ [])) (zero_of k i e))
  | no e ↦ inr (λ p. e (omega (arith, p.0, p.1)), get_or-set_other b i k v 0 e)
])
  where
    zero_of : (k i : ℕ) → k ≡ i → 0 ≡ k - i
    zero_of k i e = omega (arith, e)

pub laid_more : (b : List ℕ) (i : ℕ) (a c : List ℕ) → laid (laid b i a) (i + length a) c ≡ laid b i (a ++ c)
laid_more b i a c = laid_by (laid (laid b i a) (i + length a) c) b i (a ++ c) (length_laid (laid b i a) (i + length a) c ∙ length_laid b i a) (λ k h. elim (at_laid (laid b i a) (i + length a) c k (omega (arith, h, length_laid b i a))) [
  | inl x ↦ inl (
    (λ p. x.0.0 (omega (arith, p)), omega (arith, x.0.1, length-append a c)),
    x.1 ∙ sym (get_or-append-add a c (k - (i + length a)) 0) ∙ ap (at (a ++ c)) (further k x.0.0),
  )
  | inr x ↦ elim (at_laid b i a k h) [
    | inl y ↦ inl ((y.0.0, omega (arith, y.0.1, length-append a c)), x.1 ∙ y.1 ∙ sym (get_or-append a c 0 (k - i) (within_a k y.0.0 y.0.1)))
    | inr y ↦ inr (λ p. elim (dec_lt k (i + length a)) [ yes q ↦ y.0 (p.0, q) | no q ↦ x.0 (q, omega (arith, p.1, length-append a c)) ], x.1 ∙ y.1)
  ]
])
  where
    further : (k : ℕ) → ¬ (k < i + length a) → length a + (k - (i + length a)) ≡ k - i
    further k p = omega (arith, p)

    within_a : (k : ℕ) → ¬ (k < i) → k < i + length a → k - i < length a
    within_a k p q = omega (arith, p, q)

-- where the second starts is told
pub laid_then : (b : List ℕ) {x y : List ℕ} (i : ℕ) (a c : List ℕ) (j : ℕ) → x ≡ laid b i a → j ≡ i + length a → y ≡ laid x j c → y ≡ laid b i (a ++ c)
laid_then b i a c j e f g = g ∙ (λ t. laid (e t) (f t) c) ∙ laid_more b i a c

-- byte after byte
pub laid_set : (b : List ℕ) (i : ℕ) (run : List ℕ) (v j : ℕ) → j ≡ i + length run → j < length b → set (laid b i run) j v ≡ laid b i (run ++ v ∷ [])
laid_set b i run v j e h = laid_one (laid b i run) j v (omega (arith, h, length_laid b i run)) ∙ ap (λ (k : ℕ). laid (laid b i run) k (v ∷ [])) e ∙ laid_more b i run (v ∷ [])

-- a run that is copied over a part of its length
pub laid_copied : (b : List ℕ) (i k : ℕ) (l run : List ℕ) → l ≡ run → k ≡ length run → i + k ≤ length b → take i b ++ (l ++ drop k (drop i b)) ≡ laid b i run
laid_copied b i k l run d e f = ap (λ (r : List ℕ). take i b ++ (r ++ drop k (drop i b))) d ∙ (
    let front : length (take i b) ≡ i = omega (arith, length-take i b) in
    let rest : List ℕ = drop k (drop i b) in
    let long : length ((take i b ++ (run ++ drop k (drop i b)))) ≡ length b = omega (arith, length-append (take i b) (run ++ rest), length-append run rest, length-drop k (drop i b), length-drop i b) in
    laid_by ((take i b ++ (run ++ drop k (drop i b)))) b i run long (λ j l. elim (dec_lt j i) [
      | yes a ↦ inr (λ p. p.0 a, get_or-append (take i b) (run ++ rest) 0 j (omega arith) ∙ get_or-take i b j 0 a)
      | no a ↦
          let o : ℕ = j - i in
          let past : at ((take i b ++ (run ++ drop k (drop i b)))) j ≡ at (run ++ rest) o = ap (at ((take i b ++ (run ++ drop k (drop i b))))) (omega arith) ∙ get_or-append-add (take i b) (run ++ rest) o 0 in
          elim (dec_lt j (i + length run)) [
            | yes c ↦ inl ((a, c), past ∙ get_or-append run rest 0 o (omega arith))
            | no c ↦ inr (λ p. c p.1, past ∙ ap (at (run ++ rest)) (omega arith) ∙ get_or-append-add run rest (o - length run) 0 ∙ get_or-drop k (drop i b) (o - length run) 0 ∙ get_or-drop i b (k + (o - length run)) 0 ∙ ap (at b) (omega arith))
          ]
    ]))

-- the bytes of a number of 32 bits, high byte first, and the last two of them
pub high_first_4 : (l : List ℕ) (v : ℕ) → l ≡ v / 16777216 % 256 ∷ v / 65536 % 256 ∷ v / 256 % 256 ∷ v % 256 ∷ [] → l ≡ bytes 4 v
unfolding bytes
high_first_4 l v e = let a : v / 16777216 ≡ v / 256 / 256 / 256 = omega arith in let b : v / 65536 ≡ v / 256 / 256 = omega arith in rw (a, b) at e

module _ (b : List ℕ) (i : ℕ) where
  pub laid_2 : (x y : ℕ) → i + 2 ≤ length b → set (set b i x) (i + 1) y ≡ laid b i (x ∷ y ∷ [])
  laid_2 x y h = ap (λ (l : List ℕ). set l (i + 1) y) (laid_one b i x (omega (arith, h))) ∙ laid_set b i (x ∷ []) y (i + 1) (omega arith) (omega (arith, h))

  pub laid_4 : (x y u v : ℕ) → i + 4 ≤ length b → set (set (set (set b i x) (i + 1) y) (i + 2) u) (i + 3) v ≡ laid b i (x ∷ y ∷ u ∷ v ∷ [])
  laid_4 x y u v h =
      ap (λ (l : List ℕ). set (set l (i + 2) u) (i + 3) v) (laid_2 x y (omega (arith, h)))
      ∙ ap (λ (l : List ℕ). set l (i + 3) v) (laid_set b i (x ∷ y ∷ []) u (i + 2) (omega arith) (omega (arith, h)))
      ∙ laid_set b i (x ∷ y ∷ u ∷ []) v (i + 3) (omega arith) (omega (arith, h))

  pub laid_2_by : (v : ℕ) → i + 2 ≤ length b → set (set b i (v / 256 % 256)) (i + 1) (v % 256) ≡ laid b i (bytes 2 v)
  unfolding bytes
  laid_2_by v h = laid_2 (v / 256 % 256) (v % 256) h

  pub laid_4_by : (v : ℕ) → i + 4 ≤ length b → set (set (set (set b i (v / 256 / 256 / 256 % 256)) (i + 1) (v / 256 / 256 % 256)) (i + 2) (v / 256 % 256)) (i + 3) (v % 256) ≡ laid b i (bytes 4 v)
  unfolding bytes
  laid_4_by v h = laid_4 (v / 256 / 256 / 256 % 256) (v / 256 / 256 % 256) (v / 256 % 256) (v % 256) h

  -- a tag and a length
  pub laid_head : (tag size : ℕ) {x : List ℕ} → i < length b → x ≡ laid (set b i tag) (i + 1) (bytes 2 size) → x ≡ laid b i (tag ∷ bytes 2 size)
  laid_head tag size h e = laid_then b i (tag ∷ []) (bytes 2 size) (i + 1) (laid_one b i tag h) (omega arith) e

  -- so many words, and one more
  pub words_none : (f : ℕ → List ℕ) → b ≡ laid b i (runs 0 f)
  unfolding runs
  words_none f = laid_none b i

  pub words_more : (f : ℕ → List ℕ) (n m j : ℕ) {x y : List ℕ} → ((k : ℕ) → length (f k) ≡ m) → x ≡ laid b i (runs n f) → j ≡ i + n * m → y ≡ laid x j (f n) → y ≡ laid b i (runs (n + 1) f)
  unfolding runs
  words_more f n m j l e g h = rw (add-one n) (laid_then b i (runs n f) (f n) j e (g ∙ ap (λ (k : ℕ). i + k) (sym (length_runs n m f (λ k q. l k)))) h)

-- a page's field: its head, its page, its words
pub laid_page : (b : List ℕ) (i w p : ℕ) (word : ℕ → ℕ) {x y u : List ℕ} → x ≡ laid b i (2 ∷ bytes 2 (2 + 4 * w)) → y ≡ laid x (i + 3) (bytes 2 p) → u ≡ laid y (i + 5) (runs w (λ j. bytes 4 (word j))) → u ≡ laid b i (page_field w p word)
unfolding page_field
laid_page b i w p word e f g =
    let body = bytes 2 p ++ runs w (λ j. bytes 4 (word j)) in
    let long : length body ≡ 2 + 4 * w = length-append (bytes 2 p) (runs w (λ j. bytes 4 (word j))) ∙ omega (arith, length_bytes 2 p, length_runs w 4 (λ j. bytes 4 (word j)) (λ k l. length_bytes 4 (word k))) in
    laid_then b i (2 ∷ bytes 2 (2 + 4 * w)) body (i + 3) e (omega (arith, length_bytes 2 (2 + 4 * w)))
    (laid_then _ (i + 3) (bytes 2 p) (runs w (λ j. bytes 4 (word j))) (i + 5) f (omega (arith, length_bytes 2 p)) g)
    ∙ ap (λ (n : ℕ). laid b i ((2 ∷ bytes 2 n) ++ body)) (sym long)

pub laid_start : (b : List ℕ) (w n number : ℕ) {x₁ x₂ x₃ x₄ x₅ : List ℕ} → x₁ ≡ laid b 0 (3 ∷ bytes 2 4) → x₂ ≡ laid x₁ 3 (bytes 2 w) → x₃ ≡ laid x₂ 5 (bytes 2 n) → x₄ ≡ laid x₃ 7 (1 ∷ bytes 2 4) → x₅ ≡ laid x₄ 10 (bytes 4 number) → x₅ ≡ laid b 0 (head w n number)
unfolding head bytes
laid_start b w n number e₁ e₂ e₃ e₄ e₅ =
    laid_then b 0 (field 3 (bytes 2 w ++ bytes 2 n)) (field 1 (bytes 4 number)) 7
    (laid_then b 0 (3 ∷ bytes 2 4) (bytes 2 w ++ bytes 2 n) 3 e₁ refl (laid_then _ 3 (bytes 2 w) (bytes 2 n) 5 e₂ refl e₃)) refl
    (laid_then _ 7 (1 ∷ bytes 2 4) (bytes 4 number) 10 e₄ refl e₅)
