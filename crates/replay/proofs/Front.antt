-- Bytes moved to the front of a buffer.
use Rattle.std.proofs.Common.{◌≡◌, ℕ, zero, suc, ◌+◌, ◌≤◌, eqb, List, ◌++◌, length, take, drop, sym, ap, ◌∙◌, zero-add, arith, length-append, length-drop, length-take-le, take_at, eq-eqb, ne_eqb}
use lib.Seq.{paste}
use borrow.Rule.Slice.PartMut.{put_mid, take_put}

-- the first j bytes from a place on, at the front
abbrev pub front : List ℕ → ℕ → ℕ → List ℕ
front d from j = take j (drop from d) ++ drop j d

module _ (d : List ℕ) (from j : ℕ) where
  pub as_paste : front d from j ≡ paste d 0 (drop from d) j
  as_paste = ap (λ (k : ℕ). take j (drop from d) ++ drop k d) (sym (zero-add j))

  pub length_front : from + j ≤ length d → length (front d from j) ≡ length d
  length_front h = rw (length-append (take j (drop from d)) (drop j d), length-take-le j (drop from d) (rw (length-drop from d) (omega arith)), length-drop j d) (omega arith)

-- the bytes at the front stay where a read puts others behind them
pub front_kept : (d b ys : List ℕ) (from j k : ℕ) → from + j ≤ length d → b ≡ front d from j → take j (put_mid j k b ys) ≡ take j (drop from d)
front_kept d b ys from j k h e =
    let l : length (take j (drop from d)) ≡ j = length-take-le j (drop from d) (rw (length-drop from d) (omega arith)) in
    let w : length b ≡ length d = ap length e ∙ length_front d from j h in
    take_put j k b ys (omega arith) ∙ ap (take j) e ∙ take_at (take j (drop from d)) (drop j d) j l

-- none more come
pub none_more : (j n : ℕ) → eqb n 0 ≡ eqb (j + n) j
none_more j zero = sym (eq-eqb (j + 0) j (omega arith))
none_more j (suc n) = ne_eqb (suc n) 0 (λ e. omega (arith, e)) ∙ sym (ne_eqb (j + suc n) j (λ e. omega (arith, e)))
