-- A run of entries written at once, by `fill` or `copy_from_slice`: it is the store of its entries.
use Rattle.std.proofs.Common.{◌≡◌, Bool, eqb, ◌∙◌, refl, ap, ℕ, List, ◌++◌, ◌+◌, ◌-◌, ◌*◌, ◌/◌, ◌%◌, ◌<◌, ◌≤◌, length, take, drop, replicate, arith, length-take, length-drop, length-append, inl, inr}
use Rattle.std.proofs.lemmas.List.{get_or-take, get_or-drop, get_or-replicate, get_or_append_left, length-replicate}
use Rattle.std.proofs.Math.Seq.{get_or-append_right}
use Rattle.std.proofs.Math.Decide.{dec_lt}
use Rattle.tables.specs.Base.{at}
use Rattle.tables.specs.Rule.{Holds, is, same, each, test}
use Rattle.tables.specs.Store.{Split, store, choose_ext}
use Rattle.tables.specs.StoreLoops.{between, part_inside, inside_part, inside_rest, store_same}

-- the entries from a up to e are ys, the others as they were
abbrev pub written : ℕ → ℕ → List ℕ → List ℕ → List ℕ
written a e xs ys = take a xs ++ (ys ++ drop (e - a) (drop a xs))

-- entry i of them
at_written : (a e i : ℕ) (xs ys : List ℕ) → a ≤ e → e ≤ length xs → length ys ≡ e - a → Split (Holds (between a e i)) (at (written a e xs ys) i) (at ys (i - a)) (at xs i)
at_written a e i xs ys ordered within long =
    let front : length (take a xs) ≡ a = omega (arith, length-take a xs) in
    elim (dec_lt i a) [
      | yes l ↦ inr (λ h. h.0 l, get_or_append_left (take a xs) _ 0 i (omega arith) ∙ get_or-take a xs i 0 l)
      | no l ↦
          let past : at (written a e xs ys) i ≡ at (ys ++ drop (e - a) (drop a xs)) (i - a) = rw front at (get_or-append_right (take a xs) (ys ++ drop (e - a) (drop a xs)) i 0 (omega arith)) in
          elim (dec_lt i e) [
            | yes m ↦ inl ((l, m), past ∙ get_or_append_left ys _ 0 (i - a) (omega arith))
            | no m ↦
                let same_place : a + ((e - a) + ((i - a) - (e - a))) ≡ i = omega arith in
                inr (
                  λ h. m h.1,
                  past ∙ rw long at (get_or-append_right ys (drop (e - a) (drop a xs)) (i - a) 0 (omega arith)) ∙ get_or-drop (e - a) (drop a xs) ((i - a) - (e - a)) 0
                      ∙ get_or-drop a xs ((e - a) + ((i - a) - (e - a))) 0 ∙ ap (at xs) same_place,
                )
          ]
    ]

length_written : (a e : ℕ) (xs ys : List ℕ) → a ≤ e → e ≤ length xs → length ys ≡ e - a → length (written a e xs ys) ≡ length xs
length_written a e xs ys ordered within long =
    simp (length-append, length-take, length-drop) (omega (arith, long))

-- .. is the store of the entries from a up to e
pub run_stored : (a e : ℕ) (xs ys : List ℕ) (g : ℕ → ℕ) → a ≤ e → e ≤ length xs → length ys ≡ e - a → ((i : ℕ) → Holds (between a e i) → at ys (i - a) ≡ g i) → written a e xs ys ≡ store xs (between a e) g
unfolding store
run_stored a e xs ys g ordered within long values = choose_ext (written a e xs ys) (length xs) (between a e) g (at xs) (length_written a e xs ys ordered within long) (λ i l. elim (at_written a e i xs ys ordered within long) [
  | inl h ↦ inl (h.0, h.1 ∙ values i h.0)
  | inr h ↦ inr h
])

-- .. and of a part of n entries
pub part_stored : (n part : ℕ) (xs ys : List ℕ) (g : ℕ → ℕ) → 0 < n → part * n + n ≤ length xs → length ys ≡ part * n + n - part * n
    → ((i : ℕ) → Holds (between (part * n) (part * n + n) i) → at ys (i - part * n) ≡ g i) → written (part * n) (part * n + n) xs ys ≡ store xs (λ i. same (i / n) part) g
part_stored n part xs ys g above within long values =
    run_stored (part * n) (part * n + n) xs ys g (omega arith) within long values
    ∙ store_same xs (between (part * n) (part * n + n)) (λ i. same (i / n) part) g g (λ i l. inside_part n part above i) (λ i l. part_inside n part above i) (λ i l h. refl)

-- a part filled with 0
pub part_cleared : (n part : ℕ) (xs ys : List ℕ) → 0 < n → part * n + n ≤ length xs → ys ≡ replicate (length (take (part * n + n - part * n) (drop (part * n) xs))) 0
    → written (part * n) (part * n + n) xs ys ≡ store xs (λ i. same (i / n) part) (λ i. 0)
part_cleared n part xs ys above within filled =
    let many : length (take (part * n + n - part * n) (drop (part * n) xs)) ≡ part * n + n - part * n = simp (length-take, length-drop) (omega arith) in
    let zeros : ys ≡ replicate (part * n + n - part * n) 0 = rw many at filled in
    part_stored n part xs ys (λ i. 0) above within (rw zeros (length-replicate _ 0)) (λ i h. rw zeros (get_or-replicate (part * n + n - part * n) (i - part * n) 0 0 (omega (arith, h))))

-- entry k of the part of another table that was copied
at_part : (n part k : ℕ) (from ys : List ℕ) → ys ≡ take (part * n + n - part * n) (drop (part * n) from) → k < n → at ys k ≡ at from (part * n + k)
at_part n part k from ys copied below = rw copied (get_or-take (part * n + n - part * n) (drop (part * n) from) k 0 (omega arith) ∙ get_or-drop (part * n) from k 0)

-- a part that became one of another table
pub part_copied : (n other part : ℕ) (from xs ys : List ℕ) → 0 < n → other * n + n ≤ length from → part * n + n ≤ length xs → ys ≡ take (other * n + n - other * n) (drop (other * n) from)
    → written (part * n) (part * n + n) xs ys ≡ store xs (λ i. same (i / n) part) (λ i. at from (other * n + i % n))
part_copied n other part from xs ys above inside within copied =
    part_stored n part xs ys (λ i. at from (other * n + i % n)) above within
    (rw copied (simp (length-take, length-drop) (omega arith)))
    (λ i h. at_part n other (i - part * n) from ys copied (omega (arith, h)) ∙ ap (λ (k : ℕ). at from (other * n + k)) (omega (arith, h, inside_rest n part above i h)))

-- .. the same part of it
pub part_taken : (n part : ℕ) (from xs ys : List ℕ) → 0 < n → part * n + n ≤ length from → part * n + n ≤ length xs → ys ≡ take (part * n + n - part * n) (drop (part * n) from)
    → written (part * n) (part * n + n) xs ys ≡ store xs (λ i. same (i / n) part) (at from)
part_taken n part from xs ys above inside within copied =
    part_stored n part xs ys (at from) above within
    (rw copied (simp (length-take, length-drop) (omega arith)))
    (λ i h. at_part n part (i - part * n) from ys copied (omega (arith, h)) ∙ ap (at from) (omega (arith, h)))

-- what `all_zeros` says of numbers, by the rule that callers name
pub zeros_said : {b : Bool} (n from : ℕ) (xs : List ℕ) → b ≡ test (each n (λ k. is (eqb (at xs (from + k)) 0))) → b ≡ test (each n (λ k. same (at xs (from + k)) 0))
unfolding test
zeros_said n from xs e = e
