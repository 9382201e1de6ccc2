-- Laws of commit sectors: 128 words, what each is, and that a valid one is the commit sector of the store that it names.
use Rattle.std.specs.Prelude.{◌≡◌, ℕ, zero, suc, ◌+◌, ◌-◌, ◌<◌, ◌≤◌, true, ◌&&◌, T, List, [], ◌∷◌, ◌++◌, length, ◌==◌, nat_le, slice_set, refl}
use Rattle.std.proofs.Common.{ap, sym, ◌∙◌, arith, not-suc-le-zero, leb→le, length-append, length-set, ext_get_or, get_or-set_same, get_or-set_other}
use Rattle.std.specs.Prelude.{replicate, drop}
use borrow.Rule.Slice.PartMut.{put_mid}
use Rattle.std.proofs.Math.Path.{subst}
use Rattle.std.proofs.Math.Decide.{dec_lt, ℕ_discrete}
use Rattle.std.proofs.Math.Dec.{eqb→eq}
use Rattle.tables.specs.Base.{at, tab}
use Rattle.tables.specs.Laws.{T→true, and_left, and_right, and_intro, at_tab0, length_tab}
use Rattle.tables.specs.TabLaws.{tab_entries}
use Rattle.tables.specs.Rule.{each, below, test, Holds, sound, complete}
use Rattle.journal.specs.Device.{Content, sector_words}
use Rattle.journal.specs.Layout.{Store, MAGIC, most_homes, zeros, commit_words, homes_of, commit_of, count_fits, fits, homes_there, zeros_behind, valid, named}

-- ── zeros behind a list ──
length_zeros : (n : ℕ) → length (zeros n) ≡ n
unfolding zeros
length_zeros zero = refl
length_zeros (suc n) = ap suc (length_zeros n)

at_zeros : (n i : ℕ) → at (zeros n) i ≡ 0
unfolding zeros
at_zeros zero i = refl
at_zeros (suc n) zero = refl
at_zeros (suc n) (suc i) = at_zeros n i

-- they are what is read past the list's end
at_padded : (xs : List ℕ) (n i : ℕ) → at (xs ++ zeros n) i ≡ at xs i
at_padded [] n i = at_zeros n i
at_padded (x ∷ xs) n zero = refl
at_padded (x ∷ xs) n (suc i) = at_padded xs n i

pub past_end : (xs : List ℕ) (i : ℕ) → length xs ≤ i → at xs i ≡ 0
past_end [] i h = refl
past_end (x ∷ xs) zero h = absurd (omega (arith, h))
past_end (x ∷ xs) (suc i) h = past_end xs i (omega arith)

-- ── a commit sector, word by word ──
pub at_home : (n : ℕ) (homes : List ℕ) (i : ℕ) → at (commit_words n homes) (3 + i) ≡ at homes i
unfolding commit_words
at_home n homes i = let e : 3 + i ≡ suc (suc (suc i)) = omega arith in ap (at (MAGIC ∷ n ∷ length homes ∷ (homes ++ zeros (most_homes - length homes)))) e ∙ at_padded homes (most_homes - length homes) i

pub commit_long : (n : ℕ) (homes : List ℕ) → length homes ≤ most_homes → length (commit_words n homes) ≡ sector_words
unfolding commit_words
commit_long n homes h = let k = most_homes - length homes in omega (arith, h, length-append homes (zeros k), length_zeros k)

-- A sector of 128 words with these entries is the commit sector.
pub commit_is : (n : ℕ) (homes c : List ℕ) → length homes ≤ most_homes → length c ≡ sector_words → at c 0 ≡ MAGIC → at c 1 ≡ n → at c 2 ≡ length homes
    → ((i : ℕ) → i < most_homes → at c (3 + i) ≡ at homes i) → c ≡ commit_words n homes
unfolding commit_words
commit_is n homes c small long magic number count each-home = ext_get_or 0 c (commit_words n homes) (long ∙ sym (commit_long n homes small)) go
  where
    go : (k : ℕ) → k < length c → at c k ≡ at (commit_words n homes) k
    go zero l = magic
    go (suc zero) l = number
    go (suc (suc zero)) l = count
    go (suc (suc (suc i))) l = let e : suc (suc (suc i)) ≡ 3 + i = omega arith in ap (at c) e ∙ each-home i (omega (arith, l, long)) ∙ sym (at_home n homes i) ∙ ap (at (commit_words n homes)) (sym e)

-- ── a commit sector as it is written: the first i home sectors' words stand ──
pub record Filled (homes : List ℕ) (i : ℕ) (words : List ℕ) : Type 0 where
  pub long : length words ≡ sector_words
  pub stands : (k : ℕ) → k < i → at words (3 + k) ≡ at homes k

pub filled_none : (homes words : List ℕ) → length words ≡ sector_words → Filled homes 0 words
filled_none homes words e = record { long = e; stands = λ k l. absurd (not-suc-le-zero l) }

pub filled_next : (homes : List ℕ) (i : ℕ) (words : List ℕ) → Filled homes i words → 3 + i < sector_words → Filled homes (i + 1) (slice_set words (3 + i) (at homes i))
filled_next homes i words s h = record {
  long = length-set words (3 + i) (at homes i) ∙ s.long;
  stands = λ k l. elim (ℕ_discrete k i) [
    | yes e ↦ rw e (get_or-set_same words (3 + i) (at homes i) 0 (omega (arith, s.long)))
    | no e ↦ get_or-set_other words (3 + i) (3 + k) (at homes i) 0 (omega arith) ∙ s.stands k (omega arith)
  ];
}

-- .. and the three words before them
pub filled_whole : (n : ℕ) (homes words : List ℕ) (i : ℕ) → most_homes ≤ i → length homes ≤ most_homes → Filled homes i words → slice_set (slice_set (slice_set words 0 MAGIC) 1 n) 2 (length homes) ≡ commit_words n homes
filled_whole n homes words i h small s =
    let a = slice_set words 0 MAGIC in
    let b = slice_set a 1 n in
    let count = length homes in
    let la : length a ≡ length words = length-set words 0 MAGIC in
    let lb : length b ≡ length words = length-set a 1 n ∙ la in
    commit_is n homes (slice_set b 2 count) small (length-set b 2 count ∙ lb ∙ s.long)
    (get_or-set_other b 2 0 count 0 (omega arith) ∙ get_or-set_other a 1 0 n 0 (omega arith) ∙ get_or-set_same words 0 MAGIC 0 (omega (arith, s.long)))
    (get_or-set_other b 2 1 count 0 (omega arith) ∙ get_or-set_same a 1 n 0 (omega (arith, la, s.long)))
    (get_or-set_same b 2 count 0 (omega (arith, lb, s.long)))
    (λ k l. get_or-set_other b 2 (3 + k) count 0 (omega arith) ∙ get_or-set_other a 1 (3 + k) n 0 (omega arith) ∙ get_or-set_other words 0 (3 + k) MAGIC 0 (omega arith) ∙ s.stands k (omega arith))

-- .. or zeros, then the three words, then the home sectors at once
zeros_are : (n : ℕ) → replicate n 0 ≡ zeros n
unfolding zeros
zeros_are zero = refl
zeros_are (suc n) = ap (◌∷◌ 0) (zeros_are n)

drop_zeros : (k n m : ℕ) → n ≡ k + m → drop k (replicate n 0) ≡ zeros m
drop_zeros zero n m e = let q : n ≡ m = omega (arith, e) in rw q (zeros_are m)
drop_zeros (suc k) zero m e = absurd (omega (arith, e))
drop_zeros (suc k) (suc n) m e = drop_zeros k n m (omega (arith, e))

pub written : (n k : ℕ) (homes zeroed copied : List ℕ) → k ≡ length homes → length homes ≤ most_homes → zeroed ≡ replicate sector_words 0 → copied ≡ homes
    → put_mid 3 k (slice_set (slice_set (slice_set zeroed 0 MAGIC) 1 n) 2 (length homes)) copied ≡ commit_words n homes
unfolding commit_words
written n k homes zeroed copied e small z f = rw (e, z, f) (ap (λ (rest : List ℕ). MAGIC ∷ n ∷ length homes ∷ (homes ++ rest)) (drop_zeros (length homes) most_homes (most_homes - length homes) (omega (arith, small))))

-- ── what it names ──
pub length_homes : (s : Store) → length (homes_of s) ≡ length s
unfolding homes_of
length_homes [] = refl
length_homes (w ∷ s) = ap suc (length_homes s)

pub number_of : (n : ℕ) (s : Store) → at (commit_of n s) 1 ≡ n
unfolding commit_of commit_words
number_of n s = refl

magic_of : (n : ℕ) (s : Store) → T (at (commit_of n s) 0 == MAGIC)
unfolding commit_of commit_words
magic_of n s = tt

count_of : (n : ℕ) (s : Store) → at (commit_of n s) 2 ≡ length s
unfolding commit_of commit_words
count_of n s = length_homes s

home_of : (n : ℕ) (s : Store) (i : ℕ) → at (commit_of n s) (3 + i) ≡ at (homes_of s) i
unfolding commit_of
home_of n s i = at_home n (homes_of s) i

pub named_of : (n : ℕ) (s : Store) → named (commit_of n s) ≡ homes_of s
unfolding named
named_of n s = ap (λ (k : ℕ). tab k (λ i. at (commit_of n s) (3 + i)) 0) (count_of n s) ∙ sym (tab_entries (length s) (λ i. at (commit_of n s) (3 + i)) (homes_of s) (length_homes s) (λ k h. sym (home_of n s k)))

-- ── a store that fits ──
module _ (most room : ℕ) (s : Store) (t : T (fits most room s)) where
  counts : T (count_fits most (length s))
  unfolding fits
  counts = and_left (count_fits most (length s)) (test (each (length s) (λ i. below (at (homes_of s) i) room))) t

  there : Holds (each (length s) (λ i. below (at (homes_of s) i) room))
  unfolding fits
  there = sound (each (length s) (λ i. below (at (homes_of s) i) room)) (and_right (count_fits most (length s)) (test (each (length s) (λ i. below (at (homes_of s) i) room))) t)

  -- it is no longer than an area
  pub in_area : length s ≤ most
  in_area = leb→le (length s) most (and_left (nat_le (length s) most) (nat_le (length s) most_homes) counts)

  -- .. and than a commit sector can name
  pub in_sector_holds : length s ≤ most_homes
  in_sector_holds = leb→le (length s) most_homes (and_right (nat_le (length s) most) (nat_le (length s) most_homes) counts)

  -- its commit sector is a sector
  pub commit_whole : (n : ℕ) → length (commit_of n s) ≡ sector_words
  unfolding commit_of
  commit_whole n = commit_long n (homes_of s) (omega (arith, length_homes s, in_sector_holds))

  -- .. and valid
  pub valid_of : (n : ℕ) → valid most room (commit_of n s) ≡ true
  unfolding valid
  valid_of n = rw (count_of n s) (T→true _ (and_intro (at (commit_of n s) 0 == MAGIC) _ (magic_of n s) (and_intro (count_fits most (length s)) _ counts (and_intro (test (homes_there (length s) room (commit_of n s))) _ homes behind))))
    where
      homes : T (test (homes_there (length s) room (commit_of n s)))
      homes = complete (homes_there (length s) room (commit_of n s)) (λ i h. subst (λ (x : ℕ). x < room) (sym (home_of n s i)) (there i h))

      behind : T (test (zeros_behind (length s) (commit_of n s)))
      behind = complete (zeros_behind (length s) (commit_of n s)) (λ i h. let e : 3 + length s + i ≡ 3 + (length s + i) = omega arith in ap (at (commit_of n s)) e ∙ home_of n s (length s + i) ∙ past_end (homes_of s) (length s + i) (omega (arith, length_homes s)))

-- ── a valid sector is the commit sector of the store that it names, to the last word ──
module _ (most room : ℕ) (c : Content) (long : length c ≡ sector_words) (t : T (valid most room c)) where
  rest : T (count_fits most (at c 2) && (test (homes_there (at c 2) room c) && test (zeros_behind (at c 2) c)))
  unfolding valid
  rest = and_right (at c 0 == MAGIC) _ t

  magic_there : at c 0 ≡ MAGIC
  unfolding valid
  magic_there = eqb→eq (at c 0) MAGIC (and_left (at c 0 == MAGIC) _ t)

  small : at c 2 ≤ most_homes
  small = leb→le (at c 2) most_homes (and_right (nat_le (at c 2) most) (nat_le (at c 2) most_homes) (and_left (count_fits most (at c 2)) _ rest))

  behind : Holds (zeros_behind (at c 2) c)
  behind = sound (zeros_behind (at c 2) c) (and_right (test (homes_there (at c 2) room c)) _ (and_right (count_fits most (at c 2)) _ rest))

  length_named : length (named c) ≡ at c 2
  unfolding named
  length_named = length_tab (at c 2) (λ i. at c (3 + i)) 0

  at_named : (i : ℕ) → i < at c 2 → at (named c) i ≡ at c (3 + i)
  unfolding named
  at_named i h = at_tab0 (at c 2) (λ k. at c (3 + k)) i 0 h

  pub valid_is : c ≡ commit_words (at c 1) (named c)
  valid_is = commit_is (at c 1) (named c) c (omega (arith, length_named, small)) long magic_there refl (sym length_named) (λ i h. elim (dec_lt i (at c 2)) [
    | yes l ↦ sym (at_named i l)
    | no l ↦ let e : 3 + i ≡ 3 + at c 2 + (i - at c 2) = omega arith in ap (at c) e ∙ behind (i - at c 2) (omega arith) ∙ sym (past_end (named c) i (omega (arith, length_named)))
  ])
