-- Laws of the header: a look finds the disk of these sizes just where the sector is their header; and what the code cites.
use Rattle.std.specs.Prelude.{◌≡◌, Bool, ℕ, zero, suc, ◌+◌, ◌<◌, ◌≤◌, eqb, length}
use Rattle.std.proofs.Math.Path.{refl, ap, sym}
use Rattle.std.proofs.Common.{◌∙◌, arith, ext_get_or}
use Rattle.std.proofs.Math.Bool.{true, false}
use borrow.Author.Tests.{eq-eqb, ne_eqb, eqb-true}
use Rattle.tables.specs.Base.{at, if}
use Rattle.tables.specs.Laws.{at_zeros, if_yes, if_no}
use Rattle.tables.specs.Rule.{Holds, test, told, untold}
use Rattle.tables.specs.Turn.{learn}
use Rattle.model.specs.declared.sizes.Sizes.{Sizes}
use Rattle.model.specs.Sizes.{most_words, most_records, most_slots, most_pages, most_accounts}
use Rattle.journal.specs.Device.{Content, sector_words}
use Rattle.layout.specs.Laid.{MAGIC1, MAGIC2, VERSION, header}
use Rattle.disk.specs.declared.header.Header.{Header}
use Rattle.disk.specs.declared.header.Header.TheVariants.{Ours, Blank, Foreign, OtherVersion, OtherSizes}
use Rattle.disk.specs.declared.header.Said.{Said}
use Rattle.disk.specs.Header.{disk_fits, zeros_from, sizes_in, looked_at, header_number, sizes_said, said_none, said_of, said_by, said}

module _ (z : Sizes) (c : Content) where
  -- ── the reasons, in order ──
  pub look_blank : true ≡ test (zeros_from 0 c) → Blank ≡ looked_at z c
  unfolding looked_at
  look_blank t = rw (← t)

  module _ (some : false ≡ test (zeros_from 0 c)) where
    pub look_first : ¬ (at c 0 ≡ MAGIC1) → Foreign ≡ looked_at z c
    unfolding looked_at
    look_first h = rw (← some, ne_eqb (at c 0) MAGIC1 h)

    pub look_second : at c 0 ≡ MAGIC1 → ¬ (at c 1 ≡ MAGIC2) → Foreign ≡ looked_at z c
    unfolding looked_at
    look_second a h = rw (← some, eq-eqb (at c 0) MAGIC1 a, ne_eqb (at c 1) MAGIC2 h)

    pub look_version : at c 0 ≡ MAGIC1 → at c 1 ≡ MAGIC2 → ¬ (at c 2 ≡ VERSION) → OtherVersion ≡ looked_at z c
    unfolding looked_at
    look_version a b h = rw (← some, eq-eqb (at c 0) MAGIC1 a, eq-eqb (at c 1) MAGIC2 b, ne_eqb (at c 2) VERSION h)

  -- the magic and the version are there
  pub record Begun : Type 0 where
    pub some : false ≡ test (zeros_from 0 c)
    pub first : at c 0 ≡ MAGIC1
    pub second : at c 1 ≡ MAGIC2
    pub version : at c 2 ≡ VERSION

  begun_is : Begun → looked_at z c ≡ if (test (zeros_from 8 c)) (if (test (sizes_in z c)) Ours OtherSizes) Foreign
  unfolding looked_at
  begun_is k = rw (← k.some, eq-eqb (at c 0) MAGIC1 k.first, eq-eqb (at c 1) MAGIC2 k.second, eq-eqb (at c 2) VERSION k.version)

  pub look_damaged : Begun → false ≡ test (zeros_from 8 c) → Foreign ≡ looked_at z c
  look_damaged k t = sym (begun_is k ∙ rw (← t))

  pub look_sizes : Begun → true ≡ test (zeros_from 8 c) → false ≡ test (sizes_in z c) → OtherSizes ≡ looked_at z c
  look_sizes k t u = sym (begun_is k ∙ rw (← t, ← u))

  pub look_ours : Begun → true ≡ test (zeros_from 8 c) → true ≡ test (sizes_in z c) → Ours ≡ looked_at z c
  look_ours k t u = sym (begun_is k ∙ rw (← t, ← u))

  -- ── a look that finds the disk of these sizes has seen every word ──
  record Seen : Type 0 where
    first : at c 0 ≡ MAGIC1
    second : at c 1 ≡ MAGIC2
    version : at c 2 ≡ VERSION
    behind : Holds (zeros_from 8 c)
    sizes : Holds (sizes_in z c)

  seen : looked_at z c ≡ Ours → Seen
  unfolding looked_at
  seen e = go (test (zeros_from 0 c)) (eqb (at c 0) MAGIC1) (eqb (at c 1) MAGIC2) (eqb (at c 2) VERSION) (test (zeros_from 8 c)) (test (sizes_in z c)) e
      (eqb-true (at c 0) MAGIC1) (eqb-true (at c 1) MAGIC2) (eqb-true (at c 2) VERSION) (λ q. learn (zeros_from 8 c) (sym q)) (λ q. learn (sizes_in z c) (sym q))
    where
      go : (a b d v h s : Bool) → if a Blank (if b (if d (if v (if h (if s Ours OtherSizes) Foreign) OtherVersion) Foreign) Foreign) ≡ Ours
          → (b ≡ true → at c 0 ≡ MAGIC1) → (d ≡ true → at c 1 ≡ MAGIC2) → (v ≡ true → at c 2 ≡ VERSION) → (h ≡ true → Holds (zeros_from 8 c)) → (s ≡ true → Holds (sizes_in z c)) → Seen
      go true b d v h s p f g k l m = absurd (omega (arith, ap header_number p))
      go false false d v h s p f g k l m = absurd (omega (arith, ap header_number p))
      go false true false v h s p f g k l m = absurd (omega (arith, ap header_number p))
      go false true true false h s p f g k l m = absurd (omega (arith, ap header_number p))
      go false true true true false s p f g k l m = absurd (omega (arith, ap header_number p))
      go false true true true true false p f g k l m = absurd (omega (arith, ap header_number p))
      go false true true true true true p f g k l m = record { first = f refl; second = g refl; version = k refl; behind = l refl; sizes = m refl }

-- ── the header word by word ──
header_long : (z : Sizes) → length (header z) ≡ sector_words
unfolding header
header_long z = refl

at_behind : (z : Sizes) (i : ℕ) → at (header z) (8 + i) ≡ 0
unfolding header
at_behind z i = let e : 8 + i ≡ suc (suc (suc (suc (suc (suc (suc (suc i))))))) = omega arith in ap (at (header z)) e ∙ at_zeros 120 i

-- A sector in which the look finds a disk of these sizes is, to the last word, the header of these sizes ..
pub ours_is : (z : Sizes) (c : Content) → length c ≡ sector_words → looked_at z c ≡ Ours → c ≡ header z
unfolding header
ours_is z c long e = ext_get_or 0 c (header z) (long ∙ sym (header_long z)) go
  where
    s : Seen z c
    s = seen z c e

    go : (k : ℕ) → k < length c → at c k ≡ at (header z) k
    go zero l = s.first
    go (suc zero) l = s.second
    go (suc (suc zero)) l = s.version
    go (suc (suc (suc zero))) l = s.sizes.0
    go (suc (suc (suc (suc zero)))) l = s.sizes.1.0
    go (suc (suc (suc (suc (suc zero))))) l = s.sizes.1.1.0
    go (suc (suc (suc (suc (suc (suc zero)))))) l = s.sizes.1.1.1.0
    go (suc (suc (suc (suc (suc (suc (suc zero))))))) l = s.sizes.1.1.1.1
    go (suc (suc (suc (suc (suc (suc (suc (suc i)))))))) l =
        let q : suc (suc (suc (suc (suc (suc (suc (suc i))))))) ≡ 8 + i = omega arith in
        ap (at c) q ∙ s.behind i (omega (arith, l, long)) ∙ sym (at_behind z i) ∙ ap (at (header z)) (sym q)

-- .. and in that header the look finds it.
pub is_ours : (z : Sizes) → looked_at z (header z) ≡ Ours
unfolding header
is_ours z = sym (look_ours z (header z)
    (record { some = sym (untold (zeros_from 0 (header z)) (λ h. omega (arith, h 0 (omega arith)))); first = refl; second = refl; version = refl })
    (sym (told (zeros_from 8 (header z)) (λ i l. at_behind z i)))
    (sym (told (sizes_in z (header z)) (refl, (refl, (refl, (refl, refl)))))))

-- ── the limits, by name ──
pub record Limits (z : Sizes) : Type 0 where
  pub some_words : 0 < z.words
  pub words : z.words ≤ most_words
  pub some_records : 0 < z.records
  pub records : z.records ≤ most_records
  pub some_slots : 0 < z.slots
  pub slots : z.slots ≤ most_slots
  pub some_pages : 0 < z.pages
  pub pages : z.pages ≤ most_pages
  pub some_accounts : 0 < z.accounts
  pub accounts : z.accounts ≤ most_accounts

pub limits : (z : Sizes) → Holds (disk_fits z) → Limits z
limits z (w, (r, (f, (s, (n, (q, b)))))) = record {
  some_words = w.0;
  words = omega (arith, w.1);
  some_records = r.0;
  records = omega (arith, r.1);
  some_slots = s.0;
  slots = omega (arith, s.1);
  some_pages = n.0;
  pages = omega (arith, n.1);
  some_accounts = q.0;
  accounts = omega (arith, q.1);
}

-- ── what is said of the sizes ──
pub number_said : (c : Content) {z : Sizes} {h : Header} {n : ℕ} → z ≡ sizes_said c → h ≡ looked_at z c → n ≡ header_number h → n ≡ header_number (looked_at (sizes_said c) c)
number_said c e f g = g ∙ ap header_number (f ∙ ap (λ (y : Sizes). looked_at y c) e)

module _ (c : Content) (n : ℕ) (e : n ≡ header_number (looked_at (sizes_said c) c)) where
  by_number_holds : said_by n (sizes_said c) ≡ said c
  unfolding said
  by_number_holds = ap (λ (k : ℕ). said_by k (sizes_said c)) e

  pub say_refused : ¬ (n ≡ 0) → said_none n ≡ said c
  unfolding said_by
  say_refused h = sym (if_no n 0 _ _ h) ∙ by_number_holds

  pub say_out : n ≡ 0 → false ≡ test (disk_fits (sizes_said c)) → said_none 5 ≡ said c
  unfolding said_by
  say_out h t = sym (if_yes n 0 (if (test (disk_fits (sizes_said c))) (said_of (sizes_said c)) (said_none 5)) (said_none n) h ∙ rw (← t)) ∙ by_number_holds

  pub say_sizes : n ≡ 0 → true ≡ test (disk_fits (sizes_said c)) → said_of (sizes_said c) ≡ said c
  unfolding said_by
  say_sizes h t = sym (if_yes n 0 (if (test (disk_fits (sizes_said c))) (said_of (sizes_said c)) (said_none 5)) (said_none n) h ∙ rw (← t)) ∙ by_number_holds

-- ── what the numbers that C sees tell ──
ours_number : (h : Header) → header_number h ≡ 0 → h ≡ Ours
ours_number Ours e = refl
ours_number Blank e = absurd (omega (arith, e))
ours_number Foreign e = absurd (omega (arith, e))
ours_number OtherVersion e = absurd (omega (arith, e))
ours_number OtherSizes e = absurd (omega (arith, e))

-- A sector whose look has the number 0 is the header of these sizes.
pub zero_is : (z : Sizes) (c : Content) → length c ≡ sector_words → header_number (looked_at z c) ≡ 0 → c ≡ header z
zero_is z c long e = ours_is z c long (ours_number (looked_at z c) e)

-- A sector that says sizes is their header, and they are within their limits.
pub said_is : (c : Content) → length c ≡ sector_words → (said c).refusal ≡ 0 → (c ≡ header (sizes_said c)) × Holds (disk_fits (sizes_said c))
unfolding said said_by
said_is c long e =
    let both = go (header_number (looked_at (sizes_said c) c)) (test (disk_fits (sizes_said c))) e in
    (zero_is (sizes_said c) c long both.0, learn (disk_fits (sizes_said c)) (sym both.1))
  where
    go : (n : ℕ) (b : Bool) → (if (eqb n 0) (if b (said_of (sizes_said c)) (said_none 5)) (said_none n)).refusal ≡ 0 → (n ≡ 0) × (b ≡ true)
    go zero true p = (refl, refl)
    go zero false p = absurd (omega (arith, p))
    go (suc n) b p = absurd (omega (arith, p, ap (λ (s : Said). s.refusal) (if_no (suc n) 0 (if b (said_of (sizes_said c)) (said_none 5)) (said_none (suc n)) (λ x. omega (arith, x)))))
