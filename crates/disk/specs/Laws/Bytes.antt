-- Laws of a sector's bytes: back is the same words, and the same bytes; and what loops of code cite.
use Rattle.std.specs.Prelude.{◌≡◌, refl, List, ℕ, ◌+◌, ◌*◌, ◌/◌, ◌%◌, ◌<◌, ◌≤◌, suc, length, set}
use Rattle.std.proofs.Common.{ap, sym, ◌∙◌, arith}
use Rattle.std.specs.Int.{w32, to_le_bytes}
use borrow.Rule.Slice.PartMut.{put_mid}
use Rattle.std.proofs.lemmas.List.Edits.{sets, sets-eq}
use Rattle.std.proofs.lemmas.Slice.{put_mid-paste}
use Rattle.tables.specs.Base.{at}
use Rattle.tables.specs.Laws.{at_tab0}
use Rattle.tables.specs.TabLaws.{tab_entries}
use Rattle.journal.specs.Device.{Content, sector_words}
use Rattle.disk.specs.Laws.Filling.{Filling, filling_next, filling_to, filling_whole}
use Rattle.disk.specs.Bytes.{sector_bytes, byte_of, bytes_of, number_at, words_of}

-- ── the bytes of one number ──
pub byte_0 : (v : ℕ) → byte_of v 0 ≡ v % 256
unfolding byte_of
byte_0 v = refl

pub byte_1 : (v : ℕ) → byte_of v 1 ≡ v / 256 % 256
unfolding byte_of
byte_1 v = refl

pub byte_2 : (v : ℕ) → byte_of v 2 ≡ v / 65536 % 256
unfolding byte_of
byte_2 v = omega arith

pub byte_3 : (v : ℕ) → byte_of v 3 ≡ v / 16777216 % 256
unfolding byte_of
byte_3 v = omega arith

-- ── a sector's bytes as they are written: those of the first i words stand ──
abbrev pub byte_at : Content → ℕ → ℕ
byte_at c k = byte_of (at c (k / 4)) (k % 4)

-- byte b of word i, as the sector has it
byte_of_holds : (c : Content) (i b : ℕ) → b < 4 → byte_of (at c i) b ≡ byte_at c (4 * i + b)
byte_of_holds c i b h = let e : (4 * i + b) / 4 ≡ i = omega arith in let d : (4 * i + b) % 4 ≡ b = omega arith in rw (e, d)

pub written_next : (c : Content) (i v : ℕ) (bytes : List ℕ) → v ≡ at c i → i < sector_words → Filling sector_bytes (byte_at c) (4 * i) bytes
    → Filling sector_bytes (byte_at c) (4 * (i + 1)) (set (set (set (set bytes (4 * i) (v % 256)) (4 * i + 1) (v / 256 % 256)) (4 * i + 2) (v / 65536 % 256)) (4 * i + 3) (v / 16777216 % 256))
written_next c i v bytes e h s =
    let p = 4 * i in
    let v0 : v % 256 ≡ byte_at c p = rw e (sym (byte_0 (at c i)) ∙ byte_of_holds c i 0 (omega arith) ∙ ap (byte_at c) (omega arith)) in
    let v1 : v / 256 % 256 ≡ byte_at c (p + 1) = rw e (sym (byte_1 (at c i)) ∙ byte_of_holds c i 1 (omega arith)) in
    let v2 : v / 65536 % 256 ≡ byte_at c (p + 2) = rw e (sym (byte_2 (at c i)) ∙ byte_of_holds c i 2 (omega arith)) in
    let v3 : v / 16777216 % 256 ≡ byte_at c (p + 3) = rw e (sym (byte_3 (at c i)) ∙ byte_of_holds c i 3 (omega arith)) in
    let s1 = filling_next p _ (omega arith) v0 s in
    let s2 = filling_to (p + 2) (omega arith) (filling_next (p + 1) _ (omega arith) v1 s1) in
    let s3 = filling_to (p + 3) (omega arith) (filling_next (p + 2) _ (omega arith) v2 s2) in
    filling_to (4 * (i + 1)) (omega arith) (filling_next (p + 3) _ (omega arith) v3 s3)

-- .. or copied at once
pub written_copied : (c : Content) (i k : ℕ) (bytes copied : List ℕ) → copied ≡ to_le_bytes w32 (at c i) → k ≡ 4 → i < sector_words → Filling sector_bytes (byte_at c) (4 * i) bytes
    → Filling sector_bytes (byte_at c) (4 * (i + 1)) (put_mid (4 * i) k bytes copied)
written_copied c i k bytes copied e f h s =
    let p = 4 * i in
    let v = at c i in
    let v0 : v % 256 ≡ byte_at c p = sym (byte_0 v) ∙ byte_of_holds c i 0 (omega arith) ∙ ap (byte_at c) (omega arith) in
    let v1 : v / 256 % 256 ≡ byte_at c (suc p) = sym (byte_1 v) ∙ byte_of_holds c i 1 (omega arith) ∙ ap (byte_at c) (omega arith) in
    let v2 : v / 65536 % 256 ≡ byte_at c (suc (suc p)) = sym (byte_2 v) ∙ byte_of_holds c i 2 (omega arith) ∙ ap (byte_at c) (omega arith) in
    let v3 : v / 16777216 % 256 ≡ byte_at c (suc (suc (suc p))) = sym (byte_3 v) ∙ byte_of_holds c i 3 (omega arith) ∙ ap (byte_at c) (omega arith) in
    let s1 = filling_to (suc p) (omega arith) (filling_next p _ (omega arith) v0 s) in
    let s2 = filling_to (suc (suc p)) (omega arith) (filling_next (suc p) _ (omega arith) v1 s1) in
    let s3 = filling_to (suc (suc (suc p))) (omega arith) (filling_next (suc (suc p)) _ (omega arith) v2 s2) in
    let s4 = filling_to (4 * (i + 1)) (omega arith) (filling_next (suc (suc (suc p))) _ (omega arith) v3 s3) in
    let stand : put_mid p k bytes copied ≡ sets bytes p (to_le_bytes w32 v) = put_mid-paste p k bytes copied (to_le_bytes w32 v) 4 e (sym f) refl ∙ sym (sets-eq (to_le_bytes w32 v) bytes p (omega (arith, s.long))) in
    rw stand s4

pub written_whole : (c : Content) (i : ℕ) (bytes : List ℕ) → sector_words ≤ i → Filling sector_bytes (byte_at c) (4 * i) bytes → bytes ≡ bytes_of c
unfolding bytes_of
written_whole c i bytes h s = filling_whole (4 * i) (omega arith) s

-- ── back after to ──
at_bytes : (c : Content) (j b : ℕ) → j < sector_words → b < 4 → at (bytes_of c) (4 * j + b) ≡ byte_of (at c j) b
unfolding bytes_of
at_bytes c j b h l = at_tab0 sector_bytes (λ i. byte_of (at c (i / 4)) (i % 4)) (4 * j + b) 0 (omega arith) ∙ sym (byte_of_holds c j b l)

-- a number of 32 bits is the number of its bytes
digits : (v : ℕ) → v < 4294967296 → v % 256 + v / 256 % 256 * 256 + v / 65536 % 256 * 65536 + v / 16777216 % 256 * 16777216 ≡ v
digits v h =
    let x : v / 65536 ≡ v / 256 / 256 = omega arith in
    let y : v / 16777216 ≡ v / 256 / 256 / 256 = omega arith in
    let a : v % 256 + v / 256 * 256 ≡ v = omega arith in
    let b : v / 256 % 256 + v / 256 / 256 * 256 ≡ v / 256 = omega arith in
    let d : v / 256 / 256 % 256 + v / 256 / 256 / 256 * 256 ≡ v / 256 / 256 = omega arith in
    let e : v / 256 / 256 / 256 % 256 ≡ v / 256 / 256 / 256 = omega (arith, h) in
    rw (x, y, e) (sums (v % 256) (v / 256 % 256) (v / 256 / 256 % 256) v (v / 256) (v / 256 / 256) (v / 256 / 256 / 256) a b d)
  where
    sums : (p q r v x y z : ℕ) → p + x * 256 ≡ v → q + y * 256 ≡ x → r + z * 256 ≡ y → p + q * 256 + r * 65536 + z * 16777216 ≡ v
    sums p q r v x y z a b d = omega arith

back_one : (c : Content) (j : ℕ) → j < sector_words → at c j < 4294967296 → number_at (bytes_of c) (4 * j) ≡ at c j
unfolding number_at
back_one c j h l =
    let e0 : at (bytes_of c) (4 * j) ≡ at c j % 256 = ap (at (bytes_of c)) (omega arith) ∙ at_bytes c j 0 h (omega arith) ∙ byte_0 (at c j) in
    let e1 : at (bytes_of c) (4 * j + 1) ≡ at c j / 256 % 256 = at_bytes c j 1 h (omega arith) ∙ byte_1 (at c j) in
    let e2 : at (bytes_of c) (4 * j + 2) ≡ at c j / 65536 % 256 = at_bytes c j 2 h (omega arith) ∙ byte_2 (at c j) in
    let e3 : at (bytes_of c) (4 * j + 3) ≡ at c j / 16777216 % 256 = at_bytes c j 3 h (omega arith) ∙ byte_3 (at c j) in
    rw (e0, e1, e2, e3) (digits (at c j) l)

-- A sector of 128 words of 32 bits, to bytes and back, is the same words.
pub back_after_to : (c : Content) → length c ≡ sector_words → ((j : ℕ) → j < sector_words → at c j < 4294967296) → words_of (bytes_of c) ≡ c
unfolding words_of
back_after_to c long small = sym (tab_entries sector_words (λ j. number_at (bytes_of c) (4 * j)) c long (λ j h. sym (back_one c j h (small j h))))
