-- The frames packed, a number each, so that a table of them can be lent: which frame a number is, and the frames that a table has.
use Rattle.std.specs.Prelude.{◌≡◌, refl, List, [], ◌∷◌, map, ℕ, zero, suc, ◌+◌, ◌*◌, ◌/◌, ◌%◌, ◌<◌, length, take, set, get_or}
use Rattle.std.proofs.Common.{ap, sym, ◌∙◌, arith}
use Rattle.std.proofs.lemmas.List.{length-map}
use Rattle.std.proofs.Math.ListN.{get_or-map}
use Rattle.tables.specs.Base.{at}
use Rattle.tables.specs.Rule.{Rule, same, some}
use Rattle.model.specs.declared.sizes.Sizes.{Sizes}
use Rattle.model.specs.declared.frame.Frame.{Frame}
use Rattle.model.specs.State.{frame_at, no_frame}
use Rattle.model.specs.Lent.{Ref, Table}

-- a number's bytes from the lowest: two of the page, then one each of used, modified, wired, initial and transfer
unfoldable pub unpack : ℕ → Frame
unpack w = record {
  page = w % 65536;
  used = w / 65536 % 256;
  modified = w / 65536 / 256 % 256;
  wired = w / 65536 / 256 / 256 % 256;
  initial = w / 65536 / 256 / 256 / 256 % 256;
  transfer = w / 65536 / 256 / 256 / 256 / 256 % 256;
}

-- the frames of a table
unfoldable pub unpacked : List ℕ → List Frame
unpacked ws = map unpack ws

-- one of the four numbers from f on has the page's entry
abbrev pub in_four : List ℕ → ℕ → ℕ → Rule
in_four ws e f = some 4 (λ k. same (at ws (f + k) % 65536) e)

-- the frames in use of a table
abbrev pub frames_in : Sizes → List ℕ → List Frame
frames_in z ws = take z.frames (unpacked ws)

-- ── by bare names: the frames in use, as they were passed and as they were left ──
abbrev pub frames_given : Sizes → Ref → List Frame
frames_given z frames = take z.frames (unpacked frames.now)

abbrev pub frames_entered : Sizes → Table → List Frame
frames_entered z frames = take z.frames (unpacked frames.entry.now)

abbrev pub frames_left : Sizes → Table → List Frame
frames_left z frames = take z.frames (unpacked frames.exit.now)

-- ── laws ──
pub unpack_none : unpack 0 ≡ no_frame
unfolding unpack
unpack_none = refl

pub unpack_page : (w : ℕ) → (unpack w).page ≡ w % 65536
unfolding unpack
unpack_page w = refl

-- the lowest byte or two of a number, and what is above them
lowest : (x y : ℕ) → x < 256 → (x + 256 * y) % 256 ≡ x
lowest x y h = omega arith

above : (x y : ℕ) → x < 256 → (x + 256 * y) / 256 ≡ y
above x y h = omega arith

lowest2 : (x y : ℕ) → x < 65536 → (x + 65536 * y) % 65536 ≡ x
lowest2 x y h = omega arith

above2 : (x y : ℕ) → x < 65536 → (x + 65536 * y) / 65536 ≡ y
above2 x y h = omega arith

alone : (x : ℕ) → x < 256 → x % 256 ≡ x
alone x h = omega arith

-- a frame's number: whatever its fields, each within its bytes
pub unpack_packed : (g : Frame) (w : ℕ) → w ≡ g.page + 65536 * (g.used + 256 * (g.modified + 256 * (g.wired + 256 * (g.initial + 256 * g.transfer)))) →
    g.page < 65536 → g.used < 256 → g.modified < 256 → g.wired < 256 → g.initial < 256 → g.transfer < 256 → unpack w ≡ g
unfolding unpack
unpack_packed g w e p u m wi i t =
    let r1 : w / 65536 ≡ g.used + 256 * (g.modified + 256 * (g.wired + 256 * (g.initial + 256 * g.transfer))) = ap (λ (n : ℕ). n / 65536) e ∙ above2 _ _ p in
    let r2 : w / 65536 / 256 ≡ g.modified + 256 * (g.wired + 256 * (g.initial + 256 * g.transfer)) = ap (λ (n : ℕ). n / 256) r1 ∙ above _ _ u in
    let r3 : w / 65536 / 256 / 256 ≡ g.wired + 256 * (g.initial + 256 * g.transfer) = ap (λ (n : ℕ). n / 256) r2 ∙ above _ _ m in
    let r4 : w / 65536 / 256 / 256 / 256 ≡ g.initial + 256 * g.transfer = ap (λ (n : ℕ). n / 256) r3 ∙ above _ _ wi in
    let r5 : w / 65536 / 256 / 256 / 256 / 256 ≡ g.transfer = ap (λ (n : ℕ). n / 256) r4 ∙ above _ _ i in
    let a = ap (λ (n : ℕ). n % 65536) e ∙ lowest2 _ _ p in
    let b = ap (λ (n : ℕ). n % 256) r1 ∙ lowest _ _ u in
    let c = ap (λ (n : ℕ). n % 256) r2 ∙ lowest _ _ m in
    let d = ap (λ (n : ℕ). n % 256) r3 ∙ lowest _ _ wi in
    let f = ap (λ (n : ℕ). n % 256) r4 ∙ lowest _ _ i in
    let h = ap (λ (n : ℕ). n % 256) r5 ∙ alone _ t in
    λ x. record { page = a x; used = b x; modified = c x; wired = d x; initial = f x; transfer = h x }

pub unpacked_length : (ws : List ℕ) → length (unpacked ws) ≡ length ws
unfolding unpacked
unpacked_length ws = length-map ws unpack

pub unpacked_at : (ws : List ℕ) (f : ℕ) → frame_at (unpacked ws) f ≡ unpack (at ws f)
unfolding unpacked
unpacked_at ws f = ap (get_or (map unpack ws) f) (sym unpack_none) ∙ get_or-map unpack ws f 0

pub unpacked_set : (ws : List ℕ) (f w : ℕ) → unpacked (set ws f w) ≡ set (unpacked ws) f (unpack w)
unfolding unpacked
unpacked_set [] f w = refl
unpacked_set (x ∷ xs) zero w = refl
unpacked_set (x ∷ xs) (suc f) w = ap (λ (gs : List Frame). unpack x ∷ gs) (unpacked_set xs f w)
