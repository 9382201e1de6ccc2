-- The pieces make the whole: whatever pieces the reads bring, what goes out is what the definition prints for all of the input.
use Rattle.std.proofs.Common.{◌≡◌, ℕ, zero, suc, ◌+◌, ◌-◌, ◌≤◌, Bool, true, false, not, T, eqb, List, [], ◌∷◌, ◌++◌, length, take, drop, sym, refl, ap, ◌∙◌, append_assoc, append-nil, add-zero, arith, length-drop, take-append-drop, length-take-le, take-take, take_at, eq-eqb, ne_eqb}
use lib.Seq.{sets-eq, drop-append-le}
use Rattle.tables.specs.Base.{if}
use Rattle.model.specs.declared.request.Request.{Request}
use Rattle.model.specs.State.{State}
use Rattle.fields.specs.Fields.{field_at}
use Rattle.fields.specs.declared.Field.{Field}
use Rattle.fields.specs.declared.Field.TheVariants.{End, Whole, Cut, Short, Wrong}
use Rattle.fields.proofs.Cases.{ends}
use Rattle.fields.proofs.Pieces.{settled, followed, on_by, dropped}
use Rattle.lines.specs.Lines.{header, bad_field}
use Rattle.replay.specs.declared.input.Reader.{Reader}
use Rattle.replay.specs.declared.input.Next.{Next}
use Rattle.replay.specs.Input.{cut, is_whole, request_of, next_of, follows, Refilled}
use Rattle.replay.specs.Output.{carried, line_of_event, last_line, printed, printed_from, blank, started_from, output}
use Rattle.replay.proofs.Front.{none_more}
use Rattle.replay.specs.Pieces.{joined, is_none, coming, Round, out, Prints, again, more, stop, bad}

-- ── what is printed from a place on does not look at the bytes before it ──
printed_back : (most offset d : ℕ) (s : List ℕ) (i n : ℕ) (st : State) → printed most offset s (d + i) n st ≡ printed most (offset + d) (drop d s) i n st
unfolding printed
printed_back zero offset d s i n st = refl
printed_back (suc most) offset d s i n st = rw (dropped d s i) (go (field_at (drop d s) i) (λ next request. printed_back most offset d s next (suc n) (carried st request).left))
  where
    place : offset + (d + i) ≡ offset + d + i
    place = omega arith

    go : (f : Field)
        → ((next : ℕ) (request : Request) → printed most offset s (d + next) (suc n) (carried st request).left ≡ printed most (offset + d) (drop d s) next (suc n) (carried st request).left)
        → if (is_whole (on_by d f)) (line_of_event (suc n) (request_of (on_by d f)) (carried st (request_of (on_by d f))) ++ printed most offset s (next_of (on_by d f)) (suc n) (carried st (request_of (on_by d f))).left) (last_line (offset + (d + i)) (on_by d f))
        ≡ if (is_whole f) (line_of_event (suc n) (request_of f) (carried st (request_of f)) ++ printed most (offset + d) (drop d s) (next_of f) (suc n) (carried st (request_of f)).left) (last_line (offset + d + i) f)
    go End rest = refl
    go (Whole request next) rest = ap (λ (l : List ℕ). line_of_event (suc n) request (carried st request) ++ l) (rest next request)
    go (Cut next) rest = ap (λ (l : List ℕ). line_of_event (suc n) cut (carried st cut) ++ l) (rest next cut)
    go Short rest = ap bad_field place
    go Wrong rest = ap bad_field place

-- from the place d of s on, or from the start of what is left behind it
from_start_holds : (offset d : ℕ) (s : List ℕ) (n : ℕ) (st : State) → printed_from offset s d n st ≡ printed_from (offset + d) (drop d s) 0 n st
from_start_holds offset d s n st =
    let most : length s - d ≡ length (drop d s) - 0 = omega (arith, length-drop d s) in
    ap (λ (k : ℕ). printed k offset s d n st) most ∙ ap (λ (i : ℕ). printed (length (drop d s) - 0) offset s i n st) (sym (add-zero d))
    ∙ printed_back (length (drop d s) - 0) offset d s 0 n st

-- where no whole field stands, the last line
last : (offset : ℕ) (s : List ℕ) (i n : ℕ) (st : State) → is_whole (field_at s i) ≡ false → printed_from offset s i n st ≡ last_line (offset + i) (field_at s i)
unfolding printed
last offset s i n st e = go (length s - i) refl
  where
    go : (k : ℕ) → length s - i ≡ k → printed k offset s i n st ≡ last_line (offset + i) (field_at s i)
    go zero h = rw (← ends s i (omega (arith, h))) refl
    go (suc k) h = rw e refl

-- ── a round ──
module _ {s : List ℕ} {from n : ℕ} {st : State} {ended : Bool} {next : Next} (r : Round s from n st ended next) where
  out_is : out r ≡ r.ran.bytes
  out_is =
      let w = r.ran.wrote in
      ap (take r.size) (w.buffer ∙ sets-eq r.ran.bytes r.before 0 (omega (arith, w.end, w.fits)))
      ∙ take_at r.ran.bytes (drop (0 + length r.ran.bytes) r.before) r.size (omega (arith, w.end))

  -- what it puts out, and then what is printed from where it ends
  goes_on_holds : (offset : ℕ) (t : List ℕ) → printed_from offset (s ++ t) from n st ≡ out r ++ printed_from offset (s ++ t) r.to r.count r.left
  goes_on_holds offset t = r.ran.is offset t ∙ ap (λ (bytes : List ℕ). bytes ++ printed_from offset (s ++ t) r.to r.count r.left) (sym out_is)

-- ── what follows a round ──
abbrev kind : Next → ℕ
kind Next.Again = 0
kind Next.More = 1
kind Next.Stop = 2
kind Next.Bad = 3

apart : {a b : Next} → a ≡ b → T (not (eqb (kind a) (kind b))) → ⊥
apart {a} {b} e = go (eqb (kind a) (kind b)) (eq-eqb (kind a) (kind b) (ap kind e))
  where
    go : (t : Bool) → t ≡ true → T (not t) → ⊥
    go true e h = h
    go false e h = let z : ◌≡◌ {A = ℕ} 0 1 = ap (λ (b : Bool). if b 1 0) e in omega arith

-- more input is asked for only while it has not ended
more_open : (ended : Bool) (f : Field) → Next.More ≡ follows ended f → ended ≡ false
more_open false f e = refl
more_open true End e = absurd (apart e tt)
more_open true (Whole request next) e = absurd (apart e tt)
more_open true (Cut next) e = absurd (apart e tt)
more_open true Short e = absurd (apart e tt)
more_open true Wrong e = absurd (apart e tt)

module _ (offset : ℕ) (s : List ℕ) (i n : ℕ) (st : State) (pieces : List (List ℕ)) where
  -- nothing follows the end
  ended_none : (ended : Bool) → Next.Stop ≡ follows ended (field_at s i) → printed_from offset (s ++ coming ended pieces) i n st ≡ []
  ended_none ended e = go ended (field_at s i) refl e
    where
      go : (ended : Bool) (f : Field) → field_at s i ≡ f → Next.Stop ≡ follows ended f → printed_from offset (s ++ coming ended pieces) i n st ≡ []
      go true End h e =
          let same : field_at (s ++ []) i ≡ End = ap (λ (x : List ℕ). field_at x i) (append-nil s) ∙ h in
          last offset (s ++ []) i n st (ap is_whole same) ∙ ap (last_line (offset + i)) same
      go false End h e = absurd (apart e tt)
      go ended (Whole request next) h e = absurd (apart e tt)
      go ended (Cut next) h e = absurd (apart e tt)
      go true Short h e = absurd (apart e tt)
      go false Short h e = absurd (apart e tt)
      go ended Wrong h e = absurd (apart e tt)

  -- a bad field is bad whatever follows it, and a short one where nothing does
  bad_told : (ended : Bool) → Next.Bad ≡ follows ended (field_at s i) → printed_from offset (s ++ coming ended pieces) i n st ≡ bad_field (offset + i)
  bad_told ended e = go ended (field_at s i) refl e
    where
      go : (ended : Bool) (f : Field) → field_at s i ≡ f → Next.Bad ≡ follows ended f → printed_from offset (s ++ coming ended pieces) i n st ≡ bad_field (offset + i)
      go true End h e = absurd (apart e tt)
      go false End h e = absurd (apart e tt)
      go ended (Whole request next) h e = absurd (apart e tt)
      go ended (Cut next) h e = absurd (apart e tt)
      go true Short h e =
          let same : field_at (s ++ []) i ≡ Short = ap (λ (x : List ℕ). field_at x i) (append-nil s) ∙ h in
          last offset (s ++ []) i n st (ap is_whole same) ∙ ap (last_line (offset + i)) same
      go false Short h e = absurd (apart e tt)
      go ended Wrong h e =
          let same : field_at (s ++ coming ended pieces) i ≡ Wrong = followed s (coming ended pieces) i (ap settled h) ∙ h in
          last offset (s ++ coming ended pieces) i n st (ap is_whole same) ∙ ap (last_line (offset + i)) same

-- ── all rounds ──
next_piece : (piece : List ℕ) (pieces : List (List ℕ)) → joined (piece ∷ pieces) ≡ piece ++ coming (is_none piece) pieces
next_piece [] pieces = refl
next_piece (b ∷ piece) pieces = refl

whole : {offset : ℕ} {s : List ℕ} {from n : ℕ} {st : State} {ended : Bool} {pieces : List (List ℕ)} {bytes : List ℕ}
    → Prints offset s from n st ended pieces bytes → from ≤ length s → bytes ≡ printed_from offset (s ++ coming ended pieces) from n st
whole {offset} {s} {ended} {pieces} (again r p) h =
    ap (λ (rest : List ℕ). out r ++ rest) (whole p (r.ran.within h)) ∙ sym (goes_on_holds r offset (coming ended pieces))
whole {offset} {s} {from} {n} {st} {ended} (more {piece = piece} {pieces = pieces} r p) h =
    let to = r.to in
    let rest = coming (is_none piece) pieces in
    let x : List ℕ = s ++ joined (piece ∷ pieces) in
    let left : drop to x ≡ (drop to s ++ piece) ++ rest =
    drop-append-le to s (joined (piece ∷ pieces)) (r.ran.within h) ∙ ap (λ (l : List ℕ). drop to s ++ l) (next_piece piece pieces) ∙ sym (append_assoc (drop to s) piece rest) in
    let from-there : printed_from offset x to r.count r.left ≡ printed_from (offset + to) ((drop to s ++ piece) ++ rest) 0 r.count r.left =
    from_start_holds offset to x r.count r.left ∙ ap (λ (l : List ℕ). printed_from (offset + to) l 0 r.count r.left) left in
    let awaited : coming ended (piece ∷ pieces) ≡ joined (piece ∷ pieces) = ap (λ (b : Bool). coming b (piece ∷ pieces)) (more_open ended (field_at s to) r.follow) in
    ap (λ (l : List ℕ). out r ++ l) (whole p (omega arith) ∙ sym from-there) ∙ sym (goes_on_holds r offset (joined (piece ∷ pieces)))
    ∙ ap (λ (l : List ℕ). printed_from offset (s ++ l) from n st) (sym awaited)
whole {offset} {s} {ended} {pieces} (stop r) h =
    sym (goes_on_holds r offset (coming ended pieces) ∙ ap (λ (l : List ℕ). out r ++ l) (ended_none offset s r.to r.count r.left pieces ended r.follow) ∙ append-nil (out r))
whole {offset} {s} {ended} {pieces} (bad r) h =
    sym (goes_on_holds r offset (coming ended pieces) ∙ ap (λ (l : List ℕ). out r ++ l) (bad_told offset s r.to r.count r.left pieces ended r.follow))

-- The program starts with no bytes; whatever pieces its reads bring, the header and what its rounds put out are the output for all of the input.
pub pieces_make_the_whole : (pieces : List (List ℕ)) (bytes : List ℕ) → Prints 0 [] 0 0 (started_from blank).left false pieces bytes → header ++ bytes ≡ output (joined pieces)
unfolding output
pieces_make_the_whole pieces bytes p = ap (λ (rest : List ℕ). header ++ rest) (whole p (omega arith))

-- ── a refill is a piece read behind what is not used yet ──
take_of_drop : (a b : ℕ) (l : List ℕ) → take (a - b) (drop b l) ≡ drop b (take a l)
take_of_drop zero b l = let z : 0 - b ≡ 0 = omega arith in ap (λ (k : ℕ). take k (drop b l)) z ∙ sym (drop_none b)
  where
    drop_none : (b : ℕ) → drop b (take 0 l) ≡ []
    drop_none zero = refl
    drop_none (suc b) = refl
take_of_drop (suc a) zero l = let z : suc a - 0 ≡ suc a = omega arith in ap (λ (k : ℕ). take k l) z
take_of_drop (suc a) (suc b) [] = take_none (suc a - suc b)
  where
    take_none : (k : ℕ) → ◌≡◌ {A = List ℕ} (take k []) []
    take_none zero = refl
    take_none (suc k) = refl
take_of_drop (suc a) (suc b) (x ∷ l) = let z : suc a - suc b ≡ a - b = omega arith in ap (λ (k : ℕ). take k (drop b l)) z ∙ take_of_drop a b l

pub record Piece (before after : List ℕ) (old new : Reader) : Type 0 where
  pub piece : List ℕ
  pub joins : take new.filled after ≡ drop old.place (take old.filled before) ++ piece
  pub none : new.ended ≡ is_none piece

none_by_length : (l : List ℕ) (n : ℕ) → length l ≡ n → is_none l ≡ eqb n 0
none_by_length [] n e = ap (λ (k : ℕ). eqb k 0) e
none_by_length (x ∷ l) n e = sym (ne_eqb n 0 (λ z. omega (arith, e, z)))

pub refill_piece : {before after : List ℕ} {old new : Reader} → Refilled before after old new → Piece before after old new
refill_piece {before} {after} {old} {new} r =
    let k : ℕ = old.filled - old.place in
    let all : new.filled ≡ k + (new.filled - k) = omega (arith, r.grown) in
    let size : length (drop k (take new.filled after)) ≡ new.filled - k = length-drop k (take new.filled after) ∙ ap (λ (m : ℕ). m - k) (length-take-le new.filled after r.within) in
    record {
      piece = drop k (take new.filled after);
      joins = sym (take-append-drop k (take new.filled after))
          ∙ ap (λ (l : List ℕ). l ++ drop k (take new.filled after)) (take-take k new.filled after r.grown ∙ r.kept ∙ take_of_drop old.filled old.place before);
      none = r.ended ∙ ap (λ (m : ℕ). eqb m k) all ∙ sym (none_more k (new.filled - k)) ∙ sym (none_by_length (drop k (take new.filled after)) (new.filled - k) size);
    }
