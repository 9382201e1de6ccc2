-- What is printed: a whole field's line and then the rest; and lines gathered in a buffer.
use Rattle.std.proofs.Common.{◌≡◌, ℕ, zero, suc, ◌+◌, ◌-◌, ◌<◌, ◌≤◌, Bool, true, false, ◌&&◌, ltb, leb, List, [], ◌++◌, Result, Ok, Err, length, sym, refl, ap, ◌∙◌, append_assoc, suc-add, add-one, arith, ltb-true, leb-true}
use Rattle.tables.specs.Base.{if}
use Rattle.model.specs.declared.event.Answer.{Answer}
use Rattle.model.specs.State.{State}
use Rattle.model.specs.Step.{Outcome}
use Rattle.fields.specs.Fields.{field_at}
use Rattle.fields.specs.declared.Field.{Field}
use Rattle.fields.specs.declared.Field.TheVariants.{End, Whole, Cut, Short, Wrong}
use Rattle.fields.proofs.Cases.{ends}
use Rattle.fields.proofs.Pieces.{settled, followed}
use Rattle.lines.specs.Lines.{Wrote, line_of}
use Rattle.lines.proofs.Writing.{both}
use Rattle.replay.specs.declared.input.Step.{Step}
use Rattle.replay.specs.Input.{is_whole, request_of, next_of, room, step_of}
use Rattle.replay.specs.Output.{carried, line_of_event, last_line, printed, printed_from, Ran}
use Rattle.replay.proofs.Forward.{forward}

-- ── one field more than enough changes nothing ──
module _ (offset : ℕ) (s : List ℕ) where
  printed_more : (k i n : ℕ) (st : State) → length s - i ≤ k → printed (suc k) offset s i n st ≡ printed k offset s i n st
  unfolding printed
  printed_more zero i n st h = rw (← ends s i (omega arith)) refl
  printed_more (suc k) i n st h =
      go (is_whole (field_at s i)) refl (λ e. printed_more k (next_of (field_at s i)) (suc n) (carried st (request_of (field_at s i))).left (omega (arith, forward s i e)))
    where
      f : Field
      f = field_at s i

      o : Outcome State
      o = carried st (request_of f)

      go : (b : Bool) → is_whole f ≡ b → (is_whole f ≡ true → printed (suc k) offset s (next_of f) (suc n) o.left ≡ printed k offset s (next_of f) (suc n) o.left)
          → if b (line_of_event (suc n) (request_of f) o ++ printed (suc k) offset s (next_of f) (suc n) o.left) (last_line (offset + i) f)
          ≡ if b (line_of_event (suc n) (request_of f) o ++ printed k offset s (next_of f) (suc n) o.left) (last_line (offset + i) f)
      go true e rest = ap (λ (bytes : List ℕ). line_of_event (suc n) (request_of f) o ++ bytes) (rest e)
      go false e rest = refl

  printed_enough : (more i n : ℕ) (st : State) → printed (more + (length s - i)) offset s i n st ≡ printed_from offset s i n st
  printed_enough zero i n st = ap (λ (k : ℕ). printed k offset s i n st) (omega arith)
  printed_enough (suc more) i n st =
      ap (λ (k : ℕ). printed k offset s i n st) (suc-add more (length s - i)) ∙ printed_more (more + (length s - i)) i n st (omega arith) ∙ printed_enough more i n st

  -- a whole field's line, then the rest
  pub printed_whole : (i n : ℕ) (st : State) → is_whole (field_at s i) ≡ true
      → printed_from offset s i n st
      ≡ line_of_event (suc n) (request_of (field_at s i)) (carried st (request_of (field_at s i)))
      ++ printed_from offset s (next_of (field_at s i)) (suc n) (carried st (request_of (field_at s i))).left
  unfolding printed
  printed_whole i n st e =
      let w = forward s i e in
      let k : ℕ = length s - i - 1 - (length s - next_of (field_at s i)) in
      let a : length s - i ≡ suc (k + (length s - next_of (field_at s i))) = omega (arith, w) in
      ap (λ (m : ℕ). printed m offset s i n st) a ∙ first (k + (length s - next_of (field_at s i)))
      ∙ ap (λ (rest : List ℕ). line_of_event (suc n) (request_of (field_at s i)) (carried st (request_of (field_at s i))) ++ rest)
      (printed_enough k (next_of (field_at s i)) (suc n) (carried st (request_of (field_at s i))).left)
    where
      first : (m : ℕ) → printed (suc m) offset s i n st
          ≡ line_of_event (suc n) (request_of (field_at s i)) (carried st (request_of (field_at s i)))
          ++ printed m offset s (next_of (field_at s i)) (suc n) (carried st (request_of (field_at s i))).left
      first m = rw e refl

-- ── the step that the code takes ──
and_both : (a b : Bool) → a && b ≡ true → (a ≡ true) × (b ≡ true)
and_both true b e = (refl, e)
and_both false b e = absurd (let z : ◌≡◌ {A = ℕ} 0 1 = ap (λ (x : Bool). if x 1 0) e in omega arith)

-- one that is taken is that of a whole field, and its line has room
pub record Taken (step : Step) (f : Field) (r : Bool) : Type 0 where
  pub whole : is_whole f ≡ true
  pub room : r ≡ true
  pub asks : step.asked ≡ request_of f
  pub ends_at : step.next ≡ next_of f

pub step_taken : (step : Step) (f : Field) (r : Bool) → Ok step ≡ step_of f r → Taken step f r
step_taken step f r e = go (is_whole f && r) refl e
  where
    go : (b : Bool) → is_whole f && r ≡ b → ◌≡◌ {A = Result Step Step} (Ok step) (if b (Ok (record { asked = request_of f; next = next_of f })) (Err (record { asked = request_of f; next = next_of f }))) → Taken step f r
    go true t s = let w = and_both (is_whole f) r t in record { whole = w.0; room = w.1; asks = cc; ends_at = cc }
    go false t s = absurd cc

pub roomy : (size n : ℕ) → room size n ≡ true → (size ≤ 4050) × (n < 18446744073709551615)
roomy size n e = let p = and_both (leb size 4050) (ltb n 18446744073709551615) e in (leb-true size 4050 p.0, ltb-true n 18446744073709551615 p.1)

-- ── lines gathered in a buffer ──
whole_settled : (f : Field) → is_whole f ≡ true → settled f ≡ true
whole_settled End e = e
whole_settled (Whole request next) e = refl
whole_settled (Cut next) e = refl
whole_settled Short e = e
whole_settled Wrong e = refl

pub ran_none : (s out : List ℕ) (i n : ℕ) (st : State) → Ran s out out i n st i 0 n st
ran_none s out i n st = record { forth = omega arith; within = λ h. h; bytes = []; wrote = record { buffer = refl; end = omega arith; fits = omega arith; size = refl }; is = λ offset t. refl }

pub ran_more : {s before mid after : List ℕ} {from count place size n end : ℕ} {st now left : State} {a : Answer} {step : Step}
    → Ran s before mid from count st place size n now → Ok step ≡ step_of (field_at s place) (room size n)
    → record { answer = a; left = left } ≡ carried now step.asked
    → Wrote mid after size (line_of (n + 1) step.asked.kind a.refusal a.result) end
    → Ran s before after from count st step.next end (n + 1) left
ran_more {s} {before} {mid} {after} {from} {count} {place} {size} {n} {end} {st} {now} {left} {a} {step} ran e o w = record {
  forth = omega (arith, ran.forth, ends_at, ahead.0);
  within = λ h. omega (arith, ends_at, ahead.1);
  bytes = ran.bytes ++ line_of (n + 1) step.asked.kind a.refusal a.result;
  wrote = both ran.wrote w;
  is = λ offset t. ran.is offset t ∙ ap (λ (rest : List ℕ). ran.bytes ++ rest) (one offset t)
      ∙ sym (append_assoc ran.bytes (line_of (n + 1) step.asked.kind a.refusal a.result) (printed_from offset (s ++ t) step.next (n + 1) left));
}
  where
    taken : Taken step (field_at s place) (room size n)
    taken = step_taken step (field_at s place) (room size n) e

    whole : is_whole (field_at s place) ≡ true
    whole = taken.whole

    ends_at : step.next ≡ next_of (field_at s place)
    ends_at = taken.ends_at

    ahead : (place + 3 ≤ next_of (field_at s place)) × (next_of (field_at s place) ≤ length s)
    ahead = forward s place whole

    one : (offset : ℕ) (t : List ℕ)
        → printed_from offset (s ++ t) place n now ≡ line_of (n + 1) step.asked.kind a.refusal a.result ++ printed_from offset (s ++ t) step.next (n + 1) left
    one offset t =
        let same : field_at (s ++ t) place ≡ field_at s place = followed s t place (whole_settled (field_at s place) whole) in
        printed_whole offset (s ++ t) place n now (ap is_whole same ∙ whole) ∙ (rw (same, ← taken.asks, ← ends_at, ← o, add-one n) refl)

-- a line has room behind those that stand in the buffer
pub ran_room : {s before out : List ℕ} {from count place size n : ℕ} {st now : State} {step : Step} → Ran s before out from count st place size n now
    → Ok step ≡ step_of (field_at s place) (room size n) → 4096 ≤ length before → (size + 46 ≤ length out) × (n < 18446744073709551615)
ran_room {s} {before} {out} {from} {count} {place} {size} {n} {st} {now} {step} ran e p =
    let r = roomy size n (step_taken step (field_at s place) (room size n) e).room in (omega (arith, r.0, p, ran.wrote.size), r.1)
