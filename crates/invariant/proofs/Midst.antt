-- In the midst of a call: what its first stores leave, and what is noted of them.
use mathlib.Core.Path.{◌≡◌, refl, ap}
use mathlib.Core.Bool.{Bool, true, false, ◌&&◌}
use mathlib.Core.List.{List, [], ◌∷◌}
use mathlib.Core.Logic.{◌⊎◌, inl, inr}
use Prim.Native.Nat.{ℕ, zero, suc, ◌<◌, ◌≤◌}
use native.Mathlib.Omega.{arith}
use lib.Dec.{T, eqb, ltb, ltb→lt}
use lib.ListN.{length}
use Rattle.tables.specs.Base.{if}
use Rattle.tables.specs.Laws.{and_left, and_right}
use Rattle.tables.specs.Rule.{Holds, test, sound}
use Rattle.tables.specs.Store.{store}
use Rattle.sheets.specs.Sheet.{count_in}
use Rattle.model.specs.declared.sizes.Sizes.{Sizes}
use Rattle.model.specs.declared.event.Design.TheVariants.{Create, Delete, Activate, Deactivate}
use Rattle.model.specs.declared.event.Account.TheVariants.{Limit, Move}
use Rattle.model.specs.declared.event.Writeback.TheVariants.{Claim, Truncate, Update, PageDone, MapDone}
use Rattle.model.specs.declared.event.Event.{Event}
use Rattle.model.specs.declared.event.Event.TheVariants as Event
use Rattle.model.specs.State.{Disk, Memory, State, frames, READING}
use Rattle.model.specs.Setters.{on_disk, raise}
use Rattle.model.specs.Writeback
use Rattle.model.specs.Step.{memory_lengths, answer, carried}
use Rattle.model.specs.Import
use Rattle.model.specs.Import.{sheet_of, import_answer, import}
use Rattle.model.specs.Stores as S
use Rattle.model.specs.Stores.{Call, stores, by_answer, made, first}
use Rattle.model.specs.Acts.{World, cutting_in, fed_part, part, allowed}
use Rattle.invariant.proofs.Stores.{first_made, stores_long}

-- create has two stores, no other event more than one
abbrev Creates : Event → Type 0
Creates (Event.Design (Create s q n)) = Unit {0}
Creates (Event.Design (Delete s)) = ⊥
Creates (Event.Design (Activate s)) = ⊥
Creates (Event.Design (Deactivate s)) = ⊥
Creates (Event.Account e) = ⊥
Creates (Event.Page e) = ⊥
Creates (Event.Writeback e) = ⊥
Creates (Event.Waiting e) = ⊥

one_store : (z : Sizes) (st : State) (e : Event) → ¬ (Creates e) → length (stores z st (S.event e)) ≤ 1
unfolding stores
one_store z st (Event.Design (Create s q n)) c = absurd (c tt)
one_store z st (Event.Design (Delete s)) c = omega arith
one_store z st (Event.Design (Activate s)) c = omega arith
one_store z st (Event.Design (Deactivate s)) c = omega arith
one_store z st (Event.Account (Limit q n)) c = omega arith
one_store z st (Event.Account (Move g t m)) c = omega arith
one_store z st (Event.Page e) c = omega arith
one_store z st (Event.Writeback Claim) c = omega arith
one_store z st (Event.Writeback (Truncate s k)) c = omega arith
one_store z st (Event.Writeback (Update s)) c = omega arith
one_store z st (Event.Writeback (PageDone f good)) c = short (eqb ((frames st).frame f).transfer READING) (eqb good 1)
  where
    short : (a b : Bool) → length (if a [] (if b (Writeback.store_frame z st f ∷ []) [])) ≤ 1
    short true b = omega arith
    short false true = omega arith
    short false false = omega arith
one_store z st (Event.Writeback (MapDone s good)) c = short (eqb good 1)
  where
    short : (b : Bool) → length (if b (Writeback.store_image z st s ∷ []) []) ≤ 1
    short true = omega arith
    short false = omega arith
one_store z st (Event.Waiting e) c = omega arith

-- a cut inside a call that a list allows
pub record Inside (z : Sizes) (w : World) (c : Call) (k : ℕ) (junk : Memory) : Type 0 where
  pub up : T w.up
  pub before : k < length (made z w.state c)
  pub lengths : Holds (memory_lengths z junk)

pub inside : (z : Sizes) (w : World) (c : Call) (k : ℕ) (writes updates : ℕ → Bool) (junk : Memory) → T (allowed z w (cutting_in c k writes updates junk)) → Inside z w c k junk
unfolding allowed
inside z w c k writes updates junk t =
    let b : Bool = ltb k (length (made z w.state c)) in
    let m : Bool = test (memory_lengths z junk) in
    let u = and_right w.up (b && m) t in
    record { up = and_left w.up (b && m) t; before = ltb→lt k (length (made z w.state c)) (and_left b m u); lengths = sound (memory_lengths z junk) (and_right b m u) }

-- the world once a number is stored as the highest
abbrev pub raised_in : ℕ → World → World
raised_in n w = record { up = w.up; state = on_disk (raise n) w.state; ledger = w.ledger }

-- before a call's first store the world is as before the call
pub part_none : (z : Sizes) (w : World) (c : Call) → part z w c 0 ≡ w
unfolding part fed_part first
part_none z w (S.event e) = refl
part_none z w (S.importing s q n b) = refl

-- a create that is not refused, its number stored and its slot not
pub record Between (z : Sizes) (w : World) (e : Event) (k : ℕ) : Type 0 where
  pub slot : ℕ
  pub account : ℕ
  pub number : ℕ
  pub event : e ≡ Event.Design (Create slot account number)
  pub carried : answer z w.state e ≡ 0
  pub world : part z w (S.event e) k ≡ raised_in number w

-- an event of at most one store has nothing stored before its last
alone : (z : Sizes) (w : World) (e : Event) (k : ℕ) (junk : Memory) → ¬ (Creates e) → ¬ (Inside z w (S.event e) (suc k) junk)
unfolding made
alone z w e k junk c i = omega (arith, i.before, short (S.answered z w.state (S.event e)) (stores z w.state (S.event e)) (one_store z w.state e c))
  where
    short : (n : ℕ) (fs : List (Disk → Disk)) → length fs ≤ 1 → length (by_answer n fs) ≤ 1
    short zero fs h = h
    short (suc n) fs h = omega arith

between : (z : Sizes) (w : World) (e : Event) (k : ℕ) (junk : Memory) → Creates e → Inside z w (S.event e) (suc k) junk → Between z w e (suc k)
unfolding made S.answered part fed_part
between z w (Event.Design (Create s q n)) k junk c i = let x = go (answer z w.state e) refl i.before in record {
  slot = s;
  account = q;
  number = n;
  event = refl;
  carried = x.0;
  world = ap (λ (st : State). record { up = w.up; state = st; ledger = w.ledger }) x.1;
}
  where
    e : Event
    e = Event.Design (Create s q n)

    one : k < 1 → on_disk (first (suc k) (stores z w.state (S.event e))) w.state ≡ on_disk (raise n) w.state
    one l = let none : k ≡ 0 = omega (arith, l) in rw none (unfold first in unfold stores in refl)

    go : (m : ℕ) → answer z w.state e ≡ m → suc k < length (by_answer m (stores z w.state (S.event e)))
        → (answer z w.state e ≡ 0) × (on_disk (first (suc k) (by_answer m (stores z w.state (S.event e)))) w.state ≡ on_disk (raise n) w.state)
    go zero a l = (a, one (unfold stores in omega (arith, l)))
    go (suc m) a l = absurd (omega (arith, l))
between z w (Event.Design (Delete s)) k junk c i = absurd c
between z w (Event.Design (Activate s)) k junk c i = absurd c
between z w (Event.Design (Deactivate s)) k junk c i = absurd c
between z w (Event.Account e) k junk c i = absurd c
between z w (Event.Page e) k junk c i = absurd c
between z w (Event.Writeback e) k junk c i = absurd c
between z w (Event.Waiting e) k junk c i = absurd c

-- in the midst of an event the world is as before the call, or it is a create between its two stores
pub part_event : (z : Sizes) (w : World) (e : Event) (k : ℕ) (junk : Memory) → Inside z w (S.event e) k junk → (part z w (S.event e) k ≡ w) ⊎ Between z w e k
part_event z w e zero junk i = inl (part_none z w (S.event e))
part_event z w e (suc k) junk i = elim (creates e) [ inl c ↦ inr (between z w e k junk c i) | inr c ↦ absurd (alone z w e k junk c i) ]
  where
    creates : (x : Event) → Creates x ⊎ (¬ (Creates x))
    creates (Event.Design (Create s q n)) = inl tt
    creates (Event.Design (Delete s)) = inr (λ c. c)
    creates (Event.Design (Activate s)) = inr (λ c. c)
    creates (Event.Design (Deactivate s)) = inr (λ c. c)
    creates (Event.Account x) = inr (λ c. c)
    creates (Event.Page x) = inr (λ c. c)
    creates (Event.Writeback x) = inr (λ c. c)
    creates (Event.Waiting x) = inr (λ c. c)

-- in the midst of an import it was not refused, its number is the highest, and its first k records are stored
pub part_import : (z : Sizes) (w : World) (s q n : ℕ) (b : List ℕ) (k : ℕ) (junk : Memory) → Inside z w (S.importing s q n b) (suc k) junk
    → (import_answer z w.state s q n b ≡ 0) × (k ≤ count_in b) × ((part z w (S.importing s q n b) (suc k)).state ≡ on_disk (λ d. Import.made z w.state s q n (sheet_of b) k (raise n d)) w.state)
unfolding part made S.answered
part_import z w s q n b k junk i = go (import_answer z w.state s q n b) refl i.before
  where
    st : State
    st = w.state

    go : (m : ℕ) → import_answer z st s q n b ≡ m → suc k < length (by_answer m (stores z st (S.importing s q n b)))
        → (import_answer z st s q n b ≡ 0) × (k ≤ count_in b) × (on_disk (first (suc k) (by_answer m (stores z st (S.importing s q n b)))) st ≡ on_disk (λ d. Import.made z st s q n (sheet_of b) k (raise n d)) st)
    go zero e l = let less : k ≤ count_in b = omega (arith, l, stores_long z st s q n b) in (e, less, ap (λ (d : Disk). record { disk = d; memory = st.memory }) (first_made z st s q n b k less))
    go (suc m) e l = absurd (omega (arith, l))
