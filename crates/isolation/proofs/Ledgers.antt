-- Whatever the two boards' ledgers note keeps what they tell alike.
use mathlib.Core.Path.{◌≡◌, refl, ap, subst}
use mathlib.Core.Bool.{Bool, true, false}
use mathlib.Core.List.{◌∷◌}
use mathlib.Core.Logic.{inl, inr}
use Prim.Native.Nat.{ℕ, zero, suc, ◌<◌, ◌%◌}
use native.Mathlib.Omega.{arith}
use lib.Dec.{eqb, eqb→eq}
use lib.ListN.{length}
use Rattle.tables.specs.Base.{at, if}
use Rattle.tables.specs.Rule.{Rule, Holds, test, complete}
use Rattle.model.specs.declared.sizes.Sizes.{Sizes}
use Rattle.model.specs.State.{Disk, all_pages, page_of, slot_of}
use Rattle.model.specs.Parts.{of_slot, from_page}
use Rattle.model.specs.Ledger
use Rattle.model.specs.Ledger.{Ledger, Note, note, put, over, found, opened, voided, ended, set_finished, set_live, set_write, lose, spent, carried_in, placed, finish_write, strike_write}
use Rattle.crash.proofs.Writes.{split_put}
use Rattle.isolation.specs.Words.{like}
use Rattle.isolation.proofs.Told.{same_like, told, WriteLike, TextLike, ToldLike, length_like, recount_like}

-- a frame's open write finished
abbrev finished_at : ℕ → Ledger → Ledger
finished_at f l = set_finished (ended (l.pending.write f) (suc (length l.finished)) ∷ l.finished) (set_live (put l.pages.live (l.pending.noted f).place true) (set_write (put l.pending.writing f false) l.pending.write l))

-- ── whatever is noted ──
module _ (z : Sizes) (hidden : ℕ) (l l' : Ledger) (a : ToldLike z hidden (told l) (told l')) where
  abbrev Noted : Ledger → Ledger → Type 0
  Noted x y = ToldLike z hidden (told x) (told y)

  -- pages that get the same text on both boards; the others keep their design
  fresh_like : (of : ℕ → ℕ) (t : ℕ → Rule) (new : ℕ → ℕ → ℕ) → ((i : ℕ) → ¬ (Holds (t i)) → of (slot_of z i) ≡ l.design (slot_of z i))
      → TextLike z hidden of (λ i. if (test (t i)) (new i) (l.pages.text i)) (λ i. if (test (t i)) (new i) (l'.pages.text i))
  fresh_like of t new e i h pos k m = go (test (t i)) refl
    where
      go : (b : Bool) → test (t i) ≡ b → Holds (like hidden (of (slot_of z i)) (if b (new i) (l.pages.text i) k) (if b (new i) (l'.pages.text i) k))
      go true q = same_like hidden (of (slot_of z i)) (new i k)
      go false q = let s = e i (λ y. rw q at (complete (t i) y)) in rw s (a.text i h (rw s at pos) k m)

  -- pages that become zeros
  zeros_like : (of : ℕ → ℕ) (t : ℕ → Rule) → ((i : ℕ) → ¬ (Holds (t i)) → of (slot_of z i) ≡ l.design (slot_of z i)) → TextLike z hidden of (over l.pages.text t (λ w. 0)) (over l'.pages.text t (λ w. 0))
  unfolding over
  zeros_like of t e = fresh_like of t (λ i w. 0) e

  -- a slot that gets a design
  slot_other : (s d i : ℕ) → ¬ (Holds (of_slot z s i)) → put l.design s d (slot_of z i) ≡ l.design (slot_of z i)
  slot_other s d i n = elim (split_put l.design s d (slot_of z i)) [ inl x ↦ absurd (n x.0) | inr x ↦ x.1 ]

  pub created_like : (s n : ℕ) → Noted (note z l (Ledger.created s n)) (note z l' (Ledger.created s n))
  unfolding note
  created_like s n = record {
    births = ap suc a.births;
    design = λ x. put (a.design x) s (suc (a.births x));
    number = λ x. put (a.number x) (suc (a.births x)) n;
    text = zeros_like (put l.design s (suc l.births)) (of_slot z s) (slot_other s (suc l.births));
    noted = a.noted;
    writing = a.writing;
    write = a.write;
    finished = a.finished;
    pack = a.pack;
  }

  pub deleted_like : (s : ℕ) → Noted (note z l (Ledger.deleted s)) (note z l' (Ledger.deleted s))
  unfolding note
  deleted_like s = record {
    births = a.births;
    design = λ x. put (a.design x) s 0;
    number = a.number;
    text = λ i h pos k m. elim (split_put l.design s 0 (slot_of z i)) [ inl x ↦ absurd (omega (arith, x.1, pos)) | inr x ↦ rw x.1 (a.text i h (rw x.1 at pos) k m) ];
    noted = a.noted;
    writing = a.writing;
    write = a.write;
    finished = a.finished;
    pack = a.pack;
  }

  pub faulted_like : (s p f : ℕ) → Noted (note z l (Ledger.faulted s p f)) (note z l' (Ledger.faulted s p f))
  unfolding note
  faulted_like s p f = record {
    births = a.births;
    design = a.design;
    number = a.number;
    text = a.text;
    noted = λ x. put (a.noted x) f (record { design = a.design x s; place = page_of z s p });
    writing = a.writing;
    write = a.write;
    finished = a.finished;
    pack = a.pack;
  }

  pub wrote_like : (s p w x y : ℕ) → Holds (like hidden (l.design (slot_of z (page_of z s p))) x y) → Noted (note z l (Ledger.wrote s p w x)) (note z l' (Ledger.wrote s p w y))
  unfolding note put
  wrote_like s p w x y v = record {
    births = a.births;
    design = a.design;
    number = a.number;
    text = λ i h pos k m. page i h pos k m (eqb i (page_of z s p)) refl;
    noted = a.noted;
    writing = a.writing;
    write = a.write;
    finished = a.finished;
    pack = a.pack;
  }
    where
      j : ℕ
      j = page_of z s p

      word : (i : ℕ) → i ≡ j → i < all_pages z → 0 < l.design (slot_of z i) → (k : ℕ) → k < z.words → (b : Bool) → Holds (like hidden (l.design (slot_of z i)) (if b x (l.pages.text j k)) (if b y (l'.pages.text j k)))
      word i e h pos k m true = rw e v
      word i e h pos k m false = rw e (a.text j (rw e at h) (rw e at pos) k m)

      page : (i : ℕ) → i < all_pages z → 0 < l.design (slot_of z i) → (k : ℕ) → k < z.words → (b : Bool) → eqb i j ≡ b
          → Holds (like hidden (l.design (slot_of z i)) (if b (λ (n : ℕ). if (eqb n w) x (l.pages.text j n)) (l.pages.text i) k) (if b (λ (n : ℕ). if (eqb n w) y (l'.pages.text j n)) (l'.pages.text i) k))
      page i h pos k m true e = word i (eqb→eq i j (rw e tt)) h pos k m (eqb k w)
      page i h pos k m false e = a.text i h pos k m

  -- a claim that begins no write
  quiet_claim : (b c : Bool) (x y : ℕ → Bool) → Noted (if b (set_live x l) l) (if c (set_live y l') l')
  quiet_claim true true x y = a
  quiet_claim true false x y = a
  quiet_claim false true x y = a
  quiet_claim false false x y = a

  -- .. and one that does: its frame's note is of a page, and of the design that has the page now
  pub record Rightly (n : Note) : Type 0 where
    pub within : n.place < all_pages z
    pub design : n.design ≡ l.design (slot_of z n.place)
    pub some : 0 < n.design

  opened_like : (f r : ℕ) → Rightly (l.pending.noted f) → WriteLike z hidden (opened z l f r) (opened z l' f r)
  opened_like f r o = record {
    design = ap (λ (g : ℕ → Note). (g f).design) a.noted;
    record' = refl;
    serial = refl;
    words = λ k h. subst (λ (g : ℕ → Note). Holds (like hidden (l.pending.noted f).design (l.pages.text (l.pending.noted f).place k) (l'.pages.text (g f).place k))) a.noted
        (rw o.design (a.text (l.pending.noted f).place o.within (rw o.design at o.some) k h));
  }

  pub claimed_like : (f r : ℕ) → Rightly (l.pending.noted f) → Noted (note z l (Ledger.claimed f r)) (note z l' (Ledger.claimed f r))
  unfolding note put
  claimed_like f zero o = quiet_claim (voided z l (l.pending.noted f).place) (voided z l' (l'.pending.noted f).place) _ _
  claimed_like f (suc r) o = record {
    births = a.births;
    design = a.design;
    number = a.number;
    text = a.text;
    noted = a.noted;
    writing = λ x. put (a.writing x) f true;
    write = λ g. go g (eqb g f);
    finished = a.finished;
    pack = a.pack;
  }
    where
      go : (g : ℕ) (b : Bool) → WriteLike z hidden (if b (opened z l f r) (l.pending.write g)) (if b (opened z l' f r) (l'.pending.write g))
      go g true = opened_like f r o
      go g false = a.write g

  pub truncated_like : (s k : ℕ) → Noted (note z l (Ledger.truncated s k)) (note z l' (Ledger.truncated s k))
  unfolding note
  truncated_like s k = record {
    births = a.births;
    design = a.design;
    number = a.number;
    text = zeros_like l.design (from_page z s k) (λ i n. refl);
    noted = a.noted;
    writing = a.writing;
    write = a.write;
    finished = a.finished;
    pack = a.pack;
  }

  -- ── what is finished, or struck ──
  pub finish_like : (f : ℕ) → Noted (finish_write f l) (finish_write f l')
  unfolding finish_write
  finish_like f = subst (λ (c : Bool). Noted (finish_write f l) (if c (finished_at f l') l')) (ap (λ (g : ℕ → Bool). g f) a.writing) (go (l.pending.writing f))
    where
      go : (b : Bool) → Noted (if b (finished_at f l) l) (if b (finished_at f l') l')
      go true = record {
        births = a.births;
        design = a.design;
        number = a.number;
        text = a.text;
        noted = a.noted;
        writing = λ x. put (a.writing x) f false;
        write = a.write;
        finished = (record { design = (a.write f).design; record' = (a.write f).record'; serial = ap suc (length_like z hidden l.finished l'.finished a.finished); words = (a.write f).words }, a.finished);
        pack = a.pack;
      }
      go false = a

  strike_like : (f : ℕ) → Noted (strike_write f l) (strike_write f l')
  unfolding strike_write
  strike_like f = record {
    births = a.births;
    design = a.design;
    number = a.number;
    text = a.text;
    noted = a.noted;
    writing = λ x. put (a.writing x) f false;
    write = a.write;
    finished = a.finished;
    pack = a.pack;
  }

  pub page_end_like : (f good : ℕ) → Noted (note z l (Ledger.page_end f good)) (note z l' (Ledger.page_end f good))
  unfolding note
  page_end_like f good = go (eqb good 1)
    where
      go : (b : Bool) → Noted (if b (finish_write f l) (strike_write f l)) (if b (finish_write f l') (strike_write f l'))
      go true = finish_like f
      go false = strike_like f

  -- nothing is open any more
  pub lost_like : Noted (lose l) (lose l')
  unfolding lose
  lost_like = record { births = a.births; design = a.design; number = a.number; text = a.text; noted = a.noted; writing = refl; write = a.write; finished = a.finished; pack = a.pack }

  pub restarted_like : (d d' : Disk) → TextLike z hidden l.design (found z d) (found z d') → Noted (note z l (Ledger.restarted d)) (note z l' (Ledger.restarted d'))
  unfolding note lose
  restarted_like d d' t = record {
    births = a.births;
    design = a.design;
    number = a.number;
    text = t;
    noted = a.noted;
    writing = refl;
    write = a.write;
    finished = recount_like z hidden d d' l.design l'.design l.finished l'.finished a.finished;
    pack = a.pack;
  }

  -- ── an import ──
  pub spent_like : (n : ℕ) → Noted (note z l (Ledger.import_begun n)) (note z l' (Ledger.import_begun n))
  unfolding note spent
  spent_like n = record {
    births = ap suc a.births;
    design = a.design;
    number = λ x. put (a.number x) (suc (a.births x)) n;
    text = a.text;
    noted = a.noted;
    writing = a.writing;
    write = a.write;
    finished = a.finished;
    pack = a.pack;
  }

  pub carried_like : (p r : ℕ) (words : ℕ → ℕ) → Noted (note z l (Ledger.imported_page p r words)) (note z l' (Ledger.imported_page p r words))
  unfolding note carried_in
  carried_like p r words = record {
    births = a.births;
    design = a.design;
    number = a.number;
    text = a.text;
    noted = a.noted;
    writing = a.writing;
    write = a.write;
    finished = (record { design = a.births; record' = refl; serial = ap suc (length_like z hidden l.finished l'.finished a.finished); words = λ k h. same_like hidden l.births (words k) }, a.finished);
    pack = a.pack;
  }

  pub placed_like : (s : ℕ) (has : ℕ → Bool) (said : ℕ → ℕ → ℕ) → Noted (note z l (Ledger.imported_slot s has said)) (note z l' (Ledger.imported_slot s has said))
  unfolding note placed
  placed_like s has said = record {
    births = a.births;
    design = λ x. put (a.design x) s (a.births x);
    number = a.number;
    text = fresh_like (put l.design s l.births) (of_slot z s) (λ i. said (i % z.pages)) (slot_other s l.births);
    noted = a.noted;
    writing = a.writing;
    write = a.write;
    finished = a.finished;
    pack = a.pack;
  }
