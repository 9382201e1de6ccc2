-- What two boards keep between them, and what follows from it and demand 3's invariant: the words of every page are alike, in its frame and in its records.
use mathlib.Core.Path.{◌≡◌, refl, ap, sym, ◌∙◌, subst}
use mathlib.Core.Bool.{Bool, false, not}
use mathlib.Core.Logic.{inl, inr}
use Prim.Native.Nat.{ℕ, zero, suc, pred, ◌<◌, ◌+◌, ◌*◌}
use native.Mathlib.Omega.{arith}
use lib.Dec.{T, eqb}
use borrow.Author.Tests.{eq-eqb, ne_eqb}
use Rattle.tables.specs.Base.{at, if, all}
use Rattle.tables.specs.Laws.{not_zero, if_yes}
use Rattle.tables.specs.Queue.{members, times}
use Rattle.tables.specs.QueueLaws.{members_within}
use Rattle.tables.specs.Questions.{Asked}
use Rattle.tables.specs.Rule.{Holds}
use Rattle.model.specs.declared.sizes.Sizes.{Sizes}
use Rattle.model.specs.declared.event.Writeback.TheVariants.{Claim}
use Rattle.model.specs.declared.event.Event.TheVariants as Event
use Rattle.model.specs.State.{Disk, State, frames, NONE, all_pages, slot_of}
use Rattle.model.specs.Laws.Index.{slot_below}
use Rattle.model.specs.Laws.Fit.{ChipFit}
use Rattle.model.specs.Questions.{questions}
use Rattle.model.specs.Parts.{word_at}
use Rattle.model.specs.Writeback.{looking, zeros, begins_write}
use Rattle.model.specs.Ledger.{Ledger, found}
use Rattle.model.specs.Demand3.{last_into}
use Rattle.model.specs.Acts.{World}
use Rattle.invariant.proofs.Looks.{looking_takes}
use Rattle.invariant.proofs.Stands.{seat_at}
use Rattle.invariant.proofs.Stands as Stands
use Rattle.crash.proofs.Link.{Owned}
use Rattle.crash.proofs.Steps.{Good}
use Rattle.isolation.specs.Words.{bare_disk, bare, like}
use Rattle.isolation.specs.Shown.{Shown, listed_like, imaged_like, live_like, frames_like, copies_like, places_like, written_like, untouched_like, words_like}
use Rattle.isolation.proofs.Reworded.{reworded_as}
use Rattle.isolation.proofs.Standing.{Stands}
use Rattle.isolation.proofs.Told.{told, ToldLike, TextLike, WriteLike, last_like, like_zero, same_like}
use Rattle.isolation.proofs.Ledgers.{Rightly}

pub record Alike (z : Sizes) (hidden : ℕ) (w w' : World) : Type 0 where
  pub good : Good z w
  pub good' : Good z w'
  pub stands : Stands z w
  pub stands' : Stands z w'
  pub chip : ChipFit z w.state.memory.chip
  pub chip' : ChipFit z w'.state.memory.chip
  pub up : w.up ≡ w'.up
  pub disk : bare_disk w.state.disk ≡ bare_disk w'.state.disk
  pub tables : T w.up → bare w.state ≡ bare w'.state
  pub ledger : ToldLike z hidden (told w.ledger) (told w'.ledger)

-- equal tests, all alike
pub all_same : (n : ℕ) (p q : ℕ → Bool) → ((k : ℕ) → k < n → p k ≡ q k) → all n p ≡ all n q
unfolding all
all_same zero p q f = refl
all_same (suc n) p q f = rw (all_same n p q (λ k h. f k (omega arith)), f n (omega arith))

-- zero on both or on neither
pub zero_same : (a b : ℕ) → (a ≡ 0 → b ≡ 0) × (b ≡ 0 → a ≡ 0) → eqb a 0 ≡ eqb b 0
zero_same zero b h = sym (eq-eqb b 0 (h.0 refl))
zero_same (suc a) zero h = absurd (omega (arith, h.1 refl))
zero_same (suc a) (suc b) h = ne_eqb (suc a) 0 (λ e. omega (arith, e)) ∙ sym (ne_eqb (suc b) 0 (λ e. omega (arith, e)))

module _ (z : Sizes) (hidden : ℕ) (l l' : Ledger) (a : ToldLike z hidden (told l) (told l')) where
  -- a record that is a page's own on both boards
  owned_like : (word word' : ℕ → ℕ) (i r : ℕ) → i < all_pages z → Owned z l.pack word l.design (last_into r l.finished) i r → Owned z l'.pack word' l'.design (last_into r l'.finished) i r
      → (k : ℕ) → k < z.words → Holds (like hidden (l.design (slot_of z i)) (word (r * z.words + k)) (word' (r * z.words + k)))
  owned_like word word' i r h o o' k m = elim o [
    | inl x ↦ elim o' [ inl y ↦ rw (x.words k m, y.words k m, ← x.design) (b.words k m) | inr y ↦ absurd (omega (arith, x.some, y.none, b.serial)) ]
    | inr x ↦ elim o' [ inl y ↦ absurd (omega (arith, x.none, y.some, b.serial)) | inr y ↦ rw (x.words k m, y.words k m, x.design) (a.pack i h r x.listed k m) ]
  ]
    where
      b : WriteLike z hidden (last_into r l.finished) (last_into r l'.finished)
      b = last_like z hidden r l.finished l'.finished a.finished

module _ (z : Sizes) (hidden : ℕ) (w w' : World) (a : Alike z hidden w w') where
  abbrev st : State
  st = w.state

  abbrev st' : State
  st' = w'.state

  -- ── the disk ──
  listed_like_holds : Holds (listed_like z hidden w w')
  unfolding listed_like
  listed_like_holds i h r p = owned_like z hidden w.ledger w'.ledger a.ledger (at st.disk.records) (at st'.disk.records) i r h (a.good.disk.listing.owned i h r p)
      (a.good'.disk.listing.owned i h r (sym (ap (λ (d : Disk). at d.maps i) a.disk) ∙ p))

  -- a filled slot has a design
  pub filled_design : (s : ℕ) → s < z.slots → ¬ (at st.disk.numbers s ≡ 0) → 0 < w.ledger.design s
  filled_design s h n = a.good.disk.designs.born s h n

  -- what the disk has of a page
  pub found_at : (i : ℕ) → i < all_pages z → (k : ℕ) → k < z.words → Holds (like hidden (w.ledger.design (slot_of z i)) (found z st.disk i k) (found z st'.disk i k))
  unfolding found listed_like
  found_at i h k m = subst (λ (n : ℕ). Holds (like hidden (w.ledger.design (slot_of z i)) (if (eqb (at st.disk.maps i) 0) 0 (word_at z st.disk.records (pred (at st.disk.maps i)) k)) (if (eqb n 0) 0 (word_at z st'.disk.records (pred n) k))))
      (ap (λ (d : Disk). at d.maps i) a.disk) (go (at st.disk.maps i) refl)
    where
      go : (n : ℕ) → at st.disk.maps i ≡ n → Holds (like hidden (w.ledger.design (slot_of z i)) (if (eqb n 0) 0 (word_at z st.disk.records (pred n) k)) (if (eqb n 0) 0 (word_at z st'.disk.records (pred n) k)))
      go zero e = same_like hidden (w.ledger.design (slot_of z i)) 0
      go (suc r) e = rw (ne_eqb (suc r) 0 (λ x. omega (arith, x))) (listed_like_holds i h r e k m)

  -- what a restart finds
  pub found_like : TextLike z hidden w.ledger.design (found z st.disk) (found z st'.disk)
  found_like i h pos k m = found_at i h k m

  last_same : (r : ℕ) → WriteLike z hidden (last_into r w.ledger.finished) (last_into r w'.ledger.finished)
  last_same r = last_like z hidden r w.ledger.finished w'.ledger.finished a.ledger.finished

  written_like_holds : Holds (written_like z hidden w w')
  unfolding written_like
  written_like_holds r h t k m = let b = last_same r in rw ((a.stands r h k m).wrote t, (a.stands' r h k m).wrote (rw b.serial at t)) (b.words k m)

  untouched_like_holds : Holds (untouched_like z hidden w w')
  unfolding untouched_like
  untouched_like_holds r h t k m e = (a.stands r h k m).none t ∙ e ∙ sym ((a.stands' r h k m).none (sym (last_same r).serial ∙ t))

  -- ── the memory ──
  module _ (u : T w.up) where
    e : bare st ≡ bare st'
    e = a.tables u

    u' : T w'.up
    u' = rw a.up at u

    imaged_like_holds : Holds (imaged_like z hidden w w')
    unfolding imaged_like
    imaged_like_holds i h r p = owned_like z hidden w.ledger w'.ledger a.ledger (at st.disk.records) (at st'.disk.records) i r h ((a.good.memory u).named.imaged i h r p)
        ((a.good'.memory u').named.imaged i h r (sym (ap (λ (s : State). at s.memory.slots.images i) e) ∙ p))

    live_like_holds : Holds (live_like z hidden w w')
    unfolding live_like
    live_like_holds i h r p q = owned_like z hidden w.ledger w'.ledger a.ledger (at st.disk.records) (at st'.disk.records) i r h ((a.good.memory u).named.live i h r p q)
        ((a.good'.memory u').named.live i h r (sym (ap (λ (s : State). at s.memory.held.addresses i) e) ∙ p) (sym (ap (λ (s : State). at s.memory.held.states r) e) ∙ q))

    -- a page in a frame has a design
    framed_design : (f : ℕ) → f < z.frames → (i : ℕ) → ((frames st).frame f).page ≡ suc i → 0 < w.ledger.design (slot_of z i)
    framed_design f h i p = let r = a.good.ruled u in let s = slot_below z a.good.fit.sizes.pages i ((r.frames.fit f h).0 i p) in filled_design (slot_of z i) s (λ x. omega (arith, x, r.records.active_filled_holds (slot_of z i) s (r.frames.active f h i p)))

    frames_like_holds : Holds (frames_like z hidden w w')
    unfolding frames_like
    frames_like_holds f h i p n k m =
        let g : (frames st).frame f ≡ (frames st').frame f = ap (λ (s : State). (frames s).frame f) e in
        let t = (((a.good.memory u).framed f h).holding i p).said n k m in
        let t' = (((a.good'.memory u').framed f h).holding i (rw g at p)).said (rw g at n) k m in
        rw (t, t') (a.ledger.text i (((a.good.ruled u).frames.fit f h).0 i p) (framed_design f h i p) k m)

    -- ── the chip: each copy is its record's on both boards, and empty places hold zeros ──
    copies_like_holds : Holds (copies_like z hidden w w')
    unfolding copies_like live_like
    copies_like_holds b h r p i j q k m =
        let x = (a.good.copies u).rules.live b h r p in
        let x' = (a.good'.copies u').rules.live b h r (sym (ap (λ (s : State). at s.memory.chip.copies b) e) ∙ p) in
        rw (x.1 k m, x'.1 k m) (live_like_holds i j r q x.0 k m)

    places_like_holds : Holds (places_like z hidden w w')
    unfolding places_like
    places_like_holds b h p k m = (a.good.copies u).rules.empty b h p k m ∙ sym ((a.good'.copies u').rules.empty b h (sym (ap (λ (s : State). at s.memory.chip.copies b) e) ∙ p) k m)

  pub shown : Shown z hidden w w'
  unfolding words_like
  shown = record { up = a.up; disk = a.disk; tables = a.tables; words = (listed_like_holds, (written_like_holds, (untouched_like_holds, λ u. (imaged_like_holds u, (live_like_holds u, (frames_like_holds u, (copies_like_holds u, places_like_holds u))))))); designs = a.ledger.design }

  -- ── a claim: the frame that it takes has a page, and its words are told alike ──
  module _ (u : T w.up) (q : Asked (questions z st (Event.Writeback Claim))) where
    abbrev f : ℕ
    f = (looking z st).taken

    listed : 0 < times (members st.memory.core.removal_list) f
    listed = omega (arith, (looking_takes z st q.0).left f, if_yes {A = ℕ} f f 1 0 refl)

    hf : f < z.frames
    hf = members_within st.memory.core.removal_list a.good.fit.memory.removal_list (a.good.ruled u).queues.removal_list f listed

    still : ((frames st).frame f).transfer ≡ NONE
    still = Stands.still (seat_at z st (a.good.ruled u) f hf) (omega (arith, listed))

    abbrev i₀ : ℕ
    i₀ = pred ((frames st).frame f).page

    page : ((frames st).frame f).page ≡ suc i₀
    page = not_zero ((frames st).frame f).page ((a.good.ruled u).frames.busy f hf (omega (arith, (a.good.ruled u).frames.in_one_place_holds f hf, listed)))

    pub taken_noted : Rightly z hidden w.ledger w'.ledger a.ledger (w.ledger.pending.noted f)
    taken_noted = let n = ((a.good.memory u).framed f hf).holding i₀ page in record {
      within = rw n.place (((a.good.ruled u).frames.fit f hf).0 i₀ page);
      design = rw n.place n.design;
      some = rw n.design (framed_design u f hf i₀ page);
    }

    zeros_same : zeros z (reworded_as st' st) f ≡ zeros z st f
    unfolding zeros frames_like
    zeros_same = all_same z.words _ _ (λ k m. sym (zero_same _ _ (like_zero hidden (w.ledger.design (slot_of z i₀)) _ _ (frames_like_holds u f hf i₀ page (λ x. omega (arith, x, still)) k m))))

    pub begins_same : begins_write z (reworded_as st' st) ≡ begins_write z st
    unfolding begins_write looking
    begins_same = ap (λ (b : Bool). if (eqb ((frames st).frame f).modified 1) (not b) false) zeros_same
