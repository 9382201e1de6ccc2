-- Where the finished writes of a list come from: each was an open write, with its page's text, or an import's. So what holds of all of them is kept, and none is of a design that is not born yet.
use mathlib.Core.Path.{◌≡◌, refl, ap, sym, ◌∙◌, subst}
use mathlib.Core.Bool.{Bool, true, false}
use mathlib.Core.List.{List, [], ◌∷◌}
use mathlib.Core.Logic.{◌⊎◌, inl, inr}
use Prim.Native.Nat.{ℕ, zero, suc, ◌%◌, ◌<◌, ◌≤◌, pred}
use native.Mathlib.Omega.{arith}
use lib.Dec.{T, eqb}
use lib.ListN.{length}
use borrow.Author.Tests.{ne_eqb}
use Rattle.tables.specs.Base.{if}
use Rattle.tables.specs.Laws.{if_elim, not_zero, and_left, and_right}
use Rattle.tables.specs.Rule.{sound}
use Rattle.tables.specs.Questions.{first_no, ask, none}
use Rattle.sheets.specs.Sheet.{number_in}
use Rattle.model.specs.declared.sizes.Sizes.{Sizes}
use Rattle.model.specs.declared.event.Design.TheVariants.{Create, Delete, Activate, Deactivate}
use Rattle.model.specs.declared.event.Page.TheVariants.{Fault, Read, Write, Wire, Unwire}
use Rattle.model.specs.declared.event.Writeback.TheVariants.{Claim, Truncate, Update, PageDone, MapDone}
use Rattle.model.specs.declared.event.Waiting.TheVariants.{Join, Turn}
use Rattle.model.specs.declared.event.Event.{Event}
use Rattle.model.specs.declared.event.Event.TheVariants as Event
use Rattle.model.specs.State.{Disk, Memory, State, frame_at, all_pages, slot_of}
use Rattle.model.specs.Rules.{disk_rules}
use Rattle.model.specs.Laws.Ruled.{Ruled}
use Rattle.model.specs.Questions.{Turning, nobody, serves, goes_back, faults, claims, sends_away, turning}
use Rattle.model.specs.Restart.{restarted}
use Rattle.model.specs.Step.{outcome, all_fit, answer, carried, result, step, restart}
use Rattle.model.specs.Import.{Sheet, sheet_of, taken, has, said, imported, import_answer, import}
use Rattle.model.specs.Stores as S
use Rattle.model.specs.Stores.{Call}
use Rattle.model.specs.Ledger as L
use Rattle.model.specs.Ledger.{Ledger, Fed, ended, note, lose, finish_write, finish_update, finish_writes, finish_updates, strike_write, strike_update, spent, carried_in, placed, recount, voided}
use Rattle.model.specs.Acts.{Act, event, looking, importing, exporting, restarting, cutting, cutting_in, World, fed, fed_turn, noted, partly, wholly, fed_part, part, cut_off, act, allowed}
use Rattle.invariant.proofs.Stands.{seat_at, moving_place}
use Rattle.invariant.proofs.Midst.{Inside, inside, part_import}
use Rattle.crash.proofs.Writes.{In, again, in_again, split_put}
use Rattle.crash.proofs.Link.{InMemory}
use Rattle.crash.proofs.Steps.{Good, Before, before}
use Rattle.crash.proofs.Demand3.{part_keeps}

-- something said of a write by its design, page and words holds of each in a list
abbrev pub Each : (ℕ → ℕ → (ℕ → ℕ) → Type 0) → List L.Write → Type 0
Each P xs = (y : L.Write) → In y xs → P y.design y.page y.words

-- ── what a cut finishes ──
-- the parts of a ledger that finishing writes leaves alone
pub record Beside (l l' : Ledger) : Type 0 where
  pub pack : l'.pack ≡ l.pack
  pub births : l'.births ≡ l.births
  pub design : l'.design ≡ l.design
  pub number : l'.number ≡ l.number
  pub text : l'.pages.text ≡ l.pages.text
  pub stored : l'.stored ≡ l.stored
  pub updating : l'.pending.updating ≡ l.pending.updating
  pub update : l'.pending.update ≡ l.pending.update
  pub write : l'.pending.write ≡ l.pending.write
  pub writing : (f : ℕ) → T (l'.pending.writing f) → T (l.pending.writing f)

beside_same : (l : Ledger) → Beside l l
beside_same l = record { pack = refl; births = refl; design = refl; number = refl; text = refl; stored = refl; updating = refl; update = refl; write = refl; writing = λ f t. t }

pub beside_finish : (f : ℕ) (l : Ledger) → Beside l (finish_write f l)
unfolding finish_write
beside_finish f l = if_elim (Beside l) (l.pending.writing f) _ l (λ u. record {
  pack = refl;
  births = refl;
  design = refl;
  number = refl;
  text = refl;
  stored = refl;
  updating = refl;
  update = refl;
  write = refl;
  writing = λ g t. elim (split_put l.pending.writing f false g) [ inl x ↦ absurd (subst T x.1 t) | inr x ↦ subst T x.1 t ];
}) (λ u. beside_same l)

beside_more : (a b c : Ledger) → Beside a b → Beside b c → Beside a c
beside_more a b c x y = record {
  pack = y.pack ∙ x.pack;
  births = y.births ∙ x.births;
  design = y.design ∙ x.design;
  number = y.number ∙ x.number;
  text = y.text ∙ x.text;
  stored = y.stored ∙ x.stored;
  updating = y.updating ∙ x.updating;
  update = y.update ∙ x.update;
  write = y.write ∙ x.write;
  writing = λ f t. x.writing f (y.writing f t);
}

pub beside_all : (n : ℕ) (lands : ℕ → Bool) (l : Ledger) → Beside l (finish_writes n lands l)
unfolding finish_writes
beside_all zero lands l = beside_same l
beside_all (suc f) lands l = if_elim (Beside l) (lands f) _ _ (λ t. beside_more l _ _ (beside_all f lands l) (beside_finish f _)) (λ t. beside_all f lands l)

-- and those that finishing updates does
pub record Aside (l l' : Ledger) : Type 0 where
  pub pack : l'.pack ≡ l.pack
  pub births : l'.births ≡ l.births
  pub design : l'.design ≡ l.design
  pub number : l'.number ≡ l.number
  pub text : l'.pages.text ≡ l.pages.text
  pub finished : l'.finished ≡ l.finished
  pub update : l'.pending.update ≡ l.pending.update
  pub updating : (s : ℕ) → T (l'.pending.updating s) → T (l.pending.updating s)

aside_same : (l : Ledger) → Aside l l
aside_same l = record { pack = refl; births = refl; design = refl; number = refl; text = refl; finished = refl; update = refl; updating = λ s t. t }

pub aside_finish : (s : ℕ) (l : Ledger) → Aside l (finish_update s l)
unfolding finish_update
aside_finish s l = if_elim (Aside l) (l.pending.updating s) _ l (λ u. record {
  pack = refl;
  births = refl;
  design = refl;
  number = refl;
  text = refl;
  finished = refl;
  update = refl;
  updating = λ g t. elim (split_put l.pending.updating s false g) [ inl x ↦ absurd (subst T x.1 t) | inr x ↦ subst T x.1 t ];
}) (λ u. aside_same l)

aside_more : (a b c : Ledger) → Aside a b → Aside b c → Aside a c
aside_more a b c x y = record {
  pack = y.pack ∙ x.pack;
  births = y.births ∙ x.births;
  design = y.design ∙ x.design;
  number = y.number ∙ x.number;
  text = y.text ∙ x.text;
  finished = y.finished ∙ x.finished;
  update = y.update ∙ x.update;
  updating = λ s t. x.updating s (y.updating s t);
}

pub aside_all : (n : ℕ) (lands : ℕ → Bool) (l : Ledger) → Aside l (finish_updates n lands l)
unfolding finish_updates
aside_all zero lands l = aside_same l
aside_all (suc s) lands l = if_elim (Aside l) (lands s) _ _ (λ t. aside_more l _ _ (aside_all s lands l) (aside_finish s _)) (λ t. aside_all s lands l)

module _ (P : ℕ → ℕ → (ℕ → ℕ) → Type 0) where
  -- what a frame's open write would add
  abbrev pub Open : Ledger → ℕ → Type 0
  Open l f = T (l.pending.writing f) → (let x = l.pending.write f in P x.design x.page x.words)

  pub each_finish : (f : ℕ) (l : Ledger) → Open l f → Each P l.finished → Each P (finish_write f l).finished
  unfolding finish_write In
  each_finish f l o e = if_elim (λ (x : Ledger). Each P x.finished) (l.pending.writing f) _ l
      (λ t y i. elim i [ inl j ↦ subst (λ (x : L.Write). P x.design x.page x.words) (sym j) (o t) | inr j ↦ e y j ]) (λ t. e)

  pub each_finishes : (n : ℕ) (lands : ℕ → Bool) (l : Ledger) → ((f : ℕ) → f < n → Open l f) → Each P l.finished → Each P (finish_writes n lands l).finished
  unfolding finish_writes
  each_finishes zero lands l o e = e
  each_finishes (suc f) lands l o e =
      let rest = each_finishes f lands l (λ g h. o g (omega arith)) e in
      let b = beside_all f lands l in
      if_elim (λ (x : Ledger). Each P x.finished) (lands f) _ _
      (λ t. each_finish f (finish_writes f lands l) (λ u. subst (λ (g : ℕ → L.Write). P (g f).design (g f).page (g f).words) (sym b.write) (o f (omega arith) (b.writing f u))) rest) (λ t. rest)

  -- ── what is fed ──
  abbrev pub Ready : Sizes → Ledger → Fed → Type 0
  Ready z l L.nothing = Unit {0}
  Ready z l (L.restarted d) = Unit {0}
  Ready z l (L.created s n) = Unit {0}
  Ready z l (L.deleted s) = Unit {0}
  Ready z l (L.activated s d) = Unit {0}
  Ready z l (L.deactivated s) = Unit {0}
  Ready z l (L.faulted s p f) = Unit {0}
  Ready z l (L.wrote s p w x) = Unit {0}
  Ready z l (L.claimed f n) = Unit {0}
  Ready z l (L.truncated s k) = Unit {0}
  Ready z l (L.began s) = Unit {0}
  Ready z l (L.page_end f good) = Open l f
  Ready z l (L.map_end s good) = Unit {0}
  Ready z l (L.import_begun n) = Unit {0}
  Ready z l (L.imported_page p r words) = P l.births p words
  Ready z l (L.imported_slot s h t) = Unit {0}
  Ready z l (L.cut writes updates) = (f : ℕ) → f < z.frames → Open l f

  pub each_note : (z : Sizes) (l : Ledger) (f : Fed) → Ready z l f → Each P l.finished → Each P (note z l f).finished
  unfolding note lose strike_write strike_update finish_update spent carried_in placed In again
  each_note z l L.nothing t e = e
  each_note z l (L.restarted d) t e = λ y i. let x = in_again z d l.design l.finished y i in subst (λ (v : L.Write). P v.design v.page v.words) (sym x.2) (e x.0 x.1)
  each_note z l (L.created s n) t e = e
  each_note z l (L.deleted s) t e = e
  each_note z l (L.activated s d) t e = e
  each_note z l (L.deactivated s) t e = e
  each_note z l (L.faulted s p f) t e = e
  each_note z l (L.wrote s p w x) t e = e
  each_note z l (L.claimed f zero) t e = if_elim (λ (x : Ledger). Each P x.finished) (voided z l (l.pending.noted f).place) _ l (λ u. e) (λ u. e)
  each_note z l (L.claimed f (suc r)) t e = e
  each_note z l (L.truncated s k) t e = e
  each_note z l (L.began s) t e = e
  each_note z l (L.page_end f good) t e = if_elim (λ (x : Ledger). Each P x.finished) (eqb good 1) _ _ (λ u. each_finish f l t e) (λ u. e)
  each_note z l (L.map_end s good) t e =
      if_elim (λ (x : Ledger). Each P x.finished) (eqb good 1) _ _ (λ u. if_elim (λ (x : Ledger). Each P x.finished) (l.pending.updating s) _ l (λ v. e) (λ v. e)) (λ u. e)
  each_note z l (L.import_begun n) t e = e
  each_note z l (L.imported_page p r words) t e = λ y i. elim i [ inl j ↦ subst (λ (v : L.Write). P v.design v.page v.words) (sym j) t | inr j ↦ e y j ]
  each_note z l (L.imported_slot s h x) t e = e
  each_note z l (L.cut writes updates) t e = rw (aside_all z.slots updates (finish_writes z.frames writes l)).finished (each_finishes z.frames writes l t e)

-- ── the first stores of an import ──
module _ (z : Sizes) (st : State) (s n : ℕ) (h : Sheet) (l : Ledger) where
  pub partly_births : (k : ℕ) → (partly z st s n h k l).births ≡ suc l.births
  unfolding partly note spent carried_in
  partly_births zero = refl
  partly_births (suc k) = partly_births k

  pub partly_pending : (k : ℕ) → (partly z st s n h k l).pending ≡ l.pending
  unfolding partly note spent carried_in
  partly_pending zero = refl
  partly_pending (suc k) = partly_pending k

  pub partly_each : (P : ℕ → ℕ → (ℕ → ℕ) → Type 0) → ((p : ℕ) (words : ℕ → ℕ) → P (suc l.births) p words) → Each P l.finished → (k : ℕ) → Each P (partly z st s n h k l).finished
  unfolding partly
  partly_each P own e zero = each_note P z l (L.import_begun n) tt e
  partly_each P own e (suc k) = each_note P z (partly z st s n h k l) (L.imported_page (h.page k) (taken z st s k) (h.word k)) (rw (partly_births k) (own (h.page k) (h.word k))) (partly_each P own e k)

-- ── acts ──
module _ (z : Sizes) (P : ℕ → ℕ → (ℕ → ℕ) → Type 0) where
  -- it holds of a write of a page's text
  abbrev pub OfText : Ledger → Type 0
  OfText l = (i : ℕ) → i < all_pages z → (words : ℕ → ℕ) → ((k : ℕ) → k < z.words → words k ≡ l.pages.text i k) → P (l.design (slot_of z i)) (i % z.pages) words

  -- an open write is one
  pub open_text : (st : State) (l : Ledger) → Ruled z st → InMemory z st l → OfText l → (f : ℕ) → f < z.frames → Open P l f
  open_text st l r k q f hf u =
      let t = (k.framed f hf).only u in
      let i = pred (frame_at st.memory.core.frames f).page in
      let page : (frame_at st.memory.core.frames f).page ≡ suc i = not_zero (frame_at st.memory.core.frames f).page (r.frames.busy f hf (omega (arith, moving_place (seat_at z st r f hf) (λ e. omega (arith, e, t))))) in
      let o = ((k.framed f hf).holding i page).opened t in
      rw (o.design, o.page) (q i ((r.frames.fit f hf).0 i page) (l.pending.write f).words o.words)

  turn_ready : (st : State) (l : Ledger) (t : Turning) → Ready P z l (fed_turn z st t)
  turn_ready st l nobody = tt
  turn_ready st l serves = tt
  turn_ready st l goes_back = tt
  turn_ready st l faults = tt
  turn_ready st l claims = tt
  turn_ready st l (sends_away n) = tt

  fed_ready : (st : State) (l : Ledger) (e : Event) → Before z st l e → OfText l → Ready P z l (fed z st e)
  unfolding fed
  fed_ready st l (Event.Design (Create s q n)) b o = tt
  fed_ready st l (Event.Design (Delete s)) b o = tt
  fed_ready st l (Event.Design (Activate s)) b o = tt
  fed_ready st l (Event.Design (Deactivate s)) b o = tt
  fed_ready st l (Event.Account e) b o = tt
  fed_ready st l (Event.Page (Fault s p)) b o = tt
  fed_ready st l (Event.Page (Read s p w)) b o = tt
  fed_ready st l (Event.Page (Write s p w x)) b o = tt
  fed_ready st l (Event.Page (Wire s p)) b o = tt
  fed_ready st l (Event.Page (Unwire s p)) b o = tt
  fed_ready st l (Event.Writeback Claim) b o = tt
  fed_ready st l (Event.Writeback (Truncate s k)) b o = tt
  fed_ready st l (Event.Writeback (Update s)) b o = tt
  fed_ready st l (Event.Writeback (PageDone f good)) b o = open_text st l b.ruled b.tied.memory o f b.asked.0.0
  fed_ready st l (Event.Writeback (MapDone s good)) b o = tt
  fed_ready st l (Event.Waiting (Join s p)) b o = tt
  fed_ready st l (Event.Waiting Turn) b o = turn_ready st l (turning z st)

  pub fed_each : (st : State) (l : Ledger) (e : Event) → Before z st l e → OfText l → Each P l.finished → Each P (note z l (fed z st e)).finished
  fed_each st l e b o p = each_note P z l (fed z st e) (fed_ready st l e b o) p

  -- all that is open in a world
  pub all_open : (w : World) → Good z w → OfText w.ledger → (f : ℕ) → f < z.frames → Open P w.ledger f
  all_open w k o f h = go w.up refl
    where
      go : (b : Bool) → w.up ≡ b → Open P w.ledger f
      go true e = let u : T w.up = rw e tt in open_text w.state w.ledger (k.ruled u) (k.memory u) o f h
      go false e = λ t. absurd ((k.closed (λ u. rw e at u)).writing f h t)
