-- A page of a design reads as it did until it is written or truncated, or its design is deleted: what the ledger keeps of it, through everything that is fed.
use mathlib.Core.Path.{◌≡◌, refl, ap, sym, ◌∙◌, subst}
use mathlib.Core.Bool.{Bool, true, false, ◌&&◌}
use mathlib.Core.List.{List, [], ◌∷◌}
use mathlib.Core.Logic.{◌⊎◌, inl, inr}
use Prim.Native.Nat.{ℕ, zero, suc, ◌%◌, ◌<◌, ◌≤◌}
use native.Mathlib.Omega.{arith}
use lib.Dec.{T, eqb, eqb→eq}
use Rattle.tables.specs.Base.{at, if, all}
use Rattle.tables.specs.Laws.{if_elim, and_right, all_elim}
use Rattle.tables.specs.Rule.{Holds, same, non, ◌and◌, untold}
use Rattle.model.specs.declared.sizes.Sizes.{Sizes}
use Rattle.model.specs.State.{Disk, page_of, slot_of}
use Rattle.model.specs.Parts.{of_slot, from_page}
use Rattle.model.specs.Laws.Index.{page_again}
use Rattle.model.specs.Ledger as L
use Rattle.model.specs.Ledger.{Ledger, Fed, note, lose, put, found, finish_write, finish_update, finish_writes, finish_updates, strike_write, strike_update, spent, carried_in, placed, pack_design, voided}
use Rattle.model.specs.Demand3.{last_update}
use Rattle.crash.proofs.Writes.{split_put, put_other, split_over, split_update}
use Rattle.crash.proofs.Origins.{Each, Open, each_finish, each_finishes, each_note, Beside, beside_finish, beside_all, Aside, aside_finish, aside_all}

-- i: the page, by its flat number; d: its design; x: its words
module _ (z : Sizes) (pos : 0 < z.pages) (i d : ℕ) (x : ℕ → ℕ) where
  abbrev slot : ℕ
  slot = slot_of z i

  abbrev page : ℕ
  page = i % z.pages

  -- not all of its words are zero
  abbrev pub Some : Type 0
  Some = ¬ ((k : ℕ) → k < z.words → x k ≡ 0)

  -- a write of the page has its words
  abbrev pub Its : ℕ → ℕ → (ℕ → ℕ) → Type 0
  Its design at-page words = design ≡ d → at-page ≡ page → (k : ℕ) → k < z.words → words k ≡ x k

  -- the design stands in its slot and is none of the pack's; the page reads so, and every finished write of it has these words; the design's last finished update found it live, and so does one that is under way
  pub record Known (l : Ledger) : Type 0 where
    pub design : l.design slot ≡ d
    pub elder : pack_design l.pack slot < d
    pub text : (k : ℕ) → k < z.words → l.pages.text i k ≡ x k
    pub finished : Each Its l.finished
    pub stored : Some → T ((last_update d l.stored).live page)
    pub begun : Some → T (l.pending.updating slot) → T ((l.pending.update slot).live page)

  keep : (l l' : Ledger) → l'.design slot ≡ l.design slot → l'.pack ≡ l.pack → l'.pages.text i ≡ l.pages.text i → l'.stored ≡ l.stored
      → (T (l'.pending.updating slot) → T (l.pending.updating slot)) → l'.pending.update ≡ l.pending.update → Each Its l'.finished → Known l → Known l'
  keep l l' e-design e-pack e-text e-stored updating e-update its k = record {
    design = e-design ∙ k.design;
    elder = rw e-pack k.elder;
    text = λ n h. ap (λ (f : ℕ → ℕ). f n) e-text ∙ k.text n h;
    finished = its;
    stored = λ h. rw e-stored (k.stored h);
    begun = λ h t. rw e-update (k.begun h (updating t));
  }

  -- ── updates and cuts ──
  -- an open update of the design is that of its slot
  abbrev pub Only : Ledger → ℕ → Type 0
  Only l s = T (l.pending.updating s) → (l.pending.update s).design ≡ d → s ≡ slot

  one_update : (s : ℕ) (l : Ledger) → Only l s → Known l → Known (finish_update s l)
  unfolding finish_update
  one_update s l only k = if_elim Known (l.pending.updating s) _ l (λ u. record {
    design = k.design;
    elder = k.elder;
    text = k.text;
    finished = k.finished;
    stored = λ h. elim (split_update (l.pending.update s) l.stored d) [
      | inl y ↦ let e = only u y.0 in
          subst (λ (v : L.Update). T (v.live page)) (sym y.1) (subst (λ (a : ℕ). T ((l.pending.update a).live page)) (sym e) (k.begun h (subst (λ (a : ℕ). T (l.pending.updating a)) e u)))
      | inr y ↦ subst (λ (v : L.Update). T (v.live page)) (sym y.1) (k.stored h)
    ];
    begun = λ h t. k.begun h (elim (split_put l.pending.updating s false slot) [ inl y ↦ absurd (subst T y.1 t) | inr y ↦ subst T y.1 t ]);
  }) (λ u. k)

  all_updates : (n : ℕ) (lands : ℕ → Bool) (l : Ledger) → ((s : ℕ) → s < n → Only l s) → Known l → Known (finish_updates n lands l)
  unfolding finish_updates
  all_updates zero lands l only k = k
  all_updates (suc s) lands l only k =
      let rest = all_updates s lands l (λ t h. only t (omega arith)) k in
      let a = aside_all s lands l in
      if_elim Known (lands s) _ _
      (λ t. one_update s (finish_updates s lands l) (λ u e. only s (omega arith) (a.updating s u) (ap (λ (f : ℕ → L.Update). (f s).design) (sym a.update) ∙ e)) rest) (λ t. rest)

  all_writes : (n : ℕ) (lands : ℕ → Bool) (l : Ledger) → ((f : ℕ) → f < n → Open Its l f) → Known l → Known (finish_writes n lands l)
  all_writes n lands l o k =
      let b = beside_all n lands l in
      keep l (finish_writes n lands l) (ap (λ (f : ℕ → ℕ). f slot) b.design) b.pack (ap (λ (f : ℕ → ℕ → ℕ). f i) b.text) b.stored (λ t. rw b.updating at t) b.update
      (each_finishes Its n lands l o k.finished) k

  lost : (l : Ledger) → Known l → Known (lose l)
  unfolding lose
  lost l k = keep l (lose l) refl refl refl refl (λ t. absurd t) refl k.finished k

  -- ── what may be fed ──
  abbrev pub Fits : Ledger → Fed → Type 0
  Fits l L.nothing = Unit {0}
  Fits l (L.restarted disk) = (k : ℕ) → k < z.words → found z disk i k ≡ x k
  Fits l (L.created s n) = ¬ (slot ≡ s)
  Fits l (L.deleted s) = ¬ (slot ≡ s)
  Fits l (L.activated s disk) = Unit {0}
  Fits l (L.deactivated s) = Unit {0}
  Fits l (L.faulted s p f) = Unit {0}
  Fits l (L.wrote s p w v) = ¬ (i ≡ page_of z s p)
  Fits l (L.claimed f n) = Unit {0}
  Fits l (L.truncated s k) = ¬ Holds (from_page z s k i)
  Fits l (L.began s) = Some → slot ≡ s → T (l.pages.live i)
  Fits l (L.page_end f good) = Open Its l f
  Fits l (L.map_end s good) = Only l s
  Fits l (L.import_begun n) = Unit {0}
  Fits l (L.imported_page p r words) = ¬ (l.births ≡ d)
  Fits l (L.imported_slot s h t) = ¬ (slot ≡ s) × ¬ (l.births ≡ d)
  Fits l (L.cut writes updates) = ((f : ℕ) → f < z.frames → Open Its l f) × ((s : ℕ) → s < z.slots → Only l s)

  pub note_known : (l : Ledger) (f : Fed) → Fits l f → Known l → Known (note z l f)
  unfolding note strike_write strike_update spent carried_in placed
  note_known l L.nothing t k = k
  note_known l (L.restarted disk) t k =
      let m = lost l k in record { design = m.design; elder = m.elder; text = t; finished = each_note Its z l (L.restarted disk) tt k.finished; stored = m.stored; begun = m.begun }
  note_known l (L.created s n) t k =
      keep l _ (put_other l.design s (suc l.births) slot t) refl (elim (split_over l.pages.text (of_slot z s) (λ w. 0) i) [ inl y ↦ absurd (t y.0) | inr y ↦ y.1 ]) refl (λ u. u) refl k.finished k
  note_known l (L.deleted s) t k = keep l _ (put_other l.design s 0 slot t) refl refl refl (λ u. u) refl k.finished k
  note_known l (L.activated s disk) t k = keep l _ refl refl refl refl (λ u. u) refl k.finished k
  note_known l (L.deactivated s) t k = keep l _ refl refl refl refl (λ u. u) refl k.finished k
  note_known l (L.faulted s p f) t k = keep l _ refl refl refl refl (λ u. u) refl k.finished k
  note_known l (L.wrote s p w v) t k = keep l _ refl refl (put_other l.pages.text (page_of z s p) (put (l.pages.text (page_of z s p)) w v) i t) refl (λ u. u) refl k.finished k
  note_known l (L.claimed f zero) t k = if_elim Known (voided z l (l.pending.noted f).place) _ l (λ u. keep l _ refl refl refl refl (λ v. v) refl k.finished k) (λ u. k)
  note_known l (L.claimed f (suc r)) t k = keep l _ refl refl refl refl (λ u. u) refl k.finished k
  note_known l (L.truncated s n) t k =
      keep l _ refl refl (elim (split_over l.pages.text (from_page z s n) (λ w. 0) i) [ inl y ↦ absurd (t y.0) | inr y ↦ y.1 ]) refl (λ u. u) refl k.finished k
  note_known l (L.began s) t k = record {
    design = k.design;
    elder = k.elder;
    text = k.text;
    finished = k.finished;
    stored = k.stored;
    begun = λ h u. elim (split_put l.pending.update s (L.begun z l s) slot) [
      | inl y ↦ subst (λ (v : L.Update). T (v.live page)) (sym y.1) (subst (λ (a : ℕ). T (l.pages.live a)) (sym (page_again z pos s i y.0)) (t h y.0))
      | inr y ↦ subst (λ (v : L.Update). T (v.live page)) (sym y.1) (k.begun h (elim (split_put l.pending.updating s true slot) [ inl q ↦ absurd (y.0 q.0) | inr q ↦ subst T q.1 u ]))
    ];
  }
  note_known l (L.page_end f good) t k =
      let b = beside_finish f l in
      if_elim Known (eqb good 1) _ _ (λ u. keep l (finish_write f l) (ap (λ (g : ℕ → ℕ). g slot) b.design) b.pack (ap (λ (g : ℕ → ℕ → ℕ). g i) b.text) b.stored (λ v. rw b.updating at v) b.update
      (each_finish Its f l t k.finished) k) (λ u. keep l _ refl refl refl refl (λ v. v) refl k.finished k)
  note_known l (L.map_end s good) t k = if_elim Known (eqb good 1) _ _ (λ u. one_update s l t k)
      (λ u. keep l (strike_update s l) refl refl refl refl (λ v. elim (split_put l.pending.updating s false slot) [ inl y ↦ absurd (subst T y.1 v) | inr y ↦ subst T y.1 v ]) refl k.finished k)
  note_known l (L.import_begun n) t k = keep l _ refl refl refl refl (λ u. u) refl k.finished k
  note_known l (L.imported_page p r words) t k = keep l _ refl refl refl refl (λ u. u) refl (each_note Its z l (L.imported_page p r words) (λ e. absurd (t e)) k.finished) k
  note_known l (L.imported_slot s h v) t k = record {
    design = put_other l.design s l.births slot t.0 ∙ k.design;
    elder = k.elder;
    text = λ n g. ap (λ (b : Bool). (if b (v (i % z.pages)) (l.pages.text i)) n) (untold (of_slot z s i) t.0) ∙ k.text n g;
    finished = k.finished;
    stored = λ u. elim (split_update (L.listing h l) l.stored d) [ inl y ↦ absurd (t.1 y.0) | inr y ↦ subst (λ (b : L.Update). T (b.live page)) (sym y.1) (k.stored u) ];
    begun = k.begun;
  }
  note_known l (L.cut writes updates) t k =
      let b = beside_all z.frames writes l in
      let l₁ = finish_writes z.frames writes l in
      lost (finish_updates z.slots updates l₁)
      (all_updates z.slots updates l₁ (λ s h u e. t.1 s h (rw b.updating at u) (ap (λ (f : ℕ → L.Update). (f s).design) (sym b.update) ∙ e)) (all_writes z.frames writes l t.0 k))

  -- ── while its design is active, the page is live ──
  abbrev pub Lively : Fed → Type 0
  Lively L.nothing = Unit {0}
  Lively (L.restarted disk) = ⊥
  Lively (L.created s n) = Unit {0}
  Lively (L.deleted s) = Unit {0}
  Lively (L.activated s disk) = Unit {0}
  Lively (L.deactivated s) = ¬ (slot ≡ s)
  Lively (L.faulted s p f) = Unit {0}
  Lively (L.wrote s p w v) = Unit {0}
  Lively (L.claimed f n) = Unit {0}
  Lively (L.truncated s k) = ¬ Holds (from_page z s k i)
  Lively (L.began s) = Unit {0}
  Lively (L.page_end f good) = Unit {0}
  Lively (L.map_end s good) = Unit {0}
  Lively (L.import_begun n) = Unit {0}
  Lively (L.imported_page p r words) = Unit {0}
  Lively (L.imported_slot s h t) = Unit {0}
  Lively (L.cut writes updates) = ⊥

  -- a page of zeros that a claim finds changed is live no more; this one is not of zeros
  not_void : (l : Ledger) (j : ℕ) → Known l → Some → T (voided z l j) → ¬ (i ≡ j)
  not_void l j k some v e = some (λ n h. sym (k.text n h) ∙ ap (λ (a : ℕ). l.pages.text a n) e ∙ eqb→eq (l.pages.text j n) 0 (all_elim z.words (λ w. eqb (l.pages.text j w) 0) (and_right (l.pages.touched j) _ v) n h))

  pub note_live : (l : Ledger) (f : Fed) → Lively f → Known l → Some → T (l.pages.live i) → T ((note z l f).pages.live i)
  unfolding note strike_write strike_update finish_write finish_update spent carried_in placed
  note_live l L.nothing t k some v = v
  note_live l (L.restarted disk) t k some v = absurd t
  note_live l (L.created s n) t k some v = v
  note_live l (L.deleted s) t k some v = v
  note_live l (L.activated s disk) t k some v = elim (split_over l.pages.live (λ j. of_slot z s j and non (same (at disk.maps j) 0)) true i) [ inl y ↦ subst T (sym y.1) tt | inr y ↦ subst T (sym y.1) v ]
  note_live l (L.deactivated s) t k some v = elim (split_over l.pages.live (of_slot z s) false i) [ inl y ↦ absurd (t y.0) | inr y ↦ subst T (sym y.1) v ]
  note_live l (L.faulted s p f) t k some v = v
  note_live l (L.wrote s p w y) t k some v = v
  note_live l (L.claimed f zero) t k some v = if_elim (λ (a : Ledger). T (a.pages.live i)) (voided z l (l.pending.noted f).place) _ l
      (λ u. elim (split_put l.pages.live (l.pending.noted f).place false i) [ inl y ↦ absurd (not_void l (l.pending.noted f).place k some u y.0) | inr y ↦ subst T (sym y.1) v ]) (λ u. v)
  note_live l (L.claimed f (suc r)) t k some v = v
  note_live l (L.truncated s n) t k some v = elim (split_over l.pages.live (from_page z s n) false i) [ inl y ↦ absurd (t y.0) | inr y ↦ subst T (sym y.1) v ]
  note_live l (L.began s) t k some v = v
  note_live l (L.page_end f good) t k some v = if_elim (λ (a : Ledger). T (a.pages.live i)) (eqb good 1) _ _ (λ u. if_elim (λ (a : Ledger). T (a.pages.live i)) (l.pending.writing f) _ l
      (λ q. elim (split_put l.pages.live (l.pending.noted f).place true i) [ inl y ↦ subst T (sym y.1) tt | inr y ↦ subst T (sym y.1) v ]) (λ q. v)) (λ u. v)
  note_live l (L.map_end s good) t k some v = if_elim (λ (a : Ledger). T (a.pages.live i)) (eqb good 1) _ _ (λ u. if_elim (λ (a : Ledger). T (a.pages.live i)) (l.pending.updating s) _ l (λ q. v) (λ q. v)) (λ u. v)
  note_live l (L.import_begun n) t k some v = v
  note_live l (L.imported_page p r words) t k some v = v
  note_live l (L.imported_slot s h y) t k some v = v
  note_live l (L.cut writes updates) t k some v = absurd t
