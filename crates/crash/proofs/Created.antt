-- Create and delete: the design of a slot in which nothing names a record changes.
use mathlib.Core.Path.{◌≡◌, refl, ap, sym, ◌∙◌, subst}
use mathlib.Core.Bool.{Bool, false}
use mathlib.Core.List.{List}
use mathlib.Core.Logic.{inl, inr}
use Prim.Native.Nat.{ℕ, suc, ◌%◌, ◌<◌, ◌≤◌}
use native.Mathlib.Nat.{mod-lt}
use native.Mathlib.Omega.{arith}
use native.Mathlib.Decide.{ℕ_discrete}
use lib.Dec.{T}
use lib.ListN.{set}
use Rattle.tables.specs.Base.{at}
use Rattle.tables.specs.Store.{Split}
use Rattle.model.specs.declared.sizes.Sizes.{Sizes}
use Rattle.model.specs.declared.event.Design.TheVariants.{Create, Delete}
use Rattle.model.specs.declared.event.Event.TheVariants as Event
use Rattle.model.specs.State.{State, frame_at, all_pages, slot_of}
use Rattle.model.specs.Laws.Creating.{Creating, creating}
use Rattle.model.specs.Laws.Ruled.{Ruled}
use Rattle.model.specs.Setters.{on_disk, set_numbers, set_accounts, raise, counted}
use Rattle.model.specs.Parts.{of_slot}
use Rattle.model.specs.Designs as Designs
use Rattle.model.specs.Step.{carried}
use Rattle.model.specs.Laws.Fit.{Fit}
use Rattle.model.specs.Ledger.{Ledger, Write, pack_design, note, put, over, set_text, set_design, set_number}
use Rattle.model.specs.Acts.{fed}
use Rattle.model.specs.Demand3.{last_update}
use Rattle.model.specs.Laws.Index.{split_set, slot_below, page_again}
use Rattle.crash.proofs.Writes.{split_put, put_other, split_over, none_updated}
use Rattle.crash.proofs.Link.{Owned, OfPage, Designs, Newborn, Tied}
use Rattle.invariant.proofs.Raised.{raise_fit, raise_ruled}
use Rattle.crash.proofs.Steps.{Step}
use Rattle.crash.proofs.Raised.{raise_tied, number_tied}
use Rattle.crash.proofs.OneFrame.{in_frame_same, alike_same}

module _ (z : Sizes) (st : State) (l : Ledger) (fit : Fit z st) (rules : Ruled z st) (k : Tied z st l) (s d : ℕ) (off : ¬ (at st.memory.slots.active s ≡ 1)) (bare : (i : ℕ) → i < all_pages z → slot_of z i ≡ s → at st.disk.maps i ≡ 0) where
  abbrev of : ℕ → ℕ
  of = l.design

  abbrev of' : ℕ → ℕ
  of' = put of s d

  -- nothing names a record in the slot
  map_other : (i : ℕ) → i < all_pages z → (r : ℕ) → at st.disk.maps i ≡ suc r → ¬ (slot_of z i ≡ s)
  map_other i h r p e = omega (arith, bare i h e, p)

  address_other : (i : ℕ) → i < all_pages z → (r : ℕ) → at st.memory.held.addresses i ≡ suc r → ¬ (slot_of z i ≡ s)
  address_other i h r p e = off (rw e at (rules.records.address_active_holds i h r p))

  updating_other : (t : ℕ) → t < z.slots → at st.memory.slots.updating t ≡ 1 → ¬ (t ≡ s)
  updating_other t h u e = off (rw e at (rules.records.update_active_holds t h u))

  image_other : (i : ℕ) → i < all_pages z → (r : ℕ) → at st.memory.slots.images i ≡ suc r → ¬ (slot_of z i ≡ s)
  image_other i h r p = updating_other (slot_of z i) (slot_below z fit.sizes.pages i h) (rules.records.image_zero_holds i h r p)

  frame_other : (f : ℕ) → f < z.frames → (i : ℕ) → (frame_at st.memory.core.frames f).page ≡ suc i → ¬ (slot_of z i ≡ s)
  frame_other f h i p e = off (rw e at (rules.frames.active f h i p))

  same_of : (t : ℕ) → ¬ (t ≡ s) → of' t ≡ of t
  same_of t e = put_other of s d t e

  own : (i r : ℕ) (x : Write) → ¬ (slot_of z i ≡ s) → Owned z l.pack (at st.disk.records) of x i r → Owned z l.pack (at st.disk.records) of' x i r
  own i r x e o = let q = same_of (slot_of z i) e in elim o [
    | inl a ↦ inl (record { some = a.some; design = a.design ∙ sym q; page = a.page; words = a.words; counts = a.counts })
    | inr a ↦ inr (record { none = a.none; listed = a.listed; design = q ∙ a.design; words = a.words })
  ]

  -- a write of the page as it is now named was one before
  of_page_holds : (i : ℕ) (y : Write) → ¬ (slot_of z i ≡ s) → OfPage z of' i y → OfPage z of i y
  of_page_holds i y e q = (q.0 ∙ same_of (slot_of z i) e, q.1)

  module _ (numbers' accounts' : List ℕ) (births' : ℕ) (text' : ℕ → ℕ → ℕ) (kept' : ℕ → Bool) (designs : Designs z l.pack (at numbers') births' of' l.stored) (unknown : (p : ℕ) → ¬ (T ((last_update d l.stored).live p)))
      (new : (t : ℕ) → t < z.slots → ¬ ((last_update d l.stored).design ≡ d) → ¬ (d ≡ pack_design l.pack t))
      (text_other : (i : ℕ) → ¬ (slot_of z i ≡ s) → (n : ℕ) → text' i n ≡ l.pages.text i n) (text_here : (i : ℕ) → i < all_pages z → slot_of z i ≡ s → (n : ℕ) → n < z.words → text' i n ≡ 0) (kept_was : (i : ℕ) → T (kept' i) → T (l.pages.kept i)) where
    redesigned : Tied z (counted z (on_disk (λ x. set_numbers numbers' (set_accounts accounts' x)) st)) (set_text text' kept' (set_design births' of' l))
    unfolding counted
    redesigned = record {
      disk = record {
        designs = designs;
        listing = record {
          owned = λ i h r p. own i r _ (map_other i h r p) (k.disk.listing.owned i h r p);
          numbered = k.disk.listing.numbered;
          after = k.disk.listing.after;
          listed = λ i h t. elim (split_put of s d (slot_of z i)) [
            | inl x ↦ absurd (unknown (i % z.pages) (subst (λ (c : ℕ). T ((last_update c l.stored).live (i % z.pages))) x.1 t))
            | inr x ↦ let o = k.disk.listing.listed i h (subst (λ (c : ℕ). T ((last_update c l.stored).live (i % z.pages))) x.1 t) in
                (o.0, o.1, λ y j q g. o.2 y j (of_page_holds i y x.0 q) (subst (λ (c : ℕ). y.serial ≤ (last_update c l.stored).after) x.1 g))
          ];
          newborn = λ i h u. elim (split_put of s d (slot_of z i)) [
            | inl x ↦ record {
              old = λ e. absurd (new (slot_of z i) (slot_below z fit.sizes.pages i h) (subst (λ (c : ℕ). ¬ ((last_update c l.stored).design ≡ c)) x.1 u) (sym x.1 ∙ e));
              young = λ e. bare i h x.0;
            }
            | inr x ↦ let o = k.disk.listing.newborn i h (subst (λ (c : ℕ). ¬ ((last_update c l.stored).design ≡ c)) x.1 u) in record { old = λ e. o.old (sym x.1 ∙ e); young = λ e. o.young (λ c. e (x.1 ∙ c)) }
          ];
          promised = λ i h r p. subst (λ (c : ℕ). (last_update c l.stored).design ≡ c → T ((last_update c l.stored).live (i % z.pages))) (sym (same_of (slot_of z i) (map_other i h r p))) (k.disk.listing.promised i h r p);
        };
      };
      memory = let m = k.memory in record {
        named = record {
          imaged = λ i h r p. own i r _ (image_other i h r p) (m.named.imaged i h r p);
          live = λ i h r p e. own i r _ (address_other i h r p) (m.named.live i h r p e);
          latest = λ i h r p e y j q. m.named.latest i h r p e y j (of_page_holds i y (address_other i h r p) q);
          rested = λ i h a r p y j q. m.named.rested i h a r p y j (of_page_holds i y (map_other i h r p) q);
        };
        begun = let u = m.begun in record {
          only = u.only;
          opened = u.opened;
          design = λ t h e. u.design t h e ∙ sym (same_of t (updating_other t h e));
          ahead = u.ahead;
          listed = λ i h e t. let o = u.listed i h e t in (o.0, o.1, λ y j q g. o.2 y j (of_page_holds i y (image_other i h o.0 o.1) q) g);
          promised = u.promised;
        };
        lives = m.lives;
        alive = m.alive;
        framed = λ f h. in_frame_same (m.framed f h) (alike_same refl) (λ n c. refl) refl refl refl (λ i p. let e = frame_other f h i p in (refl, (same_of (slot_of z i) e, (text_other i e, (refl, kept_was i)))));
        away = record {
          paged = λ i h a r p e n c. m.away.paged i h a r p e n c ∙ sym (text_other i (address_other i h r p) n);
          void = λ i h o a v n c. text_other i (λ e. off (rw e at o)) n ∙ m.away.void i h o a v n c;
        };
        filed = λ i h a n c. let o = m.filed i h a n c in elim (ℕ_discrete (slot_of z i) s) [
          | yes e ↦ (λ p. text_here i h e n c, λ r p. absurd (map_other i h r p e))
          | no e ↦ (λ p. text_other i e n ∙ o.0 p, λ r p. text_other i e n ∙ o.1 r p)
        ];
        kept = λ i h t r x. let e : ¬ (slot_of z i ≡ s) = elim x [ inl p ↦ map_other i h r p | inr y ↦ elim y [ inl p ↦ image_other i h r p | inr p ↦ address_other i h r p.0 ] ] in
            let o = m.kept i h (kept_was i t) r x in record { latest = λ y j q. o.latest y j (of_page_holds i y e q); words = λ n c. text_other i e n ∙ o.words n c };
      };
    }

pub create : (z : Sizes) (s q n : ℕ) → Step z (Event.Design (Create s q n))
unfolding carried fed note Designs.create
create z s q n st l b = redesigned z (on_disk (raise n) st) (set_number (put l.number new n) l) (raise_fit z st n b.fit) (raise_ruled z st n b.ruled) (number_tied z (on_disk (raise n) st) l _ (raise_tied z st l n b.tied)) s new off
    (λ i h e. b.ruled.disk.empty_map_holds i h (ap (at st.disk.numbers) e ∙ asked.empty)) _ _ new (over l.pages.text (of_slot z s) (λ w. 0)) (over l.pages.kept (of_slot z s) false)
    (record {
      born = λ t h e. elim (split_put l.design s new t) [
        | inl x ↦ omega (arith, x.1)
        | inr x ↦ rw x.1 (d.born t h (λ c. e (elim (number_split t) [ inl y ↦ absurd (x.0 y.0) | inr y ↦ y.1 ∙ c ])))
      ];
      distinct = λ i hi j hj r p e. elim (split_put l.design s new i) [
        | inl x ↦ elim (split_put l.design s new j) [ inl y ↦ x.0 ∙ sym y.0 | inr y ↦ absurd (omega (arith, x.1, y.1, p, e, d.young j hj)) ]
        | inr x ↦ elim (split_put l.design s new j) [ inl y ↦ absurd (omega (arith, x.1, y.1, p, e, d.young i hi)) | inr y ↦ d.distinct i hi j hj r (sym x.1 ∙ p) (sym y.1 ∙ e) ]
      ];
      young = λ t h. elim (split_put l.design s new t) [ inl x ↦ rw x.1 (omega arith) | inr x ↦ omega (arith, x.1, d.young t h) ];
      elder = λ t h. omega (arith, d.elder t h);
      known = λ c p h. d.known c p (elim h [ inl e ↦ inl e | inr e ↦ inr (omega (arith, e)) ]);
    })
    (λ p. d.known new p (inr (omega arith))) (λ t h u e. omega (arith, d.elder t h, e))
    (λ i e a. elim (split_over l.pages.text (of_slot z s) (λ w. 0) i) [ inl x ↦ absurd (e x.0) | inr x ↦ ap (λ (t : ℕ → ℕ). t a) x.1 ])
    (λ i h e a c. elim (split_over l.pages.text (of_slot z s) (λ w. 0) i) [ inl x ↦ ap (λ (t : ℕ → ℕ). t a) x.1 | inr x ↦ absurd (x.0 e) ])
    (λ i t. elim (split_over l.pages.kept (of_slot z s) false i) [ inl x ↦ absurd (rw x.1 at t) | inr x ↦ rw x.1 at t ])
  where
    asked : Creating z st s q n
    asked = creating z st s q n b.asked

    new : ℕ
    new = suc l.births

    d : Designs z l.pack (at st.disk.numbers) l.births l.design l.stored
    d = b.tied.disk.designs

    off : ¬ (at st.memory.slots.active s ≡ 1)
    off e = omega (arith, asked.empty, b.ruled.records.active_filled_holds s asked.slot e)

    number_split : (t : ℕ) → Split (t ≡ s) (at (set st.disk.numbers s n) t) n (at st.disk.numbers t)
    number_split t = split_set st.disk.numbers s n t (rw b.fit.disk.numbers asked.slot)

pub delete : (z : Sizes) (s : ℕ) → Step z (Event.Design (Delete s))
unfolding carried fed note Designs.delete
delete z s st l b = redesigned z st l b.fit b.ruled b.tied s 0 b.asked.1.1.1.0 bare _ _ l.births l.pages.text l.pages.kept
    (record {
      born = λ t h e. elim (split_set st.disk.numbers s 0 t (rw b.fit.disk.numbers b.asked.0)) [
        | inl x ↦ absurd (e x.1)
        | inr x ↦ rw (put_other l.design s 0 t x.0) (d.born t h (λ c. e (x.1 ∙ c)))
      ];
      distinct = λ i hi j hj r p e. d.distinct i hi j hj r (was i r p) (was j r e);
      young = λ t h. elim (split_put l.design s 0 t) [ inl x ↦ omega (arith, x.1) | inr x ↦ omega (arith, x.1, d.young t h) ];
      elder = d.elder;
      known = d.known;
    })
    (λ p. d.known 0 p (inl refl)) (λ t h u e. u (none_updated l.stored)) (λ i e a. refl) (λ i h e a c. (b.tied.memory.filed i h (λ x. b.asked.1.1.1.0 (rw e at x)) a c).0 (bare i h e)) (λ i t. t)
  where
    d : Designs z l.pack (at st.disk.numbers) l.births l.design l.stored
    d = b.tied.disk.designs

    bare : (i : ℕ) → i < all_pages z → slot_of z i ≡ s → at st.disk.maps i ≡ 0
    bare i h e = subst (λ (j : ℕ). at st.disk.maps j ≡ 0) (page_again z b.fit.sizes.pages s i e) (b.asked.1.1.0 (i % z.pages) (mod-lt i b.fit.sizes.pages))

    was : (t r : ℕ) → put l.design s 0 t ≡ suc r → l.design t ≡ suc r
    was t r p = elim (split_put l.design s 0 t) [ inl x ↦ absurd (omega (arith, x.1, p)) | inr x ↦ sym x.1 ∙ p ]
