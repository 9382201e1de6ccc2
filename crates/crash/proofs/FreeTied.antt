-- A store into a free record, of a page of a design that stands in no slot, keeps the invariant of demand 3.
use mathlib.Core.Path.{◌≡◌, refl, ap, sym, ◌∙◌, subst}
use mathlib.Core.Bool.{true}
use mathlib.Core.List.{List, ◌∷◌}
use mathlib.Core.Logic.{◌⊎◌, inl, inr}
use Prim.Native.Nat.{ℕ, zero, suc, ◌+◌, ◌*◌, ◌<◌, ◌≤◌}
use native.Mathlib.Omega.{arith}
use native.Mathlib.Decide.{ℕ_discrete}
use lib.Dec.{T, eqb}
use lib.ListN.{length}
use Rattle.tables.specs.Base.{at, if}
use Rattle.tables.specs.Laws.{if_yes, if_no}
use Rattle.tables.specs.Store.{Split, length_store}
use Rattle.model.specs.declared.sizes.Sizes.{Sizes}
use Rattle.model.specs.Lines.{FREE, FILED, NULLED, LIVE, RELEASED, LEAVING}
use Rattle.model.specs.State.{Disk, State, Files, files, frames, all_pages, slot_of}
use Rattle.model.specs.Setters.{on_disk, set_records}
use Rattle.model.specs.Parts.{set_part}
use Rattle.model.specs.Laws.Ruled.{Ruled, OnDisk, OfRecords}
use Rattle.model.specs.Laws.Fit.{Fit}
use Rattle.model.specs.Ledger.{Ledger, Write, ended, spent, carried_in, page_write}
use Rattle.model.specs.Demand3.{last_into}
use Rattle.model.specs.Laws.Index.{slot_below}
use Rattle.crash.proofs.Writes.{In, Numbered, bounded, last_here, last_there}
use Rattle.crash.proofs.Link.{Owned, OfPage, Latest, Newest, KeptAs, Names, Tied}
use Rattle.invariant.proofs.FreeStore.{not_held, not_listed, not_imaged, word_other}

module _ (z : Sizes) (st : State) (fit : Fit z st) (rules : Ruled z st) (r₀ : ℕ) (below : r₀ < z.records) (free : (files st).state r₀ ≡ FREE) (new : ℕ → ℕ) where
  abbrev after : State
  after = on_disk (λ d. set_records (set_part z r₀ new d.records) d) st

  abbrev word : ℕ → ℕ
  word = at st.disk.records

  abbrev word' : ℕ → ℕ
  word' = at (set_part z r₀ new st.disk.records)

  other : (r n : ℕ) → r < z.records → n < z.words → ¬ (r ≡ r₀) → word' (r * z.words + n) ≡ word (r * z.words + n)
  other = word_other z st fit rules r₀ below free new

  module _ (l : Ledger) (k : Tied z st l) (p : ℕ) (fresh : (s : ℕ) → s < z.slots → ¬ (l.design s ≡ l.births)) where
    abbrev x : Write
    x = ended (page_write l.births p r₀ new) (suc (length l.finished))

    abbrev of : ℕ → ℕ
    of = l.design

    old_last : (r : ℕ) → ¬ (r ≡ r₀) → last_into r (x ∷ l.finished) ≡ last_into r l.finished
    old_last r e = last_there x l.finished r (λ d. e (sym d))

    own : (i r : ℕ) → r < z.records → ¬ (r ≡ r₀) → Owned z l.pack word of (last_into r l.finished) i r → Owned z l.pack word' of (last_into r (x ∷ l.finished)) i r
    own i r h e o = rw (old_last r e) (elim o [
      | inl q ↦ inl (record { some = q.some; design = q.design; page = q.page; words = λ n c. other r n h c e ∙ q.words n c; counts = q.counts })
      | inr q ↦ inr (record { none = q.none; listed = q.listed; design = q.design; words = λ n c. other r n h c e ∙ q.words n c })
    ])

    -- the write is of no page that stands in a slot
    of_none : (i : ℕ) → i < all_pages z → ¬ (OfPage z of i x)
    of_none i h q = fresh (slot_of z i) (slot_below z fit.sizes.pages i h) (sym q.0)

    newest : (i n r : ℕ) → i < all_pages z → ¬ (r ≡ r₀) → Newest z of l.finished i n (last_into r l.finished) → Newest z of (x ∷ l.finished) i n (last_into r (x ∷ l.finished))
    unfolding In
    newest i n r h e b y j q g = rw (old_last r e) (elim j [ inl d ↦ absurd (of_none i h (rw d at q)) | inr d ↦ b y d q g ])

    latest : (i r : ℕ) → i < all_pages z → ¬ (r ≡ r₀) → Latest z of l.finished i (last_into r l.finished) → Latest z of (x ∷ l.finished) i (last_into r (x ∷ l.finished))
    unfolding In
    latest i r h e b y j q = rw (old_last r e) (elim j [ inl d ↦ absurd (of_none i h (rw d at q)) | inr d ↦ b y d q ])

    by_map : (i : ℕ) → i < all_pages z → (r : ℕ) → at st.disk.maps i ≡ suc r → ¬ (r ≡ r₀)
    by_map i h r a e = not_listed z (files st) rules.records r₀ free i h (a ∙ ap suc e)

    by_image : (i : ℕ) → i < all_pages z → (r : ℕ) → at st.memory.slots.images i ≡ suc r → ¬ (r ≡ r₀)
    by_image i h r a e = not_imaged z (files st) rules.records r₀ free i h (a ∙ ap suc e)

    by_address : (i : ℕ) → i < all_pages z → (r : ℕ) → at st.memory.held.addresses i ≡ suc r → ¬ (r ≡ r₀)
    by_address i h r a e = not_held z (files st) rules.records r₀ free i h (a ∙ ap suc e)

    pub free_tied : Tied z after (carried_in p r₀ new l)
    unfolding carried_in Numbered
    free_tied = let d = k.disk.listing in let m = k.memory in record {
      disk = record {
        designs = k.disk.designs;
        listing = record {
          owned = λ i h r a. own i r (rules.disk.map_fit_holds i h r a) (by_map i h r a) (d.owned i h r a);
          numbered = (refl, d.numbered);
          after = λ c. omega (arith, d.after c);
          listed = λ i h t. let b = d.listed i h t in (b.0, b.1, newest i _ b.0 h (by_map i h b.0 b.1) b.2);
          newborn = d.newborn;
          promised = d.promised;
        };
      };
      memory = record {
        named = record {
          imaged = λ i h r a. own i r (rules.records.image_fit_holds i h r a) (by_image i h r a) (m.named.imaged i h r a);
          live = λ i h r a e. own i r (rules.records.address_fit_holds i h r a) (by_address i h r a) (m.named.live i h r a e);
          latest = λ i h r a e. latest i r h (by_address i h r a) (m.named.latest i h r a e);
          rested = λ i h b r a. latest i r h (by_map i h r a) (m.named.rested i h b r a);
        };
        begun = let u = m.begun in record {
          only = u.only;
          opened = u.opened;
          design = u.design;
          promised = u.promised;
          ahead = λ s h e. omega (arith, u.ahead s h e);
          listed = λ i h e t. let b = u.listed i h e t in (b.0, b.1, newest i _ b.0 h (by_image i h b.0 b.1) b.2);
        };
        lives = m.lives;
        alive = m.alive;
        framed = m.framed;
        away = record {
          paged = λ i h w r a e n c. other r n (rules.records.address_fit_holds i h r a) c (by_address i h r a) ∙ m.away.paged i h w r a e n c;
          void = m.away.void;
        };
        filed = λ i h b n c. let o = m.filed i h b n c in (o.0, λ r a. o.1 r a ∙ sym (other r n (rules.disk.map_fit_holds i h r a) c (by_map i h r a)));
        kept = λ i h t r a.
            let ne : ¬ (r ≡ r₀) = elim a [ inl b ↦ by_map i h r b | inr b ↦ elim b [ inl q ↦ by_image i h r q | inr q ↦ by_address i h r q.0 ] ] in
            let lt : r < z.records = elim a [ inl b ↦ rules.disk.map_fit_holds i h r b | inr b ↦ elim b [ inl q ↦ rules.records.image_fit_holds i h r q | inr q ↦ rules.records.address_fit_holds i h r q.0 ] ] in
            let o = m.kept i h t r a in record { latest = latest i r h ne o.latest; words = λ n c. o.words n c ∙ sym (other r n lt c ne) };
      };
    }

-- ── a birth that is spent ──
pub spent_tied : (z : Sizes) (st : State) (l : Ledger) (n : ℕ) → Tied z st l → Tied z st (spent n l)
unfolding spent
spent_tied z st l n k = let d = k.disk.designs in record {
  disk = record {
    designs = record {
      born = d.born;
      distinct = d.distinct;
      young = λ s h. omega (arith, d.young s h);
      elder = λ s h. omega (arith, d.elder s h);
      known = λ c p h. d.known c p (elim h [ inl e ↦ inl e | inr e ↦ inr (omega (arith, e)) ]);
    };
    listing = k.disk.listing;
  };
  memory = let m = k.memory in record { named = m.named; begun = m.begun; lives = m.lives; alive = m.alive; framed = m.framed; away = m.away; filed = m.filed; kept = m.kept };
}
