-- "Same design there means same number": demand 3's claims by birth are its claims by number, since no two births have the same number.
use mathlib.Core.Path.{◌≡◌, refl, ap, sym, ◌∙◌, subst}
use mathlib.Core.Bool.{Bool, true, false}
use mathlib.Core.List.{List, [], ◌∷◌, map}
use mathlib.Core.Logic.{inl, inr}
use Prim.Native.Nat.{ℕ, suc, ◌<◌, ◌≤◌, ◌%◌}
use native.Mathlib.Omega.{arith}
use native.Mathlib.Decide.{ℕ_discrete}
use lib.Dec.{T, eqb}
use borrow.Author.Tests.{eq-eqb, ne_eqb}
use Rattle.tables.specs.Base.{at, if}
use Rattle.tables.specs.Rule.{Holds, same, ◌and◌, each}
use Rattle.model.specs.declared.sizes.Sizes.{Sizes}
use Rattle.model.specs.State.{all_pages, slot_of}
use Rattle.model.specs.Laws.Index.{slot_below}
use Rattle.model.specs.Ledger.{Write, Update, no_write, no_update, pack_design}
use Rattle.model.specs.Acts.{World}
use Rattle.model.specs.Demand3.{last_into, last_update, some_of, design_of, in_one_place_of_maps, last_update_at, of_page, newest, own_words, live_listed, live_reads, demand3}
use Rattle.model.specs.FromPack.{in_pack, as_in_pack, updated, wrote_into, written_words, pack_words, written_reads, pack_reads, birth_maps, from_packed, from_pack}
use Rattle.model.specs.OneNumber.{one_number, write_by, update_by, by_number, demand3_by_number, from_pack_by_number}
use Rattle.crash.proofs.Writes.{In, each_of_holds, of_each, some_of_holds, of_some}
use Rattle.crash.proofs.Steps.{Good}
use Rattle.crash.proofs.Origins.{Each}
use Rattle.crash.proofs.Updates.{AllOf, BornUpdates}
use Rattle.crash.proofs.Births.{Born}
use Rattle.crash.proofs.Given.{view, Given}

-- ── lists of writes and updates, their designs by number ──
module _ (number : ℕ → ℕ) (none : number 0 ≡ 0) where
  no_write_by : write_by number no_write ≡ no_write
  unfolding no_write
  no_write_by = ap (λ (d : ℕ). record { design = d; page = 0; record' = 0; words = λ w. 0; serial = 0; counts = false }) none

  last_by : (r : ℕ) (xs : List Write) → last_into r (map (write_by number) xs) ≡ write_by number (last_into r xs)
  unfolding last_into
  last_by r [] = sym no_write_by
  last_by r (x ∷ xs) = go (eqb x.record' r) (last_by r xs)
    where
      go : (b : Bool) → last_into r (map (write_by number) xs) ≡ write_by number (last_into r xs) → if b (write_by number x) (last_into r (map (write_by number) xs)) ≡ write_by number (if b x (last_into r xs))
      go true e = refl
      go false e = e

  no_update_by : update_by number no_update ≡ no_update
  unfolding no_update
  no_update_by = ap (λ (d : ℕ). record { design = d; live = λ p. false; after = 0 }) none

  -- a write of the one list is one of the other
  in_by : (y : Write) (xs : List Write) → In y xs → In (write_by number y) (map (write_by number) xs)
  unfolding In
  in_by y [] i = i
  in_by y (x ∷ xs) i = elim i [ inl e ↦ inl (ap (write_by number) e) | inr j ↦ inr (in_by y xs j) ]

  by_in : (y : Write) (xs : List Write) → In y (map (write_by number) xs) → (x : Write) × In x xs × (y ≡ write_by number x)
  unfolding In
  by_in y [] i = absurd i
  by_in y (x ∷ xs) i = elim i [ inl e ↦ (x, inl refl, e) | inr j ↦ let (v, a, b) = by_in y xs j in (v, inr a, b) ]

  -- the last update of a design, where no other of the list has its number
  module _ (births : ℕ) (once : (b c : ℕ) → b ≤ births → c ≤ births → number b ≡ number c → b ≡ c) where
    last_update_by : (d : ℕ) → d ≤ births → (xs : List Update) → AllOf (λ u. u.design ≤ births) xs → last_update (number d) (map (update_by number) xs) ≡ update_by number (last_update d xs)
    unfolding last_update
    last_update_by d h [] a = sym no_update_by
    last_update_by d h (x ∷ xs) a = rw (same x.design a.0) (go (eqb x.design d) (last_update_by d h xs a.1))
      where
        same : (c : ℕ) → c ≤ births → eqb (number c) (number d) ≡ eqb c d
        same c i = elim (ℕ_discrete c d) [ yes e ↦ eq-eqb (number c) (number d) (ap number e) ∙ sym (eq-eqb c d e) | no e ↦ ne_eqb (number c) (number d) (λ q. e (once c d i h q)) ∙ sym (ne_eqb c d e) ]

        go : (b : Bool) → last_update (number d) (map (update_by number) xs) ≡ update_by number (last_update d xs)
            → if b (update_by number x) (last_update (number d) (map (update_by number) xs)) ≡ update_by number (if b x (last_update d xs))
        go true e = refl
        go false e = e

-- ── the claims ──
module _ (z : Sizes) (w : World) (k : Good z w) (g : Given z w.up (view w)) (born : Born w) (updates : BornUpdates w.ledger) where
  abbrev number : ℕ → ℕ
  number = w.ledger.number

  abbrev w' : World
  w' = by_number w

  in_slots : (i : ℕ) → i < all_pages z → slot_of z i < z.slots
  in_slots i h = slot_below z k.fit.sizes.pages i h

  -- a page's design, by its number
  named : (i : ℕ) → i < all_pages z → design_of z w' i ≡ number (design_of z w i)
  unfolding by_number
  named i h = g.slots (slot_of z i) (in_slots i h)

  young : (i : ℕ) → i < all_pages z → design_of z w i ≤ w.ledger.births
  young i h = k.disk.designs.young (slot_of z i) (in_slots i h)

  into : (r : ℕ) → last_into r w'.ledger.finished ≡ write_by number (last_into r w.ledger.finished)
  unfolding by_number
  into r = last_by number g.none r w.ledger.finished

  serial_same : (r : ℕ) → (last_into r w'.ledger.finished).serial ≡ (last_into r w.ledger.finished).serial
  serial_same r = ap (λ (x : Write). x.serial) (into r)

  last_same : (i : ℕ) → i < all_pages z → last_update_at z w' i ≡ update_by number (last_update_at z w i)
  unfolding by_number
  last_same i h = ap (λ (n : ℕ). last_update n (map (update_by number) w.ledger.stored)) (named i h)
      ∙ last_update_by number g.none w.ledger.births g.once (design_of z w i) (young i h) w.ledger.stored updates

  live_was : (i p : ℕ) → i < all_pages z → T ((last_update_at z w' i).live p) → T ((last_update_at z w i).live p)
  live_was i p h t = subst (λ (u : Update). T (u.live p)) (last_same i h) t

  after_same : (i : ℕ) → i < all_pages z → (last_update_at z w' i).after ≡ (last_update_at z w i).after
  after_same i h = ap (λ (u : Update). u.after) (last_same i h)

  -- a finished write of the page, by number and by birth
  of_page_holds : (i : ℕ) → i < all_pages z → (y : Write) → Holds (of_page z w i y) → Holds (of_page z w' i (write_by number y))
  of_page_holds i h y (d, (p, c)) = (ap number d ∙ sym (named i h), (p, c))

  page_of_holds : (i : ℕ) → i < all_pages z → (y : Write) → In y w.ledger.finished → Holds (of_page z w' i (write_by number y)) → Holds (of_page z w i y)
  page_of_holds i h y j (d, (p, c)) = (g.once y.design (design_of z w i) (born y j) (young i h) (d ∙ named i h), (p, c))

  -- what is said of the last write into a listed record
  own_by : (i r : ℕ) → i < all_pages z → (last_into r w.ledger.finished).design ≡ design_of z w i → (last_into r w'.ledger.finished).design ≡ design_of z w' i
  own_by i r h e = ap (λ (x : Write). x.design) (into r) ∙ ap number e ∙ sym (named i h)

  word_by : (r c : ℕ) → (last_into r w'.ledger.finished).words c ≡ (last_into r w.ledger.finished).words c
  word_by r c = ap (λ (x : Write). x.words c) (into r)

  page_by : (r : ℕ) → (last_into r w'.ledger.finished).page ≡ (last_into r w.ledger.finished).page
  page_by r = ap (λ (x : Write). x.page) (into r)

  written_by : Holds (written_words z w) → Holds (written_words z w')
  unfolding written_words by_number
  written_by c i h r p s = let (d, (q, x)) = c i h r p (omega (arith, s, serial_same r)) in (own_by i r h d, (page_by r ∙ q, λ n l. x n l ∙ sym (word_by r n)))

  owned_by : Holds (own_words z w) → Holds (own_words z w')
  unfolding own_words by_number
  owned_by c i h r p = let (s, (d, (q, x))) = c i h r p in (omega (arith, s, serial_same r), (own_by i r h d, (page_by r ∙ q, λ n l. x n l ∙ sym (word_by r n))))

  listed_by_holds : Holds (live_listed z w) → Holds (live_listed z w')
  unfolding live_listed by_number
  listed_by_holds c i h t = c i h (live_was i (i % z.pages) h t)

  -- the newest of a page's writes
  newest_by : (i n m : ℕ) → i < all_pages z → m ≡ n → (x : Write) → Holds (newest z w i n x) → Holds (newest z w' i m (write_by number x))
  unfolding by_number
  newest_by i n m h e x c = each_of_holds (map (write_by number) w.ledger.finished) _ (λ y j o l.
      let (v, a, b) = by_in number g.none y w.ledger.finished j in
      let o' = page_of_holds i h v a (subst (λ (u : Write). Holds (of_page z w' i u)) b o) in
      let s : y.serial ≡ v.serial = ap (λ (u : Write). u.serial) b in
      omega (arith, of_each w.ledger.finished _ c v a o' (omega (arith, l, s, e)), s))

  -- a page reads as such a write
  abbrev AsWritten : World → ℕ → ℕ → Type 0
  AsWritten u i n = Holds (some_of u.ledger.finished λ x. of_page z u i x and newest z u i n x and each z.words λ c. same (u.ledger.pages.text i c) (x.words c))

  reads_by : (i n m : ℕ) → i < all_pages z → m ≡ n → AsWritten w i n → AsWritten w' i m
  unfolding by_number
  reads_by i n m h e c =
      let (y, j, (o, (new, words))) = of_some w.ledger.finished _ c in
      some_of_holds (map (write_by number) w.ledger.finished) _ (write_by number y) (in_by number g.none y w.ledger.finished j) (of_page_holds i h y o, (newest_by i n m h e y new, words))

  live_reads_by : Holds (live_reads z w) → Holds (live_reads z w')
  unfolding live_reads by_number
  live_reads_by c i h up t kept = reads_by i (last_update_at z w i).after (last_update_at z w' i).after h (after_same i h) (c i h up (live_was i (i % z.pages) h t) kept)

  written_reads_by : Holds (written_reads z w) → Holds (written_reads z w')
  unfolding written_reads by_number
  written_reads_by c i h up t kept s =
      let (y, j, o) = of_some (map (write_by number) w.ledger.finished) _ s in
      let (v, a, b) = by_in number g.none y w.ledger.finished j in
      let some = some_of_holds w.ledger.finished (of_page z w i) v a (page_of_holds i h v a (subst (λ (u : Write). Holds (of_page z w' i u)) b o)) in
      reads_by i (last_update_at z w i).after (last_update_at z w' i).after h (after_same i h) (c i h up (live_was i (i % z.pages) h t) kept some)

  place : Holds (in_one_place_of_maps z w) → Holds (in_one_place_of_maps z w')
  unfolding by_number
  place c = c

  -- the pack's designs
  pack_number_holds : (i : ℕ) → i < all_pages z → at w.ledger.pack.numbers (slot_of z i) ≡ number (in_pack z w (slot_of z i))
  pack_number_holds i h = g.packed (slot_of z i) (in_slots i h)

  in_pack_by : (i : ℕ) → i < all_pages z → Holds (as_in_pack z w (in_pack z w) i) → Holds (as_in_pack z w' (at w.ledger.pack.numbers) i)
  in_pack_by i h e = named i h ∙ ap number e ∙ sym (pack_number_holds i h)

  by_in_pack : (i : ℕ) → i < all_pages z → Holds (as_in_pack z w' (at w.ledger.pack.numbers) i) → Holds (as_in_pack z w (in_pack z w) i)
  by_in_pack i h e = g.once (design_of z w i) (in_pack z w (slot_of z i)) (young i h) (k.disk.designs.elder (slot_of z i) (in_slots i h)) (sym (named i h) ∙ e ∙ pack_number_holds i h)

  pack_words_by : Holds (pack_words z w (in_pack z w)) → Holds (pack_words z w' (at w.ledger.pack.numbers))
  unfolding pack_words by_number
  pack_words_by c i h r p n = let (m, (d, x)) = c i h r p (λ s. n (omega (arith, s, serial_same r))) in (m, (in_pack_by i h d, x))

  pack_reads_by : Holds (pack_reads z w) → Holds (pack_reads z w')
  unfolding pack_reads by_number
  pack_reads_by c i h up kept r p n = c i h up kept r p (λ s. n (omega (arith, s, serial_same r)))

  birth_maps_by : Holds (birth_maps z w (in_pack z w)) → Holds (birth_maps z w' (at w.ledger.pack.numbers))
  unfolding birth_maps by_number
  birth_maps_by c i h n =
      let (old, new) = c i h (λ e. n (ap (λ (u : Update). u.design) (last_same i h) ∙ ap number e ∙ sym (named i h))) in
      (λ e. old (by_in_pack i h e), λ e. new (λ q. e (in_pack_by i h q)))

  -- ── the three claims ──
  pub one_each : Holds (one_number w)
  unfolding one_number
  one_each b h c i e = omega (arith, g.once (suc b) (suc c) (omega (arith, h)) (omega (arith, i)) e)

  pub by_number_from_pack : Holds (from_pack z w) → Holds (from_pack_by_number z w)
  unfolding from_pack from_packed
  by_number_from_pack (once, (written, (packed, (listed, (reads, (pack_reads_holds, births)))))) =
      (place once, (written_by written, (pack_words_by packed, (listed_by_holds listed, (written_reads_by reads, (pack_reads_by pack_reads_holds, birth_maps_by births))))))

  pub by_number_holds : Holds (demand3 z w) → Holds (demand3_by_number z w)
  unfolding demand3
  by_number_holds (once, (owned, (listed, reads))) = (place once, (owned_by owned, (listed_by_holds listed, live_reads_by reads)))
