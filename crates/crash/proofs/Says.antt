-- What the invariant says: the claim of demand 3, from any pack and from a format, and the reads of demand 2.
use mathlib.Core.Path.{◌≡◌, refl, ap, sym, ◌∙◌}
use mathlib.Core.List.{List, []}
use mathlib.Core.Logic.{inl, inr}
use Prim.Native.Nat.{ℕ, zero, suc, ◌+◌, ◌*◌, ◌<◌}
use native.Mathlib.Omega.{arith}
use native.Mathlib.Decide.{ℕ_discrete}
use lib.Dec.{T}
use lib.ListN.{length, take, drop, length-take, length-drop}
use lib.Seq.{get_or-drop, get_or-take}
use Rattle.tables.specs.Base.{at}
use Rattle.tables.specs.Rule.{Holds, same, ◌and◌, each}
use Rattle.tables.specs.StoreLoops.{part_fits}
use Rattle.tables.specs.Questions.{first_no, all_yes}
use Rattle.model.specs.declared.sizes.Sizes.{Sizes}
use Rattle.model.specs.declared.event.Page.TheVariants.{Read}
use Rattle.model.specs.declared.event.Event.{Event}
use Rattle.model.specs.declared.event.Event.TheVariants as Event
use Rattle.model.specs.State.{frames, framed, READING, page_of}
use Rattle.model.specs.Parts.{frame_of}
use Rattle.model.specs.Questions.{questions, look_questions}
use Rattle.model.specs.Pages
use Rattle.model.specs.Step.{outcome, step, look, answer, asked, result, all_above, whole}
use Rattle.model.specs.Acts.{World}
use Rattle.model.specs.State.{all_pages, slot_of}
use Rattle.model.specs.Ledger.{pack_design}
use Rattle.model.specs.Demand3.{After, demand3, own_words, live_listed, live_reads, last_into, last_update_at, some_of, of_page, newest}
use Rattle.model.specs.FromPack.{from_pack, written_words, pack_words, written_reads, pack_reads, in_pack, birth_maps, from_packed, listed_live}
use Rattle.invariant.proofs.Stands.{frame_of_holds}
use Rattle.crash.proofs.Writes.{each_of_holds, some_of_holds, of_some, last_in, numbered_from_1}
use Rattle.crash.proofs.Link.{Own, Newest}
use Rattle.crash.proofs.Steps.{Good}

-- an outcome with refusal 0 is the work's
pub not_refused : {A : Type 0} (n result : ℕ) (old new : A) → (let o = outcome n result old new in o.answer.refusal ≡ 0 → (n ≡ 0) × ((o.answer.result ≡ result) × (o.left ≡ new)))
not_refused zero result old new e = (refl, (refl, refl))
not_refused (suc n) result old new e = absurd (omega (arith, e))

module _ (z : Sizes) (w : World) (k : Good z w) where
  on_list : Holds (live_listed z w)
  unfolding live_listed
  on_list i h t e = let b = k.disk.listing.listed i h t in omega (arith, b.1, e)

  -- ── where a write is finished since the start ──
  written : Holds (written_words z w)
  unfolding written_words
  written i h r p s = elim (k.disk.listing.owned i h r p) [ inl o ↦ (o.design, (o.page, o.words)) | inr o ↦ absurd (omega (arith, o.none, s)) ]

  -- a promised page whose record's last finished write is its own reads as that
  as_written : (i : ℕ) → i < all_pages z → T w.up → T (w.ledger.pages.kept i) → (r : ℕ) → at w.state.disk.maps i ≡ suc r → Own z (at w.state.disk.records) w.ledger.design (last_into r w.ledger.finished) i r
      → (n : ℕ) → Newest z w.ledger.design w.ledger.finished i n (last_into r w.ledger.finished)
      → Holds (some_of w.ledger.finished λ x. of_page z w i x and newest z w i n x and each z.words λ c. same (w.ledger.pages.text i c) (x.words c))
  as_written i h up u r p o n b = some_of_holds w.ledger.finished _ (last_into r w.ledger.finished) (last_in r w.ledger.finished o.some) (
    (o.design, (o.page, o.counts)),
    (each_of_holds w.ledger.finished _ (λ y m q l. omega (arith, b y m q (omega (arith, l)))), λ c l. ((k.memory up).kept i h u r (inl p)).words c l ∙ o.words c l),
  )

  written_reads_holds : Holds (written_reads z w)
  unfolding written_reads
  written_reads_holds i h up t u s =
      let b = k.disk.listing.listed i h t in
      elim (k.disk.listing.owned i h b.0 b.1) [
        | inl o ↦ as_written i h up u b.0 b.1 o (last_update_at z w i).after b.2
        | inr o ↦ let y = of_some w.ledger.finished _ s in
            absurd (omega (arith, o.none, numbered_from_1 w.ledger.finished k.disk.listing.numbered y.0 y.1, ((k.memory up).kept i h u b.0 (inl b.1)).latest y.0 y.1 y.2))
      ]

  -- ── where none is ──
  as_in_pack_holds : Holds (pack_words z w (in_pack z w))
  unfolding pack_words
  as_in_pack_holds i h r p n = elim (k.disk.listing.owned i h r p) [ inl o ↦ absurd (n o.some) | inr o ↦ (o.listed, (o.design, o.words)) ]

  pack_reads_holds : Holds (pack_reads z w)
  unfolding pack_reads
  pack_reads_holds i h up u r p n c l = ((k.memory up).kept i h u r (inl p)).words c l ∙ elim (k.disk.listing.owned i h r p) [ inl o ↦ absurd (n o.some) | inr o ↦ o.words c l ]

  at_birth : Holds (birth_maps z w (in_pack z w))
  unfolding birth_maps
  at_birth i h n = let b = k.disk.listing.newborn i h n in (b.old, b.young)

  -- ── beyond the papers ──
  pub listed_live_holds : Holds (listed_live z w)
  unfolding listed_live
  listed_live_holds i h r p =
      let of = w.ledger.design (slot_of z i) in
      elim (ℕ_discrete (last_update_at z w i).design of) [
        | yes e ↦ inl (k.disk.listing.promised i h r p e)
        | no e ↦ let b = k.disk.listing.newborn i h e in
            elim (ℕ_discrete of (pack_design w.ledger.pack (slot_of z i))) [ yes q ↦ inr (e, (q, sym (b.old q) ∙ p)) | no q ↦ absurd (omega (arith, b.young q, p)) ]
      ]

  -- ── from a pack that lists nothing every listed record is written ──
  module _ (bare : (i : ℕ) → at w.ledger.pack.maps i ≡ 0) where
    only_written : (i : ℕ) → i < all_pages z → (r : ℕ) → at w.state.disk.maps i ≡ suc r → Own z (at w.state.disk.records) w.ledger.design (last_into r w.ledger.finished) i r
    only_written i h r p = elim (k.disk.listing.owned i h r p) [ inl o ↦ o | inr o ↦ absurd (omega (arith, bare i, o.listed)) ]

    own : Holds (own_words z w)
    unfolding own_words
    own i h r p = let o = only_written i h r p in (o.some, (o.design, (o.page, o.words)))

    live_reads_holds : Holds (live_reads z w)
    unfolding live_reads
    live_reads_holds i h up t u = let b = k.disk.listing.listed i h t in as_written i h up u b.0 b.1 (only_written i h b.0 b.1) (last_update_at z w i).after b.2

  -- a page that is in a frame, and not being read, reads as its text
  in_frame : (s p n : ℕ) → T w.up → n < z.words → Holds (framed z (frames w.state) (page_of z s p))
      → ((g : ℕ) → g < z.frames → ((frames w.state).frame g).page ≡ suc (page_of z s p) → ¬ (((frames w.state).frame g).transfer ≡ READING))
      → at w.state.memory.core.words (frame_of z (frames w.state) (page_of z s p) * z.words + n) ≡ w.ledger.pages.text (page_of z s p) n
  in_frame s p n up l h arrived =
      let t = frame_of_holds z (frames w.state) (page_of z s p) h in
      (((k.memory up).framed (frame_of z (frames w.state) (page_of z s p)) t.0).holding (page_of z s p) t.1).said (arrived (frame_of z (frames w.state) (page_of z s p)) t.0 t.1) n l

  read_right_holds : (s p n : ℕ) → T w.up → (let o = step z w.state (Event.Page (Read s p n)) in o.answer.refusal ≡ 0 → o.answer.result ≡ w.ledger.pages.text (page_of z s p) n)
  unfolding step answer result Pages.word_read
  read_right_holds s p n up e =
      let e' : Event = Event.Page (Read s p n) in
      let o = not_refused (answer z w.state e') (result z w.state e') w.state (whole z w.state e') e in
      let q = (all_yes 0 (asked z w.state (questions z w.state e')) (all_above z w.state e') o.0).1.1 in
      o.1.0 ∙ in_frame s p n up q.0.1.1 q.1.1.1.0 q.1.1.1.1.0

  -- W words, each the page's text
  look_right : (s p : ℕ) → T w.up → (let o = look z w.state s p in o.answer.refusal ≡ 0 → (length o.left ≡ z.words) × ((n : ℕ) → n < z.words → at o.left n ≡ w.ledger.pages.text (page_of z s p) n))
  unfolding look Pages.look_start
  look_right s p up e =
      let words = w.state.memory.core.words in
      let start = frame_of z (frames w.state) (page_of z s p) * z.words in
      let o = not_refused (first_no (asked z w.state (look_questions z w.state s p))) 0 [] (take z.words (drop start words)) e in
      let q = (all_yes 0 (asked z w.state (look_questions z w.state s p)) tt o.0).1.1 in
      let fits = part_fits z.frames z.words _ (frame_of_holds z (frames w.state) (page_of z s p) q.1.1.1.0).0 in (
        ap length o.1.1 ∙ simp (length-take, length-drop) (omega (arith, fits, k.fit.memory.words)),
        λ n l. ap (λ (x : List ℕ). at x n) o.1.1 ∙ rw (get_or-take, get_or-drop) (in_frame s p n up l q.1.1.1.0 q.1.1.1.1.0),
      )

  pub says_from_pack : After (from_pack z w) z w
  unfolding from_pack from_packed
  says_from_pack = record { disk = (k.rules.map_once_holds, (written, (as_in_pack_holds, (on_list, (written_reads_holds, (pack_reads_holds, at_birth)))))); reads = read_right_holds; looks = look_right }

  pub says : ((i : ℕ) → at w.ledger.pack.maps i ≡ 0) → After (demand3 z w) z w
  unfolding demand3
  says bare = record { disk = (k.rules.map_once_holds, (own bare, (on_list, live_reads_holds bare))); reads = read_right_holds; looks = look_right }
