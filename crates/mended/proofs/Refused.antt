-- Lists from a mended pack whose parents are not lower: every restart is refused, so nothing ever happens, and demand 3 holds of them as well.
use mathlib.Core.Path.{◌≡◌, refl, ap, sym, ◌∙◌}
use mathlib.Core.Bool.{Bool, true, false}
use mathlib.Core.List.{List, [], ◌∷◌, map}
use Prim.Native.Nat.{ℕ, zero, suc, ◌<◌}
use native.Mathlib.Omega.{arith}
use lib.Dec.{T, eqb}
use borrow.Author.Tests.{ne_eqb}
use Rattle.tables.specs.Base.{at, if, count}
use Rattle.tables.specs.Laws.{and_left, and_right}
use Rattle.tables.specs.Questions.{none, ask, first_no, all_yes}
use Rattle.tables.specs.Rule.{Holds}
use Rattle.model.specs.declared.sizes.Sizes.{Sizes}
use Rattle.model.specs.State.{Disk, Memory, State, all_pages, slot_of}
use Rattle.model.specs.Rules.{lower, disk_rules}
use Rattle.model.specs.Laws.Ruled.{disk_ruled}
use Rattle.model.specs.Restart.{raised, restarted}
use Rattle.model.specs.Step.{outcome, all_fit, restart}
use Rattle.model.specs.Parts.{word_at}
use Rattle.model.specs.Ledger as L
use Rattle.model.specs.Ledger.{Ledger, filled, pack_design, pack_number, no_write, no_update, finish_write, finish_update, finish_writes, finish_updates, lose, unwritten}
use Rattle.model.specs.Acts.{Act, event, looking, importing, exporting, restarting, cutting, cutting_in, World, act, allowed, legal, run, noted, start}
use Rattle.model.specs.Demand3.{After, last_into, last_update, in_one_place_of_maps, live_listed}
use Rattle.model.specs.FromPack.{from_pack, written_words, pack_words, written_reads, pack_reads, in_pack, birth_maps, from_packed}
use Rattle.model.specs.OneNumber.{one_number, write_by, update_by, by_number, from_pack_by_number}
use Rattle.invariant.proofs.Midst.{inside}
use Rattle.crash.proofs.Writes.{no_write_holds, no_update_holds}
use Rattle.crash.proofs.GivenStart.{births_once}

-- nothing open, nothing finished at a cut
none_written : (n : ℕ) (lands : ℕ → Bool) (l : Ledger) → ((f : ℕ) → ¬ (T (l.pending.writing f))) → finish_writes n lands l ≡ l
unfolding finish_writes
none_written zero lands l c = refl
none_written (suc f) lands l c = go (lands f) (none_written f lands l c)
  where
    go : (b : Bool) → finish_writes f lands l ≡ l → if b (finish_write f (finish_writes f lands l)) (finish_writes f lands l) ≡ l
    go true e = ap (finish_write f) e ∙ no_write_holds f l (c f)
    go false e = e

none_updated : (n : ℕ) (lands : ℕ → Bool) (l : Ledger) → ((s : ℕ) → ¬ (T (l.pending.updating s))) → finish_updates n lands l ≡ l
unfolding finish_updates
none_updated zero lands l c = refl
none_updated (suc s) lands l c = go (lands s) (none_updated s lands l c)
  where
    go : (b : Bool) → finish_updates s lands l ≡ l → if b (finish_update s (finish_updates s lands l)) (finish_updates s lands l) ≡ l
    go true e = ap (finish_update s) e ∙ no_update_holds s l (c s)
    go false e = e

-- nothing has happened since the start
pub record Still (z : Sizes) (pack : Disk) (w : World) : Type 0 where
  pub down : ¬ (T w.up)
  pub disk : w.state.disk ≡ pack
  pub pack_kept : w.ledger.pack ≡ pack
  pub design : (s : ℕ) → w.ledger.design s ≡ pack_design pack s
  pub births : w.ledger.births ≡ count z.slots (filled pack)
  pub number : w.ledger.number ≡ pack_number z pack
  pub finished : w.ledger.finished ≡ []
  pub stored : w.ledger.stored ≡ []
  pub writing : (f : ℕ) → ¬ (T (w.ledger.pending.writing f))
  pub updating : (s : ℕ) → ¬ (T (w.ledger.pending.updating s))

module _ (z : Sizes) (pack : Disk) (high : ¬ (Holds (lower z.accounts (at pack.parents)))) where
  pub not_ruled : (st : State) → st.disk ≡ pack → ¬ (Holds (disk_rules z st))
  not_ruled st e h = high (rw (ap (λ (d : Disk). d.parents) e) at (disk_ruled z st h).parent_lower_holds)

  pub act_still : (w : World) (a : Act) → T (allowed z w a) → Still z pack w → Still z pack (act z w a)
  unfolding allowed act restart noted lose L.note
  act_still w (event e) t k = absurd (k.down t)
  act_still w (looking s p) t k = k
  act_still w (importing s q n b) t k = absurd (k.down t)
  act_still w (exporting s buffer) t k = absurd (k.down t)
  act_still w restarting t k = go (first_no (ask 1 (all_fit z w.state) (ask 2 (disk_rules z w.state) none))) refl
    where
      go : (n : ℕ) → first_no (ask 1 (all_fit z w.state) (ask 2 (disk_rules z w.state) none)) ≡ n
          → (let o = outcome n 0 w.state (restarted z (raised z w.state.disk)) in Still z pack (record { up = if (eqb o.answer.refusal 0) true w.up; state = o.left; ledger = noted z o (L.restarted w.state.disk) w.ledger }))
      go zero e = absurd (not_ruled w.state k.disk (all_yes 0 (ask 1 (all_fit z w.state) (ask 2 (disk_rules z w.state) none)) tt e).1.0)
      go (suc n) e = rw (ne_eqb (suc n) 0 (λ x. omega (arith, x))) k
  act_still w (cutting_in c n writes updates junk) t k = absurd (k.down (inside z w c n writes updates junk t).up)
  act_still w (cutting writes updates junk) t k =
      let l = w.ledger in
      let same : finish_updates z.slots updates (finish_writes z.frames writes l) ≡ l = ap (finish_updates z.slots updates) (none_written z.frames writes l k.writing) ∙ none_updated z.slots updates l k.updating in
      record {
        down = λ x. x;
        disk = go w.up k.down _;
        pack_kept = ap (λ (x : Ledger). x.pack) same ∙ k.pack_kept;
        design = λ s. ap (λ (x : Ledger). x.design s) same ∙ k.design s;
        births = ap (λ (x : Ledger). x.births) same ∙ k.births;
        number = ap (λ (x : Ledger). x.number) same ∙ k.number;
        finished = ap (λ (x : Ledger). x.finished) same ∙ k.finished;
        stored = ap (λ (x : Ledger). x.stored) same ∙ k.stored;
        writing = λ f x. x;
        updating = λ s x. x;
      }
    where
      go : (b : Bool) → ¬ (T b) → (d : Disk) → if b d w.state.disk ≡ pack
      go true n d = absurd (n tt)
      go false n d = k.disk

  pub run_still : (acts : List Act) (w : World) → T (legal z w acts) → Still z pack w → Still z pack (run z w acts)
  unfolding run legal
  run_still [] w t k = k
  run_still (a ∷ acts) w t k = run_still acts (act z w a) (and_right (allowed z w a) (legal z (act z w a) acts) t) (act_still w a (and_left (allowed z w a) (legal z (act z w a) acts) t) k)

pub start_still : (z : Sizes) (pack : Disk) (junk : Memory) → Still z pack (start z pack junk)
unfolding start unwritten
start_still z pack junk = record { down = λ x. x; disk = refl; pack_kept = refl; design = λ s. refl; births = refl; number = refl; finished = refl; stored = refl; writing = λ f x. x; updating = λ s x. x }

-- ── then the claims hold ──
-- nothing is finished, and the disk is the pack; packed: each slot's design in the pack
module _ (z : Sizes) (w : World) (packed : ℕ → ℕ) (down : ¬ (T w.up)) (same-disk : w.state.disk ≡ w.ledger.pack) (none-finished : w.ledger.finished ≡ []) (none-stored : w.ledger.stored ≡ [])
    (same_design : (i : ℕ) → w.ledger.design (slot_of z i) ≡ packed (slot_of z i)) (once : Holds (in_one_place_of_maps z w)) where
  same_map : (i : ℕ) → at w.state.disk.maps i ≡ at w.ledger.pack.maps i
  same_map i = ap (λ (d : Disk). at d.maps i) same-disk

  still_claim : Holds (from_packed z w packed)
  unfolding from_packed written_words pack_words live_listed written_reads pack_reads birth_maps last_into last_update no_write no_update
  still_claim = (
    once,
    (
      λ i h r p s. absurd (omega (arith, rw none-finished at s)),
      (
        λ i h r p n. (sym (same_map i) ∙ p, (same_design i, λ c l. ap (λ (d : Disk). word_at z d.records r c) same-disk)),
        (
          λ i h t e. rw none-stored at t,
          (λ i h up. absurd (down up), (λ i h up. absurd (down up), λ i h n. (λ e. same_map i, λ e. absurd (e (same_design i))))),
        ),
      ),
    ),
  )

module _ (z : Sizes) (pack : Disk) (w : World) (k : Still z pack w) where
  disk_is : w.state.disk ≡ w.ledger.pack
  disk_is = k.disk ∙ sym k.pack_kept

  module _ (once : (i : ℕ) → i < all_pages z → (j : ℕ) → j < all_pages z → (r : ℕ) → at pack.maps i ≡ suc r → at pack.maps j ≡ suc r → i ≡ j) where
    in_pack_holds : (i : ℕ) → at w.state.disk.maps i ≡ at pack.maps i
    in_pack_holds i = ap (λ (d : Disk). at d.maps i) k.disk

    map_once_holds : Holds (in_one_place_of_maps z w)
    map_once_holds i h j l r p q = once i h j l r (sym (in_pack_holds i) ∙ p) (sym (in_pack_holds j) ∙ q)

    pub still_says : After (from_pack z w) z w
    unfolding from_pack
    still_says = record {
      disk = still_claim z w (in_pack z w) k.down disk_is k.finished k.stored (λ i. k.design (slot_of z i) ∙ ap (λ (d : Disk). pack_design d (slot_of z i)) (sym k.pack_kept)) map_once_holds;
      reads = λ s p n up. absurd (k.down up);
      looks = λ s p up. absurd (k.down up);
    }

    -- .. by the number
    pub still_by_number : Holds (from_pack_by_number z w)
    unfolding by_number
    still_by_number = still_claim z (by_number w) (at w.ledger.pack.numbers) k.down disk_is (ap (map (write_by w.ledger.number)) k.finished) (ap (map (update_by w.ledger.number)) k.stored)
        (λ i. ap (λ (d : Disk). at d.numbers (slot_of z i)) disk_is) map_once_holds

  -- no design but the pack's
  pub still_one : ((i : ℕ) → i < z.slots → (j : ℕ) → j < z.slots → (r : ℕ) → at pack.numbers i ≡ suc r → at pack.numbers j ≡ suc r → i ≡ j) → Holds (one_number w)
  unfolding one_number
  still_one once b h c i e =
      let same = births_once z pack once (suc b) (suc c) (omega (arith, h, k.births)) (omega (arith, i, k.births)) (sym (ap (λ (f : ℕ → ℕ). f (suc b)) k.number) ∙ e ∙ ap (λ (f : ℕ → ℕ). f (suc c)) k.number) in
      omega (arith, same)
