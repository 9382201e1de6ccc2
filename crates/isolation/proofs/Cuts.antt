-- A cut of both boards, between two acts or inside a call: the same transfers land, and the boards are left alike.
use mathlib.Core.Path.{◌≡◌, refl, ap, sym, ◌∙◌, subst, subst₂}
use mathlib.Core.Bool.{Bool, true, false, ◌&&◌}
use mathlib.Core.List.{List}
use Prim.Native.Nat.{ℕ, zero, suc}
use lib.Dec.{T, eqb, ltb}
use lib.ListN.{length}
use Rattle.tables.specs.Base.{if}
use Rattle.tables.specs.Laws.{and_right, if_elim}
use Rattle.tables.specs.Rule.{test, sound}
use Rattle.model.specs.declared.sizes.Sizes.{Sizes}
use Rattle.model.specs.declared.event.Event.{Event}
use Rattle.model.specs.State.{Disk, Memory, State, files, frames, WRITING}
use Rattle.model.specs.Writeback as Writeback
use Rattle.model.specs.Setters.{raise}
use Rattle.model.specs.Step.{answer, memory_lengths}
use Rattle.model.specs.Laws.Fit.{ChipFit, chip_fit}
use Rattle.model.specs.Import.{sheet_of, made}
use Rattle.model.specs.Stores as S
use Rattle.model.specs.Stores.{Call, stores, by_answer, first}
use Rattle.model.specs.Acts.{cutting, cutting_in, World, land_writes, land_updates, landed, partly, fed_part, part, act, allowed}
use Rattle.invariant.proofs.Midst.{Inside, inside, part_none, part_import}
use Rattle.crash.proofs.Demand3.{act_keeps, part_keeps}
use Rattle.isolation.specs.Words.{bare_disk, bare}
use Rattle.isolation.proofs.Reworded.{reworded_as, is_reworded}
use Rattle.isolation.proofs.Told.{told, ToldLike}
use Rattle.isolation.proofs.Landed.{cut_like}
use Rattle.isolation.proofs.StandingAlong.{act_stands, part_stands}
use Rattle.isolation.proofs.Alike.{Alike}
use Rattle.isolation.proofs.Events.{answer_same, both_paired}
use Rattle.isolation.proofs.Importing.{made_bare, partly_like}
use Rattle.isolation.proofs.Stored.{AllKept, first_bare, answered_kept, stores_kept}

-- ── what lands ──
writes_bare : (z : Sizes) (st : State) (lands : ℕ → Bool) (n : ℕ) (d : Disk) → bare_disk (land_writes z st lands n d) ≡ bare_disk d
unfolding land_writes Writeback.store_frame
writes_bare z st lands zero d = refl
writes_bare z st lands (suc f) d = if_elim (λ (x : Disk). bare_disk x ≡ bare_disk d) (lands f && eqb ((frames st).frame f).transfer WRITING) _ _ (λ t. writes_bare z st lands f d) (λ t. writes_bare z st lands f d)

updates_bare : (z : Sizes) (st other : State) (lands : ℕ → Bool) (n : ℕ) (d d' : Disk) → bare_disk d ≡ bare_disk d' → bare_disk (land_updates z st lands n d) ≡ bare_disk (land_updates z (reworded_as other st) lands n d')
unfolding land_updates Writeback.store_image
updates_bare z st other lands zero d d' e = e
updates_bare z st other lands (suc s) d d' e = go (lands s && eqb ((files st).updating s) 1) (updates_bare z st other lands s d d' e)
  where
    go : (b : Bool) → (let x = land_updates z st lands s d in let y = land_updates z (reworded_as other st) lands s d' in bare_disk x ≡ bare_disk y
        → bare_disk (if b (Writeback.store_image z st s x) x) ≡ bare_disk (if b (Writeback.store_image z (reworded_as other st) s y) y))
    go true i = ap (λ (x : Disk). bare_disk (Writeback.store_image z st s x)) i
    go false i = i

landed_bare : (z : Sizes) (st st' : State) (writes updates : ℕ → Bool) → bare st ≡ bare st' → bare_disk (landed z st writes updates) ≡ bare_disk (landed z st' writes updates)
unfolding landed
landed_bare z st st' writes updates e =
    let o = reworded_as st' st in
    subst (λ (x : State). bare_disk (landed z st writes updates) ≡ bare_disk (landed z x writes updates)) (sym (is_reworded st st' e))
    (updates_bare z st st' updates z.slots _ _ (writes_bare z st writes z.frames st.disk ∙ sym (writes_bare z o writes z.frames o.disk)))

-- the memory that a cut leaves is of the right lengths
allowed_chip : (z : Sizes) (w : World) (writes updates : ℕ → Bool) (m : Memory) → T (allowed z w (cutting writes updates m)) → ChipFit z m.chip
unfolding allowed
allowed_chip z w writes updates m t = chip_fit z m.chip (sound (memory_lengths z m) t).1

pub cut_alike : (z : Sizes) (hidden : ℕ) (w w' : World) (writes updates : ℕ → Bool) (m m' : Memory) → T (allowed z w (cutting writes updates m)) → T (allowed z w' (cutting writes updates m'))
    → Alike z hidden w w' → Alike z hidden (act z w (cutting writes updates m)) (act z w' (cutting writes updates m'))
unfolding act
cut_alike z hidden w w' writes updates m m' t t' a = record {
  good = act_keeps z w (cutting writes updates m) t a.good;
  good' = act_keeps z w' (cutting writes updates m') t' a.good';
  stands = act_stands z w (cutting writes updates m) t a.good a.stands;
  stands' = act_stands z w' (cutting writes updates m') t' a.good' a.stands';
  chip = allowed_chip z w writes updates m t;
  chip' = allowed_chip z w' writes updates m' t';
  up = refl;
  disk = subst (λ (c : Bool). bare_disk (if w.up (landed z w.state writes updates) w.state.disk) ≡ bare_disk (if c (landed z w'.state writes updates) w'.state.disk)) a.up (go w.up refl);
  tables = λ u. absurd u;
  ledger = cut_like z hidden writes updates w.ledger w'.ledger a.ledger;
}
  where
    go : (b : Bool) → w.up ≡ b → bare_disk (if b (landed z w.state writes updates) w.state.disk) ≡ bare_disk (if b (landed z w'.state writes updates) w'.state.disk)
    go true e = landed_bare z w.state w'.state writes updates (a.tables (rw e tt))
    go false e = a.disk

-- ── inside a call: after some of its stores the boards are alike ──
module _ (z : Sizes) (hidden : ℕ) (w w' : World) (a : Alike z hidden w w') where
  part_told : (c : Call) (k : ℕ) → T w.up → ToldLike z hidden (told (part z w c k).ledger) (told (part z w' c k).ledger)
  unfolding part fed_part
  part_told (S.event e) k u = a.ledger
  part_told (S.importing s q n b) zero u = a.ledger
  part_told (S.importing s q n b) (suc k) u = subst (λ (x : State). ToldLike z hidden (told (partly z w.state s n (sheet_of b) k w.ledger)) (told (partly z x s n (sheet_of b) k w'.ledger))) (sym (is_reworded w.state w'.state (a.tables u)))
      (partly_like z w.state _ _ _ s hidden n (sheet_of b) w.ledger w'.ledger a.ledger k)

  -- the same memory, and a disk with the same tables
  on_disks : (d d' : Disk) → T w.up → bare_disk d ≡ bare_disk d' → bare (record { disk = d; memory = w.state.memory }) ≡ bare (record { disk = d'; memory = w'.state.memory })
  on_disks d d' u e = λ x. record { disk = e x; memory = (a.tables u x).memory }

  event_bare : (e : Event) (k : ℕ) → T w.up → bare (part z w (S.event e) k).state ≡ bare (part z w' (S.event e) k).state
  unfolding part S.made S.answered
  event_bare e k u = on_disks (first k (S.made z w.state (S.event e)) w.state.disk) (first k (S.made z w'.state (S.event e)) w'.state.disk) u (first_bare k _ _ w.state.disk w'.state.disk kept a.disk)
    where
      kept : AllKept (by_answer (answer z w.state e) (stores z w.state (S.event e))) (by_answer (answer z w'.state e) (stores z w'.state (S.event e)))
      kept = subst₂ (λ (n : ℕ) (x : State). AllKept (by_answer (answer z w.state e) (stores z w.state (S.event e))) (by_answer n (stores z x (S.event e))))
          (sym (answer_same z hidden w w' a u e e (both_paired z hidden w w' a u e))) (sym (is_reworded w.state w'.state (a.tables u)))
          (answered_kept (answer z w.state e) _ _ (stores_kept z w.state _ _ _ e))

  import_bare : (s q n : ℕ) (b : List ℕ) (k : ℕ) (m m' : Memory) → Inside z w (S.importing s q n b) (suc k) m → Inside z w' (S.importing s q n b) (suc k) m'
      → bare (part z w (S.importing s q n b) (suc k)).state ≡ bare (part z w' (S.importing s q n b) (suc k)).state
  import_bare s q n b k m m' i i' = ap bare (part_import z w s q n b k m i).2
      ∙ on_disks (made z w.state s q n (sheet_of b) k (raise n w.state.disk)) (made z w'.state s q n (sheet_of b) k (raise n w'.state.disk)) i.up
      (made_bare z w.state s q n (sheet_of b) k (raise n w.state.disk) ∙ ap (λ (d : Disk). bare_disk (raise n d)) a.disk ∙ sym (made_bare z w'.state s q n (sheet_of b) k (raise n w'.state.disk)))
      ∙ sym (ap bare (part_import z w' s q n b k m' i').2)

  part_bare : (c : Call) (k : ℕ) (m m' : Memory) → Inside z w c k m → Inside z w' c k m' → bare (part z w c k).state ≡ bare (part z w' c k).state
  part_bare (S.event e) k m m' i i' = event_bare e k i.up
  part_bare (S.importing s q n b) zero m m' i i' = ap (λ (x : World). bare x.state) (part_none z w (S.importing s q n b)) ∙ a.tables i.up ∙ sym (ap (λ (x : World). bare x.state) (part_none z w' (S.importing s q n b)))
  part_bare (S.importing s q n b) (suc k) m m' i i' = import_bare s q n b k m m' i i'

  part_alike : (c : Call) (k : ℕ) (m m' : Memory) → Inside z w c k m → Inside z w' c k m' → Alike z hidden (part z w c k) (part z w' c k)
  part_alike c k m m' i i' = record {
    good = part_keeps z w c k m i a.good;
    good' = part_keeps z w' c k m' i' a.good';
    stands = part_stands z w c k m i a.stands;
    stands' = part_stands z w' c k m' i' a.stands';
    chip = unfold part in ((part_keeps z w c k m i a.good).copies i.up).fit;
    chip' = unfold part in ((part_keeps z w' c k m' i' a.good').copies i'.up).fit;
    up = unfold part in a.up;
    disk = ap (λ (s : State). s.disk) t;
    tables = λ x. t;
    ledger = part_told c k i.up;
  }
    where
      t : bare (part z w c k).state ≡ bare (part z w' c k).state
      t = part_bare c k m m' i i'

  -- the memory's lengths are asked of a cut inside too
  inside_allowed : (x : World) (c : Call) (k : ℕ) (writes updates : ℕ → Bool) (m : Memory) → T (allowed z x (cutting_in c k writes updates m)) → T (allowed z (part z x c k) (cutting writes updates m))
  unfolding allowed
  inside_allowed x c k writes updates m t = let b : Bool = test (memory_lengths z m) in let early : Bool = ltb k (length (S.made z x.state c)) in and_right early b (and_right x.up (early && b) t)

  pub cut_in_alike : (c : Call) (k : ℕ) (writes updates : ℕ → Bool) (m m' : Memory) → T (allowed z w (cutting_in c k writes updates m)) → T (allowed z w' (cutting_in c k writes updates m'))
      → Alike z hidden (act z w (cutting_in c k writes updates m)) (act z w' (cutting_in c k writes updates m'))
  unfolding act
  cut_in_alike c k writes updates m m' t t' =
      cut_alike z hidden (part z w c k) (part z w' c k) writes updates m m' (inside_allowed w c k writes updates m t) (inside_allowed w' c k writes updates m' t')
      (part_alike c k m m' (inside z w c k writes updates m t) (inside z w' c k writes updates m' t'))
