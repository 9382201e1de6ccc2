-- "A cut before that store leaves an empty slot": over every legal list of acts that ends with a cut inside an import.
use mathlib.Core.Path.{◌≡◌, refl, ap, sym, ◌∙◌}
use mathlib.Core.Bool.{Bool, ◌&&◌}
use mathlib.Core.List.{List, [], ◌∷◌, ◌++◌}
use Prim.Native.Nat.{ℕ, zero, suc, ◌<◌}
use native.Mathlib.Omega.{arith}
use lib.Dec.{T, eqb}
use lib.ListN.{length}
use Rattle.tables.specs.Base.{at}
use Rattle.tables.specs.Laws.{if_elim, and_left}
use Rattle.model.specs.declared.sizes.Sizes.{Sizes}
use Rattle.model.specs.State.{Disk, Memory, State, files, frames, WRITING, page_of}
use Rattle.model.specs.Laws.Index.{slot_of_page, page_below}
use Rattle.model.specs.Writeback.{store_frame, store_image}
use Rattle.model.specs.Import.{sheet_of, import_answer}
use Rattle.model.specs.Stores as S
use Rattle.model.specs.Acts.{Act, cutting_in, World, run, land_writes, land_updates, landed, part, cut_off, act, allowed, legal, start}
use Rattle.model.specs.Carried.{Board, MayRun, from}
use Rattle.invariant.proofs.Imports.{Before, slot_empty}
use Rattle.invariant.proofs.Imported.{import_before}
use Rattle.invariant.proofs.Midst.{Inside, inside, part_none, part_import}
use Rattle.crash.proofs.Steps.{Good}
use Rattle.crash.proofs.Demand3.{act_keeps}
use Rattle.crash.proofs.Carried.{run_append, legal_append, kept}

-- what lands stores no number
writes_land : (z : Sizes) (st : State) (lands : ℕ → Bool) (n : ℕ) (d : Disk) → (land_writes z st lands n d).numbers ≡ d.numbers
unfolding land_writes store_frame
writes_land z st lands zero d = refl
writes_land z st lands (suc f) d = if_elim (λ (x : Disk). x.numbers ≡ d.numbers) (lands f && eqb ((frames st).frame f).transfer WRITING) _ _ (λ t. writes_land z st lands f d) (λ t. writes_land z st lands f d)

updates_land : (z : Sizes) (st : State) (lands : ℕ → Bool) (n : ℕ) (d : Disk) → (land_updates z st lands n d).numbers ≡ d.numbers
unfolding land_updates store_image
updates_land z st lands zero d = refl
updates_land z st lands (suc s) d = if_elim (λ (x : Disk). x.numbers ≡ d.numbers) (lands s && eqb ((files st).updating s) 1) _ _ (λ t. updates_land z st lands s d) (λ t. updates_land z st lands s d)

cut_numbers : (z : Sizes) (w : World) (writes updates : ℕ → Bool) (junk : Memory) → (cut_off z w writes updates junk).state.disk.numbers ≡ w.state.disk.numbers
unfolding landed
cut_numbers z w writes updates junk = if_elim (λ (d : Disk). d.numbers ≡ w.state.disk.numbers) w.up _ _
    (λ u. updates_land z w.state updates z.slots _ ∙ writes_land z w.state writes z.frames w.state.disk) (λ u. refl)

-- number, account and map of the slot are zero
pub record Empty (z : Sizes) (d : Disk) (s : ℕ) : Type 0 where
  pub number : at d.numbers s ≡ 0
  pub account : at d.accounts s ≡ 0
  pub map : (p : ℕ) → p < z.pages → at d.maps (page_of z s p) ≡ 0

-- in the midst of an import it was not refused, and the slot is empty
midst_before : (z : Sizes) (w : World) (s q n : ℕ) (sheet : List ℕ) (k : ℕ) (junk : Memory) → Inside z w (S.importing s q n sheet) k junk → Before z w.state s q n (sheet_of sheet)
unfolding S.made S.answered
midst_before z w s q n sheet k junk i = import_before z w.state s q n sheet (go (import_answer z w.state s q n sheet) refl i.before)
  where
    go : (m : ℕ) → import_answer z w.state s q n sheet ≡ m → k < length (S.by_answer m (S.stores z w.state (S.importing s q n sheet))) → import_answer z w.state s q n sheet ≡ 0
    go zero e l = e
    go (suc m) e l = absurd (omega (arith, l))

midst_empty : (z : Sizes) (w : World) (s q n : ℕ) (sheet : List ℕ) (k : ℕ) (junk : Memory) (i : Inside z w (S.importing s q n sheet) k junk) → at (part z w (S.importing s q n sheet) k).state.disk.numbers s ≡ 0
midst_empty z w s q n sheet zero junk i = ap (λ (x : World). at x.state.disk.numbers s) (part_none z w (S.importing s q n sheet)) ∙ (midst_before z w s q n sheet 0 junk i).empty
midst_empty z w s q n sheet (suc k) junk i =
    ap (λ (x : State). at x.disk.numbers s) (part_import z w s q n sheet k junk i).2 ∙ slot_empty z w.state s q n (sheet_of sheet) (midst_before z w s q n sheet (suc k) junk i) k

module _ (z : Sizes) (w : World) (s q n : ℕ) (sheet : List ℕ) (k : ℕ) (writes updates : ℕ → Bool) (junk : Memory) where
  abbrev cut : Act
  cut = cutting_in (S.importing s q n sheet) k writes updates junk

  cut_empty : T (allowed z w cut) → Good z w → Empty z (act z w cut).state.disk s
  unfolding act
  cut_empty t g =
      let i = inside z w (S.importing s q n sheet) k writes updates junk t in
      let b = midst_before z w s q n sheet k junk i in
      let w₁ = part z w (S.importing s q n sheet) k in
      let e : at (cut_off z w₁ writes updates junk).state.disk.numbers s ≡ 0 = ap (λ (l : List ℕ). at l s) (cut_numbers z w₁ writes updates junk)
      ∙ midst_empty z w s q n sheet k junk i in
      let r = (act_keeps z w cut t g).rules in
      let pos = g.fit.sizes.pages in
      record {
        number = e;
        account = r.empty_account_holds s b.slot e;
        map = λ m h. r.empty_map_holds (page_of z s m) (page_below z pos s m b.slot h) (ap (at (cut_off z w₁ writes updates junk).state.disk.numbers) (slot_of_page z pos s m h) ∙ e);
      }

pub cut_leaves_empty : (z : Sizes) (b : Board z) (before : List Act) (s q n : ℕ) (sheet : List ℕ) (k : ℕ) (writes updates : ℕ → Bool) (junk : Memory)
    → (let acts = before ++ cutting_in (S.importing s q n sheet) k writes updates junk ∷ [] in MayRun z b acts → Empty z (from z b acts).state.disk s)
unfolding legal run
cut_leaves_empty z b before s q n sheet k writes updates junk t =
    let a = cutting_in (S.importing s q n sheet) k writes updates junk in
    let w₀ = start z b.pack b.junk in
    let ok = legal_append z before (a ∷ []) w₀ t in
    rw (run_append z before (a ∷ []) w₀) (cut_empty z (from z b before) s q n sheet k writes updates junk (and_left (allowed z (from z b before) a) _ ok.1) (kept z b before ok.0))
