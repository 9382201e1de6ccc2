-- What holds of a board after every move: how its tables, its past and the device's sectors belong together.
use mathlib.Core.Path.{◌≡◌, ap, sym, ◌∙◌, subst}
use mathlib.Core.List.{List, [], ◌∷◌}
use mathlib.Core.Logic.{◌⊎◌, inl, inr}
use Prim.Native.Nat.{ℕ, zero, suc, ◌+◌, ◌-◌, ◌<◌, ◌≤◌}
use native.Mathlib.Omega.{arith}
use lib.Dec.{T}
use lib.ListN.{length, get_or}
use Rattle.tables.specs.Rule.{Holds}
use Rattle.model.specs.declared.sizes.Sizes.{Sizes}
use Rattle.model.specs.Sizes.{sizes_fit}
use Rattle.model.specs.State.{Disk}
use Rattle.model.specs.Step.{memory_lengths}
use Rattle.model.specs.Acts as K
use Rattle.journal.specs.Device.{Sectors}
use Rattle.journal.specs.Layout.{Store, home_at, fits}
use Rattle.journal.specs.Journal as J
use Rattle.journal.proofs.Whole as Whole
use Rattle.journal.proofs.Counting.{More, same, one}
use Rattle.layout.specs.Laid.{room}
use Rattle.board.specs.Calls.{Entry, written}
use Rattle.board.specs.Claims.{EachEntry}
use Rattle.board.specs.Board.{Calling, Phase, ready, calling, lost, lost_in, Board, no_entry}
use Rattle.board.proofs.Becomes.{HomeOf, home_next}
use Rattle.board.proofs.Entries.{disk_after, chain_at}
use Rattle.board.proofs.Underway.{Kind, kind_chain}
use Rattle.board.proofs.Settled.{Settles}

module _ (z : Sizes) (most : ℕ) (f : Sectors) where
  -- home as the format left it
  abbrev pub found : Sectors
  found x = f (home_at most x)

  abbrev pub Journalled : J.World → Type 0
  Journalled j = Whole.Holds most (room z) 0 found j

  -- the stores that count leave this disk part
  abbrev pub Stored : J.World → Disk → Type 0
  Stored j d = HomeOf z found j.kept d

  -- entry k as the journal has it
  abbrev pub flown : Calling → ℕ → Store
  flown c k = let e = get_or c.entries k no_entry in written z e.disk e.sectors

  -- every entry is one that the journal takes, if its areas have 8 sectors
  abbrev pub Fitting : List Entry → Type 0
  Fitting es = 8 ≤ most → EachEntry (λ e. T (fits most (room z) (written z e.disk e.sectors))) es

  -- Calls under way, in the world before them: so many of their entries count, and the next may be in flight.
  pub record Under (j : J.World) (w : K.World) (c : Calling) : Type 0 where
    pub kind : Kind z w c.acts c.entries
    pub fitting : Fitting c.entries
    pub far : ℕ
    pub counts : length j.kept ≡ c.before + far
    pub within : far ≤ length c.entries
    pub flying : (j.flight ≡ []) ⊎ ((far < length c.entries) × (j.flight ≡ flown c far ∷ []))
    pub stored : Stored j (disk_after w.state.disk c.entries far)

  -- the board's tables are the world's
  abbrev pub Same : Board → K.World → Type 0
  Same b w = (b.up ≡ w.up) × (b.state ≡ w.state)

  abbrev pub In : Board → K.World → Phase → Type 0
  In b w ready = (b.journal.flight ≡ []) × Stored b.journal w.state.disk × Same b w
  In b w (calling c) = Under b.journal w c × Same b w
  In b w lost = (b.journal.flight ≡ []) × Stored b.journal w.state.disk × Holds (memory_lengths z b.state.memory)
  In b w (lost_in c) = Under b.journal w c × Holds (memory_lengths z b.state.memory)

  pub record Sound (w : K.World) (b : Board) : Type 0 where
    pub journal : Journalled b.journal
    pub settles : Settles b.journal
    pub legal : T (K.legal z w b.past)
    pub phase : In b (K.run z w b.past) b.phase

  -- ── an operation of the journal ──
  none_is_one : {A : Type 0} {s : Store} {l : List Store} → l ≡ [] → l ≡ s ∷ [] → A
  none_is_one {A} {s} {l} e h = let k : length {A = Store} [] ≡ suc zero = sym (ap (length {A = Store}) e) ∙ ap (length {A = Store}) h in absurd (omega (arith, k))

  only_one : (s t : Store) → s ∷ [] ≡ t ∷ [] → s ≡ t
  only_one s t e = ap (λ (l : List Store). get_or l 0 []) e

  module _ (sizes : Holds (sizes_fit z)) where
    -- one entry more counts, or as many as before
    pub under_more : (j i : J.World) (w : K.World) (c : Calling) → More j i → Under j w c → Under i w c
    under_more j i w c (same k (inl g)) u = record { kind = u.kind; fitting = u.fitting; far = u.far; counts = ap (length {A = Store}) k ∙ u.counts; within = u.within; flying = rw g u.flying; stored = rw k u.stored }
    under_more j i w c (same k (inr g)) u = record { kind = u.kind; fitting = u.fitting; far = u.far; counts = ap (length {A = Store}) k ∙ u.counts; within = u.within; flying = inl g; stored = rw k u.stored }
    under_more j i w c (one s g k h) u = go u.flying
      where
        go : (j.flight ≡ []) ⊎ ((u.far < length c.entries) × (j.flight ≡ flown c u.far ∷ [])) → Under i w c
        go (inl n) = none_is_one n g
        go (inr x) =
            let e : Entry = get_or c.entries u.far no_entry in
            let here = chain_at z w.state.disk c.entries u.far no_entry (kind_chain z sizes w c.acts c.entries u.kind) x.0 in
            let kept : i.kept ≡ flown c u.far ∷ j.kept = k ∙ ap (λ (t : Store). t ∷ j.kept) (only_one s (flown c u.far) (sym g ∙ x.1)) in
            let longer : length i.kept ≡ suc (length j.kept) = ap (length {A = Store}) k in
            record {
              kind = u.kind;
              fitting = u.fitting;
              far = suc u.far;
              counts = omega (arith, longer, u.counts);
              within = omega (arith, x.0);
              flying = inl h;
              stored = rw kept (subst (λ (d : Disk). HomeOf z found (flown c u.far ∷ j.kept) d) here.1 (home_next z found j.kept (disk_after w.state.disk c.entries u.far) e here.0 u.stored));
            }
