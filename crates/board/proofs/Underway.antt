-- Calls under way, each with an entry for every store or several with one: their entries, what they leave, and what a cut inside leaves.
use mathlib.Core.Path.{◌≡◌, refl, ap, sym, ◌∙◌}
use mathlib.Core.Bool.{Bool, true, false, ◌&&◌}
use mathlib.Core.List.{List, [], ◌∷◌}
use Prim.Native.Nat.{ℕ, ◌<◌}
use native.Mathlib.Omega.{arith}
use lib.Dec.{T, ltb, lt→ltb}
use lib.ListN.{length}
use Rattle.tables.specs.Base.{if}
use Rattle.tables.specs.Laws.{and_intro}
use Rattle.tables.specs.Rule.{Holds, test, complete}
use Rattle.model.specs.declared.sizes.Sizes.{Sizes}
use Rattle.model.specs.Sizes.{sizes_fit}
use Rattle.model.specs.State.{Disk, Memory, State}
use Rattle.model.specs.Setters.{on_disk}
use Rattle.model.specs.Step.{memory_lengths}
use Rattle.model.specs.Stores as S
use Rattle.model.specs.Stores.{Call, made, first}
use Rattle.model.specs.Acts.{Act, event, looking, importing, exporting, restarting, cutting, cutting_in, World, landed, part, act, allowed, legal, run}
use Rattle.board.specs.Calls.{Entry, raises, stores_of, entries_of, together}
use Rattle.board.specs.Board.{may_call, may_join, left_after, up_after, cut_in, cut_inside}
use Rattle.board.proofs.Listed.{legal_one, call_left, joined_left, nothing_lands}
use Rattle.board.proofs.Entries.{disk_after, Chain, act_stores, own_chain, own_disk, own_length, joined_disk, joined_step}

-- calls under way in a world
pub data Kind (z : Sizes) (w : World) (acts : List Act) (entries : List Entry) : Type 0 where
  single : (a : Act) → acts ≡ a ∷ [] → T (may_call w.up a) → entries ≡ entries_of z w.state a → Kind z w acts entries
  shared : T (may_join w.up acts) → entries ≡ together z w.state acts ∷ [] → Kind z w acts entries

-- the tables and the switch that calls leave, in a list of acts that is legal
pub record Left (z : Sizes) (w : World) (acts : List Act) : Type 0 where
  pub state : (run z w acts).state ≡ left_after z w.state acts
  pub up : (run z w acts).up ≡ up_after z w.state w.up acts
  pub legal : T (legal z w acts)

-- a cut inside them, after k entries
pub record Inside (z : Sizes) (w : World) (acts : List Act) (junk : Memory) (d : Disk) : Type 0 where
  pub state : (run z w acts).state ≡ record { disk = d; memory = junk }
  pub up : (run z w acts).up ≡ false
  pub legal : T (legal z w acts)

module _ (z : Sizes) (sizes : Holds (sizes_fit z)) where
  pub kind_chain : (w : World) (acts : List Act) (entries : List Entry) → Kind z w acts entries → Chain z w.state.disk entries
  kind_chain w acts entries (single a e t f) = rw f (own_chain z sizes w.state a)
  kind_chain w acts entries (shared t f) = rw f (joined_step z sizes acts w.state w.up t, tt)

  pub kind_left : (w : World) (acts : List Act) (entries : List Entry) → Kind z w acts entries → Left z w acts
  unfolding run left_after
  kind_left w acts entries (single a e t f) = let r = call_left z w a t in rw e (record { state = r.0; up = r.1; legal = legal_one z w a r.2 })
  kind_left w acts entries (shared t f) = let r = joined_left z acts w t in record { state = r.0; up = r.1; legal = r.2 }

  -- after all entries
  pub kind_whole : (w : World) (acts : List Act) (entries : List Entry) → length w.state.disk.highest ≡ 1 → Kind z w acts entries → disk_after w.state.disk entries (length entries) ≡ (run z w acts).state.disk
  unfolding run
  kind_whole w acts entries h (single a e t f) =
      let n : length entries ≡ length (stores_of z w.state a) = ap (length {A = Entry}) f ∙ own_length z sizes w.state a in
      ap (λ (es : List Entry). disk_after w.state.disk es (length entries)) f
      ∙ own_disk z sizes w.state a (length entries)
      ∙ ap (λ (k : ℕ). first k (stores_of z w.state a) w.state.disk) n
      ∙ sym (act_stores z sizes w.state a h)
      ∙ ap (λ (s : State). s.disk) (sym (call_left z w a t).0)
      ∙ ap (λ (l : List Act). (run z w l).state.disk) (sym e)
  kind_whole w acts entries h (shared t f) =
      let d : disk_after w.state.disk (together z w.state acts ∷ []) 1 ≡ (left_after z w.state acts).disk = unfold disk_after in joined_disk z sizes acts w.state in
      ap (λ (es : List Entry). disk_after w.state.disk es (length es)) f
      ∙ d
      ∙ ap (λ (s : State). s.disk) (sym (joined_left z acts w t).0)

  -- ── a cut inside a call ──
  inside_call : (w : World) (c : Call) (k : ℕ) (junk : Memory) → T w.up → k < length (made z w.state c) → Holds (memory_lengths z junk)
      → Inside z w (cutting_in c k (λ i. false) (λ i. false) junk ∷ []) junk (first k (made z w.state c) w.state.disk)
  unfolding run act part allowed
  inside_call w c k junk u l h = record {
    state = ap (λ (d : Disk). record { disk = d; memory = junk }) (go w.up u);
    up = refl;
    legal = legal_one z w (cutting_in c k (λ i. false) (λ i. false) junk)
        (and_intro w.up (ltb k (length (made z w.state c)) && test (memory_lengths z junk)) u (and_intro (ltb k (length (made z w.state c))) (test (memory_lengths z junk)) (lt→ltb k (length (made z w.state c)) l) (complete (memory_lengths z junk) h)));
  }
    where
      st : State
      st = on_disk (first k (made z w.state c)) w.state

      go : (b : Bool) → T b → if b (landed z st (λ i. false) (λ i. false)) st.disk ≡ st.disk
      go true t = nothing_lands z st
      go false t = absurd t

  inside_act : (w : World) (a : Act) (k : ℕ) (junk : Memory) → T (may_call w.up a) → 0 < k → k < length (stores_of z w.state a) → Holds (memory_lengths z junk)
      → Inside z w (cut_in a k junk ∷ []) junk (first k (stores_of z w.state a) w.state.disk)
  unfolding stores_of
  inside_act w (event e) k junk t p l h = inside_call w (S.event e) k junk t l h
  inside_act w (importing s q n b) k junk t p l h = inside_call w (S.importing s q n b) k junk t l h
  inside_act w restarting k junk t p l h = absurd (go (raises z w.state) _ l)
    where
      go : (b : Bool) (f : Disk → Disk) → k < length (if b (f ∷ []) []) → ⊥
      go true f i = omega (arith, i, p)
      go false f i = omega (arith, i)
  inside_act w (looking s p) k junk t q l h = absurd (omega (arith, l))
  inside_act w (exporting s buffer) k junk t p l h = absurd (omega (arith, l))
  inside_act w (cutting writes updates m) k junk t p l h = absurd t
  inside_act w (cutting_in c n writes updates m) k junk t p l h = absurd t

  pub kind_inside : (w : World) (acts : List Act) (entries : List Entry) (k : ℕ) (junk : Memory) → Kind z w acts entries → 0 < k → k < length entries → Holds (memory_lengths z junk)
      → Inside z w (cut_inside acts k junk) junk (disk_after w.state.disk entries k)
  kind_inside w acts entries k junk (single a e t f) p l h =
      let n : length entries ≡ length (stores_of z w.state a) = ap (length {A = Entry}) f ∙ own_length z sizes w.state a in
      let x = inside_act w a k junk t p (omega (arith, l, n)) h in
      rw e (rw f (rw (own_disk z sizes w.state a k) x))
  kind_inside w acts entries k junk (shared t f) p l h = absurd (let n : length entries ≡ 1 = ap (length {A = Entry}) f in omega (arith, l, n, p))
