-- Another mill's pattern cannot show: every act keeps two boards alike, and so does every list.
use mathlib.Core.Path.{◌≡◌, refl, ap, ◌∙◌, subst}
use mathlib.Core.Bool.{not}
use mathlib.Core.List.{List, [], ◌∷◌}
use Prim.Native.Nat.{ℕ}
use lib.Dec.{T}
use Rattle.tables.specs.Base.{at, count}
use Rattle.tables.specs.Laws.{and_left, and_right}
use Rattle.tables.specs.Rule.{Holds}
use Rattle.model.specs.declared.sizes.Sizes.{Sizes}
use Rattle.model.specs.declared.event.Page.TheVariants.{Fault, Read, Write, Wire, Unwire}
use Rattle.model.specs.declared.event.Event.{Event}
use Rattle.model.specs.declared.event.Event.TheVariants as Event
use Rattle.model.specs.State.{Disk, Memory, State, files, slot_of}
use Rattle.model.specs.Parts.{word_at}
use Rattle.model.specs.Laws.Ruled as R
use Rattle.model.specs.Laws.Fit.{disk_fit, chip_fit}
use Rattle.model.specs.Restart.{formatted}
use Rattle.model.specs.Step.{memory_lengths, result, step}
use Rattle.model.specs.Ledger.{unwritten, pack_design, pack_number, filled, no_write}
use Rattle.model.specs.Acts.{Act, event, looking, importing, exporting, restarting, cutting, cutting_in, World, act, allowed, legal, start}
use Rattle.invariant.proofs.Records.{disk_alone}
use Rattle.crash.proofs.Steps.{Good}
use Rattle.crash.proofs.Start.{start_good, format_good}
use Rattle.isolation.specs.Twins.{AlikePacks, packs_like, Twin, both, written, cut, cut_in, Twins}
use Rattle.isolation.specs.Answers.{answered, results, Answers}
use Rattle.isolation.specs.Isolated.{Seen, Isolated, IsolatedFormatted}
use Rattle.isolation.proofs.Reworded.{is_reworded, reads, result_same}
use Rattle.isolation.proofs.Told.{same_like}
use Rattle.isolation.proofs.StandingAlong.{start_stands}
use Rattle.isolation.proofs.Alike.{Alike, shown}
use Rattle.isolation.proofs.Events.{both_paired, write_paired, event_alike, refusals_same, results_same}
use Rattle.isolation.proofs.Handed.{read_like, look_refusals, look_results, look_parts}
use Rattle.isolation.proofs.Exports.{export_refusals, export_results, export_bytes}
use Rattle.isolation.proofs.Imports.{import_answers, import_alike}
use Rattle.isolation.proofs.Restarts.{restart_alike, restart_answers}
use Rattle.isolation.proofs.Cuts.{cut_alike, cut_in_alike}

-- ── every act ──
module _ (z : Sizes) (hidden : ℕ) (w w' : World) (a : Alike z hidden w w') where
  result_like : (e : Event) → T w.up → Holds (results hidden w.ledger.design (event e) (answered z w (event e)).result (answered z w' (event e)).result)
  result_like e u = go e
    where
      other : (e : Event) → T (not (reads e)) → (step z w.state e).answer.result ≡ (step z w'.state e).answer.result
      other e n = results_same z hidden w w' a u e e (both_paired z hidden w w' a u e) (ap (λ (s : State). result z s e) (is_reworded w.state w'.state (a.tables u)) ∙ result_same z w.state w'.state.disk.records w'.state.memory.core.words w'.state.memory.chip.words e n)

      go : (e : Event) → Holds (results hidden w.ledger.design (event e) (answered z w (event e)).result (answered z w' (event e)).result)
      go (Event.Design e) = other (Event.Design e) tt
      go (Event.Account e) = other (Event.Account e) tt
      go (Event.Page (Fault s p)) = other (Event.Page (Fault s p)) tt
      go (Event.Page (Read s p k)) = read_like z hidden w w' a u s p k
      go (Event.Page (Write s p k x)) = other (Event.Page (Write s p k x)) tt
      go (Event.Page (Wire s p)) = other (Event.Page (Wire s p)) tt
      go (Event.Page (Unwire s p)) = other (Event.Page (Unwire s p)) tt
      go (Event.Writeback e) = other (Event.Writeback e) tt
      go (Event.Waiting e) = other (Event.Waiting e) tt

  -- the same act on both boards
  both_acts : (x : Act) → T (allowed z w x) → T (allowed z w' x) → Answers z hidden w w' x x × Alike z hidden (act z w x) (act z w' x)
  unfolding allowed act
  both_acts (event e) t t' = (record { refusal = refusals_same z hidden w w' a t e e (both_paired z hidden w w' a t e); result = result_like e t; handed = tt }, event_alike z hidden w w' a t e e (both_paired z hidden w w' a t e))
  both_acts (looking s p) t t' = (record { refusal = look_refusals z hidden w w' a t s p; result = look_results z hidden w w' a t w w' s p; handed = look_parts z hidden w w' a t s p }, a)
  both_acts (importing s q n b) t t' = (import_answers z hidden w w' a t s q n b, import_alike z hidden w w' a t s q n b)
  both_acts (exporting s buffer) t t' = (record { refusal = export_refusals z hidden w w' a t s buffer; result = export_results z hidden w w' a t s buffer; handed = export_bytes z hidden w w' a t s buffer }, a)
  both_acts restarting t t' = (restart_answers z hidden w w' a, restart_alike z hidden w w' a)
  both_acts (cutting writes updates m) t t' = (record { refusal = refl; result = refl; handed = tt }, cut_alike z hidden w w' writes updates m m t t' a)
  both_acts (cutting_in c k writes updates m) t t' = (record { refusal = refl; result = refl; handed = tt }, cut_in_alike z hidden w w' a c k writes updates m m t t')

  one : {x y : Act} → Twin hidden w.ledger.design x y → T (allowed z w x) → T (allowed z w' y) → Answers z hidden w w' x y × Alike z hidden (act z w x) (act z w' y)
  unfolding allowed result
  one (both x) t t' = both_acts x t t'
  one (written s p k x y e f g) t t' =
      let q = write_paired z hidden w w' a t s p k x y (λ h. (f, g), λ n. absurd (n e)) in
      (record { refusal = refusals_same z hidden w w' a t _ _ q; result = results_same z hidden w w' a t _ _ q refl; handed = tt }, event_alike z hidden w w' a t _ _ q)
  one (cut writes updates m m') t t' = (record { refusal = refl; result = refl; handed = tt }, cut_alike z hidden w w' writes updates m m' t t' a)
  one (cut_in c k writes updates m m') t t' = (record { refusal = refl; result = refl; handed = tt }, cut_in_alike z hidden w w' a c k writes updates m m' t t')

-- ── every list ──
seen : (z : Sizes) (hidden : ℕ) (acts acts' : List Act) (w w' : World) → T (legal z w acts) → T (legal z w' acts') → Twins z hidden w acts acts' → Alike z hidden w w' → Seen z hidden w w' acts acts'
unfolding legal
seen z hidden [] [] w w' t t' h a = shown z hidden w w' a
seen z hidden [] (y ∷ ys) w w' t t' h a = absurd h
seen z hidden (x ∷ xs) [] w w' t t' h a = absurd h
seen z hidden (x ∷ xs) (y ∷ ys) w w' t t' h a =
    let o = one z hidden w w' a h.0 (and_left (allowed z w x) (legal z (act z w x) xs) t) (and_left (allowed z w' y) (legal z (act z w' y) ys) t') in
    (shown z hidden w w' a, (o.0, seen z hidden xs ys (act z w x) (act z w' y) (and_right (allowed z w x) (legal z (act z w x) xs) t) (and_right (allowed z w' y) (legal z (act z w' y) ys) t') h.1 o.1))

-- ── the start ──
start_alike : (z : Sizes) (hidden : ℕ) (pack pack' : Disk) (junk junk' : Memory) → Holds (memory_lengths z junk) → Holds (memory_lengths z junk') → AlikePacks z hidden pack pack' → Good z (start z pack junk) → Good z (start z pack' junk') → Alike z hidden (start z pack junk) (start z pack' junk')
unfolding start unwritten pack_design pack_number packs_like no_write
start_alike z hidden pack pack' junk junk' m m' p g g' = record {
  good = g;
  good' = g';
  stands = start_stands z pack junk;
  stands' = start_stands z pack' junk';
  chip = chip_fit z junk.chip m.1;
  chip' = chip_fit z junk'.chip m'.1;
  up = refl;
  disk = p.tables;
  tables = λ u. absurd u;
  ledger = record {
    births = ap (λ (d : Disk). count z.slots (filled d)) p.tables;
    design = ap pack_design p.tables;
    number = ap (pack_number z) p.tables;
    text = λ i h pos k m. same_like hidden _ 0;
    noted = refl;
    writing = refl;
    write = λ f. record { design = refl; record' = refl; serial = refl; words = λ k h. same_like hidden 0 0 };
    finished = tt;
    pack = p.words;
  };
}

-- a pack is like itself
same_packs : (z : Sizes) (hidden : ℕ) (pack : Disk) → AlikePacks z hidden pack pack
unfolding packs_like
same_packs z hidden pack = record { tables = refl; words = λ i h r e k m. same_like hidden (pack_design pack (slot_of z i)) (word_at z pack.records r k) }

-- Give two boards, alike at the start, the same list ..
pub isolated : Isolated
isolated z hidden pack pack' junk junk' sizes lengths lengths' memory memory' rules p acts acts' t t' h =
    seen z hidden acts acts' (start z pack junk) (start z pack' junk') t t' h
    (start_alike z hidden pack pack' junk junk' memory memory' p (start_good z pack junk sizes (disk_fit z pack lengths) memory r) (start_good z pack' junk' sizes (disk_fit z pack' lengths') memory' r'))
  where
    r : R.OnDisk z (files (record { disk = pack; memory = junk }))
    r = R.disk_ruled z (record { disk = pack; memory = junk }) rules

    r' : R.OnDisk z (files (record { disk = pack'; memory = junk' }))
    r' = disk_alone z (files (record { disk = pack'; memory = junk })) (subst (λ (d : Disk). R.OnDisk z (files (record { disk = d; memory = junk }))) p.tables r) _ _ _ _ _ _ _

-- .. and from a finished format.
pub isolated_formatted : IsolatedFormatted
isolated_formatted z hidden parents junk junk' sizes low memory memory' acts acts' t t' h =
    seen z hidden acts acts' (start z (formatted z parents) junk) (start z (formatted z parents) junk') t t' h
    (start_alike z hidden (formatted z parents) (formatted z parents) junk junk' memory memory' (same_packs z hidden (formatted z parents)) (format_good z parents junk sizes low memory) (format_good z parents junk' sizes low memory'))
