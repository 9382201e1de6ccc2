-- Over every legal list of acts from a pack that keeps the disk rules, so from a finished format, no event and no page look is answered 1 or 2, and no restart is refused.
use mathlib.Core.Path.{◌≡◌, refl, sym, ◌∙◌, subst}
use mathlib.Core.Bool.{Bool, true, false}
use mathlib.Core.List.{List, [], ◌∷◌}
use mathlib.Core.Logic.{inl, inr}
use Prim.Native.Nat.{ℕ, zero, suc, ◌<◌}
use native.Mathlib.Omega.{arith}
use lib.Dec.{T, ltb, ltb→lt}
use lib.ListN.{length}
use Rattle.tables.specs.Base.{at, if}
use Rattle.tables.specs.Laws.{and_left, and_right}
use Rattle.tables.specs.Questions.{Questions, ask, none, above, first_no}
use Rattle.tables.specs.Rule.{Holds, test, sound}
use Rattle.sheets.specs.Sheet.{number_in}
use Rattle.model.specs.declared.sizes.Sizes.{Sizes}
use Rattle.model.specs.declared.event.Event.{Event}
use Rattle.model.specs.Sizes.{sizes_fit}
use Rattle.model.specs.State.{Disk, Memory, State, files}
use Rattle.model.specs.Setters.{raise}
use Rattle.model.specs.Rules.{lower, disk_rules, all_rules}
use Rattle.model.specs.Laws.Ruled.{ruled, rules, disk_ruled, rules_disk, chip_ruled}
use Rattle.model.specs.Questions.{questions, look_questions, import_questions, export_questions}
use Rattle.model.specs.Step.{outcome, disk_lengths, memory_lengths, all_fit, asked, answer, result, step, restart, look, own_above, whole}
use Rattle.model.specs.Restart as R
use Rattle.model.specs.Laws.Fit.{disk_fit, fit_disk, fit, all_fit_holds, chip_fits}
use Rattle.model.specs.Laws.Own.{first_yes}
use Rattle.model.specs.Acts.{Act, event, looking, importing, exporting, restarting, cutting, cutting_in, World, part, cut_off, act, allowed, legal, run, start}
use Rattle.model.specs.Acts as A
use Rattle.model.specs.Import.{import_answer, import}
use Rattle.model.specs.Export.{exported, export}
use Rattle.model.specs.Stores as S
use Rattle.model.specs.Stores.{Call}
use Rattle.model.specs.Terms.{Good, blameless, answered, all_answered}
use Rattle.invariant.proofs.Raised.{raise_disk, raise_fit, raise_ruled}
use Rattle.invariant.proofs.Records.{disk_alone}
use Rattle.invariant.proofs.RecordsCut.{formatted_fit, landed_fit}
use Rattle.invariant.proofs.Kept.{kept, restarted, formatted, landed}
use Rattle.invariant.proofs.Imported.{import_good, import_midway}
use Rattle.invariant.proofs.Midst.{Inside, inside, raised_in, part_none, part_event, part_import}

-- what every world of a list keeps: lengths and disk rules always, once restarted all rules
pub record Safe (z : Sizes) (w : World) : Type 0 where
  pub sizes : Holds (sizes_fit z)
  pub disk : Holds (disk_lengths z w.state.disk)
  pub memory : Holds (memory_lengths z w.state.memory)
  pub rules : Holds (disk_rules z w.state)
  pub up : T w.up → Good z w.state

pub safe_fit : (z : Sizes) (w : World) → Safe z w → Holds (all_fit z w.state)
unfolding all_fit
safe_fit z w s = (s.sizes, (s.disk, s.memory))

good_safe : (z : Sizes) (w : World) → Good z w.state → Safe z w
unfolding all_fit all_rules
good_safe z w g = record { sizes = g.0.0; disk = g.0.1.0; memory = g.0.1.1; rules = g.1.0; up = λ u. g }

-- after a yes to 1 and 2, the answer is 0 or above 2
pub later : (k : ℕ) (q : Questions) → T (above k q) → ¬ (first_no q ≡ 0) → T (ltb k (first_no q))
unfolding first_no
later k none t n = absurd (n refl)
later k (ask m r q) t n = go (test r) (later k q (and_right (ltb k m) (above k q) t)) n
  where
    go : (b : Bool) → (¬ (first_no q ≡ 0) → T (ltb k (first_no q))) → ¬ (if b (first_no q) m ≡ 0) → T (ltb k (if b (first_no q) m))
    go true f ne = f ne
    go false f ne = and_left (ltb k m) (above k q) t

not_blamed : (z : Sizes) (st : State) (q : Questions) → T (above 2 q) → Good z st → Holds (blameless (first_no (asked z st q)))
not_blamed z st q t g =
    let e : first_no (asked z st q) ≡ first_no q = first_yes 1 (all_fit z st) (ask 2 (all_rules z st) q) g.0 ∙ first_yes 2 (all_rules z st) q g.1 in
    let big : ¬ (first_no q ≡ 0) → 2 < first_no q = λ n. ltb→lt 2 (first_no q) (later 2 q t n) in
    (λ h. omega (arith, big (λ n. omega (arith, e, h, n)), e, h), λ h. omega (arith, big (λ n. omega (arith, e, h, n)), e, h))

said : {A : Type 0} (n r : ℕ) (old new : A) → Holds (blameless n) → Holds (blameless (outcome n r old new).answer.refusal)
said zero r old new b = b
said (suc n) r old new b = b

-- once restarted, no event and no page look is answered 1 or 2
pub event_blameless : (z : Sizes) (st : State) (e : Event) → Good z st → Holds (blameless (step z st e).answer.refusal)
unfolding step answer
event_blameless z st e g = said (first_no (asked z st (questions z st e))) (result z st e) st (whole z st e) (not_blamed z st (questions z st e) (own_above z st e) g)

pub look_blameless : (z : Sizes) (st : State) (s p : ℕ) → Good z st → Holds (blameless (look z st s p).answer.refusal)
unfolding look
look_blameless z st s p g = said (first_no (asked z st (look_questions z st s p))) 0 [] _ (not_blamed z st (look_questions z st s p) tt g)

pub import_blameless : (z : Sizes) (st : State) (s q n : ℕ) (b : List ℕ) → Good z st → Holds (blameless (import z st s q n b).answer.refusal)
unfolding import import_answer
import_blameless z st s q n b g = said (first_no (asked z st (import_questions z st s q n b))) (number_in b) st _ (not_blamed z st (import_questions z st s q n b) tt g)

pub export_blameless : (z : Sizes) (st : State) (s : ℕ) (buffer : List ℕ) → Good z st → Holds (blameless (export z st s buffer).answer.refusal)
unfolding export
export_blameless z st s buffer g =
    let q = export_questions z st s (length (exported z st s)) (length buffer) in
    said (first_no (asked z st q)) (length (exported z st s)) buffer _ (not_blamed z st q tt g)

-- a cut leaves a safe world
cut_safe : (z : Sizes) (w : World) (writes updates : ℕ → Bool) (junk : Memory) → Holds (memory_lengths z junk) → Safe z w → Safe z (cut_off z w writes updates junk)
cut_safe z w writes updates junk lengths s = go w.up refl
  where
    go : (b : Bool) → w.up ≡ b → Safe z (record { up = false; state = record { disk = if b (A.landed z w.state writes updates) w.state.disk; memory = junk }; ledger = (cut_off z w writes updates junk).ledger })
    go true e = let g = s.up (rw e tt) in record {
      sizes = s.sizes;
      disk = fit_disk z (A.landed z w.state writes updates) (landed_fit z w.state (fit z w.state g.0) (ruled z w.state g.1) writes updates);
      memory = lengths;
      rules = landed z w.state writes updates junk g;
      up = λ u. absurd u;
    }
    go false e = record { sizes = s.sizes; disk = s.disk; memory = lengths; rules = rules_disk z _ (disk_alone z (files w.state) (disk_ruled z w.state s.rules) _ _ _ _ _ _ _); up = λ u. absurd u }

-- so is the world once a number is stored as the highest
raise_safe : (z : Sizes) (w : World) (n : ℕ) → Safe z w → Safe z (raised_in n w)
raise_safe z w n s = record {
  sizes = s.sizes;
  disk = fit_disk z (raise n w.state.disk) (raise_disk z w.state.disk n (disk_fit z w.state.disk s.disk));
  memory = s.memory;
  rules = rules_disk z (raised_in n w).state (disk_ruled z w.state s.rules);
  up = λ u. let g = s.up u in (all_fit_holds z _ (raise_fit z w.state n (fit z w.state g.0)) (chip_fits z w.state g.0), rules z _ (raise_ruled z w.state n (ruled z w.state g.1)) (chip_ruled z w.state g.1));
}

-- in the midst of a call the world is safe
part_safe : (z : Sizes) (w : World) (c : Call) (k : ℕ) (junk : Memory) → Inside z w c k junk → Safe z w → Safe z (part z w c k)
part_safe z w (S.event e) k junk i s = elim (part_event z w e k junk i) [ inl same ↦ subst (Safe z) (sym same) s | inr b ↦ subst (Safe z) (sym b.world) (raise_safe z w b.number s) ]
part_safe z w (S.importing s q n b) zero junk i x = subst (Safe z) (sym (part_none z w (S.importing s q n b))) x
part_safe z w (S.importing s q n b) (suc k) junk i x =
    let p = part_import z w s q n b k junk i in
    good_safe z (part z w (S.importing s q n b) (suc k)) (subst (Good z) (sym p.2) (import_midway z w.state s q n b p.0 k p.1))

-- each act is answered so, and leaves a safe world
pub one : (z : Sizes) (w : World) (a : Act) → T (allowed z w a) → Safe z w → Holds (answered z w a) × Safe z (act z w a)
unfolding allowed act
one z w (event e) t s = (event_blameless z w.state e (s.up t), good_safe z _ (kept z w.state e (s.up t)))
one z w (looking p q) t s = (look_blameless z w.state p q (s.up t), s)
one z w (importing s q n b) t x = (import_blameless z w.state s q n b (x.up t), good_safe z _ (import_good z w.state s q n b (x.up t)))
one z w (exporting s buffer) t x = (export_blameless z w.state s buffer (x.up t), x)
one z w restarting t s = let r = restarted z w.state (safe_fit z w s) s.rules in (r.0, good_safe z _ r.1)
one z w (cutting writes updates junk) t s = (refl, cut_safe z w writes updates junk (sound (memory_lengths z junk) t) s)
one z w (cutting_in c k writes updates junk) t s = let i = inside z w c k writes updates junk t in (refl, cut_safe z (part z w c k) writes updates junk i.lengths (part_safe z w c k junk i s))

pub all_answered_holds : (z : Sizes) (w : World) (acts : List Act) → T (legal z w acts) → Safe z w → Holds (all_answered z w acts) × Safe z (run z w acts)
unfolding legal run
all_answered_holds z w [] t s = (refl, s)
all_answered_holds z w (a ∷ acts) t s =
    let o = one z w a (and_left (allowed z w a) (legal z (act z w a) acts) t) s in
    let rest = all_answered_holds z (act z w a) acts (and_right (allowed z w a) (legal z (act z w a) acts) t) o.1 in
    ((o.0, rest.0), rest.1)

pub start_safe : (z : Sizes) (pack : Disk) (junk : Memory) → Holds (sizes_fit z) → Holds (disk_lengths z pack) → Holds (memory_lengths z junk) → Holds (disk_rules z (record { disk = pack; memory = junk })) → Safe z (start z pack junk)
unfolding start
start_safe z pack junk f d m r = record { sizes = f; disk = d; memory = m; rules = r; up = λ u. absurd u }

pub format_safe : (z : Sizes) (parents : List ℕ) (junk : Memory) → Holds (sizes_fit z) → Holds (lower z.accounts (at parents)) → Holds (memory_lengths z junk) → Safe z (start z (R.formatted z parents) junk)
format_safe z parents junk f low m = start_safe z (R.formatted z parents) junk f (fit_disk z (R.formatted z parents) (formatted_fit z parents)) m (formatted z parents junk f low)

pub never_2_from_pack : (z : Sizes) (pack : Disk) (junk : Memory) (acts : List Act) → Holds (sizes_fit z) → Holds (disk_lengths z pack) → Holds (memory_lengths z junk)
    → Holds (disk_rules z (record { disk = pack; memory = junk })) → T (legal z (start z pack junk) acts) → Holds (all_answered z (start z pack junk) acts)
never_2_from_pack z pack junk acts f d m r t = (all_answered_holds z (start z pack junk) acts t (start_safe z pack junk f d m r)).0

pub never_2 : (z : Sizes) (parents : List ℕ) (junk : Memory) (acts : List Act) → Holds (sizes_fit z) → Holds (lower z.accounts (at parents)) → Holds (memory_lengths z junk)
    → T (legal z (start z (R.formatted z parents) junk) acts) → Holds (all_answered z (start z (R.formatted z parents) junk) acts)
never_2 z parents junk acts f low m t = (all_answered_holds z (start z (R.formatted z parents) junk) acts t (format_safe z parents junk f low m)).0
