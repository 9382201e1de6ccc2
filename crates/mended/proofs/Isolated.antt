-- Another mill's pattern cannot show, for lists from mended packs. If a parent is not lower, every restart is refused, so nothing ever happens on either board.
use mathlib.Core.Path.{◌≡◌, refl, ap, sym, ◌∙◌, subst}
use mathlib.Core.Bool.{Bool, true, false}
use mathlib.Core.List.{List, [], ◌∷◌}
use Prim.Native.Nat.{ℕ}
use native.Mathlib.Omega.{arith}
use lib.Dec.{T}
use Rattle.tables.specs.Base.{at}
use Rattle.tables.specs.Laws.{and_left, and_right}
use Rattle.tables.specs.Questions.{none, ask, first_no}
use Rattle.tables.specs.Rule.{Holds, test, sound, told}
use Rattle.model.specs.declared.sizes.Sizes.{Sizes}
use Rattle.model.specs.declared.event.Answer.{Answer}
use Rattle.model.specs.State.{Disk, Memory, State, slot_of}
use Rattle.model.specs.Sizes.{sizes_fit}
use Rattle.model.specs.Parts.{word_at}
use Rattle.model.specs.Rules.{lower, disk_rules}
use Rattle.model.specs.Laws.Own.{first_yes, first_no_holds}
use Rattle.model.specs.Restart.{raised, restarted}
use Rattle.model.specs.Step.{outcome, all_fit, disk_lengths, memory_lengths, restart}
use Rattle.model.specs.Ledger.{pack_design, no_write}
use Rattle.model.specs.Demand3.{last_into}
use Rattle.model.specs.Acts.{Act, event, looking, importing, exporting, restarting, cutting, cutting_in, World, act, allowed, legal, start}
use Rattle.invariant.proofs.Midst.{inside}
use Rattle.mending.specs.Mend.{Lent, mend}
use Rattle.isolation.specs.Twins.{AlikePacks, packs_like, Twin, both, written, cut, cut_in, Twins}
use Rattle.isolation.specs.Answers.{Answers}
use Rattle.isolation.specs.Shown.{Shown, listed_like, written_like, untouched_like, words_like}
use Rattle.isolation.specs.Isolated.{Seen, AlongTwins}
use Rattle.isolation.proofs.Isolated.{isolated}
use Rattle.mended.proofs.Refused.{Still, not_ruled, act_still, start_still}
use Rattle.mended.proofs.Mended.{Fits, mended_fits, mended_sound, mend_limits, differ}

-- ── one board whose restarts are refused ──
pub record Off (z : Sizes) (pack : Disk) (w : World) : Type 0 where
  pub still : Still z pack w
  pub memory : Holds (memory_lengths z w.state.memory)

module _ (z : Sizes) (pack : Disk) (sizes : Holds (sizes_fit z)) (lengths : Holds (disk_lengths z pack)) (high : ¬ (Holds (lower z.accounts (at pack.parents)))) where
  all_fits : (w : World) → Off z pack w → Holds (all_fit z w.state)
  unfolding all_fit
  all_fits w k = (sizes, (subst (λ (x : Disk). Holds (disk_lengths z x)) (sym k.still.disk) lengths, k.memory))

  refused_by_2 : (w : World) → Off z pack w → first_no (ask 1 (all_fit z w.state) (ask 2 (disk_rules z w.state) none)) ≡ 2
  refused_by_2 w k = first_yes 1 (all_fit z w.state) (ask 2 (disk_rules z w.state) none) (all_fits w k) ∙ first_no_holds 2 (disk_rules z w.state) none (not_ruled z pack high w.state k.still.disk)

  pub restart_said : (w : World) → Off z pack w → (restart z w.state).answer ≡ record { refusal = 2; result = 0 }
  unfolding restart
  restart_said w k = ap (λ (n : ℕ). (outcome n 0 w.state (restarted z (raised z w.state.disk))).answer) (refused_by_2 w k)

  restart_leaves : (w : World) → Off z pack w → (restart z w.state).left ≡ w.state
  unfolding restart
  restart_leaves w k = ap (λ (n : ℕ). (outcome n 0 w.state (restarted z (raised z w.state.disk))).left) (refused_by_2 w k)

  memory_after : (w : World) (a : Act) → T (allowed z w a) → Off z pack w → Holds (memory_lengths z (act z w a).state.memory)
  unfolding allowed act
  memory_after w (event e) t k = absurd (k.still.down t)
  memory_after w (looking s p) t k = k.memory
  memory_after w (importing s q n b) t k = absurd (k.still.down t)
  memory_after w (exporting s buffer) t k = k.memory
  memory_after w restarting t k = subst (λ (x : State). Holds (memory_lengths z x.memory)) (sym (restart_leaves w k)) k.memory
  memory_after w (cutting writes updates junk) t k = sound (memory_lengths z junk) t
  memory_after w (cutting_in c n writes updates junk) t k = absurd (k.still.down (inside z w c n writes updates junk t).up)

  pub stays_off : (w : World) (a : Act) → T (allowed z w a) → Off z pack w → Off z pack (act z w a)
  stays_off w a t k = record { still = act_still z pack high w a t k.still; memory = memory_after w a t k }

-- ── two such boards ──
module _ (z : Sizes) (hidden : ℕ) (pack pack' : Disk) (a : AlikePacks z hidden pack pack') (w w' : World) (k : Still z pack w) (k' : Still z pack' w') where
  same_design : w.ledger.design ≡ w'.ledger.design
  unfolding pack_design
  same_design = λ x s. (k.design s ∙ ap (λ (d : Disk). pack_design d s) a.tables ∙ sym (k'.design s)) x

  both_down : (b c : Bool) → ¬ (T b) → ¬ (T c) → b ≡ c
  both_down true c n m = absurd (n tt)
  both_down false true n m = absurd (m tt)
  both_down false false n m = refl

  off_shown : Shown z hidden w w'
  unfolding words_like listed_like written_like untouched_like packs_like last_into no_write
  off_shown = record {
    up = both_down w.up w'.up k.down k'.down;
    disk = rw (k.disk, k'.disk) a.tables;
    tables = λ u. absurd (k.down u);
    words = (
      λ i h r p c m. rw (k.disk, k'.disk, k.design (slot_of z i)) (a.words i h r (sym (ap (λ (d : Disk). at d.maps i) k.disk) ∙ p) c m),
      (
        λ r h t. absurd (omega (arith, rw k.finished at t)),
        (
          λ r h t c m e. ap (λ (d : Disk). word_at z d.records r c) (k.disk ∙ sym k.pack_kept) ∙ e ∙ ap (λ (d : Disk). word_at z d.records r c) (k'.pack_kept ∙ sym k'.disk),
          λ u. absurd (k.down u),
        ),
      ),
    );
    designs = same_design;
  }

module _ (z : Sizes) (hidden : ℕ) (pack pack' : Disk) (sizes : Holds (sizes_fit z)) (lengths : Holds (disk_lengths z pack)) (lengths' : Holds (disk_lengths z pack'))
    (high : ¬ (Holds (lower z.accounts (at pack.parents)))) (high' : ¬ (Holds (lower z.accounts (at pack'.parents)))) (a : AlikePacks z hidden pack pack') where
  restart_answers : (w w' : World) → Off z pack w → Off z pack' w' → Answers z hidden w w' restarting restarting
  restart_answers w w' k k' = let e = restart_said z pack sizes lengths high w k ∙ sym (restart_said z pack' sizes lengths' high' w' k') in record { refusal = ap (λ (x : Answer). x.refusal) e; result = ap (λ (x : Answer). x.result) e; handed = tt }

  both_answers : (w w' : World) (x : Act) → T (allowed z w x) → Off z pack w → Off z pack' w' → Answers z hidden w w' x x
  unfolding allowed
  both_answers w w' (event e) t k k' = absurd (k.still.down t)
  both_answers w w' (looking s p) t k k' = absurd (k.still.down t)
  both_answers w w' (importing s q n b) t k k' = absurd (k.still.down t)
  both_answers w w' (exporting s buffer) t k k' = absurd (k.still.down t)
  both_answers w w' restarting t k k' = restart_answers w w' k k'
  both_answers w w' (cutting writes updates m) t k k' = record { refusal = refl; result = refl; handed = tt }
  both_answers w w' (cutting_in c n writes updates m) t k k' = record { refusal = refl; result = refl; handed = tt }

  off_answers : (w w' : World) {x y : Act} → Twin hidden w.ledger.design x y → T (allowed z w x) → Off z pack w → Off z pack' w' → Answers z hidden w w' x y
  unfolding allowed
  off_answers w w' (both x) t k k' = both_answers w w' x t k k'
  off_answers w w' (written s p c x y e f g) t k k' = absurd (k.still.down t)
  off_answers w w' (cut writes updates m m') t k k' = record { refusal = refl; result = refl; handed = tt }
  off_answers w w' (cut_in c n writes updates m m') t k k' = record { refusal = refl; result = refl; handed = tt }

  off_seen : (xs ys : List Act) (w w' : World) → T (legal z w xs) → T (legal z w' ys) → Twins z hidden w xs ys → Off z pack w → Off z pack' w' → Seen z hidden w w' xs ys
  unfolding legal
  off_seen [] [] w w' t t' h k k' = off_shown z hidden pack pack' a w w' k.still k'.still
  off_seen [] (y ∷ ys) w w' t t' h k k' = absurd h
  off_seen (x ∷ xs) [] w w' t t' h k k' = absurd h
  off_seen (x ∷ xs) (y ∷ ys) w w' t t' h k k' =
      let m = and_left (allowed z w x) (legal z (act z w x) xs) t in let m' = and_left (allowed z w' y) (legal z (act z w' y) ys) t' in (
        off_shown z hidden pack pack' a w w' k.still k'.still,
        (
          off_answers w w' h.0 m k k',
          off_seen xs ys (act z w x) (act z w' y) (and_right (allowed z w x) (legal z (act z w x) xs) t) (and_right (allowed z w' y) (legal z (act z w' y) ys) t') h.1 (stays_off z pack sizes lengths high w x m k) (stays_off z pack' sizes lengths' high' w' y m' k'),
        ),
      )

-- ── the theorem ──
start_off : (z : Sizes) (pack : Disk) (junk : Memory) → Holds (memory_lengths z junk) → Off z pack (start z pack junk)
unfolding start
start_off z pack junk m = record { still = start_still z pack junk; memory = m }

-- two packs that are alike once mended, whatever their parents
pub isolated_mended : (z : Sizes) (hidden : ℕ) (l l' : Lent) (junk junk' : Memory) → (mend z l).answer.refusal ≡ 0 → (mend z l').answer.refusal ≡ 0 → Holds (memory_lengths z junk) → Holds (memory_lengths z junk')
    → (let pack = (mend z l).left.disk in let pack' = (mend z l').left.disk in AlikePacks z hidden pack pack' → AlongTwins z hidden (start z pack junk) (start z pack' junk'))
isolated_mended z hidden l l' junk junk' e e' m m' a acts acts' t t' h = by (test (lower z.accounts (at pack.parents))) refl
  where
    pack : Disk
    pack = (mend z l).left.disk

    pack' : Disk
    pack' = (mend z l').left.disk

    fits : Fits z pack
    fits = mended_fits z l e

    fits' : Fits z pack'
    fits' = mended_fits z l' e'

    parents : pack.parents ≡ pack'.parents
    parents = ap (λ (d : Disk). d.parents) a.tables

    by : (b : Bool) → test (lower z.accounts (at pack.parents)) ≡ b → Seen z hidden (start z pack junk) (start z pack' junk') acts acts'
    by true q =
        let s = mended_sound z l (rw (mend_limits z l).1 at (sound (lower z.accounts (at pack.parents)) (rw q tt))) e in
        isolated z hidden pack pack' junk junk' s.sizes s.lengths fits'.lengths m m' (s.rules junk) a acts acts' t t' h
    by false q =
        let high : ¬ (Holds (lower z.accounts (at pack.parents))) = λ x. differ (sym (told (lower z.accounts (at pack.parents)) x) ∙ q) in
        off_seen z hidden pack pack' fits.sizes fits.lengths fits'.lengths high (λ x. high (rw parents x)) a acts acts' (start z pack junk) (start z pack' junk') t t' h (start_off z pack junk m) (start_off z pack' junk' m')
