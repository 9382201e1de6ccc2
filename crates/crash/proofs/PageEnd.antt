-- Page done, by its four cases.
use mathlib.Core.Path.{◌≡◌, refl}
use mathlib.Core.Logic.{◌⊎◌, inl, inr}
use Prim.Native.Nat.{ℕ, zero, suc, ◌<◌}
use native.Mathlib.Omega.{arith}
use native.Mathlib.Decide.{ℕ_discrete}
use borrow.Author.Tests.{eq-eqb, ne_eqb}
use Rattle.model.specs.declared.sizes.Sizes.{Sizes}
use Rattle.model.specs.declared.event.Writeback.TheVariants.{PageDone}
use Rattle.model.specs.declared.event.Event.TheVariants as Event
use Rattle.model.specs.State.{frames, NONE, READING, WRITING}
use Rattle.model.specs.Writeback as Writeback
use Rattle.model.specs.Step.{carried}
use Rattle.model.specs.Ledger.{note}
use Rattle.model.specs.Acts.{fed}
use Rattle.crash.proofs.Writes.{no_write_holds}
use Rattle.crash.proofs.Link.{Tied}
use Rattle.crash.proofs.Steps.{Step, Before, tied_at}
use Rattle.crash.proofs.PageDone.{failed_read, failed_write, good_read}
use Rattle.crash.proofs.Finished.{good_write}

-- a transfer under way is a read or a write
kind : (t : ℕ) → t < 3 → ¬ (t ≡ NONE) → (t ≡ READING) ⊎ (t ≡ WRITING)
kind t h n = elim (ℕ_discrete t READING) [ yes e ↦ inl e | no e ↦ inr (omega (arith, h, n, e)) ]

pub page_done : (z : Sizes) (f good : ℕ) → Step z (Event.Writeback (PageDone f good))
unfolding carried fed note Writeback.page_done
page_done z f good st l b = go good b
  where
    t : ℕ
    t = ((frames st).frame f).transfer

    go : (good : ℕ) → (b : Before z st l (Event.Writeback (PageDone f good))) → Tied z (carried z st (Event.Writeback (PageDone f good))) (note z l (fed z st (Event.Writeback (PageDone f good))))
    go zero b = elim (kind t (b.ruled.frames.fit f b.asked.0.0).1.1.1.1.1 b.asked.1.0) [
      | inl e ↦ tied_at (rw (eq-eqb t READING e)) refl (failed_read z st l b.fit b.ruled b.tied f b.asked.0.0 e)
      | inr e ↦ tied_at (rw (ne_eqb t READING (λ x. omega (arith, x, e)))) refl (failed_write z st l b.fit b.ruled b.tied f b.asked.0.0 e)
    ]
    go (suc zero) b = elim (kind t (b.ruled.frames.fit f b.asked.0.0).1.1.1.1.1 b.asked.1.0) [
      | inl e ↦ tied_at (rw (eq-eqb t READING e)) (no_write_holds f l (λ x. omega (arith, e, (b.tied.memory.framed f b.asked.0.0).only x))) (good_read z st l b.fit b.ruled b.tied f b.asked.0.0 e)
      | inr e ↦ tied_at (rw (ne_eqb t READING (λ x. omega (arith, x, e)))) refl (good_write z st l b.fit b.ruled b.tied f b.asked.0.0 e)
    ]
    go (suc (suc n)) b = absurd (omega (arith, b.asked.0.1))
