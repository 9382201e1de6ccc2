-- The new highest number keeps what ties the ledger to the disk and the memory: none of it speaks of that number.
use Prim.Native.Nat.{ℕ}
use Rattle.model.specs.declared.sizes.Sizes.{Sizes}
use Rattle.model.specs.State.{State}
use Rattle.model.specs.Setters.{on_disk, raise}
use Rattle.model.specs.Ledger.{Ledger, set_number}
use Rattle.model.specs.Acts.{World}
use Rattle.invariant.proofs.Raised.{raise_fit, raise_ruled}
use Rattle.invariant.proofs.Midst.{raised_in}
use Rattle.crash.proofs.Link.{OnDisk, InMemory, Tied}
use Rattle.crash.proofs.Steps.{Good}

pub raise_on_disk : (z : Sizes) (st : State) (l : Ledger) (n : ℕ) → OnDisk z st l → OnDisk z (on_disk (raise n) st) l
raise_on_disk z st l n d = record { designs = d.designs; listing = d.listing }

raise_memory : (z : Sizes) (st : State) (l : Ledger) (n : ℕ) → InMemory z st l → InMemory z (on_disk (raise n) st) l
raise_memory z st l n m = record { named = m.named; begun = m.begun; lives = m.lives; alive = m.alive; framed = m.framed; away = m.away; filed = m.filed; kept = m.kept }

pub raise_tied : (z : Sizes) (st : State) (l : Ledger) (n : ℕ) → Tied z st l → Tied z (on_disk (raise n) st) l
raise_tied z st l n t = record { disk = raise_on_disk z st l n t.disk; memory = raise_memory z st l n t.memory }

pub raise_good : (z : Sizes) (w : World) (n : ℕ) → Good z w → Good z (raised_in n w)
raise_good z w n k = record {
  fit = raise_fit z w.state n k.fit;
  rules = k.rules;
  disk = raise_on_disk z w.state w.ledger n k.disk;
  ruled = λ u. raise_ruled z w.state n (k.ruled u);
  copies = λ u. let c = k.copies u in record { fit = c.fit; rules = c.rules };
  memory = λ u. raise_memory z w.state w.ledger n (k.memory u);
  closed = k.closed;
}

-- nor of the number that a design was given
pub number_tied : (z : Sizes) (st : State) (l : Ledger) (numbers : ℕ → ℕ) → Tied z st l → Tied z st (set_number numbers l)
number_tied z st l numbers t = let m = t.memory in record {
  disk = record { designs = t.disk.designs; listing = t.disk.listing };
  memory = record { named = m.named; begun = m.begun; lives = m.lives; alive = m.alive; framed = m.framed; away = m.away; filed = m.filed; kept = m.kept };
}
