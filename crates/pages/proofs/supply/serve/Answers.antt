-- `serve` meets its contract, by the way.
use mathlib.Core.Path.{ap, sym, ◌∙◌}
use Prim.Native.Nat.{ℕ}
use native.Mathlib.Numerals.{add-one}
use lib.ListN.{set}
use Rattle.leaves.specs.Packed.{unpacked}
use Rattle.pages.specs.Faults.{is_live_way}
use Rattle.pages.proofs.Ways.{dead_way}
use Rattle.pages.proofs.supply.serve.Goals as goal

pub returns-in-Live : goal.returns-in-Live
returns-in-Live g c =
    let a = c.args in
    let fs = unpacked a.frames.now in
    let w = ap is_live_way (sym c.way.ensures ∙ c.in-Live.is) in record {
      frames = rw w (c.put_frame.ensures ∙ ap (λ (n : ℕ). set fs a.frame (record { page = n; used = 0; modified = 0; wired = 0; initial = 0; transfer = 1 })) (add-one a.page));
      words = rw w;
      list = rw w;
    }

pub returns : goal.returns
returns g c =
    let a = c.args in
    let fs = unpacked a.frames.now in
    let w = ap is_live_way (sym c.way.ensures) ∙ dead_way c.way.result c.in_default.not-Live in record {
      frames = rw w (c.put_frame-2.ensures ∙ ap (λ (n : ℕ). set fs a.frame (record { page = n; used = 0; modified = 0; wired = 0; initial = 1; transfer = 0 })) (add-one a.page));
      words = rw w c.clear_part.ensures;
      list = rw w c.push_front.ensures;
    }
