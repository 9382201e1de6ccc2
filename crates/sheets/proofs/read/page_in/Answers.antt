-- `page_in` meets its contract.
use native.Mathlib.Omega.{arith}
use Rattle.sheets.proofs.Cases.{place_by}
use Rattle.sheets.specs.Sheet.{number, place_of, page_in}
use Prim.Native.Nat.{ℕ, ◌+◌, ◌*◌}
use mathlib.Core.Path.{◌≡◌, ap, ◌∙◌}
use Rattle.sheets.proofs.read.page_in.Goals as goal

pub number_at-requires : goal.number_at-requires
number_at-requires c =
    let starts : 14 + c.args.k * (5 + 4 * c.args.w) ≡ place_of c.args.s.now c.args.k = place_by c.args.s.now c.args.w c.args.k c.requires.0 in
    (omega arith, omega (arith, starts, c.requires.3))

pub returns : goal.returns
unfolding page_in
returns c =
    let starts : 14 + c.args.k * (5 + 4 * c.args.w) ≡ place_of c.args.s.now c.args.k = place_by c.args.s.now c.args.w c.args.k c.requires.0 in
    c.number_at.ensures ∙ ap (λ (i : ℕ). number 2 0 c.args.s.now (i + 3)) starts
