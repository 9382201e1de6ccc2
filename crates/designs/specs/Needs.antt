-- What question 1 gives that activate and deactivate rest on.
use Rattle.std.specs.Prelude.{◌≡◌, List, ℕ, ◌≤◌, length}
use Rattle.model.specs.declared.sizes.Sizes.{Sizes}
use Rattle.model.specs.State.{all_pages}
use Rattle.model.specs.Laws.Fit.{Within}

pub record Turning (z : Sizes) (maps addresses states owners : List ℕ) : Type 0 where
  pub sizes : Within z
  pub maps_long : length maps ≡ all_pages z
  pub addresses_long : length addresses ≡ all_pages z
  pub owners_long : length states ≤ length owners
