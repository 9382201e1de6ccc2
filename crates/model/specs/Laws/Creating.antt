-- What create's questions say, by name.
use Rattle.std.specs.Prelude.{◌≡◌, ℕ, ◌<◌}
use Rattle.tables.specs.Base.{at}
use Rattle.tables.specs.Questions.{Asked}
use Rattle.model.specs.declared.sizes.Sizes.{Sizes}
use Rattle.model.specs.declared.event.Design.TheVariants.{Create}
use Rattle.model.specs.declared.event.Event.TheVariants as Event
use Rattle.model.specs.State.{State, files}
use Rattle.model.specs.Questions.{questions}

module _ (z : Sizes) (st : State) (s q n : ℕ) where
  pub record Creating : Type 0 where
    pub slot : s < z.slots
    pub account : q < z.accounts
    pub some : 0 < n
    pub low : n < 2147483648
    pub empty : (files st).number s ≡ 0
    pub above : at st.disk.highest 0 < n
    pub fresh : (t : ℕ) → t < z.slots → ¬ ((files st).number t ≡ n)

  pub creating : Asked (questions z st (Event.Design (Create s q n))) → Creating
  creating ((slot, (account, some)), (low, (empty, (fresh, (above, none))))) = record { slot = slot; account = account; some = some; low = low; empty = empty; above = above; fresh = fresh }
