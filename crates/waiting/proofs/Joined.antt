-- A join over all tables: its outcome by what it ensures of the line.
use mathlib.Core.Path.{◌≡◌, refl, ◌∙◌}
use mathlib.Core.List.{List}
use Prim.Native.Nat.{ℕ}
use Rattle.model.specs.declared.sizes.Sizes.{Sizes}
use Rattle.model.specs.declared.event.Answer.{Answer}
use Rattle.model.specs.declared.event.Event.{Event}
use Rattle.model.specs.declared.event.Waiting.TheVariants.{Join}
use Rattle.model.specs.State.{State}
use Rattle.model.specs.Setters.{set_line}
use Rattle.model.specs.Line
use Rattle.model.specs.Step.{carried, result}
use Rattle.model.specs.Laws.Own.{own, leaves}
use Rattle.dispatch.proofs.Outcomes.{own_by}
use Rattle.waiting.specs.Seen.{seen_line}

module _ (z : Sizes) (st : State) (s p : ℕ) where
  abbrev joins : Event
  joins = Event.Waiting (Join s p)

  abbrev sees : State
  sees = seen_line st.memory.line

  pub join_own : {a : Answer} {l : List ℕ} → a ≡ (own z sees joins).answer → l ≡ (own z sees joins).left.memory.line → leaves a (set_line l st) ≡ own z st joins
  unfolding carried result Line.join
  join_own ea el = own_by z st sees joins refl refl ea (λ o ok. λ x. set_line ((el ∙ (λ y. (o y).left.memory.line)) x) st) (λ h o. λ x. set_line ((el ∙ (λ y. (o y).left.memory.line)) x) st)
