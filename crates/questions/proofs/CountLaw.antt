-- The passes that count are the rules of the hand, the free map and the counts.
use mathlib.Core.Path.{◌≡◌, sym, ◌∙◌}
use mathlib.Core.List.{List}
use Prim.Native.Nat.{ℕ, ◌<◌, ◌≤◌}
use native.Mathlib.Omega.{arith}
use Rattle.tables.specs.Base.{at}
use Rattle.tables.specs.Rule.{Holds}
use Rattle.model.specs.declared.sizes.Sizes.{Sizes}
use Rattle.model.specs.State.{State, files, frames, payer, used_of, free_count, free_word}
use Rattle.model.specs.Laws.Ruled.{OfFrames, OfCounts}
use Rattle.model.specs.Laws.Woven.{woven_page}
use Rattle.rules.specs.Passes.{used_table, framed_table}
use Rattle.rules.proofs.Used.{seated_by, total}
use Rattle.questions.specs.Groups.{count_passes}

-- sums: the pages that count by address or map; totals: those that count by their frames too
module _ (z : Sizes) (st : State) (o : OfFrames z (files st) (frames st) (at st.disk.records)) (pos : 0 < z.pages) (payers : List ℕ) (pays : (s : ℕ) → s < z.slots → at payers s ≡ payer (files st) s) (sums totals : List ℕ) (few : z.accounts ≤ 16)
    (sum : Holds (used_table z.slots z.pages payers st.memory.slots.active st.disk.maps st.memory.held.addresses st.memory.held.states sums))
    (more : Holds (framed_table z.frames z.pages (λ f. woven_page ((frames st).frame f)) payers st.memory.held.addresses st.memory.held.states sums totals)) where
  counted : (q : ℕ) → q < z.accounts → at totals q ≡ used_of z (files st) (frames st) q
  counted q h = total z st (seated_by z (files st) (frames st) (at st.disk.records) o) pos payers pays sums totals sum more q (omega (arith, h, few))

  pub of_counts_holds : Holds (count_passes z.records z.accounts st.memory.held.pool.hand st.memory.held.pool.free st.memory.held.states st.memory.held.free_map st.memory.used totals) → OfCounts z st
  unfolding free_count free_word
  of_counts_holds (a, (b, (c, d))) = record { hand = a; free = b; free_map = c; used = λ q h. d q h ∙ counted q h }

  pub counts_of : OfCounts z st → Holds (count_passes z.records z.accounts st.memory.held.pool.hand st.memory.held.pool.free st.memory.held.states st.memory.held.free_map st.memory.used totals)
  unfolding free_count free_word
  counts_of o = (o.hand, (o.free, (o.free_map, λ q h. o.used q h ∙ sym (counted q h))))
