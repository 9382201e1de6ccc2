-- What is said of a page and of a frame, over the first n frames of a list and the lists of addresses and states: in the model's words.
use Rattle.std.specs.Prelude.{◌&&◌, List, ℕ, suc, ◌+◌, ◌*◌, leb}
use Rattle.tables.specs.Base.{at, count}
use Rattle.tables.specs.Rule.{Rule, same, some, names, ◌and◌, ◌or◌, test}
use Rattle.model.specs.declared.frame.Frame.{Frame}
use Rattle.model.specs.Lines.{LIVE}
use Rattle.model.specs.State.{frame_at}

-- the page is in a frame
abbrev pub framed : ℕ → List Frame → ℕ → Rule
framed n fs i = some n λ f. same (frame_at fs f).page (suc i)

-- its address is live
abbrev pub live : List ℕ → List ℕ → ℕ → Rule
live addresses states i = names (at addresses i) λ r. same (at states r) LIVE

-- it is charged: its address is live, or it is in a frame and modified
abbrev pub charged : ℕ → List Frame → List ℕ → List ℕ → ℕ → Rule
charged n fs addresses states i = live addresses states i or some n λ f. same (frame_at fs f).page (suc i) and same (frame_at fs f).modified 1

-- how many of the slot's pages from k up are charged
abbrev pub charges_from : ℕ → ℕ → ℕ → ℕ → List Frame → List ℕ → List ℕ → ℕ
charges_from n pages s k fs addresses states = count pages (λ p. leb k p && test (charged n fs addresses states (s * pages + p)))

-- how many of the slot's pages from k up have a live address
abbrev pub live_from : ℕ → ℕ → ℕ → List ℕ → List ℕ → ℕ
live_from pages s k addresses states = count pages (λ p. leb k p && test (live addresses states (s * pages + p)))
