-- The reads of demand 2 as rules: what `After` says of reads and looks, computed along runs, and denied in worlds whose words are hurt.
use Rattle.std.specs.Prelude.{◌≡◌, refl, Bool, ◌&&◌, List, [], ◌∷◌, ◌++◌, ℕ, T, length}
use Rattle.tables.specs.Base.{at}
use Rattle.tables.specs.Rule.{Rule, Holds, same, is, ◌and◌, ◌then◌, each, test}
use Rattle.model.specs.declared.sizes.Sizes.{Sizes}
use Rattle.model.specs.declared.event.Page.TheVariants.{Read}
use Rattle.model.specs.declared.event.Event.TheVariants as Event
use Rattle.model.specs.State.{page_of}
use Rattle.model.specs.Setters.{on_core, set_words}
use Rattle.model.specs.Step.{step, look}
use Rattle.model.specs.Acts.{Act, World, act, run}
use Rattle.model.specs.Demand3.{After}
use Rattle.edges.specs.Lists.{activate, fault, read, write, claim, truncate, update, page_done, map_done, restart, small, cut, said, begin}
use Rattle.edges.specs.RuleList.{says_no}
use Rattle.edges.specs.Worlds.{nine, on_state}

module _ (z : Sizes) (w : World) where
  -- every carried-out read of a word gives the page's text
  abbrev pub reads_text : Rule
  reads_text = is w.up then each z.slots λ s. each z.pages λ p. each z.words λ k. (let a = (step z w.state (Event.Page (Read s p k))).answer in
      same a.refusal 0 then same a.result (w.ledger.pages.text (page_of z s p) k))

  -- every carried-out page look hands back W words, each the page's text
  abbrev pub looks_text : Rule
  looks_text = is w.up then each z.slots λ s. each z.pages λ p. (let o = look z w.state s p in
      same o.answer.refusal 0 then same (length o.left) z.words and each z.words λ k. same (at o.left k) (w.ledger.pages.text (page_of z s p) k))

-- `After` says both, whatever its claim
pub after_reads : (claim : Rule) (z : Sizes) (w : World) → After claim z w → Holds (reads_text z w)
after_reads claim z w a up s h p l k m e = a.reads s p k up e

pub after_looks_holds : (claim : Rule) (z : Sizes) (w : World) → After claim z w → Holds (looks_text z w)
after_looks_holds claim z w a up s h p l e = a.looks s p up e

-- ── computed ──
unfoldable read_right : World → Bool
unfolding said
read_right w = test (reads_text small w) && test (looks_text small w)

-- 1 reads, 2 looks
unfoldable misread : World → List ℕ
unfolding says_no
misread w = says_no 1 (reads_text small w ∷ looks_text small w ∷ [])

-- after each act, carried out or refused
unfoldable always_read : World → List Act → Bool
unfolding read_right begin
always_read w [] = read_right w
always_read w (a ∷ acts) = let rest = always_read (act small w a) acts in read_right w && rest

-- two pages in service and modified: page 0 in frame 1, page 1 in frame 0
abbrev two : List Act
two = nine ++ fault 0 0 ∷ page_done 1 1 ∷ write 0 0 0 6 ∷ fault 0 1 ∷ write 0 1 0 4 ∷ []

pub record Reads : Type 0 where
  -- after each act: pages in service, being read, being written, failed, written further, after a cut, of zeros
  along : T (always_read (begin small) (two ++ claim ∷ claim ∷ page_done 0 0 ∷ write 0 1 1 6 ∷ update 0 ∷ map_done 0 1 ∷ cut (1 ∷ []) [] ∷ restart ∷ activate 0 ∷ fault 0 0 ∷ page_done 0 1 ∷ read 0 0 1 ∷ truncate 0 0 ∷ fault 0 0 ∷ []))
  whole : misread (run small (begin small) two) ≡ []
  -- a word of one page, or of the other, is not its own
  hurt_first : misread (on_state (on_core (set_words (4 ∷ 0 ∷ 6 ∷ 8 ∷ []))) (run small (begin small) two)) ≡ 1 ∷ 2 ∷ []
  hurt_second : misread (on_state (on_core (set_words (9 ∷ 0 ∷ 6 ∷ 9 ∷ []))) (run small (begin small) two)) ≡ 1 ∷ 2 ∷ []

pub reads : Reads
unfolding always_read misread
reads = record { along = tt; whole = refl; hurt_first = refl; hurt_second = refl }
