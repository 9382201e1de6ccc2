-- (02) The chip in between: where a record's copy is, what goes in, what a fault finds, what is dropped.
use Rattle.std.specs.Prelude.{ℕ, suc, ◌*◌, ◌/◌, ◌%◌, pred, eqb, set, replicate}
use Rattle.tables.specs.Base.{at, if, find}
use Rattle.tables.specs.Queue.{push_front}
use Rattle.tables.specs.Rule.{Rule, same, non, ◌and◌, some, names, test}
use Rattle.tables.specs.Store.{store}
use Rattle.model.specs.declared.sizes.Sizes.{Sizes}
use Rattle.model.specs.Lines.{LIVE}
use Rattle.model.specs.State.{Core, Chip, State, frames, READING}
use Rattle.model.specs.Setters.{set_words, set_removal_list}
use Rattle.model.specs.Parts.{set_part, word_at}
use Rattle.model.specs.Pages.{on_frame, fresh}
use Rattle.model.specs.Writeback.{record_in}

module _ (z : Sizes) where
  -- the record has a copy,
  abbrev pub has_copy : Chip → ℕ → Rule
  has_copy k r = some z.chip λ b. same (at k.copies b) (suc r)

  -- and this is its place (B where it has none)
  unfoldable pub place_of : Chip → ℕ → ℕ
  place_of k r = find z.chip (λ b. eqb (at k.copies b) (suc r)) 0

  -- A page already there replaces its own copy; otherwise places are filled in turn, 0 to B−1 and round.
  unfoldable pub place_for : Chip → ℕ → ℕ
  place_for k r = if (test (has_copy k r)) (place_of k r) (at k.next 0)

  -- the record's words go in
  unfoldable pub copied : ℕ → (ℕ → ℕ) → Chip → Chip
  copied r word k = let b = place_for k r in record {
    words = set_part z b word k.words;
    copies = set k.copies b (suc r);
    next = if (test (has_copy k r)) k.next (set k.next 0 (suc b % z.chip));
  }

  -- the frame awaits the words of a record that has a copy
  abbrev pub found : Chip → State → ℕ → Rule
  found k st f = same ((frames st).frame f).transfer READING and has_copy k (record_in z st f)

  -- A fault on a live address found there is in service as after a good read, with no transfer: frame f takes the words of place b, goes to the list's front, initial on, used and modified off.
  unfoldable pub take_copy : Chip → ℕ → ℕ → Core → Core
  take_copy k f b c = set_removal_list (push_front c.removal_list f) (on_frame f (λ g. fresh (pred g.page)) (set_words (set_part z f (word_at z k.words b) c.words) c))

  unfoldable pub arrives : Chip → State → ℕ → Core → Core
  arrives k st f c = if (test (found k st f)) (take_copy k f (place_of k (record_in z st f)) c) c

  -- the place has the copy of a record that is not live
  abbrev pub stale : (ℕ → ℕ) → Chip → ℕ → Rule
  stale state k b = names (at k.copies b) λ r. non (same (state r) LIVE)

  -- A copy is dropped as soon as its record stops being live, and empty places hold zeros.
  unfoldable pub only_live : (ℕ → ℕ) → Chip → Chip
  only_live state k = record { words = store k.words (λ j. stale state k (j / z.words)) (λ j. 0); copies = store k.copies (stale state k) (λ b. 0); next = k.next }

  -- nothing in it, place 0 next
  unfoldable pub empty_chip : Chip
  empty_chip = record { words = replicate (z.chip * z.words) 0; copies = replicate z.chip 0; next = replicate 1 0 }
