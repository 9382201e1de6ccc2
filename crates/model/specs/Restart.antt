-- Format and restart.
use Rattle.std.specs.Prelude.{Bool, List, [], ◌∷◌, ℕ, zero, suc, ◌*◌, max, eqb, ltb, replicate}
use Rattle.tables.specs.Base.{at, if, any, find, tab}
use Rattle.tables.specs.Queue.{packed}
use Rattle.model.specs.declared.sizes.Sizes.{Sizes}
use Rattle.model.specs.Lines.{FREE, FILED}
use Rattle.model.specs.State.{Disk, State, LINE, no_frame, all_pages, slot_of}
use Rattle.model.specs.Chip.{empty_chip}
use Rattle.model.specs.Setters.{raise, counted}

-- Format zeroes all of the disk part but the parents: those it is handed are stored, for account 0 always 0.
unfoldable pub formatted : Sizes → List ℕ → Disk
formatted z wanted = record {
  records = replicate (z.records * z.words) 0;
  numbers = replicate z.slots 0;
  accounts = replicate z.slots 0;
  maps = replicate (all_pages z) 0;
  limits = replicate z.accounts 0;
  parents = tab z.accounts (λ a. if (eqb a 0) 0 (at wanted a)) 0;
  highest = 0 ∷ [];
}

-- a record is listed, and the page that lists it
unfoldable pub is_listed : Sizes → Disk → ℕ → Bool
is_listed z d r = any (all_pages z) λ i. eqb (at d.maps i) (suc r)

unfoldable pub listed_at : Sizes → Disk → ℕ → ℕ
listed_at z d r = find (all_pages z) (λ i. eqb (at d.maps i) (suc r)) 0

-- (02) The disk keeps the highest number below 2,147,483,648 ever given; where it is lower than such a number in a slot, as on older packs, restart stores the highest of these.
abbrev low : ℕ → ℕ
low n = if (ltb n 2147483648) n 0

unfoldable pub highest_of : Disk → ℕ → ℕ
highest_of d zero = at d.highest 0
highest_of d (suc s) = max (highest_of d s) (low (at d.numbers s))

unfoldable pub raised : Sizes → Disk → Disk
raised z d = raise (highest_of d z.slots) d

-- Restart: from the disk part alone; memory may hold anything. All designs inactive, hand 0, free queue 0 to F−1, free frames zeroed.
-- Restart empties the line, and the chip, place 0 next.
-- Restart sets all (states) anew: listed ones filed, others free.
abbrev pub uncounted : Sizes → Disk → State
uncounted z d = record {
  disk = d;
  memory = record {
    core = record { frames = replicate z.frames no_frame; words = replicate (z.frames * z.words) 0; free_queue = packed z.frames (tab z.frames (λ f. f) 0); removal_list = packed z.frames [] };
    held = record {
      addresses = replicate (all_pages z) 0;
      states = tab z.records (λ r. if (is_listed z d r) FILED FREE) 0;
      owners = tab z.records (λ r. if (is_listed z d r) (slot_of z (listed_at z d r)) 0) 0;
      free_map = [];
      pool = record { hand = 0; free = 0 };
    };
    slots = record { active = replicate z.slots 0; updating = replicate z.slots 0; images = replicate (all_pages z) 0 };
    chip = empty_chip z;
    line = packed LINE [];
    used = [];
  };
}

-- with the counts
unfoldable pub restarted : Sizes → Disk → State
restarted z d = counted z (uncounted z d)
