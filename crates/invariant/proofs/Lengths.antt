-- Question 1 of a state by groups of tables, so that an event has to say only of the groups that it changes that their lengths stay.
use mathlib.Core.Path.{◌≡◌}
use Prim.Native.Nat.{◌*◌}
use lib.ListN.{length}
use Rattle.model.specs.declared.sizes.Sizes.{Sizes}
use Rattle.model.specs.State.{Core, Held, Slots, State, LINE, all_pages, map_words}
use Rattle.model.specs.Laws.Fit.{Within, DiskFit, Fit}

pub record CoreFit (z : Sizes) (c : Core) : Type 0 where
  pub frames : length c.frames ≡ z.frames
  pub words : length c.words ≡ z.frames * z.words
  pub free_queue : length c.free_queue ≡ z.frames
  pub removal_list : length c.removal_list ≡ z.frames

-- but for the free map
pub record HeldFit (z : Sizes) (h : Held) : Type 0 where
  pub addresses : length h.addresses ≡ all_pages z
  pub states : length h.states ≡ z.records
  pub owners : length h.owners ≡ z.records

pub record SlotsFit (z : Sizes) (a : Slots) : Type 0 where
  pub active : length a.active ≡ z.slots
  pub updating : length a.updating ≡ z.slots
  pub images : length a.images ≡ all_pages z

-- all tables but the free map and the used counts
pub record Long (z : Sizes) (st : State) : Type 0 where
  pub sizes : Within z
  pub disk : DiskFit z st.disk
  pub core : CoreFit z st.memory.core
  pub held : HeldFit z st.memory.held
  pub slots : SlotsFit z st.memory.slots
  pub line : length st.memory.line ≡ LINE

pub long : (z : Sizes) (st : State) → Fit z st → Long z st
long z st f = (let m = f.memory in record {
  sizes = f.sizes;
  disk = f.disk;
  core = record { frames = m.frames; words = m.words; free_queue = m.free_queue; removal_list = m.removal_list };
  held = record { addresses = m.addresses; states = m.states; owners = m.owners };
  slots = record { active = m.active; updating = m.updating; images = m.images };
  line = m.line;
})

pub long_fit : (z : Sizes) (st : State) → Long z st → length st.memory.held.free_map ≡ map_words z → length st.memory.used ≡ z.accounts → Fit z st
long_fit z st l m u = record {
  sizes = l.sizes;
  disk = l.disk;
  memory = record {
    frames = l.core.frames;
    words = l.core.words;
    free_queue = l.core.free_queue;
    removal_list = l.core.removal_list;
    addresses = l.held.addresses;
    states = l.held.states;
    owners = l.held.owners;
    free_map = m;
    active = l.slots.active;
    updating = l.slots.updating;
    images = l.slots.images;
    line = l.line;
    used = u;
  };
}
