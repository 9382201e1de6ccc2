-- What restart reads of the disk part, what it requires of the tables, and the restarted state table by table.
use Rattle.std.specs.Prelude.{◌≡◌, List, [], ◌∷◌, ℕ, zero, suc, ◌*◌, ◌/◌, ◌<◌, ◌≤◌, length, replicate, take}
use Rattle.std.proofs.Math.Path.{refl, ap}
use Rattle.std.proofs.Common.{sym, ◌∙◌, le_of_suc-le-suc, not-suc-le-zero, mul-le-mul_right, arith}
use Rattle.std.proofs.Math.Dec.{eqb}
use Rattle.tables.specs.Base.{at, tab}
use Rattle.tables.specs.Queue.{packed}
use Rattle.tables.specs.QueueLaws.{length_packed, at_packed}
use Rattle.tables.specs.Laws.{at_tab0, length_tab, count_bound, at_zeros}
use Rattle.tables.specs.Rule.{Holds, each, below}
use Rattle.model.specs.declared.sizes.Sizes.{Sizes}
use Rattle.model.specs.declared.frame.Frame.{Frame}
use Rattle.model.specs.declared.frame.Pool.{Pool}
use Rattle.model.specs.State
use Rattle.model.specs.State.{Disk, State, files, no_frame, all_pages, map_words, free_count}
use Rattle.model.specs.Payer.{payer}
use Rattle.model.specs.Laws.Index.{slot_below}
use Rattle.model.specs.Sizes.{most_slots}
use Rattle.model.specs.Lines.{FREE}
use Rattle.model.specs.Lent.{disk_of}
use Rattle.model.specs.Laws.Fit.{Within, Fit}
use Rattle.model.specs.Laws.Ruled.{OnDisk}
use Rattle.model.specs.Rules.{fit, once}
use Rattle.model.specs.Setters.{counted}
use Rattle.model.specs.Restart.{restarted, is_listed, listed_at}
use Rattle.model.specs.Laws.Bounds.{pages_most}
use Rattle.leaves.specs.FreeMap.{free_map_table}
use Rattle.leaves.specs.Payers.{who_below}
use Rattle.leaves.specs.ByEntry.{Filled, filled_tab}
use Rattle.restarts.specs.Filed.{filed_states, filed_owners}
use Rattle.restarts.specs.Counts.{listed_used, used_alike, used_inactive}

-- the tables that restart reads; no definition of it looks at the others
abbrev pub seen : List ℕ → List ℕ → List ℕ → List ℕ → Disk
seen accounts maps limits parents = disk_of [] [] accounts maps limits parents []

-- hand 0, and so many free records
abbrev pub pool_of : ℕ → Pool
pool_of n = record { hand = 0; free = n }

-- questions 1 and 2 of the tables that follow from the maps
pub record Recorded (z : Sizes) (accounts maps limits parents states owners free_map used : List ℕ) : Type 0 where
  pub within : Within z
  pub accounts_long : length accounts ≡ z.slots
  pub maps_long : length maps ≡ all_pages z
  pub states_long : length states ≡ z.records
  pub owners_long : length owners ≡ z.records
  pub free_map_long : length free_map ≡ map_words z
  pub used_long : length used ≡ z.accounts
  pub map_fit_holds : Holds (fit (all_pages z) z.records (at maps))
  pub map_once_holds : Holds (once (all_pages z) (at maps))
  pub account_fit_holds : Holds (each z.slots λ s. below (at accounts s) z.accounts)

-- and of all that restart sets anew
pub record Ready (z : Sizes) (accounts maps limits parents words free_queue removal_list addresses states owners free_map active updating images used : List ℕ) : Type 0 where
  pub recorded : Recorded z accounts maps limits parents states owners free_map used
  pub words_long : length words ≡ z.frames * z.words
  pub free_queue_long : length free_queue ≡ z.frames
  pub removal_list_long : length removal_list ≡ z.frames
  pub addresses_long : length addresses ≡ all_pages z
  pub active_long : length active ≡ z.slots
  pub updating_long : length updating ≡ z.slots
  pub images_long : length images ≡ all_pages z

-- what the questions give
pub ready : (z : Sizes) (st : State) → Fit z st → OnDisk z (files st) → (let m = st.memory in Ready z st.disk.accounts st.disk.maps st.disk.limits st.disk.parents m.core.words m.core.free_queue m.core.removal_list m.held.addresses m.held.states m.held.owners m.held.free_map m.slots.active m.slots.updating m.slots.images m.used)
ready z st f d = record {
  recorded = record {
    within = f.sizes;
    accounts_long = f.disk.accounts;
    maps_long = f.disk.maps;
    states_long = f.memory.states;
    owners_long = f.memory.owners;
    free_map_long = f.memory.free_map;
    used_long = f.memory.used;
    map_fit_holds = d.map_fit_holds;
    map_once_holds = d.map_once_holds;
    account_fit_holds = d.account_fit_holds;
  };
  words_long = f.memory.words;
  free_queue_long = f.memory.free_queue;
  removal_list_long = f.memory.removal_list;
  addresses_long = f.memory.addresses;
  active_long = f.memory.active;
  updating_long = f.memory.updating;
  images_long = f.memory.images;
}

-- ── what the passes require ──
module _ (z : Sizes) (accounts maps limits parents states owners free_map used : List ℕ) (r : Recorded z accounts maps limits parents states owners free_map used) where
  pub to_file : (0 < z.pages) × (length maps ≤ most_slots * z.pages) × (length owners ≡ length states) × Holds (fit (length maps) (length states) (at maps)) × Holds (once (length maps) (at maps))
  to_file = (
    r.within.pages,
    (let h : z.slots * z.pages ≤ 64 * z.pages = mul-le-mul_right z.pages (omega (arith, r.within.slots_most)) in omega (arith, h, r.maps_long)),
    r.owners_long ∙ sym r.states_long,
    rw (r.maps_long, r.states_long) r.map_fit_holds,
    rw r.maps_long r.map_once_holds,
  )

  -- who pays for each slot, as a table
  abbrev who : ℕ → ℕ
  who s = payer (at parents) (at limits) (at accounts s)

  pub to_count : (payers : List ℕ) (n : ℕ) → n ≡ most_slots → payers ≡ tab n (λ s. payer (at parents) (at limits) (at accounts s)) 0
      → (0 < z.pages) × (length maps ≤ length payers * z.pages) × (length maps < 65536) × Holds (each (length payers) (λ s. below (at payers s) (length used)))
  to_count payers n e t = let long : length payers ≡ 64 = ap length t ∙ length_tab n who 0 ∙ e in (
    r.within.pages,
    (let h : z.slots * z.pages ≤ 64 * z.pages = mul-le-mul_right z.pages (omega (arith, r.within.slots_most)) in rw long (omega (arith, h, r.maps_long))),
    omega (arith, r.maps_long, pages_most z r.within),
    λ s h. let f : at payers s ≡ who s = ap (λ (l : List ℕ). at l s) t ∙ at_tab0 n who s 0 (omega (arith, h, long, e)) in omega (arith, f, who_below z accounts r.accounts_long r.account_fit_holds r.within.accounts parents limits s, r.used_long),
  )

  -- the used counts by the table are those by who pays
  pub by_payers : (payers : List ℕ) (n : ℕ) → n ≡ most_slots → payers ≡ tab n (λ s. payer (at parents) (at limits) (at accounts s)) 0
      → listed_used z.accounts (all_pages z) z.pages (at payers) (at maps) ≡ listed_used z.accounts (all_pages z) z.pages (λ s. payer (at parents) (at limits) (at accounts s)) (at maps)
  by_payers payers n e t = used_alike z.accounts (all_pages z) z.pages (at payers) who (at maps)
      (λ i h. ap (λ (l : List ℕ). at l (i / z.pages)) t ∙ at_tab0 n who (i / z.pages) 0 (omega (arith, slot_below z r.within.pages i h, r.within.slots_most, e)))

-- ── the queues and the frames ──
pub queued_all : (n : ℕ) → Filled n suc (packed n (tab n (λ f. f) 0))
queued_all n = record {
  long = length_packed n (tab n (λ f. f) 0);
  entries = λ i h. at_packed n (tab n (λ f. f) 0) i (rw length_tab h) h ∙ ap suc (at_tab0 n (λ f. f) i 0 h);
}

-- zeros by another count
pub zeros_of : {m n : ℕ} → m ≡ n → replicate {A = ℕ} m 0 ≡ replicate n 0
zeros_of e = ap (λ (k : ℕ). replicate {A = ℕ} k 0) e

pub queued_none : (n : ℕ) → replicate n 0 ≡ packed n []
unfolding packed
queued_none zero = refl
queued_none (suc n) = ap (λ (l : List ℕ). 0 ∷ l) (queued_none n)

pub take_frames : (n m : ℕ) → n ≤ m → take n (replicate m no_frame) ≡ replicate n no_frame
take_frames zero m h = refl
take_frames (suc n) zero h = absurd (not-suc-le-zero h)
take_frames (suc n) (suc m) h = ap (λ (l : List Frame). no_frame ∷ l) (take_frames n m (le_of_suc-le-suc h))

-- ── the restarted state, table by table ──
module _ (z : Sizes) (d : Disk) where
  pub restarted_states : (restarted z d).memory.held.states ≡ filed_states z.records (all_pages z) (at d.maps)
  unfolding restarted counted is_listed
  restarted_states = refl

  pub restarted_owners : (restarted z d).memory.held.owners ≡ filed_owners z.records (all_pages z) z.pages (at d.maps)
  unfolding restarted counted is_listed listed_at
  restarted_owners = refl

  pub restarted_free_map : (restarted z d).memory.held.free_map ≡ free_map_table z (at (restarted z d).memory.held.states)
  unfolding restarted counted
  restarted_free_map = refl

  pub restarted_pool : (restarted z d).memory.held.pool ≡ pool_of (free_count z (at (restarted z d).memory.held.states))
  unfolding restarted counted
  restarted_pool = refl

  pub restarted_used : (restarted z d).memory.used ≡ listed_used z.accounts (all_pages z) z.pages (λ s. payer (at d.parents) (at d.limits) (at d.accounts s)) (at d.maps)
  unfolding restarted counted State.payer
  restarted_used = filled_tab (record { long = length_tab z.accounts _ 0; entries = λ q h. at_tab0 z.accounts _ q 0 h ∙ used_inactive z _ _ (λ s. at_zeros z.slots s) q })

  pub restarted_frames : (restarted z d).memory.core.frames ≡ replicate z.frames no_frame
  unfolding restarted counted
  restarted_frames = refl

  pub restarted_words : (restarted z d).memory.core.words ≡ replicate (z.frames * z.words) 0
  unfolding restarted counted
  restarted_words = refl

  pub restarted_queue : (restarted z d).memory.core.free_queue ≡ packed z.frames (tab z.frames (λ f. f) 0)
  unfolding restarted counted
  restarted_queue = refl

  pub restarted_list : (restarted z d).memory.core.removal_list ≡ packed z.frames []
  unfolding restarted counted
  restarted_list = refl

  pub restarted_addresses : (restarted z d).memory.held.addresses ≡ replicate (all_pages z) 0
  unfolding restarted counted
  restarted_addresses = refl

  pub restarted_active : (restarted z d).memory.slots.active ≡ replicate z.slots 0
  unfolding restarted counted
  restarted_active = refl

  pub restarted_updating : (restarted z d).memory.slots.updating ≡ replicate z.slots 0
  unfolding restarted counted
  restarted_updating = refl

  pub restarted_images : (restarted z d).memory.slots.images ≡ replicate (all_pages z) 0
  unfolding restarted counted
  restarted_images = refl

  -- the count fits a word of 32 bits
  pub pool_room : (n : ℕ) → Within z → pool_of n ≡ (restarted z d).memory.held.pool → n < 65536
  unfolding free_count
  pool_room n w e =
      let q : n ≡ free_count z (at (restarted z d).memory.held.states) = ap (λ (p : Pool). p.free) (e ∙ restarted_pool) in
      omega (arith, q, w.records_most, count_bound z.records (λ k. eqb (at (restarted z d).memory.held.states k) FREE))
