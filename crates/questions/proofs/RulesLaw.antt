-- All passes together are all rules.
use mathlib.Core.Path.{◌≡◌, ap, sym, ◌∙◌}
use mathlib.Core.Bool.{Bool, false, ◌&&◌}
use mathlib.Core.List.{List, [], ◌∷◌}
use Prim.Native.Nat.{ℕ, zero, suc, ◌+◌, ◌*◌, ◌/◌, ◌<◌, ◌≤◌}
use native.Mathlib.Omega.{arith}
use lib.Dec.{eqb}
use lib.ListN.{length, take}
use lib.Seq.{get_or-take}
use Rattle.tables.specs.Base.{at}
use Rattle.tables.specs.Laws.{count_same, count_bound}
use Rattle.tables.specs.Queue.{queue_of}
use Rattle.tables.specs.QueueLaws.{packed_queue}
use Rattle.tables.specs.TimesLaws.{times_nil}
use Rattle.tables.specs.Rule.{Rule, below, each, Holds, test, alike}
use Rattle.tables.specs.Turn.{not_so, unlearn}
use Rattle.model.specs.declared.frame.Frame.{Frame}
use Rattle.model.specs.declared.sizes.Sizes.{Sizes}
use Rattle.model.specs.State.{State, LINE, all_pages, files, frames, frame_at, no_frame, payer}
use Rattle.model.specs.Lent.{no_line}
use Rattle.model.specs.Laws.Fit.{Fit}
use Rattle.model.specs.Laws.Apart.{tables_ruled, ruled_apart, apart_ruled}
use Rattle.model.specs.Laws.Ruled.{OfFrames, OfQueues}
use Rattle.model.specs.Laws.Woven.{woven_page}
use Rattle.leaves.specs.Payers.{Paying}
use Rattle.rules.specs.Passes.{used_page, used_table, framed_page, framed_table}
use Rattle.questions.specs.Groups.{disk_passes, file_passes, frame_passes, count_passes, DiskLong, FilesLong, FramesLong, CountsLong}
use Rattle.questions.proofs.DiskLaw.{on_disk_holds, disk_on}
use Rattle.questions.proofs.FileLaw.{of_files, files_of}
use Rattle.questions.proofs.FrameLaw.{passes_same, of_frames_holds, frames_of_holds}
use Rattle.questions.proofs.CountLaw.{of_counts_holds, counts_of}

-- question 1 gives each subject its lengths
module _ (z : Sizes) (st : State) (fit : Fit z st) where
  pub disk_long : DiskLong z st.disk.numbers st.disk.accounts st.disk.maps st.disk.parents
  disk_long = record { within = fit.sizes; numbers_long = fit.disk.numbers; accounts_long = fit.disk.accounts; maps_long = fit.disk.maps; parents_long = fit.disk.parents }

  -- (payers: at least one for each slot)
  pub files_long : (payers : List ℕ) → z.slots ≤ length payers → FilesLong z st.disk.numbers payers st.disk.maps st.memory.held.addresses st.memory.held.states st.memory.held.owners st.memory.slots.active st.memory.slots.updating st.memory.slots.images
  files_long payers long = record {
    within = fit.sizes;
    numbers_long = fit.disk.numbers;
    accounts_long = long;
    maps_long = fit.disk.maps;
    addresses_long = fit.memory.addresses;
    states_long = fit.memory.states;
    owners_long = fit.memory.owners;
    active_long = fit.memory.active;
    updating_long = fit.memory.updating;
    images_long = fit.memory.images;
  }

  pub frames_long : (payers : List ℕ) → z.slots ≤ length payers → FramesLong z payers st.disk.records st.memory.core.words st.memory.core.free_queue st.memory.core.removal_list st.memory.held.addresses st.memory.held.states st.memory.slots.active
  frames_long payers long = record {
    within = fit.sizes;
    accounts_long = long;
    records_long = fit.disk.records;
    words_long = fit.memory.words;
    free_long = fit.memory.free_queue;
    removal_long = fit.memory.removal_list;
    addresses_long = fit.memory.addresses;
    states_long = fit.memory.states;
    active_long = fit.memory.active;
  }

  pub counts_long : CountsLong z st.memory.held.states st.memory.held.free_map st.memory.used
  counts_long = record { within = fit.sizes; states_long = fit.memory.states; free_map_long = fit.memory.free_map; used_long = fit.memory.used }

  abbrev disk_passes_holds : Rule
  disk_passes_holds = disk_passes z.slots z.pages z.records z.accounts st.disk.numbers st.disk.accounts st.disk.maps st.disk.parents

  abbrev file_passes_holds : Rule
  file_passes_holds = file_passes z.slots z.pages z.records st.disk.numbers st.disk.maps st.memory.held.addresses st.memory.held.states st.memory.held.owners st.memory.slots.active
      st.memory.slots.updating st.memory.slots.images

  pub no_disk : false ≡ test (disk_passes z.slots z.pages z.records z.accounts st.disk.numbers st.disk.accounts st.disk.maps st.disk.parents) → false ≡ test (tables_ruled z st)
  no_disk e = not_so (tables_ruled z st) (λ h. unlearn disk_passes_holds e (disk_on z st disk_long (ruled_apart z st h).disk))

  pub no_files : false ≡ test (file_passes z.slots z.pages z.records st.disk.numbers st.disk.maps st.memory.held.addresses st.memory.held.states st.memory.held.owners st.memory.slots.active
      st.memory.slots.updating st.memory.slots.images) → false ≡ test (tables_ruled z st)
  no_files e = not_so (tables_ruled z st) (λ h. unlearn file_passes_holds e (files_of z st (files_long st.disk.accounts (omega (arith, fit.disk.accounts))) (ruled_apart z st h).records))

  -- the frames that the code has are the state's
  module _ (frame : ℕ → Frame) (same : (f : ℕ) → f < z.frames → frame f ≡ (frames st).frame f) where
    abbrev frame_passes_holds : Rule
    frame_passes_holds = frame_passes z.frames z.words z.pages (z.slots * z.pages) frame st.disk.records st.memory.core.words st.memory.core.free_queue st.memory.core.removal_list
        st.memory.held.addresses st.memory.held.states st.memory.slots.active

    pub no_frames : false ≡ test (frame_passes z.frames z.words z.pages (z.slots * z.pages) frame st.disk.records st.memory.core.words st.memory.core.free_queue st.memory.core.removal_list
        st.memory.held.addresses st.memory.held.states st.memory.slots.active) → false ≡ test (tables_ruled z st)
    no_frames e = not_so (tables_ruled z st) (λ h. unlearn frame_passes_holds e
        (passes_same z.frames z.words z.pages (z.slots * z.pages) (frames st).frame frame (λ f l. sym (same f l)) st.disk.records st.memory.core.words st.memory.core.free_queue st.memory.core.removal_list st.memory.held.addresses st.memory.held.states st.memory.slots.active (frames_of_holds z st (ruled_apart z st h).frames (ruled_apart z st h).queues)))

    -- all others hold, and that of the line: the counts decide
    pub counts_decide : (payers : List ℕ) → Paying st payers → (sums totals : List ℕ) (b : Bool) → Holds (queue_of LINE (all_pages z) st.memory.line)
        → Holds (disk_passes z.slots z.pages z.records z.accounts st.disk.numbers st.disk.accounts st.disk.maps st.disk.parents)
        → Holds (file_passes z.slots z.pages z.records st.disk.numbers st.disk.maps st.memory.held.addresses st.memory.held.states st.memory.held.owners st.memory.slots.active
        st.memory.slots.updating st.memory.slots.images)
        → Holds (frame_passes z.frames z.words z.pages (z.slots * z.pages) frame st.disk.records st.memory.core.words st.memory.core.free_queue st.memory.core.removal_list
        st.memory.held.addresses st.memory.held.states st.memory.slots.active)
        → Holds (used_table z.slots z.pages payers st.memory.slots.active st.disk.maps st.memory.held.addresses st.memory.held.states sums)
        → Holds (framed_table z.frames z.pages (λ f. woven_page (frame f)) payers st.memory.held.addresses st.memory.held.states sums totals)
        → b ≡ test (count_passes z.records z.accounts st.memory.held.pool.hand st.memory.held.pool.free st.memory.held.states st.memory.held.free_map st.memory.used totals)
        → b ≡ test (tables_ruled z st)
    counts_decide payers p sums totals b waits d f c sum more e = e ∙ alike count_passes_holds (tables_ruled z st)
        (λ h. apart_ruled z st (record { disk = on_disk_holds z st disk_long d; records = of_files z st (files_long st.disk.accounts (omega (arith, fit.disk.accounts))) f; queues = fq.1; frames = fq.0; counts = of_counts_holds z st fq.0 fit.sizes.pages payers pays sums totals few sum own h; line = waits }))
        (λ h. counts_of z st fq.0 fit.sizes.pages payers pays sums totals few sum own (ruled_apart z st h).counts)
      where
        pays : (s : ℕ) → s < z.slots → at payers s ≡ payer (files st) s
        pays s h = p.entries s (omega (arith, h, fit.sizes.slots_most))

        few : z.accounts ≤ 16
        few = omega (arith, fit.sizes.accounts_most)

        fq : OfFrames z (files st) (frames st) (at st.disk.records) × OfQueues z st
        fq = of_frames_holds z st (passes_same z.frames z.words z.pages (z.slots * z.pages) frame (frames st).frame same st.disk.records st.memory.core.words st.memory.core.free_queue st.memory.core.removal_list st.memory.held.addresses st.memory.held.states st.memory.slots.active c)

        own : Holds (framed_table z.frames z.pages (λ f. woven_page ((frames st).frame f)) payers st.memory.held.addresses st.memory.held.states sums totals)
        own q h = more q h ∙ ap (λ (n : ℕ). at sums q + n) (count_same z.frames _ _ (λ f l. ap (λ (x : Frame). test (framed_page z.pages q (woven_page x) (at payers) (at st.memory.held.addresses) (at st.memory.held.states))) (same f l)))

        count_passes_holds : Rule
        count_passes_holds = count_passes z.records z.accounts st.memory.held.pool.hand st.memory.held.pool.free st.memory.held.states st.memory.held.free_map st.memory.used totals

-- the line of a state whose line nothing looks at keeps its rule
pub empty_line : (n : ℕ) → Holds (queue_of LINE n no_line)
empty_line n = packed_queue LINE n [] (omega arith) (λ x h. absurd (omega (arith, times_nil x, h)))

-- the first frames are the state's
pub frames_taken : (n count : ℕ) (fs : List Frame) → length (take count fs) ≡ n → (f : ℕ) → f < n → frame_at fs f ≡ frame_at (take count fs) f
frames_taken n count fs e f h = sym (get_or-take count fs f no_frame (omega (arith, e, take_short count fs)))
  where
    take_short : (m : ℕ) (l : List Frame) → length (take m l) ≤ m
    take_short zero l = omega arith
    take_short (suc m) [] = omega arith
    take_short (suc m) (x ∷ l) = omega (arith, take_short m l)

-- what is counted is at most all pages
pub sums_small : (slots pages : ℕ) (account active maps addresses states sums : List ℕ) → slots * pages ≤ 16384 → Holds (used_table slots pages account active maps addresses states sums) → Holds (each 16 λ q. below (at sums q) 32768)
sums_small slots pages account active maps addresses states sums few h q l = omega (arith, h q l, few, count_bound (slots * pages) (λ i. eqb (at account (i / pages)) q && used_page (at active (i / pages)) (at maps i) (at addresses i) (at states)))
