-- The passes over frames and queues are the memory rules of frames and queues.
use mathlib.Core.Path.{◌≡◌, ap, ◌∙◌, subst}
use mathlib.Core.List.{List}
use Prim.Native.Nat.{ℕ, ◌*◌, ◌<◌}
use Rattle.tables.specs.Base.{at}
use Rattle.tables.specs.Queue.{members, times}
use Rattle.tables.specs.Rule.{◌and◌, Holds}
use Rattle.model.specs.declared.frame.Frame.{Frame}
use Rattle.model.specs.declared.sizes.Sizes.{Sizes}
use Rattle.model.specs.State.{State, files, frames}
use Rattle.model.specs.Laws.Ruled.{OfFrames, OfQueues}
use Rattle.rules.specs.Passes.{frame_row, clean_frame}
use Rattle.questions.specs.Groups.{frame_passes}

-- frames that are the same below `count`
module _ (count words pages total : ℕ) (g h : ℕ → Frame) (e : (f : ℕ) → f < count → g f ≡ h f) where
  page_of_holds : (f : ℕ) → f < count → (g f).page ≡ (h f).page
  page_of_holds f l = ap (λ (x : Frame). x.page) (e f l)

  pub passes_same : (records word free_queue removal_list addresses states active : List ℕ) → Holds (frame_passes count words pages total g records word free_queue removal_list addresses states active)
      → Holds (frame_passes count words pages total h records word free_queue removal_list addresses states active)
  passes_same records word free_queue removal_list addresses states active (((d, o), q), r) = (
    ((λ f l i p. d f l i (page_of_holds f l ∙ p), λ i l j k r p q. o i l j k r (page_of_holds i l ∙ p) (page_of_holds j k ∙ q)), q),
    λ f l. subst (λ (x : Frame). Holds (frame_row pages active addresses states (times (members free_queue) f) (times (members removal_list) f) x and clean_frame words x f word records addresses states)) (e f l) (r f l),
  )

module _ (z : Sizes) (st : State) where
  pub of_frames_holds : Holds (frame_passes z.frames z.words z.pages (z.slots * z.pages) (frames st).frame st.disk.records st.memory.core.words st.memory.core.free_queue
      st.memory.core.removal_list st.memory.held.addresses st.memory.held.states st.memory.slots.active) → OfFrames z (files st) (frames st) (at st.disk.records) × OfQueues z st
  of_frames_holds (((d, o), (q, p)), r) = (
    record {
      fit = λ f l. (d f l, (r f l).0.0);
      in_one_place_holds = λ f l. (r f l).0.1.0;
      active = λ f l. (r f l).0.1.1.1.1.1.0;
      once = o;
      held = λ f l. (r f l).0.1.1.1.1.1.1;
      writing = λ f l. (r f l).0.1.1.0;
      free = λ f l. (r f l).0.1.1.1.0;
      busy = λ f l. (r f l).0.1.1.1.1.0;
      clean = λ f l. (r f l).1;
    },
    record { free_queue = q; removal_list = p },
  )

  pub frames_of_holds : OfFrames z (files st) (frames st) (at st.disk.records) → OfQueues z st
      → Holds (frame_passes z.frames z.words z.pages (z.slots * z.pages) (frames st).frame st.disk.records st.memory.core.words st.memory.core.free_queue
      st.memory.core.removal_list st.memory.held.addresses st.memory.held.states st.memory.slots.active)
  frames_of_holds o q = (
    ((λ f l. (o.fit f l).0, o.once), (q.free_queue, q.removal_list)),
    λ f l. (((o.fit f l).1, (o.in_one_place_holds f l, (o.writing f l, (o.free f l, (o.busy f l, (o.active f l, o.held f l)))))), o.clean f l),
  )
