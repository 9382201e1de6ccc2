-- Paper 02, wish 4: "No event but its done, a cut or a restart changes the words of a frame in transfer." Over every event, request, page look and list of acts.
use Rattle.std.specs.Prelude.{Option, Some, None}
use mathlib.Core.Path.{◌≡◌, refl, ap, sym, ◌∙◌}
use mathlib.Core.Bool.{not}
use mathlib.Core.List.{List, [], ◌∷◌}
use Prim.Native.Nat.{ℕ, zero, suc, ◌+◌, ◌*◌, ◌%◌, ◌<◌}
use native.Mathlib.Nat.{mod-lt, div-add-mod'}
use native.Mathlib.Omega.{arith}
use native.Mathlib.Decide.{ℕ_discrete}
use lib.Dec.{T, eqb, T_not}
use lib.ListN.{length, set}
use borrow.Author.Tests.{eq-eqb}
use Rattle.tables.specs.Base.{if, tab}
use Rattle.tables.specs.Laws.{if_elim, if_false, at_tab0, and_left, and_right, eq→T}
use Rattle.tables.specs.Rule.{Holds, same, test, sound}
use Rattle.tables.specs.Queue.{first, members, times}
use Rattle.tables.specs.QueueLaws.{first_once}
use Rattle.tables.specs.Questions.{Asked, none, ask, first_no}
use Rattle.model.specs.declared.sizes.Sizes.{Sizes}
use Rattle.model.specs.declared.frame.Frame.{Frame}
use Rattle.model.specs.declared.event.Design.TheVariants.{Create, Delete, Activate, Deactivate}
use Rattle.model.specs.declared.event.Account.TheVariants.{Limit, Move}
use Rattle.model.specs.declared.event.Page.TheVariants.{Fault, Read, Write, Wire, Unwire}
use Rattle.model.specs.declared.event.Writeback.TheVariants.{Claim, Truncate, Update, PageDone, MapDone}
use Rattle.model.specs.declared.event.Waiting.TheVariants.{Join, Turn}
use Rattle.model.specs.declared.event.Event.{Event}
use Rattle.model.specs.declared.event.Event.TheVariants as Event
use Rattle.model.specs.declared.request.Request.{Request}
use Rattle.model.specs.State.{Core, Chip, State, files, frames, no_frame, frame_at, NONE, READING, page_of, framed, live}
use Rattle.model.specs.Setters.{on_core, set_chip, counted, set_used_switch}
use Rattle.model.specs.Questions.{questions}
use Rattle.model.specs.Parts.{word_at, set_part, frame_of}
use Rattle.model.specs.Chip.{place_of, found, take_copy, arrives}
use Rattle.model.specs.Designs
use Rattle.model.specs.Accounts
use Rattle.model.specs.Pages
use Rattle.model.specs.Writeback
use Rattle.model.specs.Line
use Rattle.model.specs.Writeback.{looking, begins_write, record_in, cut_frame}
use Rattle.model.specs.Requests.{decoded, decoded_number}
use Rattle.model.specs.Step.{outcome, asked, answer, carried, is_fault, supplied, whole, result, step}
use Rattle.model.specs.Calls.{apply, step_of, unknown}
use Rattle.sheets.specs.Sheet.{number_in}
use Rattle.model.specs.Import.{sheet_of, imported, import_answer, import}
use Rattle.model.specs.Acts as A
use Rattle.model.specs.Acts.{Act, World, act, run}
use Rattle.model.specs.Terms.{Good, InTransfer, Untouched, is_done, asks_done, other, all_other}
use Rattle.model.specs.Laws.Ruled.{Ruled, ruled, once_free}
use Rattle.model.specs.Laws.Fit.{Fit, fit}
use Rattle.invariant.proofs.LineKept.{by_turn}
use Rattle.invariant.proofs.Looks.{Took, looking_takes}
use Rattle.invariant.proofs.FrameParts.{part_other, word_other}
use Rattle.invariant.proofs.Stands.{frame_of_holds, moving_place, seat_at}
use Rattle.invariant.proofs.Freed.{set_there, set_elsewhere}
use Rattle.invariant.proofs.ChipServed.{by_fault_holds}
use Rattle.invariant.proofs.Kept.{asked_all, kept, carried_kept}
use Rattle.invariant.proofs.Imported.{import_good}

-- frame f is as it was, and so are its words
by_frame : (z : Sizes) (st st' : State) (f : ℕ) → (frames st').frame f ≡ (frames st).frame f → ((w : ℕ) → w < z.words → word_at z st'.memory.core.words f w ≡ word_at z st.memory.core.words f w) → Untouched z st st' f
by_frame z st st' f e ws = record { words = ws; page = ap (λ (g : Frame). g.page) e; transfer = ap (λ (g : Frame). g.transfer) e }

-- frames and words stay
same_core : (z : Sizes) (st st' : State) (f : ℕ) → st'.memory.core ≡ st.memory.core → Untouched z st st' f
same_core z st st' f e = by_frame z st st' f (ap (λ (c : Core). frame_at c.frames f) e) (λ w l. ap (λ (c : Core). word_at z c.words f w) e)

-- the counts are no part of a frame
counted_untouched : (z : Sizes) (st x : State) (f : ℕ) → Untouched z st x f → Untouched z st (counted z x) f
unfolding counted
counted_untouched z st x f u = record { words = u.words; page = u.page; transfer = u.transfer }

untouched_trans : {z : Sizes} {a b c : State} {f : ℕ} → Untouched z a b f → Untouched z b c f → Untouched z a c f
untouched_trans p q = record { words = λ w l. q.words w l ∙ p.words w l; page = q.page ∙ p.page; transfer = q.transfer ∙ p.transfer }

module _ (z : Sizes) (st : State) (fits : Fit z st) (r : Ruled z st) (f : ℕ) (t : InTransfer z st f) where
  abbrev gs : List Frame
  gs = st.memory.core.frames

  abbrev ws : List ℕ
  ws = st.memory.core.words

  abbrev Same : State → Type 0
  Same x = Untouched z st x f

  -- it stands in no queue, and is not wired
  nowhere : (frames st).queued f + (frames st).removing f + ((frames st).frame f).wired ≡ 0
  nowhere = moving_place (seat_at z st r f t.within) t.moving

  -- another frame is stored, and perhaps words of that one
  others : (x : State) (k : ℕ) (g : Frame) → ¬ (f ≡ k) → x.memory.core.frames ≡ set gs k g → ((w : ℕ) → w < z.words → word_at z x.memory.core.words f w ≡ word_at z ws f w) → Same x
  others x k g d e = by_frame z st x f (ap (λ (l : List Frame). frame_at l f) e ∙ set_elsewhere gs k g f d)

  part_untouched : (k : ℕ) (word : ℕ → ℕ) → ¬ (f ≡ k) → (w : ℕ) → w < z.words → word_at z (set_part z k word ws) f w ≡ word_at z ws f w
  part_untouched k word d w l = part_other z z.frames ws fits.memory.words k word w l f t.within d

  -- a page that is in no transfer is in another frame
  apart : (i : ℕ) → Holds (framed z (frames st) i) → ((h : ℕ) → h < z.frames → ((frames st).frame h).page ≡ suc i → ((frames st).frame h).transfer ≡ NONE) → ¬ (f ≡ frame_of z (frames st) i)
  apart i h still e = let o = frame_of_holds z (frames st) i h in t.moving (ap (λ (x : ℕ). ((frames st).frame x).transfer) e ∙ still (frame_of z (frames st) i) o.0 o.1)

  -- ── fault: the frame taken stood in the free queue ──
  fault_untouched : (s p : ℕ) → Asked (questions z st (Event.Page (Fault s p))) → Same (Pages.fault z st s p)
  unfolding Pages.fault Pages.fault_frame Pages.begin_read Pages.serve_zeros Pages.take_record
  fault_untouched s p a = counted_untouched z st _ f (if_elim Same (test (live (files st) i)) _ _ (λ y. others _ k _ d refl (λ w l. refl))
      (λ n. if_elim Same (test (same ((files st).address i) 0)) _ _ (λ y. others _ k _ d refl (part_untouched k (λ u. 0) d)) (λ y. others _ k _ d refl (part_untouched k (λ u. 0) d))))
    where
      i : ℕ
      i = page_of z s p

      k : ℕ
      k = first st.memory.core.free_queue

      queued : (frames st).queued k ≡ 1
      queued = first_once st.memory.core.free_queue fits.memory.free_queue r.queues.free_queue (once_free z st r) a.1.1.1.1.1.1.0

      d : ¬ (f ≡ k)
      d e = omega (arith, nowhere, queued, ap (frames st).queued e)

  -- ── read, also of the frame itself: used goes on ──
  read_untouched : (s p : ℕ) → Same (Pages.read z st s p)
  unfolding Pages.read
  read_untouched s p = elim (ℕ_discrete f k) [
    | yes e ↦ record { words = λ w l. refl; page = ap (λ (g : Frame). g.page) (there e) ∙ sym (ap (λ (x : ℕ). (frame_at gs x).page) e); transfer = ap (λ (g : Frame). g.transfer) (there e) ∙ sym (ap (λ (x : ℕ). (frame_at gs x).transfer) e) }
    | no d ↦ others _ k _ d refl (λ w l. refl)
  ]
    where
      k : ℕ
      k = frame_of z (frames st) (page_of z s p)

      there : f ≡ k → frame_at (set gs k (set_used_switch 1 (frame_at gs k))) f ≡ set_used_switch 1 (frame_at gs k)
      there e = ap (frame_at (set gs k (set_used_switch 1 (frame_at gs k)))) e ∙ set_there z gs fits.memory.frames k (rw e at t.within) (set_used_switch 1 (frame_at gs k))

  -- ── write, wire, unwire: of a page in no transfer ──
  write_untouched : (s p w x : ℕ) → Asked (questions z st (Event.Page (Write s p w x))) → Same (Pages.write z st s p w x)
  unfolding Pages.write counted
  write_untouched s p w x a =
      let d = apart (page_of z s p) a.1.1.1.0 a.1.1.1.1.0 in
      others _ (frame_of z (frames st) (page_of z s p)) _ d refl (λ u l. word_other ws z.words (frame_of z (frames st) (page_of z s p)) w f u x a.0.1.1 l d)

  wire_untouched : (s p : ℕ) → Asked (questions z st (Event.Page (Wire s p))) → Same (Pages.wire z st s p)
  unfolding Pages.wire
  wire_untouched s p a = others _ (frame_of z (frames st) (page_of z s p)) _ (apart (page_of z s p) a.1.1.1.0 a.1.1.1.1.0) refl (λ w l. refl)

  unwire_untouched : (s p : ℕ) → Asked (questions z st (Event.Page (Unwire s p))) → Same (Pages.unwire z st s p)
  unfolding Pages.unwire
  unwire_untouched s p a = others _ (frame_of z (frames st) (page_of z s p)) _ (apart (page_of z s p) a.1.1.1.0 a.1.1.1.1.0) refl (λ w l. refl)

  -- ── claim: the frame taken stood in the list ──
  claim_untouched : Asked (questions z st (Event.Writeback Claim)) → Same (Writeback.claim z st)
  unfolding Writeback.claim Writeback.free_frame
  claim_untouched a = counted_untouched z st _ f (if_elim Same (begins_write z st) _ _ (λ y. looked _ _ refl refl) (λ n. if_elim Same (eqb ((frames st).frame k).modified 1) _ _ (λ y. looked _ _ refl refl) (λ y. looked _ _ refl refl)))
    where
      k : ℕ
      k = (looking z st).taken

      took : Took gs (members st.memory.core.removal_list) (suc (length (members st.memory.core.removal_list))) 0 (looking z st)
      took = looking_takes z st a.0

      listed : (frames st).removing k ≡ suc (times (looking z st).list k)
      listed = took.left k ∙ rw (eq-eqb k k refl) (omega arith)

      d : ¬ (f ≡ k)
      d e = omega (arith, nowhere, listed, ap (frames st).removing e)

      looked : (x : State) (g : Frame) → x.memory.core.frames ≡ set (looking z st).frames k g → x.memory.core.words ≡ ws → Same x
      looked x g e q = let o : (frames x).frame f ≡ frame_at (looking z st).frames f = ap (λ (l : List Frame). frame_at l f) e ∙ set_elsewhere (looking z st).frames k g f d in
          record { words = λ w l. ap (λ (y : List ℕ). word_at z y f w) q; page = ap (λ (y : Frame). y.page) o ∙ (took.cooler f).page; transfer = ap (λ (y : Frame). y.transfer) o ∙ (took.cooler f).transfer }

  -- ── truncate: of pages in no transfer ──
  truncate_untouched : (s k : ℕ) → Asked (questions z st (Event.Writeback (Truncate s k))) → Same (Writeback.truncate z st s k)
  unfolding Writeback.truncate
  truncate_untouched s k a = counted_untouched z st _ f (by_frame z st _ f frame_kept (λ w l. refl))
    where
      uncut : ¬ (T (test (cut_frame z st s k f)))
      uncut y =
          let c = sound (cut_frame z st s k f) y in
          let its : page_of z s (c.0 % z.pages) ≡ c.0 = ap (λ (x : ℕ). x * z.pages + c.0 % z.pages) (sym c.2.0) ∙ div-add-mod' c.0 z.pages in
          t.moving (a.1.1.1.0 (c.0 % z.pages) (mod-lt c.0 fits.sizes.pages) c.2.1 f t.within (c.1 ∙ ap suc (sym its)))

      frame_kept : frame_at (tab (length gs) (λ x. if (test (cut_frame z st s k x)) no_frame (frame_at gs x)) 0) f ≡ frame_at gs f
      frame_kept = at_tab0 (length gs) (λ x. if (test (cut_frame z st s k x)) no_frame (frame_at gs x)) f no_frame (rw fits.memory.frames t.within) ∙ if_false (test (cut_frame z st s k f)) no_frame (frame_at gs f) uncut

  -- ── page done of another frame ──
  done_untouched : (k good : ℕ) → ¬ (f ≡ k) → Same (Writeback.page_done z st k good)
  unfolding Writeback.page_done Writeback.read_good Writeback.read_failed Writeback.write_good Writeback.write_failed Writeback.free_frame Writeback.store_frame
  done_untouched k good d = counted_untouched z st _ f (if_elim Same (eqb ((frames st).frame k).transfer READING) _ _
      (λ y. if_elim Same (eqb good 1) _ _ (λ g. others _ k _ d refl (part_untouched k (word_at z st.disk.records (record_in z st k)) d)) (λ g. others _ k _ d refl (λ w l. refl)))
      (λ n. if_elim Same (eqb good 1) _ _ (λ g. others _ k _ d refl (λ w l. refl)) (λ g. others _ k _ d refl (λ w l. refl))))

  -- ── every event ──
  untouched : (e : Event) → Asked (questions z st e) → T (not (is_done f e)) → Same (carried z st e)
  unfolding carried counted Accounts.limit Accounts.move Designs.create Designs.delete Designs.activate Designs.deactivate Writeback.update Writeback.map_done Line.join
  untouched (Event.Design (Create s q n)) a o = same_core z st _ f refl
  untouched (Event.Design (Delete s)) a o = same_core z st _ f refl
  untouched (Event.Design (Activate s)) a o = same_core z st _ f refl
  untouched (Event.Design (Deactivate s)) a o = same_core z st _ f refl
  untouched (Event.Account (Limit q n)) a o = same_core z st _ f refl
  untouched (Event.Account (Move g t m)) a o = same_core z st _ f refl
  untouched (Event.Page (Fault s p)) a o = fault_untouched s p a
  untouched (Event.Page (Read s p w)) a o = read_untouched s p
  untouched (Event.Page (Write s p w x)) a o = write_untouched s p w x a
  untouched (Event.Page (Wire s p)) a o = wire_untouched s p a
  untouched (Event.Page (Unwire s p)) a o = unwire_untouched s p a
  untouched (Event.Writeback Claim) a o = claim_untouched a
  untouched (Event.Writeback (Truncate s k)) a o = truncate_untouched s k a
  untouched (Event.Writeback (Update s)) a o = same_core z st _ f refl
  untouched (Event.Writeback (PageDone k good)) a o = done_untouched k good (λ e. T_not (eqb k f) o (eq→T (sym e)))
  untouched (Event.Writeback (MapDone s good)) a o =
      counted_untouched z st _ f (if_elim Same (eqb good 1) _ _ (λ y. same_core z st _ f refl) (λ n. same_core z st _ f refl))
  untouched (Event.Waiting (Join s p)) a o = same_core z st _ f refl
  untouched (Event.Waiting Turn) a o = by_turn z st fits r Same (λ l h. same_core z st _ f refl) (λ q. fault_untouched _ _ q) (λ q. claim_untouched q) a

  -- ── and what the chip does: the frame that a fault takes stood in the free queue ──
  beside : (x : State) (k : Chip) → Same x → Same (set_chip k x)
  beside x k u = record { words = u.words; page = u.page; transfer = u.transfer }

  other_taken : (e : Event) → T (is_fault z st e) → Asked (questions z st e) → ¬ (f ≡ Pages.fault_frame st)
  unfolding Pages.fault_frame
  other_taken e y a d = let b = by_fault_holds z st e y a in
      let queued : (frames st).queued (first st.memory.core.free_queue) ≡ 1 = first_once st.memory.core.free_queue fits.memory.free_queue r.queues.free_queue (once_free z st r) b.asked.1.1.1.1.1.1.0 in
      omega (arith, nowhere, queued, ap (frames st).queued d)

  whole_untouched : (e : Event) → Asked (questions z st e) → T (not (is_done f e)) → Same (whole z st e)
  unfolding whole supplied arrives take_copy
  whole_untouched e a o =
      let u = untouched e a o in let x = carried z st e in let k = Pages.fault_frame st in let fx = (carried_kept z st e fits r a).0 in
      beside _ _ (if_elim (λ (y : Core). Same (on_core (λ c. y) x)) (is_fault z st e) _ x.memory.core
      (λ y. if_elim (λ (y : Core). Same (on_core (λ c. y) x)) (test (found z st.memory.chip x k)) _ x.memory.core
      (λ v. untouched_trans u (by_frame z x _ f (set_elsewhere x.memory.core.frames k _ f (other_taken e y a)) (λ w l. part_other z z.frames x.memory.core.words fx.memory.words k (word_at z st.memory.chip.words (place_of z st.memory.chip (record_in z x k))) w l f t.within (other_taken e y a))))
      (λ v. u)) (λ n. u))

-- For every state that passes questions 1 and 2, every frame in transfer and every event but its page done: its words are after `step` what they were; it is in that transfer still, of that page.
pub transfer_words : (z : Sizes) (st : State) (e : Event) → Good z st → (f : ℕ) → InTransfer z st f → T (not (is_done f e)) → Untouched z st (step z st e).left f
unfolding step
transfer_words z st e g f t o = go (answer z st e) refl
  where
    go : (n : ℕ) → answer z st e ≡ n → Untouched z st (outcome n (result z st e) st (whole z st e)).left f
    go zero h = whole_untouched z st (fit z st g.0) (ruled z st g.1) f t e (asked_all z st e h).1.1 o
    go (suc n) h = same_core z st st f refl

-- .. and every request but one for its page done
pub transfer_words_apply : (z : Sizes) (st : State) (q : Request) → Good z st → (f : ℕ) → InTransfer z st f → T (not (asks_done f (decoded q))) → Untouched z st (apply z st q).left f
unfolding apply step_of unknown
transfer_words_apply z st q g f t o = go (decoded q) o
  where
    refused : (n : ℕ) → Untouched z st (outcome n 0 st st).left f
    refused zero = same_core z st st f refl
    refused (suc n) = same_core z st st f refl

    go : (d : Option Event) → T (not (asks_done f d)) → Untouched z st (step_of z st d).left f
    go (Some e) h = transfer_words z st e g f t h
    go None h = refused (first_no (asked z st (ask (decoded_number None) (same 0 1) none)))

-- an import touches no frame
import_untouched : (z : Sizes) (st : State) (s q n : ℕ) (b : List ℕ) (f : ℕ) → Untouched z st (import z st s q n b).left f
unfolding import imported counted
import_untouched z st s q n b f = go (import_answer z st s q n b)
  where
    go : (m : ℕ) → Untouched z st (outcome m (number_in b) st (imported z st s q n (sheet_of b))).left f
    go zero = same_core z st _ f refl
    go (suc m) = same_core z st _ f refl

-- ── lists of acts ──
one_act : (z : Sizes) (w : World) (a : Act) → Good z w.state → (f : ℕ) → InTransfer z w.state f → T (other f a) → Untouched z w.state (act z w a).state f × Good z (act z w a).state
unfolding act
one_act z w (A.event e) g f t o = (transfer_words z w.state e g f t o, kept z w.state e g)
one_act z w (A.looking s p) g f t o = (same_core z w.state w.state f refl, g)
one_act z w (A.importing s q n b) g f t o = (import_untouched z w.state s q n b f, import_good z w.state s q n b g)
one_act z w (A.exporting s buffer) g f t o = (same_core z w.state w.state f refl, g)
one_act z w A.restarting g f t o = absurd o
one_act z w (A.cutting writes updates junk) g f t o = absurd o
one_act z w (A.cutting_in c k writes updates junk) g f t o = absurd o

-- Along every list of events and page looks without its page done, a frame in transfer keeps its words, and stays in that transfer.
pub transfer_words_list : (z : Sizes) (w : World) (acts : List Act) → Good z w.state → (f : ℕ) → InTransfer z w.state f → T (all_other f acts) → Untouched z w.state (run z w acts).state f
unfolding run
transfer_words_list z w [] g f t o = same_core z w.state w.state f refl
transfer_words_list z w (a ∷ acts) g f t o =
    let x = one_act z w a g f t (and_left (other f a) (all_other f acts) o) in
    untouched_trans x.0 (transfer_words_list z (act z w a) acts x.1 f (record { within = t.within; moving = λ e. t.moving (sym x.0.transfer ∙ e) }) (and_right (other f a) (all_other f acts) o))
