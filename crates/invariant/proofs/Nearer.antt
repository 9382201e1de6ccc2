-- How many turns the first request of the line has to wait at most, and what a good done report, a fault and a claim leave of that.
use mathlib.Core.Path.{◌≡◌, refl, ap, sym, ◌∙◌, subst}
use mathlib.Core.List.{List, [], ◌∷◌, ◌++◌}
use mathlib.Core.Logic.{◌⊎◌, inl, inr}
use Prim.Native.Nat.{ℕ, suc, pred, ◌<◌}
use native.Mathlib.Omega.{arith}
use native.Mathlib.Decide.{ℕ_discrete, dec_lt}
use lib.Dec.{eqb, eqb→eq, T_not}
use lib.ListN.{length, set}
use lib.Seq.{get_or-set_same, get_or-set_other}
use Rattle.tables.specs.Laws.{if_yes, eq→T}
use Rattle.tables.specs.Queue.{members, packed, times, size, first, push_back}
use Rattle.tables.specs.QueueLaws.{member_place, first_below}
use Rattle.tables.specs.Questions.{Questions, none, ask, first_no}
use Rattle.tables.specs.Rule.{Rule, Holds, told, untold, decided}
use Rattle.model.specs.declared.sizes.Sizes.{Sizes}
use Rattle.model.specs.declared.frame.Frame.{Frame}
use Rattle.model.specs.State.{State, frames, NONE, READING, WRITING, no_frame, frame_at, page_of}
use Rattle.model.specs.Setters.{set_transfer, counted}
use Rattle.model.specs.Questions.{next_fault, page_questions}
use Rattle.model.specs.Pages
use Rattle.model.specs.Writeback
use Rattle.model.specs.Writeback.{looking}
use Rattle.model.specs.Laws.Ruled.{Ruled}
use Rattle.model.specs.Laws.Fit.{Fit}
use Rattle.model.specs.Turns.{calm}
use Rattle.model.specs.Terms.{unwired}
use Rattle.invariant.proofs.Cases.{fault_by, claim_by, page_done_by}
use Rattle.invariant.proofs.Looks.{looking_takes}
use Rattle.invariant.proofs.FramesClaim.{taken_below}

-- ── lists and questions ──
-- a table of some length has a member once a number is put at its end
pushed : (q : List ℕ) (f : ℕ) → 0 < length q → 0 < size (push_back q f)
unfolding push_back size members packed
pushed [] f h = absurd (omega (arith, h))
pushed (x ∷ q) f h = go (members (x ∷ q))
  where
    go : (ms : List ℕ) → 0 < length (members (packed (suc (length q)) (ms ++ f ∷ [])))
    go [] = omega arith
    go (m ∷ ms) = omega arith

-- a number other than that of the first question comes from the later ones
skip : (n m : ℕ) (r : Rule) (q : Questions) → ¬ (n ≡ m) → first_no (ask n r q) ≡ m → first_no q ≡ m
unfolding first_no
skip n m r q d e = elim (decided r) [ yes h ↦ rw (told r h) at e | no h ↦ absurd (d (rw (untold r h) at e)) ]

-- the last question's number: it fails
fails : (n : ℕ) (r : Rule) → ¬ (0 ≡ n) → first_no (ask n r none) ≡ n → ¬ Holds r
unfolding first_no
fails n r d e h = d (rw (told r h) at e)

module _ (z : Sizes) where
  abbrev Unwired : State → Type 0
  Unwired st = Holds (unwired z st)

  -- the page is in a frame that is not being written
  abbrev pub Here : State → ℕ → Type 0
  Here st i = (f : ℕ) × (f < z.frames) × ((((frames st).frame f).page ≡ suc i) × ¬ (((frames st).frame f).transfer ≡ WRITING))

  -- a frame is free, or being written
  abbrev Room : State → Type 0
  Room st = (0 < size st.memory.core.free_queue) ⊎ ((f : ℕ) × (f < z.frames) × (((frames st).frame f).transfer ≡ WRITING))

  -- the first request has at most so many turns to wait: one where its page is in service or on its way, two where a frame is there for it
  pub data Near (st : State) (i : ℕ) : ℕ → Type 0 where
    here : Here st i → Near st i 1
    room : Room st → Near st i 2
    far : Near st i 3

  pub near_pos : {st : State} {i n : ℕ} → Near st i n → 0 < n
  near_pos (here p) = omega arith
  near_pos (room p) = omega arith
  near_pos far = omega arith

  -- ── one frame put ──
  record Put (st st' : State) (f : ℕ) (g : Frame) : Type 0 where
    pub within : f < z.frames
    pub there : (frames st').frame f ≡ g
    pub others : (x : ℕ) → ¬ (x ≡ f) → (frames st').frame x ≡ (frames st).frame x

  put : (st st' : State) (f : ℕ) (g : Frame) → Fit z st → f < z.frames → st'.memory.core.frames ≡ set st.memory.core.frames f g → Put st st' f g
  put st st' f g fs h e = record {
    within = h;
    there = ap (λ (l : List Frame). frame_at l f) e ∙ get_or-set_same st.memory.core.frames f g no_frame (omega (arith, h, fs.memory.frames));
    others = λ x d. ap (λ (l : List Frame). frame_at l x) e ∙ get_or-set_other st.memory.core.frames f x g no_frame d;
  }

  unwired_put : {st st' : State} {f : ℕ} {g : Frame} → Put st st' f g → g.wired ≡ 0 → Unwired st → Unwired st'
  unwired_put {st} {st'} {f} p w u = elim (ℕ_discrete u.0 f) [
    | yes e ↦ (f, p.within, ap (λ (x : Frame). x.wired) p.there ∙ w)
    | no d ↦ (u.0, u.1, ap (λ (x : Frame). x.wired) (p.others u.0 d) ∙ u.2)
  ]

  -- ── what a good done report leaves ──
  pub record Onward (st st' : State) : Type 0 where
    pub here' : (i : ℕ) → Here st i → Here st' i
    pub room' : Room st → Room st'
    pub unwired' : Unwired st → Unwired st'
    pub line' : st'.memory.line ≡ st.memory.line

  pub near_on : {st st' : State} {i n : ℕ} → Onward st st' → Near st i n → Near st' i n
  near_on o (here h) = here (o.here' _ h)
  near_on o (room h) = room (o.room' h)
  near_on o far = far

  -- one frame put, in which a page that was not being written stays, and in place of one being written there is room
  onward_put : {st st' : State} {f : ℕ} {g : Frame} → Put st st' f g
      → ((i : ℕ) → ((frames st).frame f).page ≡ suc i → ¬ (((frames st).frame f).transfer ≡ WRITING) → (g.page ≡ suc i) × ¬ (g.transfer ≡ WRITING))
      → (((frames st).frame f).transfer ≡ WRITING → Room st') → (0 < size st.memory.core.free_queue → Room st')
      → g.wired ≡ 0 → st'.memory.line ≡ st.memory.line → Onward st st'
  onward_put {st} {st'} {f} {g} p keeps writes queued w l = record {
    here' = λ i h. elim (ℕ_discrete h.0 f) [
      | yes e ↦ let k = keeps i (subst (λ (x : ℕ). ((frames st).frame x).page ≡ suc i) e h.2.0) (subst (λ (x : ℕ). ¬ (((frames st).frame x).transfer ≡ WRITING)) e h.2.1) in
          (f, p.within, (ap (λ (x : Frame). x.page) p.there ∙ k.0, λ t. k.1 (sym (ap (λ (x : Frame). x.transfer) p.there) ∙ t)))
      | no d ↦ (h.0, h.1, (ap (λ (x : Frame). x.page) (p.others h.0 d) ∙ h.2.0, λ t. h.2.1 (sym (ap (λ (x : Frame). x.transfer) (p.others h.0 d)) ∙ t)))
    ];
    room' = λ h. elim h [
      | inl s ↦ queued s
      | inr y ↦ elim (ℕ_discrete y.0 f) [
        | yes e ↦ writes (subst (λ (x : ℕ). ((frames st).frame x).transfer ≡ WRITING) e y.2)
        | no d ↦ inr (y.0, y.1, ap (λ (x : Frame). x.transfer) (p.others y.0 d) ∙ y.2)
      ]
    ];
    unwired' = unwired_put p w;
    line' = l;
  }

  module _ (st : State) (fs : Fit z st) (r : Ruled z st) where
    -- ── a page done, good ──
    module _ (f : ℕ) (hf : f < z.frames) (busy : ¬ (((frames st).frame f).transfer ≡ NONE)) where
      pub read_done : ((frames st).frame f).transfer ≡ READING → Onward st (counted z (Writeback.read_good z st f))
      unfolding counted Writeback.read_good
      read_done t = onward_put (put st _ f (Pages.fresh (pred ((frames st).frame f).page)) fs hf refl) (λ i e n. (ap (λ (x : ℕ). suc (pred x)) e, λ w. omega (arith, w))) (λ w. absurd (omega (arith, w, t))) (λ s. inl s) refl refl

      write_done : ¬ (((frames st).frame f).transfer ≡ READING) → Onward st (counted z (Writeback.write_good z st f))
      unfolding counted Writeback.write_good Writeback.free_frame
      write_done t =
          let freed : 0 < size (push_back st.memory.core.free_queue f) = pushed st.memory.core.free_queue f (omega (arith, hf, fs.memory.free_queue)) in
          onward_put (put st _ f no_frame fs hf refl) (λ i e n. absurd (n (omega (arith, (r.frames.fit f hf).1.1.1.1.1, busy, t)))) (λ w. inl freed) (λ s. inl freed) refl refl

      pub page_done_holds : Onward st (Writeback.page_done z st f 1)
      page_done_holds = page_done_by z st (Onward st) f 1 (λ t u. read_done (eqb→eq _ _ t)) (λ t u. absurd u) (λ t u. write_done (λ e. T_not (eqb ((frames st).frame f).transfer READING) t (eq→T e))) (λ t u. absurd u)

    pub map_done_holds : (s : ℕ) → Onward st (Writeback.map_done z st s 1)
    unfolding Writeback.map_done counted
    map_done_holds s = record { here' = λ i h. h; room' = λ h. h; unwired' = λ h. h; line' = refl }

    -- ── a fault: the page is then in a frame that is not being written ──
    module _ (s p : ℕ) (some : 0 < size st.memory.core.free_queue) where
      abbrev f : ℕ
      f = first st.memory.core.free_queue

      abbrev Brought : State → Type 0
      Brought st' = (g : Frame) × Put st st' f g × ((g.page ≡ suc (page_of z s p)) × ((¬ (g.transfer ≡ WRITING)) × (g.wired ≡ 0)))

      below : f < z.frames
      below = first_below st.memory.core.free_queue fs.memory.free_queue r.queues.free_queue some

      brought : Brought (Pages.fault z st s p)
      unfolding Pages.fault_frame Pages.begin_read Pages.serve_zeros Pages.take_record counted
      brought = let i = page_of z s p in fault_by z st Brought s p (Pages.awaiting i, put st _ f (Pages.awaiting i) fs below refl, (refl, (λ e. omega (arith, e), refl)))
          (λ x. (Pages.fresh i, put st _ f (Pages.fresh i) fs below refl, (refl, (λ e. omega (arith, e), refl)))) (Pages.fresh i, put st _ f (Pages.fresh i) fs below refl, (refl, (λ e. omega (arith, e), refl)))

      pub fault_here : Here (Pages.fault z st s p) (page_of z s p)
      fault_here = let b = brought in
          (f, below, (ap (λ (x : Frame). x.page) b.1.there ∙ b.2.0, λ w. b.2.1.0 (sym (ap (λ (x : Frame). x.transfer) b.1.there) ∙ w)))

      pub fault_unwired : Unwired st → Unwired (Pages.fault z st s p)
      fault_unwired u = unwired_put brought.1 brought.2.1.1 u

    -- ── a claim: a frame is then free, or being written ──
    module _ (some : 0 < size st.memory.core.removal_list) where
      abbrev k : ℕ
      k = (looking z st).taken

      abbrev looked : List Frame
      looked = (looking z st).frames

      k_below : k < z.frames
      k_below = taken_below z st fs r some

      k_looked : k < length looked
      k_looked = omega (arith, k_below, (looking_takes z st some).frames_long, fs.memory.frames)

      pub claim_room : Room (Writeback.claim z st)
      unfolding Writeback.free_frame counted
      claim_room = claim_by z st Room (inr (k, k_below, ap (λ (x : Frame). x.transfer) (get_or-set_same looked k (set_transfer WRITING (frame_at looked k)) no_frame k_looked))) (inl freed) (inl freed)
        where
          freed : 0 < size (push_back st.memory.core.free_queue k)
          freed = pushed st.memory.core.free_queue k (omega (arith, k_below, fs.memory.free_queue))

      -- the frame taken is put anew, the others keep their wired switch
      unwired_looked : (g : Frame) → (((frames st).frame k).wired ≡ 0 → g.wired ≡ 0) → Unwired st → (f : ℕ) × (f < z.frames) × ((frame_at (set looked k g) f).wired ≡ 0)
      unwired_looked g w u = elim (ℕ_discrete u.0 k) [
        | yes d ↦ (k, k_below, ap (λ (x : Frame). x.wired) (get_or-set_same looked k g no_frame k_looked) ∙ w (subst (λ (x : ℕ). ((frames st).frame x).wired ≡ 0) d u.2))
        | no d ↦ (u.0, u.1, ap (λ (x : Frame). x.wired) (get_or-set_other looked k u.0 g no_frame d) ∙ ((looking_takes z st some).cooler u.0).wired ∙ u.2)
      ]

      pub claim_unwired : Unwired st → Unwired (Writeback.claim z st)
      unfolding Writeback.free_frame counted
      claim_unwired u = claim_by z st Unwired (unwired_looked (set_transfer WRITING (frame_at looked k)) (λ w. ((looking_takes z st some).cooler k).wired ∙ w) u)
          (unwired_looked no_frame (λ w. refl) u) (unwired_looked no_frame (λ w. refl) u)

    -- ── no frame is free, none in transfer: an unwired frame stands in the removal list ──
    pub none_free : first_no (page_questions z st (next_fault z st)) ≡ 20 → ¬ (0 < size st.memory.core.free_queue)
    none_free e =
        let e4 = skip 3 20 _ _ (λ d. omega (arith, d)) e in let e8 = skip 4 20 _ _ (λ d. omega (arith, d)) e4 in let e14 = skip 8 20 _ _ (λ d. omega (arith, d)) e8 in
        let e15 = skip 14 20 _ _ (λ d. omega (arith, d)) e14 in let e19 = skip 15 20 _ _ (λ d. omega (arith, d)) e15 in
        fails 20 _ (λ d. omega (arith, d)) (skip 19 20 _ _ (λ d. omega (arith, d)) e19)

    pub listed : Unwired st → Holds (calm z st) → ¬ (0 < size st.memory.core.free_queue) → 0 < size st.memory.core.removal_list
    listed (f, h, w) c n = elim (dec_lt 0 (times (members st.memory.core.removal_list) f)) [
      | yes t ↦ omega (arith, (member_place st.memory.core.removal_list f t).1)
      | no t ↦ elim (dec_lt 0 (times (members st.memory.core.free_queue) f)) [
        | yes q ↦ absurd (n (omega (arith, (member_place st.memory.core.free_queue f q).1)))
        | no q ↦ absurd (omega (arith, r.frames.in_one_place_holds f h, w, t, q, if_yes {A = ℕ} ((frames st).frame f).transfer NONE 0 1 (c f h)))
      ]
    ]
