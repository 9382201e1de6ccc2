-- Truncate's pass over the pages: the frames freed so far, in page order, and what is left of the removal list.
use mathlib.Core.Path.{◌≡◌, refl, ap, sym, ◌∙◌}
use mathlib.Core.Bool.{Bool, ◌&&◌, ◌||◌}
use mathlib.Core.List.{List, [], ◌∷◌, ◌++◌, map, map-append, append-nil}
use mathlib.Core.Logic.{inl, inr}
use Prim.Native.Nat.{ℕ, zero, suc, ◌+◌, ◌-◌, ◌*◌, ◌<◌, ◌≤◌}
use native.Mathlib.Omega.{arith}
use native.Mathlib.Numerals.{add-one}
use native.Mathlib.Decide.{dec_lt}
use lib.Dec.{T, leb, eqb, eqb→eq, leb→le}
use lib.ListN.{length}
use Rattle.tables.specs.Base.{at, if, those}
use Rattle.tables.specs.Laws.{found, and_left, and_right, eq→T}
use Rattle.tables.specs.Queue.{queue, queue_of, members, times, without, size, packed, push_back, remove}
use Rattle.tables.specs.QueueLaws.{size_members, size_le, members_within, length_packed, members_packed, packed_members, fits_once, queue_repacked, queue_without}
use Rattle.tables.specs.QueuePacked.{size_packed, push_back_more, append_none, without_more, remove_packed}
use Rattle.tables.specs.Rule.{Rule, Holds, same, below, some, ◌and◌, ◌or◌, decided, test, told, untold, sound, alike}
use Rattle.tables.specs.ThoseLaws.{those_snoc, those_none, those_elim, those_once}
use Rattle.tables.specs.TimesLaws.{Within, Once, times_here, times_cons, times_append, times_map, times_map_none, times_without_le, length_lt, length_without, within_append, without_same}
use Rattle.model.specs.declared.frame.Frame.{Frame}
use Rattle.model.specs.State.{frame_at}
use Rattle.writeback.specs.ByPage.{ByPage}
use Rattle.leaves.specs.FrameLaws.{frame_in}
use Rattle.writeback.specs.Pages.{framed}
use Rattle.writeback.specs.Truncate.{cut_frames, cut_frame, NoneCut, Cutting}
use Rattle.writeback.proofs.Cut.{from_up_holds}

-- lists without numbers that pass alike
pub without_alike : (p q : ℕ → Bool) (xs : List ℕ) → ((x : ℕ) → 0 < times xs x → p x ≡ q x) → without p xs ≡ without q xs
unfolding without times
without_alike p q [] f = refl
without_alike p q (x ∷ xs) f = rw (f x (here x xs), without_alike p q xs (λ y h. f y (there x xs y h)))
  where
    here : (x : ℕ) (xs : List ℕ) → 0 < times (x ∷ xs) x
    here x xs = omega (arith, times_here xs x)

    there : (x : ℕ) (xs : List ℕ) (y : ℕ) → 0 < times xs y → 0 < times (x ∷ xs) y
    there x xs y h = omega (arith, times_cons x xs y)

module _ (n pages s k : ℕ) (fs : List Frame) (fq rl : List ℕ) (ready : Cutting n pages s k fs fq rl) where
  abbrev page : ℕ → ℕ
  page f = (frame_at fs f).page

  -- the page p of the slot is in a frame
  abbrev in_some : ℕ → Rule
  in_some p = framed n fs (s * pages + p)

  abbrev its : ℕ → ℕ
  its p = frame_in n fs (s * pages + p)

  abbrev passes : ℕ → Bool
  passes p = leb k p && test (in_some p)

  its_frame : (p : ℕ) → Holds (in_some p) → (its p < n) × (page (its p) ≡ suc (s * pages + p))
  its_frame p h = let x = found n (λ f. eqb (page f) (suc (s * pages + p))) 0 h.0 (omega arith) (omega (arith, h.1)) (eq→T h.2) in (omega (arith, x.inside), eqb→eq _ _ x.passes)

  its_only : (p x : ℕ) → x < n → page x ≡ suc (s * pages + p) → its p ≡ x
  its_only p x h e = let f = its_frame p (x, h, e) in ready.placed.seated (its p) x f.0 h (omega (arith, f.1)) (e ∙ sym f.1)

  -- the frame is one of those freed below m
  abbrev freed : ℕ → ℕ → Rule
  freed m x = below x n and cut_frame pages s k m (frame_at fs x)

  abbrev passed : ℕ → List ℕ
  passed m = those m passes 0

  passed_page : (m p : ℕ) → 0 < times (passed m) p → (p < m) × (k ≤ p) × Holds (in_some p)
  passed_page m p h = let x = those_elim m passes 0 p h in (omega (arith, x.1), leb→le k p (and_left (leb k p) (test (in_some p)) x.2), sound (in_some p) (and_right (leb k p) (test (in_some p)) x.2))

  times_freed : (m x : ℕ) → Holds (freed m x) → times (cut_frames n pages s k fs m) x ≤ 1
  times_freed m x h =
      let p = page x - 1 - s * pages in
      let e : page x ≡ suc (s * pages + p) = omega (arith, h.1.0) in
      let o = its_only p x h.0 e in
      let t : times (cut_frames n pages s k fs m) (its p) ≡ times (passed m) p = times_map its (passed m) p (λ y a b. let f = passed_page m y a in omega (arith, sym (its_frame y f.2).1 ∙ ap page (b ∙ o) ∙ e)) in
      omega (arith, sym (ap (times (cut_frames n pages s k fs m)) o) ∙ t, those_once m passes 0 p)

  times_unfreed : (m x : ℕ) → ¬ Holds (freed m x) → times (cut_frames n pages s k fs m) x ≡ 0
  times_unfreed m x d = times_map_none its (passed m) x (λ p a e. let f = passed_page m p a in let g = its_frame p f.2 in
      let q : page x ≡ suc (s * pages + p) = sym (ap page e) ∙ g.1 in d (omega (arith, sym e, g.0), (omega (arith, q, f.1), omega (arith, q, f.0))))

  cut_within : (m : ℕ) → Within n (cut_frames n pages s k fs m)
  cut_within m x h = elim (decided (freed m x)) [ yes y ↦ y.0 | no y ↦ absurd (omega (arith, times_unfreed m x y)) ]

  both_within : (m : ℕ) → Within n (members fq ++ cut_frames n pages s k fs m)
  both_within m = within_append n (members fq) (cut_frames n pages s k fs m) (members_within fq ready.queues.free_long ready.queues.free_packed) (cut_within m)

  both_once : (m : ℕ) → Once n (members fq ++ cut_frames n pages s k fs m)
  both_once m x h = elim (decided (freed m x)) [
    | yes y ↦ omega (arith, times_append (members fq) (cut_frames n pages s k fs m) x, times_freed m x y, ready.placed.unqueued x h (omega (arith, y.1.0)))
    | no y ↦ omega (arith, times_append (members fq) (cut_frames n pages s k fs m) x, times_unfreed m x y, ready.placed.free_once x h)
  ]

  module _ (m : ℕ) (up : k ≤ m) where
    -- page m is in a frame
    module _ (h : Holds (in_some m)) where
      abbrev f : ℕ
      f = its m

      absent : times (members fq ++ cut_frames n pages s k fs m) f ≡ 0
      absent = let g = its_frame m h in omega (arith, times_append (members fq) (cut_frames n pages s k fs m) f, ready.placed.unqueued f g.0 (omega (arith, g.1)), times_unfreed m f (λ y. omega (arith, y.1.1, g.1)))

      pub room : length (members fq ++ cut_frames n pages s k fs m) < n
      room = length_lt n (members fq ++ cut_frames n pages s k fs m) (both_within m) (both_once m) f (its_frame m h).0 absent

      pub cut_more : cut_frames n pages s k fs (m + 1) ≡ cut_frames n pages s k fs m ++ f ∷ []
      cut_more = rw (add-one m, those_snoc m passes 0) (map-append its (passed m) (if (passes (0 + m)) ((0 + m) ∷ []) []) ∙ ap (λ (l : List ℕ). map its (passed m) ++ map its l) (one (0 + m) (omega arith)))
        where
          one : (p : ℕ) → p ≡ m → if (passes p) (p ∷ []) [] ≡ m ∷ []
          one p e = rw (e, from_up_holds k m up, told (in_some m) h)

    -- .. or in none
    pub cut_same : ¬ Holds (in_some m) → cut_frames n pages s k fs (m + 1) ≡ cut_frames n pages s k fs m
    cut_same d = rw (add-one m, those_snoc m passes 0) (map-append its (passed m) (if (passes (0 + m)) ((0 + m) ∷ []) []) ∙ ap (λ (l : List ℕ). map its (passed m) ++ map its l) (none (0 + m) (omega arith)) ∙ append-nil _)
      where
        none : (p : ℕ) → p ≡ m → if (passes p) (p ∷ []) [] ≡ []
        none p e = rw (e, from_up_holds k m up, untold (in_some m) d)

  -- ── the removal list ──
  abbrev gone : ℕ → ℕ → Bool
  gone m x = test (cut_frame pages s k m (frame_at fs x))

  in_list : (x : ℕ) → 0 < times (members rl) x → x < n
  in_list = members_within rl ready.queues.list_long ready.queues.list_packed

  gone_more : (m : ℕ) → k ≤ m → Holds (in_some m) → (x : ℕ) → 0 < times (members rl) x → (gone m x || eqb (its m) x) ≡ gone (m + 1) x
  unfolding test
  gone_more m up h x t = alike (cut_frame pages s k m (frame_at fs x) or same (its m) x) (cut_frame pages s k (m + 1) (frame_at fs x))
      (λ y. elim y [ inl a ↦ (a.0, omega (arith, a.1)) | inr e ↦ let q : page x ≡ suc (s * pages + m) = sym (ap page e) ∙ (its_frame m h).1 in (omega arith, omega arith) ])
      (λ y. elim (dec_lt (page x) (suc (s * pages + m))) [ yes a ↦ inl (y.0, a) | no a ↦ inr (its_only m x (in_list x t) (omega (arith, y.1))) ])

  gone_same : (m : ℕ) → ¬ Holds (in_some m) → (x : ℕ) → 0 < times (members rl) x → gone m x ≡ gone (m + 1) x
  gone_same m d x t = alike (cut_frame pages s k m (frame_at fs x)) (cut_frame pages s k (m + 1) (frame_at fs x))
      (λ a. (a.0, omega (arith, a.1)))
      (λ y. (y.0, elim (dec_lt (page x) (suc (s * pages + m))) [ yes a ↦ a | no a ↦ absurd (d (x, in_list x t, omega (arith, y.1))) ]))

  gone_none : (x : ℕ) → 0 < times (members rl) x → ¬ (T (gone k x))
  gone_none x t h = let y = sound (cut_frame pages s k k (frame_at fs x)) h in omega (arith, y.0, y.1)

  -- ── the turns below m ──
  pub record CutTurn (m : ℕ) (q r : List ℕ) : Type 0 where
    pub so_queue : q ≡ packed (length fq) (members fq ++ cut_frames n pages s k fs m)
    pub so_list : r ≡ packed (length rl) (without (gone m) (members rl))

  pub turn_starts : CutTurn k fq rl
  turn_starts = record {
    so_queue = sym (append_none fq (rw ready.queues.free_long ready.queues.free_packed)) ∙ ap (λ (l : List ℕ). packed (length fq) (members fq ++ map its l)) (sym none);
    so_list = sym (packed_members {m = length rl} rl refl (rw ready.queues.list_long ready.queues.list_packed)) ∙ ap (packed (length rl)) (sym (without_same (gone k) (members rl) gone_none));
  }
    where
      none : passed k ≡ []
      none = those_none k passes 0 (λ x a b h. omega (arith, leb→le k x (and_left (leb k x) (test (in_some x)) h)))

  module _ {m : ℕ} (up : k ≤ m) {q r : List ℕ} (t : CutTurn m q r) where
    queue_fits : length (members fq ++ cut_frames n pages s k fs m) ≤ length fq
    queue_fits = fits_once fq ready.queues.free_long (members fq ++ cut_frames n pages s k fs m) (both_within m) (both_once m)

    list_fits : length (without (gone m) (members rl)) ≤ length rl
    list_fits = omega (arith, length_without (gone m) (members rl), size_members rl, size_le rl)

    module _ {f' : ℕ} (e : f' ≡ its m) (h : Holds (in_some m)) where
      pub push_asks : (f' < 65535) × ((m : ℕ) × Holds (queue_of (length q) m q)) × (size q < length q)
      push_asks = (
        omega (arith, e, (its_frame m h).0, ready.sized.most),
        (n, rw (t.so_queue, length_packed (length fq) (members fq ++ cut_frames n pages s k fs m), ready.queues.free_long) (rw ready.queues.free_long at (queue_repacked fq ready.queues.free_long (members fq ++ cut_frames n pages s k fs m) (both_within m) queue_fits))),
        rw (t.so_queue, length_packed (length fq) (members fq ++ cut_frames n pages s k fs m), size_packed (length fq) (members fq ++ cut_frames n pages s k fs m) queue_fits, ready.queues.free_long) (room m up h),
      )

      pub remove_asks : (f' < 65535) × Holds (queue (length r) r) × (times (members r) f' ≤ 1)
      remove_asks = (
        omega (arith, e, (its_frame m h).0, ready.sized.most),
        rw (t.so_list, length_packed (length rl) (without (gone m) (members rl)), ready.queues.list_long) (rw ready.queues.list_long at (queue_without rl ready.queues.list_long ready.queues.list_packed (gone m))),
        rw (t.so_list, members_packed (length rl) (without (gone m) (members rl)) list_fits) (omega (arith, times_without_le (gone m) (members rl) f', ready.placed.list_once f' (omega (arith, e, (its_frame m h).0)))),
      )

      pub turn_frees : {q' r' : List ℕ} → q' ≡ push_back q f' → r' ≡ remove r f' → CutTurn (m + 1) q' r'
      turn_frees a b = record {
        so_queue = a ∙ rw (t.so_queue, e) (push_back_more fq (cut_frames n pages s k fs m) (its m) queue_fits ∙ ap (λ (l : List ℕ). packed (length fq) (members fq ++ l)) (sym (cut_more m up h)));
        so_list = b ∙ rw (t.so_list, e) (remove_packed (length rl) (without (gone m) (members rl)) list_fits (its m) ∙ ap (packed (length rl)) (without_more (gone m) (eqb (its m)) (members rl) ∙ without_alike _ (gone (m + 1)) (members rl) (gone_more m up h)));
      }

    pub turn_leaves : ¬ Holds (in_some m) → {q' r' : List ℕ} → q' ≡ q → r' ≡ r → CutTurn (m + 1) q' r'
    turn_leaves d a b = record {
      so_queue = a ∙ t.so_queue ∙ ap (λ (l : List ℕ). packed (length fq) (members fq ++ l)) (sym (cut_same m up d));
      so_list = b ∙ t.so_list ∙ ap (packed (length rl)) (without_alike (gone m) (gone (m + 1)) (members rl) (gone_same m d));
    }

  -- no frame has one of the pages: nothing is freed
  pub none_freed : NoneCut n pages s k fs → (j m : ℕ) → m ≡ k + j → m ≤ pages → CutTurn m fq rl
  none_freed d zero m e h = let q : m ≡ k = omega (arith, e) in rw q turn_starts
  none_freed d (suc j) m e h = let q : m ≡ k + j + 1 = omega (arith, e) in rw q (turn_leaves (omega arith) (none_freed d j (k + j) refl (omega (arith, e))) (λ x. d x.0 x.1 (omega (arith, x.2), omega (arith, x.2, e))) refl refl)

-- a page's frame by the table of the slot's frames
module _ (n pages s k : ℕ) (fs : List Frame) (fq rl : List ℕ) (ready : Cutting n pages s k fs fq rl) {table : List ℕ} (t : ByPage n pages s fs table) (p : ℕ) (b : p < pages) {e : ℕ} (q : e ≡ at table p) where
  module _ (d : ¬ (e ≡ 0)) where
    pub in_entry : Holds (some n λ f. same (frame_at fs f).page (suc (s * pages + p)))
    in_entry = let x = t.in_one p (e - 1) b (omega (arith, q, d)) in (e - 1, x.0, x.1)

    pub its_entry : e - 1 ≡ frame_in n fs (s * pages + p)
    unfolding in_entry
    its_entry = sym (its_only n pages s k fs fq rl ready p (e - 1) in_entry.1 in_entry.2)

  pub no_entry_holds : e ≡ 0 → ¬ Holds (some n λ f. same (frame_at fs f).page (suc (s * pages + p)))
  no_entry_holds z = t.in_none p b (sym q ∙ z)
