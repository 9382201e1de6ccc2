-- A claim's looks, one turn at a time: the rest of the looks from here is what the looks from the start give.
use mathlib.Core.Path.{◌≡◌, refl, ap, sym, ◌∙◌}
use mathlib.Core.Bool.{Bool, true, false}
use mathlib.Core.List.{List, [], ◌∷◌, ◌++◌}
use mathlib.Core.Logic.{inl, inr}
use Prim.Native.Nat.{ℕ, zero, suc, ◌+◌, ◌-◌, ◌<◌, ◌≤◌}
use native.Mathlib.Omega.{arith}
use lib.ListN.{length, take, set, length-set, length-append}
use Rattle.tables.specs.Base.{if}
use Rattle.tables.specs.Queue.{members, packed, times, size, first, pop, push_back, queue, head, tail}
use Rattle.tables.specs.TimesLaws.{Within, times_here, times_rotate}
use Rattle.tables.specs.QueueLaws.{size_members, size_le, size_pop, size_push_back, length_pop, length_push_back, members_pop, members_push_back, queue_pop, queue_push_back, first_below}
use Rattle.tables.specs.Rule.{Holds}
use Rattle.model.specs.declared.frame.Frame.{Frame}
use Rattle.model.specs.State.{frame_at}
use Rattle.model.specs.Writeback.{Looked, look, warm, cooled}
use Rattle.model.specs.Laws.LookLaws.{cool, cool_at, warms, warms_le, fewer}
use Rattle.leaves.specs.FrameLaws.{frame_take, take_frame}
use Rattle.writeback.specs.Claim.{LooksEnded}

-- ── one look ──
module _ (fuel n : ℕ) (fs : List Frame) (f : ℕ) (xs : List ℕ) where
  look_warm : warm (frame_at fs f) ≡ true → look (suc fuel) n fs (f ∷ xs) ≡ look fuel (suc n) (cool fs f) (xs ++ f ∷ [])
  unfolding look
  look_warm e = rw e

  look_cold : warm (frame_at fs f) ≡ false → look (suc fuel) n fs (f ∷ xs) ≡ record { looks = suc n; taken = f; frames = fs; list = xs }
  unfolding look
  look_cold e = rw e

  some_warm : warm (frame_at fs f) ≡ true → warms fs (f ∷ xs) ≡ suc (warms fs xs)
  unfolding warms
  some_warm e = rw e (omega arith)

-- the looks see the first m frames only, where the list names no other
abbrev pub cut : ℕ → Looked → Looked
cut m l = record { looks = l.looks; taken = l.taken; frames = take m l.frames; list = l.list }

pub look_take : (m k n : ℕ) (fs : List Frame) (xs : List ℕ) → Within m xs → look k n (take m fs) xs ≡ cut m (look k n fs xs)
unfolding look
look_take m zero n fs xs w = refl
look_take m (suc k) n fs [] w = refl
look_take m (suc k) n fs (f ∷ xs) w = go (warm (frame_at fs f)) refl (look_take m k (suc n) (cool fs f) (xs ++ f ∷ []) (λ x h. w x (rw (times_rotate f xs x) at h)))
  where
    same : frame_at (take m fs) f ≡ frame_at fs f
    same = frame_take m fs f (w f (omega (arith, times_here xs f)))

    cooler : cool (take m fs) f ≡ take m (cool fs f)
    cooler = rw same (sym (take_frame m fs f (cooled (frame_at fs f))))

    go : (b : Bool) → warm (frame_at fs f) ≡ b → look k (suc n) (take m (cool fs f)) (xs ++ f ∷ []) ≡ cut m (look k (suc n) (cool fs f) (xs ++ f ∷ [])) → look (suc k) n (take m fs) (f ∷ xs) ≡ cut m (look (suc k) n fs (f ∷ xs))
    go true e r = look_warm k n (take m fs) f xs (ap warm same ∙ e) ∙ ap (λ (l : List Frame). look k (suc n) l (xs ++ f ∷ [])) cooler ∙ r ∙ ap (cut m) (sym (look_warm k n fs f xs e))
    go false e r = look_cold k n (take m fs) f xs (ap warm same ∙ e) ∙ ap (cut m) (sym (look_cold k n fs f xs e))

-- what is taken stands in the list
pub look_taken : (k n : ℕ) (fs : List Frame) (xs : List ℕ) → warms fs xs < k → 0 < length xs → 0 < times xs (look k n fs xs).taken
look_taken zero n fs xs h g = absurd (omega arith)
look_taken (suc k) n fs [] h g = absurd (omega arith)
look_taken (suc k) n fs (f ∷ xs) h g = go (warm (frame_at fs f)) refl (look_taken k (suc n) (cool fs f) (xs ++ f ∷ []))
  where
    go : (b : Bool) → warm (frame_at fs f) ≡ b → (warms (cool fs f) (xs ++ f ∷ []) < k → 0 < length (xs ++ f ∷ []) → 0 < times (xs ++ f ∷ []) (look k (suc n) (cool fs f) (xs ++ f ∷ [])).taken)
        → 0 < times (f ∷ xs) (look (suc k) n fs (f ∷ xs)).taken
    go true e r = rw (look_warm k n fs f xs e, ← times_rotate f xs) (r (omega (arith, fewer fs f xs, some_warm k n fs f xs e)) (omega (arith, length-append xs (f ∷ []))))
    go false e r = rw (look_cold k n fs f xs e) (omega (arith, times_here xs f))

-- the looks leave every frame its page and its modified switch
abbrev pub Like : Frame → Frame → Type 0
Like g h = (g.page ≡ h.page) × (g.modified ≡ h.modified)

pub look_like : (k n : ℕ) (fs : List Frame) (xs : List ℕ) (x : ℕ) → Like (frame_at (look k n fs xs).frames x) (frame_at fs x)
unfolding look
look_like zero n fs xs x = (refl, refl)
look_like (suc k) n fs [] x = (refl, refl)
look_like (suc k) n fs (f ∷ xs) x = go (warm (frame_at fs f)) (look_like k (suc n) (cool fs f) (xs ++ f ∷ []) x)
  where
    cooler : Like (frame_at (cool fs f) x) (frame_at fs x)
    cooler = elim (cool_at fs f x) [ inl e ↦ rw e (refl, refl) | inr e ↦ rw e.1 (refl, refl) ]

    go : (b : Bool) → Like (frame_at (look k (suc n) (cool fs f) (xs ++ f ∷ [])).frames x) (frame_at (cool fs f) x)
        → Like (frame_at (if b (look k (suc n) (cool fs f) (xs ++ f ∷ [])) (record { looks = suc n; taken = f; frames = fs; list = xs })).frames x) (frame_at fs x)
    go true r = (r.0 ∙ cooler.0, r.1 ∙ cooler.1)
    go false r = (refl, refl)

pub look_long : (k n : ℕ) (fs : List Frame) (xs : List ℕ) → length (look k n fs xs).frames ≡ length fs
unfolding look
look_long zero n fs xs = refl
look_long (suc k) n fs [] = refl
look_long (suc k) n fs (f ∷ xs) = go (warm (frame_at fs f)) (look_long k (suc n) (cool fs f) (xs ++ f ∷ []))
  where
    go : (b : Bool) → length (look k (suc n) (cool fs f) (xs ++ f ∷ [])).frames ≡ length (cool fs f)
        → length (if b (look k (suc n) (cool fs f) (xs ++ f ∷ [])) (record { looks = suc n; taken = f; frames = fs; list = xs })).frames ≡ length fs
    go true r = r ∙ length-set fs f (cooled (frame_at fs f))
    go false r = refl

-- a list that is not empty is its first entry and the rest
members_first : (q : List ℕ) → 0 < size q → members q ≡ first q ∷ tail (members q)
unfolding size first head tail
members_first q h = go (members q) h
  where
    go : (xs : List ℕ) → 0 < length xs → xs ≡ head xs ∷ tail xs
    go [] h = absurd (omega arith)
    go (x ∷ xs) h = refl

pub taken_in : (fs : List Frame) (q : List ℕ) → 0 < size q → 0 < times (members q) (look (suc (size q)) 0 fs (members q)).taken
taken_in fs q h = look_taken (suc (size q)) 0 fs (members q) (omega (arith, warms_le fs (members q), size_members q)) (omega (arith, size_members q))

-- ── the code's turns ──
pub record Round (fs₀ : List Frame) (list₀ : List ℕ) (kept : List Frame) (looks f : ℕ) (g : Frame) (list : List ℕ) : Type 0 where
  pub fuel : ℕ
  pub so_far : ℕ
  pub counted : looks ≡ suc so_far
  pub sum : so_far + fuel ≡ size list₀
  pub enough : warms kept (members list) ≤ fuel
  pub rest : look (suc fuel) so_far kept (members list) ≡ look (suc (size list₀)) 0 fs₀ (members list₀)
  pub ruled : Holds (queue (length list₀) list)
  pub long : length list ≡ length list₀
  pub entries : 0 < size list
  pub here : f ≡ first list
  pub the_frame : g ≡ frame_at kept f

pub round_starts : (fs : List Frame) (list : List ℕ) {f : ℕ} {g : Frame} → Holds (queue (length list) list) → 0 < size list → f ≡ first list → g ≡ frame_at fs f → Round fs list fs 1 f g list
round_starts fs list q h e d = record {
  fuel = size list;
  so_far = 0;
  counted = refl;
  sum = omega arith;
  enough = omega (arith, warms_le fs (members list), size_members list);
  rest = refl;
  ruled = q;
  long = refl;
  entries = h;
  here = e;
  the_frame = d;
}

module _ {fs₀ : List Frame} {list₀ : List ℕ} {kept : List Frame} {looks f : ℕ} {g : Frame} {list : List ℕ} (r : Round fs₀ list₀ kept looks f g list) where
  listed : members list ≡ f ∷ tail (members list)
  listed = members_first list r.entries ∙ ap (λ (x : ℕ). x ∷ tail (members list)) (sym r.here)

  pub frames_long : length kept ≡ length fs₀
  frames_long = sym (look_long (suc r.fuel) r.so_far kept (members list)) ∙ ap (λ (l : Looked). length l.frames) r.rest ∙ look_long (suc (size list₀)) 0 fs₀ (members list₀)

  pub looks_most : looks ≤ suc (size list₀)
  looks_most = omega (arith, r.counted, r.sum)

  module _ (w : warm g ≡ true) where
    hot : warm (frame_at kept f) ≡ true
    hot = ap warm (sym r.the_frame) ∙ w

    hot_fuel : suc (warms kept (tail (members list))) ≤ r.fuel
    hot_fuel = omega (arith, some_warm 0 0 kept f (tail (members list)) hot, ap (warms kept) listed, r.enough)

    -- looks remain
    pub more : looks < suc (size list₀)
    more = omega (arith, hot_fuel, r.counted, r.sum)

    room : size (pop list) < length (pop list)
    room = omega (arith, size_pop list, length_pop list, size_le list, r.entries)

    members_next : members (push_back (pop list) (first list)) ≡ tail (members list) ++ f ∷ []
    members_next = members_push_back (pop list) (first list) room ∙ ap (λ (l : List ℕ). l ++ first list ∷ []) (members_pop list) ∙ ap (λ (x : ℕ). tail (members list) ++ x ∷ []) (sym r.here)

    pub round_again : {cold : Frame} {kept' : List Frame} {list' : List ℕ} {f' : ℕ} {g' : Frame} → cold ≡ cooled g → kept' ≡ set kept f cold → list' ≡ push_back (pop list) (first list) → f' ≡ first list' → g' ≡ frame_at kept' f' → Round fs₀ list₀ kept' (looks + 1) f' g' list'
    round_again {cold} {kept'} {list'} e k d a b = record {
      fuel = r.fuel - 1;
      so_far = suc r.so_far;
      counted = omega (arith, r.counted);
      sum = omega (arith, hot_fuel, r.sum);
      enough = rw (same, ap members d ∙ members_next) (omega (arith, fewer kept f (tail (members list)), hot_fuel));
      rest = rw (same, ap members d ∙ members_next, one) (sym (look_warm r.fuel r.so_far kept f (tail (members list)) hot) ∙ ap (look (suc r.fuel) r.so_far kept) (sym listed) ∙ r.rest);
      ruled = rw d (queue_push_back (pop list) (length_pop list ∙ r.long) (queue_pop list r.long r.ruled) (first list) (first_below list r.long r.ruled r.entries) room);
      long = ap length d ∙ length_push_back (pop list) (first list) ∙ length_pop list ∙ r.long;
      entries = rw d (omega (arith, size_push_back (pop list) (first list) room));
      here = a;
      the_frame = b;
    }
      where
        same : kept' ≡ cool kept f
        same = k ∙ ap (set kept f) (e ∙ ap cooled r.the_frame)

        one : suc (r.fuel - 1) ≡ r.fuel
        one = omega (arith, hot_fuel)

  pub round_ends : warm g ≡ false → LooksEnded fs₀ list₀ kept looks list
  unfolding pop
  round_ends w = record {
    the_looks = r.counted ∙ ap (λ (l : Looked). l.looks) ends;
    the_frames = ap (λ (l : Looked). l.frames) ends;
    the_taken = sym r.here ∙ ap (λ (l : Looked). l.taken) ends;
    the_list = popped ∙ ap (λ (l : Looked). packed (length list₀) l.list) ends;
    ruled = rw r.long r.ruled;
    taken_some = r.entries;
  }
    where
      ends : record { looks = suc r.so_far; taken = f; frames = kept; list = tail (members list) } ≡ look (suc (size list₀)) 0 fs₀ (members list₀)
      ends = sym (look_cold r.fuel r.so_far kept f (tail (members list)) (ap warm (sym r.the_frame) ∙ w)) ∙ ap (look (suc r.fuel) r.so_far kept) (sym listed) ∙ r.rest

      popped : pop list ≡ packed (length list₀) (tail (members list))
      popped = ap (λ (n : ℕ). packed n (tail (members list))) r.long
