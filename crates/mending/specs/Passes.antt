-- What the passes of code do to one place after the other: the list with changes noted, a table that has lost an entry, a step that stands before a place; and the laws that loops cite.
use Rattle.std.specs.Prelude.{◌≡◌, refl, Bool, T, eqb, set}
use Rattle.std.proofs.Math.Path.{ap}
use Rattle.std.proofs.Common.{sym, ◌∙◌, length-set, get_or-set_same, get_or-set_other, ne_eqb}
use Rattle.std.proofs.Math.Bool.{not}
use mathlib.Core.List.{List, [], ◌∷◌, ◌++◌, append-nil}
use Prim.Native.Nat.{ℕ, zero, suc, ◌+◌, ◌-◌, ◌*◌, ◌/◌, ◌%◌, ◌<◌, ◌≤◌}
use Rattle.std.proofs.Math.Numerals.{add-one}
use native.Mathlib.Omega.{arith}
use Rattle.std.proofs.Math.Arith.{digits_div, digits_mod}
use Rattle.std.proofs.Math.ListN.{length, length-append}
use Rattle.std.proofs.lemmas.List.Edits.{sets}
use Rattle.std.proofs.Math.Seq.{length-sets}
use Rattle.tables.specs.Base.{at, count}
use Rattle.tables.specs.Laws.{count_more, if_true, if_false}
use Rattle.tables.specs.CountLaws.{count_pos}
use Rattle.tables.specs.Rule.{Rule, Holds, same, below, names, test, sound, complete, alike}
use Rattle.tables.specs.Turn.{test_same}
use Rattle.tables.specs.StoreLoops.{Turned, turn_on, turn_off, turned_by, turned_at}
use Rattle.model.specs.declared.sizes.Sizes.{Sizes}
use Rattle.model.specs.State.{page_of}
use Rattle.mending.specs.Mend.{Pack, Place, entry, Change, slot_at, page_at, held, place_at, changes, change_at, gather, flat}
use Rattle.mending.specs.Places.{place_entry}

abbrev pub packed : List ℕ → List ℕ → List ℕ → Pack
packed ns qs ms = record { numbers = ns; accounts = qs; maps = ms }

-- ── how many entries of a table are not 0: so many changes are to come at most ──
unfoldable pub filled : List ℕ → ℕ
filled l = count (length l) (λ i. not (eqb (at l i) 0))

module _ (l : List ℕ) (i : ℕ) (h : i < length l) (nz : ¬ (at l i ≡ 0)) where
  abbrev stands : List ℕ → ℕ → Bool
  stands m k = not (eqb (at m k) 0)

  on : T (stands l i)
  on = rw (ne_eqb (at l i) 0 nz) tt

  pub filled_set : filled l ≡ suc (filled (set l i 0))
  unfolding filled
  filled_set =
      let e : count (length (set l i 0)) (stands (set l i 0)) ≡ count (length l) (stands (set l i 0)) = ap (λ (n : ℕ). count n (stands (set l i 0))) (length-set l i 0) in
      count_more (length l) (stands (set l i 0)) (stands l) i h
      (λ t. rw (get_or-set_same l i 0 0 h) at t)
      on
      (λ k b d. ap (λ (n : ℕ). not (eqb n 0)) (get_or-set_other l i k 0 0 d))
      ∙ ap suc (sym e)

  pub filled_some : 0 < filled l
  unfolding filled
  filled_some = count_pos (length l) (stands l) i h on

-- ── the list with changes noted from place n on ──
abbrev pub noted : List ℕ → ℕ → List Change → List ℕ
noted l n cs = sets l (4 * n) (flat cs)

pub flat_append : (a b : List Change) → flat (a ++ b) ≡ flat a ++ flat b
flat_append [] b = refl
flat_append (c ∷ a) b = ap (λ (l : List ℕ). c.slot ∷ c.page ∷ c.old ∷ c.reason ∷ l) (flat_append a b)

pub length_flat : (a : List Change) → length (flat a) ≡ 4 * length a
length_flat [] = refl
length_flat (c ∷ a) = omega (arith, length_flat a)

sets_append : (l xs ys : List ℕ) (i : ℕ) → sets (sets l i xs) (i + length xs) ys ≡ sets l i (xs ++ ys)
sets_append l [] ys i = let e : i + 0 ≡ i = omega arith in ap (λ (n : ℕ). sets l n ys) e
sets_append l (x ∷ xs) ys i = let e : i + suc (length xs) ≡ suc i + length xs = omega arith in ap (λ (n : ℕ). sets (sets (set l i x) (suc i) xs) n ys) e ∙ sets_append (set l i x) xs ys (suc i)

pub noted_on : (l : List ℕ) (n m : ℕ) (a b : List Change) → m ≡ n + length a → noted (noted l n a) m b ≡ noted l n (a ++ b)
noted_on l n m a b e =
    let k : 4 * m ≡ 4 * n + length (flat a) = omega (arith, length_flat a, e) in
    ap (λ (i : ℕ). sets (noted l n a) i (flat b)) k ∙ sets_append l (flat a) (flat b) (4 * n) ∙ ap (sets l (4 * n)) (sym (flat_append a b))

-- ── a table that may have lost entry i, and the list then ──
pub data Lost (hit : Rule) (reason slot page i : ℕ) (t t' l l' : List ℕ) (n r : ℕ) : Type 0 where
  lost : Holds hit → t' ≡ set t i 0 → l' ≡ noted l n (record { slot = slot; page = page; old = at t i; reason = reason } ∷ []) → r ≡ n + 1 → Lost hit reason slot page i t t' l l' n r
  left : ¬ (Holds hit) → t' ≡ t → l' ≡ l → r ≡ n → Lost hit reason slot page i t t' l l' n r

-- the changes listed and those to come are as many as before
pub lost_kept : {hit : Rule} {reason slot page i : ℕ} {t t' l l' : List ℕ} {n r : ℕ} → Lost hit reason slot page i t t' l l' n r → i < length t → (Holds hit → ¬ (at t i ≡ 0)) → r + filled t' ≡ n + filled t
lost_kept {i = i} {t = t} {t' = t'} {n = n} {r = r} (lost a b c e) h nz = let w : filled t' ≡ filled (set t i 0) = ap filled b in omega (arith, w, filled_set t i h (nz a), e)
lost_kept {t = t} {t' = t'} (left a b c e) h nz = let w : filled t' ≡ filled t = ap filled b in omega (arith, w, e)

-- no length changes
pub lost_long : {hit : Rule} {reason slot page i : ℕ} {t t' l l' : List ℕ} {n r : ℕ} → Lost hit reason slot page i t t' l l' n r → length t' ≡ length t
lost_long {i = i} {t = t} (lost a b c e) = ap length b ∙ length-set t i 0
lost_long (left a b c e) = ap length b

pub lost_list_long : {hit : Rule} {reason slot page i : ℕ} {t t' l l' : List ℕ} {n r : ℕ} → Lost hit reason slot page i t t' l l' n r → length l' ≡ length l
lost_list_long {reason = reason} {slot = slot} {page = page} {i = i} {t = t} {l = l} {n = n} (lost a b c e) = ap length c ∙ length-sets l (4 * n) (slot ∷ page ∷ at t i ∷ reason ∷ [])
lost_list_long (left a b c e) = ap length c

-- room for those to come
pub lost_room : {hit : Rule} {reason slot page i : ℕ} {t t' l l' : List ℕ} {n r : ℕ} → Lost hit reason slot page i t t' l l' n r → i < length t → (Holds hit → ¬ (at t i ≡ 0)) → (x : ℕ) → 4 * (n + (filled t + x)) ≤ length l → 4 * (r + (filled t' + x)) ≤ length l'
lost_room g h nz x m = omega (arith, lost_kept g h nz, lost_list_long g, m)

-- .. by what is equal to it
pub lost_by : {hit : Rule} {reason slot page i : ℕ} {t t' t'' l l' l'' : List ℕ} {n r r'' : ℕ} → Lost hit reason slot page i t t' l l' n r → t'' ≡ t' → l'' ≡ l' → r'' ≡ r → Lost hit reason slot page i t t'' l l'' n r''
lost_by (lost a b c e) x y w = lost a (x ∙ b) (y ∙ c) (w ∙ e)
lost_by (left a b c e) x y w = left a (x ∙ b) (y ∙ c) (w ∙ e)

-- .. where it is lost in any case
pub lost_as : {hit : Rule} {reason slot page i : ℕ} {t t' l l' : List ℕ} {n r : ℕ} → Holds hit → Lost (below 0 1) reason slot page i t t' l l' n r → Lost hit reason slot page i t t' l l' n r
lost_as h (lost a b c e) = lost h b c e
lost_as h (left a b c e) = absurd (a (omega arith))

-- ── a step that stands before place i: what the list and the count are then, from l₀ and n₀ on ──
unfoldable pub listed_to : Sizes → Pack → ℕ → (Place → Rule) → ℕ → List Change
listed_to z d reason change i = gather i (λ k. test (change (place_at z k))) (λ k. change_at z d reason (place_at z k))

pub record Standing (z : Sizes) (d : Pack) (reason : ℕ) (change : Place → Rule) (l₀ : List ℕ) (n₀ i : ℕ) (l : List ℕ) (n : ℕ) : Type 0 where
  pub list : l ≡ noted l₀ n₀ (listed_to z d reason change i)
  pub count : n ≡ n₀ + length (listed_to z d reason change i)

-- the entries' rule, by their number in the table
abbrev pub of_entry : Sizes → (Place → Rule) → ℕ → Rule
of_entry z change i = change (entry (i / z.pages) (i % z.pages))

abbrev pub zeroed : ℕ → ℕ
zeroed i = 0

module _ {z : Sizes} {d : Pack} {reason : ℕ} {change : Place → Rule} {l₀ : List ℕ} {n₀ : ℕ} where
  pub standing_none : Standing z d reason change l₀ n₀ 0 l₀ n₀
  unfolding listed_to gather
  standing_none = record { list = refl; count = omega arith }

  -- the place changes, and is listed
  pub standing_on : (i : ℕ) {l l' : List ℕ} {n n' : ℕ} → Standing z d reason change l₀ n₀ i l n → Holds (change (place_at z i)) → l' ≡ noted l n (change_at z d reason (place_at z i) ∷ []) → n' ≡ n + 1
      → Standing z d reason change l₀ n₀ (i + 1) l' n'
  unfolding listed_to gather
  standing_on i {l} {l'} {n} {n'} st h e k =
      let c = change_at z d reason (place_at z i) in
      let a = listed_to z d reason change i in
      let on : listed_to z d reason change (i + 1) ≡ a ++ c ∷ [] = rw add-one (ap (λ (x : List Change). a ++ x) (if_true (test (change (place_at z i))) (c ∷ []) [] (complete (change (place_at z i)) h))) in
      record {
        list = e ∙ ap (λ (x : List ℕ). noted x n (c ∷ [])) st.list ∙ noted_on l₀ n₀ n a (c ∷ []) st.count ∙ ap (noted l₀ n₀) (sym on);
        count = omega (arith, ap length on, length-append a (c ∷ []), st.count, k);
      }

  -- it does not change
  pub standing_off : (i : ℕ) {l : List ℕ} {n : ℕ} → Standing z d reason change l₀ n₀ i l n → ¬ (Holds (change (place_at z i))) → Standing z d reason change l₀ n₀ (i + 1) l n
  unfolding listed_to gather
  standing_off i {l} {n} st h =
      let c = change_at z d reason (place_at z i) in
      let a = listed_to z d reason change i in
      let off : listed_to z d reason change (i + 1) ≡ a = rw add-one (ap (λ (x : List Change). a ++ x) (if_false (test (change (place_at z i))) (c ∷ []) [] (λ t. h (sound (change (place_at z i)) t))) ∙ append-nil a) in
      record { list = st.list ∙ ap (noted l₀ n₀) (sym off); count = st.count ∙ ap (λ (x : List Change). n₀ + length x) (sym off) }

  -- none of m places changes
  pub standing_skip : (m i : ℕ) {l : List ℕ} {n : ℕ} → Standing z d reason change l₀ n₀ i l n → ((k : ℕ) → k < m → ¬ (Holds (change (place_at z (i + k))))) → Standing z d reason change l₀ n₀ (i + m) l n
  standing_skip zero i st h = let e : i + 0 ≡ i = omega arith in rw e st
  standing_skip (suc m) i st h = let e : i + suc m ≡ (i + m) + 1 = omega arith in rw e (standing_off (i + m) (standing_skip m i st (λ k l. h k (omega arith))) (h m (omega arith)))

  -- ── one place, whichever table it is of: the turn of its entry k ──
  pub place_turn : (x : Place) (i : ℕ) → place_at z i ≡ x → (t : List ℕ) (rule : ℕ → Rule) (k : ℕ) → k < length t → (Holds (rule k) → Holds (change x)) → (Holds (change x) → Holds (rule k)) → held z d x ≡ at t k
      → (hit : Rule) → (Holds hit → Holds (change x)) → (Holds (change x) → Holds hit) → {m m' l l' : List ℕ} {n r : ℕ}
      → Turned t rule zeroed k m → Standing z d reason change l₀ n₀ i l n → Lost hit reason (slot_at x) (page_at z x) k m m' l l' n r
      → Turned t rule zeroed (k + 1) m' × Standing z d reason change l₀ n₀ (i + 1) l' r
  place_turn x i e t rule k h up down eq hit to from {m} {m'} {l} {l'} {n} {r} tu st (lost a b c f) =
      let old : at m k ≡ held z d x = turned_at k tu k (omega arith) ∙ sym eq in
      let listing : l' ≡ noted l n (change_at z d reason x ∷ []) = c ∙ ap (λ (o : ℕ). noted l n (record { slot = slot_at x; page = page_at z x; old = o; reason = reason } ∷ [])) old in
      (turned_by (k + 1) b (turn_on k tu h (down (to a)) 0 refl), standing_on i st (rw e (to a)) (rw e listing) f)
  place_turn x i e t rule k h up down eq hit to from {m} {m'} {l} {l'} {n} {r} tu st (left a b c f) =
      let off : Standing z d reason change l₀ n₀ (i + 1) l n = standing_off i st (λ w. a (from (rw e at w))) in
      (turned_by (k + 1) b (turn_off k tu (λ w. a (from (up w)))), record { list = c ∙ off.list; count = f ∙ off.count })

-- ── the entries of a slot's map ──
-- rules of what stands in an entry
abbrev pub above : ℕ → ℕ → Rule
above most e = below most e

abbrev pub of_shared : List ℕ → ℕ → Rule
of_shared named e = names e λ r. same (at named r) 2

pub shared_one : (named : List ℕ) (e : ℕ) → ¬ (e ≡ 0) → eqb (at named (e - 1)) 2 ≡ test (of_shared named e)
shared_one named e d = test_same (at named (e - 1)) 2 ∙ alike (same (at named (e - 1)) 2) (of_shared named e)
    (λ h. (e - 1, omega arith, h)) (λ h. let q : h.0 ≡ e - 1 = omega (arith, h.1) in rw q at h.2)

-- a step changes the entries of slot s of which a rule holds
abbrev pub Agrees : Sizes → Pack → (Place → Rule) → ℕ → (ℕ → Rule) → Type 0
Agrees z d change s hit = (p : ℕ) → p < z.pages → (Holds (change (entry s p)) → Holds (hit (at d.maps (page_of z s p)))) × (Holds (hit (at d.maps (page_of z s p))) → Holds (change (entry s p)))

pub record RowGiven (s pages : ℕ) (maps changes : List ℕ) (n : ℕ) : Type 0 where
  pub inside : s * pages + pages ≤ length maps
  pub few : length maps ≤ 16384
  pub slot_few : s < 65536
  pub room : 4 * (n + filled maps) ≤ length changes

-- whichever step it is that changes those entries, it stands behind the row then
pub record RowDone (reason s pages : ℕ) (hit : ℕ → Rule) (maps maps' changes changes' : List ℕ) (n r : ℕ) : Type 0 where
  pub long : length maps' ≡ length maps
  pub list_long : length changes' ≡ length changes
  pub kept : r + filled maps' ≡ n + filled maps
  pub carry : (z : Sizes) (d : Pack) (change : Place → Rule) (l₀ : List ℕ) (n₀ : ℕ) → z.pages ≡ pages → length d.maps ≡ length maps → Agrees z d change s hit
      → Turned d.maps (of_entry z change) zeroed (s * pages) maps → Standing z d reason change l₀ n₀ (s * (pages + 2) + 2) changes n
      → Turned d.maps (of_entry z change) zeroed (s * pages + pages) maps' × Standing z d reason change l₀ n₀ (s * (pages + 2) + 2 + pages) changes' r

-- before its page p
pub record RowTo (reason s pages : ℕ) (hit : ℕ → Rule) (maps₀ changes₀ : List ℕ) (n₁ p : ℕ) (maps changes : List ℕ) (n : ℕ) : Type 0 where
  pub most : p ≤ pages
  pub long : length maps ≡ length maps₀
  pub list_long : length changes ≡ length changes₀
  pub kept : n + filled maps ≡ n₁ + filled maps₀
  pub carry : (z : Sizes) (d : Pack) (change : Place → Rule) (l₀ : List ℕ) (n₀ : ℕ) → z.pages ≡ pages → length d.maps ≡ length maps₀ → Agrees z d change s hit
      → Turned d.maps (of_entry z change) zeroed (s * pages) maps₀ → Standing z d reason change l₀ n₀ (s * (pages + 2) + 2) changes₀ n₁
      → Turned d.maps (of_entry z change) zeroed (s * pages + p) maps × Standing z d reason change l₀ n₀ (s * (pages + 2) + 2 + p) changes n

pub row_none : (reason s pages : ℕ) (hit : ℕ → Rule) (maps changes : List ℕ) (n : ℕ) → RowTo reason s pages hit maps changes n 0 maps changes n
row_none reason s pages hit maps changes n = record {
  most = omega arith;
  long = refl;
  list_long = refl;
  kept = refl;
  carry = λ z d change l₀ n₀ e l a t st. let u : s * pages + 0 ≡ s * pages = omega arith in let v : s * (pages + 2) + 2 + 0 ≡ s * (pages + 2) + 2 = omega arith in (rw u t, rw v st);
}

-- one page more
pub row_next : {reason s pages : ℕ} {hit : ℕ → Rule} {maps₀ changes₀ : List ℕ} {n₁ p : ℕ} {maps maps' changes changes' : List ℕ} {n r : ℕ}
    → s * pages + pages ≤ length maps₀ → p < pages → ((e : ℕ) → Holds (hit e) → ¬ (e ≡ 0))
    → Lost (hit (at maps (s * pages + p))) reason s p (s * pages + p) maps maps' changes changes' n r
    → RowTo reason s pages hit maps₀ changes₀ n₁ p maps changes n → RowTo reason s pages hit maps₀ changes₀ n₁ (p + 1) maps' changes' r
row_next {reason} {s} {pages} {hit} {maps₀} {changes₀} {n₁} {p} {maps} {maps'} {changes} {changes'} {n} {r} inside h nz gone row = record {
  most = omega arith;
  long = lost_long gone ∙ row.long;
  list_long = lost_list_long gone ∙ row.list_long;
  kept = lost_kept gone (omega (arith, row.long, inside)) (nz (at maps (s * pages + p))) ∙ row.kept;
  carry = carry;
}
  where
    carry : (z : Sizes) (d : Pack) (change : Place → Rule) (l₀ : List ℕ) (n₀ : ℕ) → z.pages ≡ pages → length d.maps ≡ length maps₀ → Agrees z d change s hit
        → Turned d.maps (of_entry z change) zeroed (s * pages) maps₀ → Standing z d reason change l₀ n₀ (s * (pages + 2) + 2) changes₀ n₁
        → Turned d.maps (of_entry z change) zeroed (s * pages + (p + 1)) maps' × Standing z d reason change l₀ n₀ (s * (pages + 2) + 2 + (p + 1)) changes' r
    carry z d change l₀ n₀ e l a t st =
        let w = row.carry z d change l₀ n₀ e l a t st in
        let hp : p < z.pages = rw e h in
        let i : ℕ = s * pages + p in
        let pg : page_of z s p ≡ i = rw e refl in
        let here : place_at z (s * (pages + 2) + 2 + p) ≡ entry s p = rw (← e) (place_entry z s p hp) in
        let same_place : entry (i / z.pages) (i % z.pages) ≡ entry s p = rw (← pg, digits_div s hp, digits_mod s hp) in
        let was : at maps i ≡ at d.maps (page_of z s p) = turned_at i w.0 i (omega arith) ∙ ap (at d.maps) (sym pg) in
        let o = place_turn (entry s p) (s * (pages + 2) + 2 + p) here d.maps (of_entry z change) i (omega (arith, l, inside)) (λ x. rw same_place at x) (λ x. rw same_place x) (ap (at d.maps) pg)
        (hit (at maps i)) (λ x. (a p hp).1 (rw was at x)) (λ x. rw was ((a p hp).0 x)) w.0 w.1 gone in
        let u : s * pages + (p + 1) ≡ i + 1 = omega arith in
        let v : s * (pages + 2) + 2 + (p + 1) ≡ s * (pages + 2) + 2 + p + 1 = omega arith in
        (rw u o.0, rw v o.1)

pub row_all : {reason s pages : ℕ} {hit : ℕ → Rule} {maps₀ changes₀ : List ℕ} {n₁ p : ℕ} {maps changes : List ℕ} {n : ℕ} → pages ≤ p → RowTo reason s pages hit maps₀ changes₀ n₁ p maps changes n → RowDone reason s pages hit maps₀ maps changes₀ changes n₁ n
row_all {s = s} {pages = pages} {p = p} h row = let e : p ≡ pages = omega (arith, row.most) in record { long = row.long; list_long = row.list_long; kept = row.kept; carry = λ z d change l₀ n₀ a b g t st. rw e at (row.carry z d change l₀ n₀ a b g t st) }

-- room for one change more
pub row_room : (t changes : List ℕ) (n i : ℕ) → 4 * (n + filled t) ≤ length changes → i < length t → ¬ (at t i ≡ 0) → 4 * n + 4 ≤ length changes
row_room t changes n i h l nz = omega (arith, h, filled_some t i l nz)
