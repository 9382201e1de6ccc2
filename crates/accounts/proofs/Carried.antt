-- Limit and move carried out: each table as the code leaves it.
use mathlib.Core.Path.{◌≡◌, refl, ap, sym, ◌∙◌}
use mathlib.Core.Bool.{Bool, true, false}
use mathlib.Core.List.{List, []}
use Prim.Native.Nat.{ℕ, ◌+◌, ◌-◌, ◌<◌, ◌≤◌}
use native.Mathlib.Omega.{arith}
use native.Mathlib.Decide.{ℕ_discrete, dec_lt}
use lib.ListN.{length, set, length-set, get_or-eq_default}
use lib.Seq.{ext_get_or, get_or-set_same, get_or-set_other}
use Rattle.tables.specs.Base.{at, if, tab}
use Rattle.tables.specs.Laws.{at_tab0, length_tab}
use Rattle.tables.specs.TabLaws.{tab_same}
use Rattle.tables.specs.Questions.{none, ask, first_no}
use Rattle.tables.specs.Rule.{Rule, test, alike}
use Rattle.model.specs.declared.sizes.Sizes.{Sizes}
use Rattle.model.specs.declared.frame.Frame.{Frame}
use Rattle.model.specs.declared.event.Account.{Account}
use Rattle.model.specs.declared.event.Account.TheVariants.{Limit, Move}
use Rattle.model.specs.declared.event.Event.TheVariants as Event
use Rattle.model.specs.State.{State, Files, files, frames, used_of}
use Rattle.model.specs.Setters.{on_disk, set_limits, counted}
use Rattle.model.specs.Questions.{questions}
use Rattle.model.specs.Accounts
use Rattle.model.specs.Accounts.{shifted}
use Rattle.model.specs.Laws.AccountLaws.{length_shifted}
use Rattle.model.specs.Step.{Outcome, carried, result}
use Rattle.model.specs.Laws.Own.{own}
use Rattle.model.specs.Laws.OwnLaws.{own_yes}
use Rattle.accounts.specs.Seen.{seen}
use Rattle.accounts.specs.Asks.{enough}
use Rattle.accounts.specs.Promises.{Counts}

module _ (z : Sizes) (st : State) where
  -- carried out, with no result
  pub carried_out_holds : (e : Account) (n : ℕ) → n ≡ first_no (questions z st (Event.Account e)) → n ≡ 0
      → ◌≡◌ {A = Outcome State} (record { answer = record { refusal = 0; result = 0 }; left = carried z st (Event.Account e) }) (own z st (Event.Account e))
  unfolding result
  carried_out_holds e n q h = own_yes z st (Event.Account e) n q h

  -- the used counts once the limits are these
  abbrev pub used_then : List ℕ → List ℕ
  used_then limits = tab z.accounts (used_of z (files (on_disk (set_limits limits) st)) (frames st)) 0

  pub limit_limits : (q n : ℕ) → set st.disk.limits q n ≡ (carried z st (Event.Account (Limit q n))).disk.limits
  unfolding carried Accounts.limit counted
  limit_limits q n = refl

  pub limit_used : (q n : ℕ) → used_then (set st.disk.limits q n) ≡ (carried z st (Event.Account (Limit q n))).memory.used
  unfolding carried Accounts.limit counted
  limit_used q n = refl

  pub move_limits : (g t m : ℕ) → shifted st.disk.limits g t m ≡ (carried z st (Event.Account (Move g t m))).disk.limits
  unfolding carried Accounts.move counted
  move_limits g t m = refl

  pub move_used : (g t m : ℕ) → used_then (shifted st.disk.limits g t m) ≡ (carried z st (Event.Account (Move g t m))).memory.used
  unfolding carried Accounts.move counted
  move_used g t m = refl

-- what is counted, as the table of used counts
module _ (z : Sizes) (fs : List Frame) (accounts maps limits parents addresses states active used : List ℕ) where
  abbrev now : State
  now = seen fs accounts maps limits parents addresses states active used

  abbrev files_by : (ℕ → ℕ) → Files
  files_by f = record {
    number = at [];
    account = at accounts;
    limit = f;
    parent = at parents;
    map = at maps;
    address = at addresses;
    state = at states;
    owner = at [];
    active = at active;
    updating = at [];
    image = at [];
  }

  pub used_told : (ls totals : List ℕ) → length used ≡ z.accounts → z.accounts ≤ 16 → Counts z (seen fs accounts maps ls parents addresses states active []) totals → tab (length used) (at totals) 0 ≡ used_then z now ls
  used_told ls totals e few c = ap (λ (n : ℕ). tab n (at totals) 0) e ∙ tab_same z.accounts (at totals) (used_of z (files_by (at ls)) (frames now)) (λ q h. (c q (omega (arith, h, few))).0)

  -- limits that agree give the same counts
  pub used_alike : (ls ls' : List ℕ) → ((i : ℕ) → at ls i ≡ at ls' i) → used_then z now ls ≡ used_then z now ls'
  used_alike ls ls' e = λ x. tab z.accounts (used_of z (files_by (λ i. e i x)) (frames now)) 0

-- ── the limits beside the table ──
module _ (limits : List ℕ) (n : ℕ) (long : length limits ≤ n) where
  abbrev copy : List ℕ
  copy = tab n (at limits) 0

  pub at_copy : (i : ℕ) → at copy i ≡ at limits i
  at_copy i = elim (dec_lt i n) [
    | yes h ↦ at_tab0 n (at limits) i 0 h
    | no h ↦ get_or-eq_default copy 0 {n = i} (omega (arith, length_tab n (at limits) 0, h)) ∙ sym (get_or-eq_default limits 0 {n = i} (omega (arith, long, h)))
  ]

  module _ (g t m : ℕ) (hg : g < length limits) (ht : t < length limits) where
    copy_long : length copy ≡ n
    copy_long = length_tab n (at limits) 0

    -- one store in both
    set_alike : (l l' : List ℕ) (j x y : ℕ) → x ≡ y → j < length l → j < length l' → ((i : ℕ) → at l i ≡ at l' i) → (i : ℕ) → at (set l j x) i ≡ at (set l' j y) i
    set_alike l l' j x y e h h' f i = elim (ℕ_discrete i j) [
      | yes w ↦ rw w (get_or-set_same l j x 0 h ∙ e ∙ sym (get_or-set_same l' j y 0 h'))
      | no w ↦ get_or-set_other l j i x 0 w ∙ f i ∙ sym (get_or-set_other l' j i y 0 w)
    ]

    pub at_shifted : (i : ℕ) → at (shifted copy g t m) i ≡ at (shifted limits g t m) i
    unfolding shifted
    at_shifted = set_alike (set copy g (at copy g - m)) (set limits g (at limits g - m)) t (at copy t + m) (at limits t + m) (ap (λ (x : ℕ). x + m) (at_copy t))
        (omega (arith, length-set copy g (at copy g - m), copy_long, ht, long)) (omega (arith, length-set limits g (at limits g - m), ht))
        (set_alike copy limits g (at copy g - m) (at limits g - m) (ap (λ (x : ℕ). x - m) (at_copy g)) (omega (arith, copy_long, hg, long)) hg at_copy)

    -- copied back, it is the shifted table
    pub back : tab (length limits) (at (shifted (tab n (at limits) 0) g t m)) 0 ≡ shifted limits g t m
    back = ext_get_or 0 _ (shifted limits g t m) (length_tab (length limits) _ 0 ∙ sym (length_shifted limits g t m))
        (λ i h. at_tab0 (length limits) (at (shifted copy g t m)) i 0 (rw (length_tab (length limits) (at (shifted copy g t m)) 0) at h) ∙ at_shifted i)

-- ── the questions of a move ──
-- refused by 3 or 25, whatever 26 says
pub first_refused : (a b c : Rule) → ¬ (first_no (ask 3 a (ask 25 b none)) ≡ 0) → first_no (ask 3 a (ask 25 b none)) ≡ first_no (ask 3 a (ask 25 b (ask 26 c none)))
unfolding first_no
first_refused a b c = go (test a) (test b) (test c)
  where
    go : (x y w : Bool) → ¬ (◌≡◌ {A = ℕ} (if x (if y 0 25) 3) 0) → ◌≡◌ {A = ℕ} (if x (if y 0 25) 3) (if x (if y (if w 0 26) 25) 3)
    go true true w d = absurd (d refl)
    go true false w d = refl
    go false y w d = refl

-- 26 by what is counted beside the tables
pub enough_alike : (n : ℕ) (limit used l u l' u' : ℕ → ℕ) → ((a : ℕ) → a < n → l a ≡ l' a) → ((a : ℕ) → a < n → u a ≡ u' a) → test (enough n limit used l u) ≡ test (enough n limit used l' u')
enough_alike n limit used l u l' u' e f = alike (enough n limit used l u) (enough n limit used l' u')
    (λ h a b. rw (← e a b, ← f a b) (h a b)) (λ h a b. rw (e a b, f a b) (h a b))
