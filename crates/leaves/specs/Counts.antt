-- The counts when one page or one record changes: used counts of the accounts, and the count of free records.
use Rattle.std.specs.Prelude.{◌≡◌, refl, Bool, ◌&&◌, List, ℕ, suc, ◌+◌, ◌-◌, ◌<◌, ◌≤◌, T, ltb, length, set}
use Rattle.std.proofs.Math.Path.{ap, sym}
use Rattle.std.proofs.Common.{◌∙◌, arith, ne_eqb, eqb→eq}
use Rattle.std.proofs.Math.Decide.{ℕ_discrete}
use Rattle.std.proofs.Math.Dec.{eqb}
use Rattle.tables.specs.Base.{if, at, tab}
use Rattle.tables.specs.Laws.{and_right, and_intro, at_tab0, count_same, count_bound, count_more, eq→T}
use Rattle.tables.specs.CountLaws.{count_less}
use Rattle.tables.specs.TabLaws.{tab_entries, tab_same, set_tab}
use Rattle.tables.specs.Rule.{test}
use Rattle.model.specs.declared.sizes.Sizes.{Sizes}
use Rattle.model.specs.Lines.{FREE}
use Rattle.model.specs.State.{Files, Frames, all_pages, slot_of, charged, payer, used_of, free_count}

-- the page counts for the account that pays for its slot: charged where the design is active, listed where not
abbrev pub counts : Sizes → Files → Frames → ℕ → Bool
counts z v c i = if (eqb (v.active (slot_of z i)) 1) (test (charged z v c i)) (ltb 0 (v.map i))

-- .. for account q
abbrev pub counts_for : Sizes → Files → Frames → ℕ → ℕ → Bool
counts_for z v c q i = eqb (payer v (slot_of z i)) q && counts z v c i

-- each account's used count
abbrev pub used_counts : Sizes → Files → Frames → List ℕ
used_counts z v c = tab z.accounts (used_of z v c) 0

-- a table that agrees with the used counts is their table
pub used_counts_holds : (z : Sizes) (v : Files) (c : Frames) (used : List ℕ) → length used ≡ z.accounts → ((q : ℕ) → q < z.accounts → at used q ≡ used_of z v c q) → used ≡ used_counts z v c
used_counts_holds z v c used e f = tab_entries z.accounts (used_of z v c) used e f

-- ── the pages count anew, the payers stay ──
module _ (z : Sizes) (v v' : Files) (c c' : Frames) (pays : (s : ℕ) → payer v s ≡ payer v' s) where
  alike : (q i : ℕ) → counts z v c i ≡ counts z v' c' i → counts_for z v c q i ≡ counts_for z v' c' q i
  alike q i e = ap (λ (p : ℕ). eqb p q && counts z v c i) (pays (slot_of z i)) ∙ ap (λ (b : Bool). eqb (payer v' (slot_of z i)) q && b) e

  pub used_same : ((i : ℕ) → i < all_pages z → counts z v c i ≡ counts z v' c' i) → (q : ℕ) → used_of z v c q ≡ used_of z v' c' q
  unfolding used_of
  used_same f q = count_same (all_pages z) (counts_for z v c q) (counts_for z v' c' q) (λ i h. alike q i (f i h))

  pub counts_same : ((i : ℕ) → i < all_pages z → counts z v c i ≡ counts z v' c' i) → used_counts z v c ≡ used_counts z v' c'
  counts_same f = tab_same z.accounts (used_of z v c) (used_of z v' c') (λ q h. used_same f q)

  -- one page changes
  module _ (i : ℕ) (inside : i < all_pages z) (other : (j : ℕ) → j < all_pages z → ¬ (j ≡ i) → counts z v c j ≡ counts z v' c' j) where
    abbrev account : ℕ
    account = payer v (slot_of z i)

    -- an account that does not pay for it
    pub used_other : (q : ℕ) → ¬ (q ≡ account) → used_of z v c q ≡ used_of z v' c' q
    unfolding used_of
    used_other q d = count_same (all_pages z) (counts_for z v c q) (counts_for z v' c' q) (λ j h. elim (ℕ_discrete j i) [ yes e ↦ rw e quiet | no e ↦ alike q j (other j h e) ])
      where
        quiet : counts_for z v c q i ≡ counts_for z v' c' q i
        quiet = ap (λ (b : Bool). b && counts z v c i) (ne_eqb account q (λ e. d (sym e))) ∙ sym (ap (λ (b : Bool). b && counts z v' c' i) (ne_eqb (payer v' (slot_of z i)) q (λ e. d (sym (pays (slot_of z i) ∙ e)))))

    -- the page counts from now on
    pub used_more_holds : ¬ (T (counts z v c i)) → T (counts z v' c' i) → used_of z v' c' account ≡ suc (used_of z v c account)
    unfolding used_of
    used_more_holds off on = count_more (all_pages z) (counts_for z v c account) (counts_for z v' c' account) i inside
        (λ t. off (and_right (eqb account account) (counts z v c i) t))
        (and_intro (eqb (payer v' (slot_of z i)) account) (counts z v' c' i) (eq→T (sym (pays (slot_of z i)))) on)
        (λ j h d. alike account j (other j h d))

    -- .. no more
    pub used_less : T (counts z v c i) → ¬ (T (counts z v' c' i)) → suc (used_of z v' c' account) ≡ used_of z v c account
    unfolding used_of
    used_less on off = count_less (all_pages z) (counts_for z v c account) (counts_for z v' c' account) i inside
        (and_intro (eqb account account) (counts z v c i) (eq→T {a = account} refl) on)
        (λ t. off (and_right (eqb (payer v' (slot_of z i)) account) (counts z v' c' i) t))
        (λ j h d. alike account j (other j h d))

    -- .. in the table of the used counts
    module _ (fits : account < z.accounts) where
      pub counts_more : ¬ (T (counts z v c i)) → T (counts z v' c' i) → set (used_counts z v c) account (at (used_counts z v c) account + 1) ≡ used_counts z v' c'
      counts_more off on = set_tab z.accounts (used_of z v c) (used_of z v' c') account _ (omega (arith, at_tab0 z.accounts (used_of z v c) account 0 fits, used_more_holds off on)) (λ q h d. used_other q d)

      pub counts_less : T (counts z v c i) → ¬ (T (counts z v' c' i)) → set (used_counts z v c) account (at (used_counts z v c) account - 1) ≡ used_counts z v' c'
      counts_less on off = set_tab z.accounts (used_of z v c) (used_of z v' c') account _ (omega (arith, at_tab0 z.accounts (used_of z v c) account 0 fits, used_less on off)) (λ q h d. used_other q d)

-- ── the count of free records ──
pub free_most : (z : Sizes) (state : ℕ → ℕ) → free_count z state ≤ z.records
unfolding free_count
free_most z state = count_bound z.records (λ r. eqb (state r) FREE)

module _ (z : Sizes) (state state' : ℕ → ℕ) where
  abbrev is_free : (ℕ → ℕ) → ℕ → Bool
  is_free s r = eqb (s r) FREE

  pub free_same : ((r : ℕ) → r < z.records → eqb (state r) FREE ≡ eqb (state' r) FREE) → free_count z state ≡ free_count z state'
  unfolding free_count
  free_same f = count_same z.records (is_free state) (is_free state') f

  -- one record changes
  module _ (r : ℕ) (inside : r < z.records) (other : (x : ℕ) → ¬ (x ≡ r) → state x ≡ state' x) where
    pub free_more : ¬ (state r ≡ FREE) → state' r ≡ FREE → free_count z state' ≡ suc (free_count z state)
    unfolding free_count
    free_more d e = count_more z.records (is_free state) (is_free state') r inside (λ t. d (eqb→eq _ _ t)) (eq→T e) (λ x h n. ap (λ (s : ℕ). eqb s FREE) (other x n))

    pub free_less : state r ≡ FREE → ¬ (state' r ≡ FREE) → suc (free_count z state') ≡ free_count z state
    unfolding free_count
    free_less e d = count_less z.records (is_free state) (is_free state') r inside (eq→T e) (λ t. d (eqb→eq _ _ t)) (λ x h n. ap (λ (s : ℕ). eqb s FREE) (other x n))
