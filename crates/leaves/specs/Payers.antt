-- A table of who pays for each slot, made once a call.
use Rattle.std.specs.Prelude.{◌≡◌, refl, List, ℕ, ◌<◌, ◌≤◌, length}
use Rattle.std.proofs.Common.{ap, sym, ◌∙◌, subst, inl, inr, arith}
use Rattle.std.proofs.Math.Decide.{dec_lt}
use Rattle.std.proofs.Math.ListN.{get_or-eq_default}
use Rattle.tables.specs.Base.{at, tab}
use Rattle.tables.specs.Laws.{at_tab0, length_tab}
use Rattle.tables.specs.Rule.{Holds, each, below}
use Rattle.model.specs.declared.sizes.Sizes.{Sizes}
use Rattle.model.specs.Payer
use Rattle.model.specs.State.{State, files, payer}

-- who pays for a slot, from the tables
abbrev pub who_pays : (accounts limits parents : List ℕ) → ℕ → ℕ
who_pays accounts limits parents s = Payer.payer (at parents) (at limits) (at accounts s)

-- past the list's end that is account 0, which pays itself
pub past_list : (accounts limits parents : List ℕ) (s : ℕ) → length accounts ≤ s → 0 ≡ who_pays accounts limits parents s
past_list accounts limits parents s h = sym (ap (Payer.payer (at parents) (at limits)) (get_or-eq_default accounts 0 {n = s} h) ∙ Payer.payer_self (at parents) (at limits) 0 (inl refl))

-- no limit and a lower parent: the parent's payer
pub by_parent : (parent limit : ℕ → ℕ) (q x : ℕ) → x ≡ parent q → ¬ (q ≡ 0) → ¬ (0 < limit q) → x < q → Payer.payer parent limit x ≡ Payer.payer parent limit q
by_parent parent limit q x e z l less =
    ap (Payer.payer parent limit) e ∙ sym (Payer.payer_up parent limit q (λ h. elim h [ inl w ↦ z w | inr w ↦ elim w [ inl y ↦ l y | inr y ↦ y (omega (arith, less, e)) ] ]))

-- for as many slots as there can be; past the last one account 0's payer
pub record Paying (st : State) (payers : List ℕ) : Type 0 where
  pub long : length payers ≡ 64
  pub entries : (s : ℕ) → s < 64 → at payers s ≡ payer (files st) s

pub paying : (st : State) (payers : List ℕ) (n : ℕ) → n ≡ 64 → payers ≡ tab n (λ s. Payer.payer (at st.disk.parents) (at st.disk.limits) (at st.disk.accounts s)) 0 → Paying st payers
unfolding payer
paying st payers n e t = let who : ℕ → ℕ = λ s. Payer.payer (at st.disk.parents) (at st.disk.limits) (at st.disk.accounts s) in record {
  long = ap length t ∙ length_tab n who 0 ∙ e;
  entries = λ s h. ap (λ (l : List ℕ). at l s) t ∙ at_tab0 n who s 0 (omega (arith, h, e));
}

-- a slot's account is below Q, and that of no slot is 0; so who pays is below Q
module _ (z : Sizes) (accounts : List ℕ) (long : length accounts ≡ z.slots) (fit : Holds (each z.slots λ s. below (at accounts s) z.accounts)) (pos : 0 < z.accounts) where
  account_below : (s : ℕ) → at accounts s < z.accounts
  account_below s = elim (dec_lt s z.slots) [ yes h ↦ fit s h | no h ↦ omega (arith, get_or-eq_default accounts 0 {n = s} (omega (arith, long, h)), pos) ]

  pub who_below : (parents limits : List ℕ) (s : ℕ) → Payer.payer (at parents) (at limits) (at accounts s) < z.accounts
  who_below parents limits s = omega (arith, account_below s, Payer.payer_le (at parents) (at limits) (at accounts s))

module _ (z : Sizes) (st : State) (long : length st.disk.accounts ≡ z.slots) (fit : Holds (each z.slots λ s. below (at st.disk.accounts s) z.accounts)) (pos : 0 < z.accounts) where
  pub payer_below : (s : ℕ) → payer (files st) s < z.accounts
  unfolding payer
  payer_below s = who_below z st.disk.accounts long fit pos st.disk.parents st.disk.limits s

  pub paying_below : (payers : List ℕ) → Paying st payers → (s : ℕ) → s < length payers → at payers s < z.accounts
  paying_below payers p s h = subst (λ (n : ℕ). n < z.accounts) (sym (p.entries s (omega (arith, h, p.long)))) (payer_below s)
