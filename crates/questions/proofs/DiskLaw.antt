-- The passes over the disk are the disk rules.
use mathlib.Core.Path.{◌≡◌, sym, ◌∙◌}
use mathlib.Core.List.{List}
use Prim.Native.Nat.{ℕ, suc, ◌-◌}
use native.Mathlib.Omega.{arith}
use native.Mathlib.Decide.{ℕ_discrete, dec_lt}
use Rattle.tables.specs.Base.{at}
use Rattle.tables.specs.Rule.{Rule, Holds, test, alike}
use Rattle.model.specs.declared.sizes.Sizes.{Sizes}
use Rattle.model.specs.State.{State, files}
use Rattle.model.specs.Rules.{once, disk_rules}
use Rattle.model.specs.Laws.Ruled.{OnDisk, disk_ruled, rules_disk}
use Rattle.rules.specs.Passes.{new_numbers}
use Rattle.questions.specs.Groups.{disk_passes, DiskLong}
use Rattle.questions.proofs.Shapes.{by_row, of_row}

-- numbers that are new one after the other stand in one slot each
pub news_once : (n : ℕ) (numbers : List ℕ) → Holds (new_numbers n numbers) → Holds (once n (at numbers))
news_once n numbers h i l j k r e f = elim (ℕ_discrete i j) [
  | yes q ↦ q
  | no q ↦ elim (dec_lt i j) [
    | yes c ↦ absurd (h j k (λ z. omega (arith, z, f)) i c (e ∙ sym f))
    | no c ↦ absurd (h i l (λ z. omega (arith, z, e)) j (omega arith) (f ∙ sym e))
  ]
]

pub once_news : (n : ℕ) (numbers : List ℕ) → Holds (once n (at numbers)) → Holds (new_numbers n numbers)
once_news n numbers h s l d t k e = let f : at numbers s ≡ suc (at numbers s - 1) = omega arith in omega (arith, k, h s l t (omega arith) (at numbers s - 1) f (e ∙ f))

module _ (z : Sizes) (st : State) (long : DiskLong z st.disk.numbers st.disk.accounts st.disk.maps st.disk.parents) where
  abbrev passes : Rule
  passes = disk_passes z.slots z.pages z.records z.accounts st.disk.numbers st.disk.accounts st.disk.maps st.disk.parents

  abbrev number : ℕ → ℕ
  number = at st.disk.numbers

  abbrev map : ℕ → ℕ
  map = at st.disk.maps

  pub on_disk_holds : Holds (disk_passes z.slots z.pages z.records z.accounts st.disk.numbers st.disk.accounts st.disk.maps st.disk.parents) → OnDisk z (files st)
  on_disk_holds (a, (b, (c, (d, g)))) = let m = rw long.maps_long at a in record {
    empty_account_holds = λ s h. (b s h).0;
    empty_map_holds = by_row z.slots z.pages long.within.pages (λ s i. number s ≡ 0 → map i ≡ 0) (λ s h p l e. d s h e p l);
    map_fit_holds = m.0;
    map_once_holds = m.1;
    number_once_holds = news_once z.slots st.disk.numbers c;
    account_fit_holds = λ s h. (b s h).1;
    parent_lower_holds = g;
  }

  pub disk_on : OnDisk z (files st) → Holds (disk_passes z.slots z.pages z.records z.accounts st.disk.numbers st.disk.accounts st.disk.maps st.disk.parents)
  disk_on r = (
    rw long.maps_long (r.map_fit_holds, r.map_once_holds),
    (
      λ s h. (r.empty_account_holds s h, r.account_fit_holds s h),
      (
        once_news z.slots st.disk.numbers r.number_once_holds,
        (λ s h e p l. of_row z.slots z.pages long.within.pages (λ s i. number s ≡ 0 → map i ≡ 0) r.empty_map_holds s h p l e, r.parent_lower_holds),
      ),
    ),
  )

  pub disk_told : test (disk_passes z.slots z.pages z.records z.accounts st.disk.numbers st.disk.accounts st.disk.maps st.disk.parents) ≡ test (disk_rules z st)
  disk_told = alike passes (disk_rules z st) (λ h. rules_disk z st (on_disk_holds h)) (λ h. disk_on (disk_ruled z st h))
