-- A page in a frame that counts as used by that: one more for its account, where its address is not live.
use mathlib.Core.Path.{◌≡◌, refl, sym, ◌∙◌}
use mathlib.Core.Bool.{Bool}
use mathlib.Core.List.{List}
use Prim.Native.Nat.{ℕ, ◌+◌, ◌-◌, ◌/◌, ◌<◌, ◌≤◌}
use native.Mathlib.Omega.{arith}
use native.Mathlib.Decide.{ℕ_discrete}
use lib.ListN.{length, set}
use lib.Seq.{get_or-set_same, get_or-set_other}
use Rattle.tables.specs.Base.{at, if, count}
use Rattle.tables.specs.Laws.{count_bound}
use Rattle.tables.specs.Rule.{Rule, same, below, each, Holds, test, told, untold, decided}
use Rattle.rules.specs.Passes.{live_page, framed_page, framed_pages, framed_table}
use Rattle.rules.proofs.Tally.{count_start, count_next}

module _ (pages page : ℕ) (account address state : ℕ → ℕ) (t : List ℕ) where
  abbrev charges : ℕ → Rule
  charges q = framed_page pages q page account address state

  same_as : (q : ℕ) → ¬ (Holds (charges q)) → at t q ≡ at t q + if (test (charges q)) 1 0
  same_as q d = rw (untold (charges q) d) (omega arith)

  pub charge_none : page ≡ 0 → Holds (each 16 λ q. same (at t q) (at t q + if (test (framed_page pages q page account address state)) 1 0))
  charge_none z q h = same_as q (λ x. omega (arith, z, x.1))

  module _ (some : ¬ (page ≡ 0)) (x : ℕ) (says : x ≡ if (test (live_page (address (page - 1)) state)) 1 0) where
    abbrev live : Rule
    live = live_page (address (page - 1)) state

    pub charge_live : ¬ (x ≡ 0) → Holds (each 16 λ q. same (at t q) (at t q + if (test (framed_page pages q page account address state)) 1 0))
    charge_live d q h = same_as q (λ y. let e : page - 1 ≡ y.0 = omega (arith, y.1) in y.2.1 (rw e at is_live_holds))
      where
        is_live_holds : Holds (live_page (address (page - 1)) state)
        is_live_holds = elim (decided live) [ yes l ↦ l | no l ↦ absurd (d (says ∙ rw (untold live l))) ]

    pub charge_more : x ≡ 0 → length t ≡ 16 → account ((page - 1) / pages) < 16
        → Holds (each 16 λ q. same (at (set t (account ((page - 1) / pages)) (at t (account ((page - 1) / pages)) + 1)) q) (at t q + if (test (framed_page pages q page account address state)) 1 0))
    charge_more z sized less q h = elim (ℕ_discrete a q) [
      | yes e ↦ rw (told (charges q) (page - 1, omega arith, (e, dead))) (rw (← e) (get_or-set_same t a (at t a + 1) 0 (omega (arith, sized))))
      | no e ↦ get_or-set_other t a q (at t a + 1) 0 (λ y. e (sym y)) ∙ same_as q (λ y. let i : page - 1 ≡ y.0 = omega (arith, y.1) in e (rw (← i) at y.2.0))
    ]
      where
        a : ℕ
        a = account ((page - 1) / pages)

        dead : ¬ (Holds live)
        dead l = let e : ◌≡◌ {A = ℕ} x 1 = says ∙ rw (told live l) in omega arith

-- ── along the frames ──
module _ (pages : ℕ) (page : ℕ → ℕ) (account addresses states t : List ℕ) where
  -- t' is t with the pages of the first n frames counted too
  pub record Tallied (n : ℕ) (t' : List ℕ) : Type 0 where
    pub sized : length t' ≡ 16
    pub counted : (q : ℕ) → q < 16 → at t' q ≡ at t q + framed_pages n pages q page account addresses states

  abbrev counts : ℕ → ℕ → Bool
  counts q f = test (framed_page pages q (page f) (at account) (at addresses) (at states))

  pub tallied_none : length t ≡ 16 → Tallied 0 t
  tallied_none e = record { sized = e; counted = λ q h. omega (arith, count_start (counts q)) }

  module _ (n : ℕ) (t' : List ℕ) (p : Tallied n t') where
    pub tallied_next : (t'' : List ℕ) → length t'' ≡ length t' → Holds (each 16 λ q. same (at t'' q) (at t' q + if (test (framed_page pages q (page n) (at account) (at addresses) (at states))) 1 0)) → Tallied (n + 1) t''
    tallied_next t'' e h = record {
      sized = e ∙ p.sized;
      counted = λ q l. let k = count_next n (count n (counts q)) (if (counts q n) 1 0) (counts q) refl refl in omega (arith, h q l, p.counted q l, k);
    }

    pub tallied_few : n ≤ 64 → Holds (each 16 λ q. below (at t q) 32768) → Holds (each 16 λ q. below (at t' q) 65536)
    tallied_few few small q h = omega (arith, p.counted q h, small q h, count_bound n (counts q))

    pub tallied_all : (m : ℕ) → n ≤ m → m ≤ n → Holds (framed_table m pages page account addresses states t t')
    tallied_all m a b q h = let e : n ≡ m = omega arith in rw e at (p.counted q h)
