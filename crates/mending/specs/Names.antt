-- How often records are named, counted up to 2; and of which slots the number stands in a lower one, while the pass goes on.
use Rattle.std.specs.Prelude.{◌≡◌, refl, Bool, List, ℕ, zero, suc, ◌+◌, ◌<◌, ◌≤◌, eqb, length, set, replicate}
use Rattle.std.proofs.Common.{ap, sym, ◌∙◌, inl, inr, arith, eqb→eq, length-set, get_or-set_same, get_or-set_other}
use Rattle.std.proofs.Math.Decide.{ℕ_discrete}
use Rattle.tables.specs.Base.{at, find}
use Rattle.tables.specs.Laws.{Found, found, eq→T}
use Rattle.tables.specs.Rule.{Rule, Holds, same, below, non, ◌and◌, each, some}
use Rattle.tables.specs.Store.{Split, choose, at_choose}
use Rattle.tables.specs.Turn.{Passed}
use Rattle.tables.specs.StoreLoops.{Turned, stored, turned_at}
use Rattle.mending.specs.Passes.{zeroed}

-- ── names ──
-- v tells how often the first k entries name record r: not, once, or more often
pub data Seen (map : ℕ → ℕ) (k r v : ℕ) : Type 0 where
  never : v ≡ 0 → ((i : ℕ) → i < k → ¬ (map i ≡ suc r)) → Seen map k r v
  once : v ≡ 1 → (i : ℕ) → i < k → map i ≡ suc r → ((j : ℕ) → j < k → map j ≡ suc r → j ≡ i) → Seen map k r v
  more : v ≡ 2 → (i j : ℕ) → i < k → j < k → ¬ (i ≡ j) → map i ≡ suc r → map j ≡ suc r → Seen map k r v

-- .. of n records, in a table
pub record Tally (map : ℕ → ℕ) (k n : ℕ) (named : List ℕ) : Type 0 where
  pub long : length named ≡ n
  pub seen : (r : ℕ) → r < n → Seen map k r (at named r)

-- entry k names another record
seen_other : {map : ℕ → ℕ} {k r v : ℕ} → ¬ (map k ≡ suc r) → Seen map k r v → Seen map (k + 1) r v
seen_other {map} {k} {r} d (never e f) = never e (λ i h. elim (ℕ_discrete i k) [ yes c ↦ rw c d | no c ↦ f i (omega arith) ])
seen_other {map} {k} {r} d (once e i h a f) = once e i (omega arith) a (λ j l b. elim (ℕ_discrete j k) [ yes c ↦ absurd (d (rw c at b)) | no c ↦ f j (omega arith) b ])
seen_other d (more e i j h l n a b) = more e i j (omega arith) (omega arith) n a b

-- it names this one: one more, or still 2
seen_more : {map : ℕ → ℕ} {k r v : ℕ} → map k ≡ suc r → v < 2 → Seen map k r v → Seen map (k + 1) r (v + 1)
seen_more {map} {k} {r} {v} m l (never e f) = once (omega arith) k (omega arith) m (λ j h b. elim (ℕ_discrete j k) [ yes c ↦ c | no c ↦ absurd (f j (omega arith) b) ])
seen_more {map} {k} {r} {v} m l (once e i h a f) = more (omega arith) i k (omega arith) (omega arith) (λ c. omega (arith, c, h)) a m
seen_more m l (more e i j h o n a b) = absurd (omega (arith, e, l))

seen_full : {map : ℕ → ℕ} {k r v : ℕ} → ¬ (v < 2) → Seen map k r v → Seen map (k + 1) r v
seen_full l (never e f) = absurd (l (omega arith))
seen_full l (once e i h a f) = absurd (l (omega arith))
seen_full l (more e i j h o n a b) = more e i j (omega arith) (omega arith) n a b

pub tally_none : (map : ℕ → ℕ) (named : List ℕ) → Holds (each (length named) (λ r. same (at named r) 0)) → Tally map 0 (length named) named
tally_none map named z = record { long = refl; seen = λ r h. never (z r h) (λ i l. absurd (omega (arith, l))) }

pub tally_by : {map : ℕ → ℕ} {k n : ℕ} {named named' : List ℕ} → Tally map k n named → named' ≡ named → Tally map k n named'
tally_by t e = rw e t

-- a table of zeros
pub zeros : (n r : ℕ) → at (replicate n 0) r ≡ 0
zeros zero r = refl
zeros (suc n) zero = refl
zeros (suc n) (suc r) = zeros n r

module _ {map : ℕ → ℕ} {k n : ℕ} {named : List ℕ} (t : Tally map k n named) where
  -- entry k names none
  pub tally_pass : map k ≡ 0 → Tally map (k + 1) n named
  tally_pass e = record { long = t.long; seen = λ r h. seen_other (λ c. omega (arith, c, e)) (t.seen r h) }

  -- .. one that was not named twice
  pub tally_one : (r : ℕ) → map k ≡ suc r → r < n → at named r < 2 → Tally map (k + 1) n (set named r (at named r + 1))
  tally_one r e b l = record {
    long = length-set named r (at named r + 1) ∙ t.long;
    seen = λ q h. elim (ℕ_discrete q r) [
      | yes c ↦ rw c (rw (get_or-set_same named r (at named r + 1) 0 (omega (arith, t.long, b))) (seen_more e l (t.seen r b)))
      | no c ↦ rw (get_or-set_other named r q (at named r + 1) 0 c) (seen_other (λ x. c (omega (arith, x, e))) (t.seen q h))
    ];
  }

  -- .. one that was
  pub tally_full : (r : ℕ) → map k ≡ suc r → r < n → ¬ (at named r < 2) → Tally map (k + 1) n named
  tally_full r e b l = record { long = t.long; seen = λ q h. elim (ℕ_discrete q r) [ yes c ↦ rw c (seen_full l (t.seen r b)) | no c ↦ seen_other (λ x. c (omega (arith, x, e))) (t.seen q h) ] }

-- named twice exactly where 2 is counted
abbrev pub Twice : (ℕ → ℕ) → ℕ → ℕ → Type 0
Twice map k r = (i : ℕ) × (i < k) × ((j : ℕ) × (j < k) × ((¬ (i ≡ j)) × ((map i ≡ suc r) × (map j ≡ suc r))))

seen_twice : {map : ℕ → ℕ} {k r v : ℕ} → Seen map k r v → v ≡ 2 → Twice map k r
seen_twice (never a f) e = absurd (omega (arith, a, e))
seen_twice (once a i l b f) e = absurd (omega (arith, a, e))
seen_twice (more a i j l o n b c) e = (i, l, (j, o, (n, (b, c))))

twice_seen : {map : ℕ → ℕ} {k r v : ℕ} → Seen map k r v → Twice map k r → v ≡ 2
twice_seen (never e f) (i, l, (j, o, (n, (a, b)))) = absurd (f i l a)
twice_seen (once e x m c f) (i, l, (j, o, (n, (a, b)))) = absurd (n (f i l a ∙ sym (f j o b)))
twice_seen (more e x y m p q c g) t = e

pub tally_twice : {map : ℕ → ℕ} {k n : ℕ} {named : List ℕ} → Tally map k n named → (r : ℕ) → r < n → at named r ≡ 2 → Twice map k r
tally_twice t r h e = seen_twice (t.seen r h) e

pub twice_tally : {map : ℕ → ℕ} {k n : ℕ} {named : List ℕ} → Tally map k n named → (r : ℕ) → r < n → Twice map k r → at named r ≡ 2
twice_tally t r h w = twice_seen (t.seen r h) w

-- ── doubled slots: the pass looks at the numbers that are left so far ──
abbrev pub doubled_in : List ℕ → ℕ → Rule
doubled_in ns s = non (same (at ns s) 0) and some s λ t. same (at ns t) (at ns s)

-- no slot below has the number
pub never_doubled : (ns : List ℕ) (s t : ℕ) → Passed t (λ k. non (same (at ns k) (at ns s))) → s ≤ t → ¬ (Holds (doubled_in ns s))
unfolding Passed
never_doubled ns s t p h (nz, (k, l, e)) = p k (omega arith) e

-- what stands at an entry that the loop has passed
passed_at : {l m : List ℕ} {t : ℕ → Rule} {k : ℕ} → Turned l t zeroed k m → (i : ℕ) → i < length l → i < k → Split (Holds (t i)) (at m i) 0 (at l i)
unfolding stored
passed_at {l} {m} {t} {k} d i h b = let e : at m i ≡ at (choose (length l) (λ j. t j and below j k) zeroed (at l)) i = ap (λ (x : List ℕ). at x i) d.so_far in
    elim (at_choose (length l) (λ j. t j and below j k) zeroed (at l) i h) [ inl a ↦ inl (a.0.0, e ∙ a.1) | inr a ↦ inr (λ x. a.0 (x, b), e ∙ a.1) ]

module _ {ns₀ ns : List ℕ} {s : ℕ} (h : s < length ns₀) (d : Turned ns₀ (λ t. non (same (at ns₀ t) 0) and doubled_in ns₀ t) zeroed s ns) where
  here : at ns s ≡ at ns₀ s
  here = turned_at s d s (omega arith)

  pub doubled_from : Holds (doubled_in ns s) → Holds (doubled_in ns₀ s)
  doubled_from (nz, (t, l, e)) = (λ z. nz (here ∙ z), (t, l, elim (passed_at d t (omega (arith, l, h)) l) [ inl a ↦ absurd (nz (sym e ∙ a.1)) | inr a ↦ sym a.1 ∙ e ∙ here ]))

  -- the lowest slot of that number is still there
  pub doubled_to : Holds (doubled_in ns₀ s) → Holds (doubled_in ns s)
  doubled_to (nz, (t, l, e)) =
      let p : ℕ → Bool = λ k. eqb (at ns₀ k) (at ns₀ s) in
      let o : Found s p 0 (find s p 0) = found s p 0 t (omega arith) (omega (arith, l)) (eq→T e) in
      let f : ℕ = find s p 0 in
      let b : f < s = omega (arith, o.inside) in
      let v : at ns₀ f ≡ at ns₀ s = eqb→eq (at ns₀ f) (at ns₀ s) o.passes in
      let low : ¬ (Holds (non (same (at ns₀ f) 0) and doubled_in ns₀ f)) = λ c. let w = c.1.1 in o.first w.0 (omega arith) w.1 (eq→T (w.2 ∙ v)) in
      (λ z. nz (sym here ∙ z), (f, b, elim (passed_at d f (omega (arith, b, h)) b) [ inl a ↦ absurd (low a.0) | inr a ↦ a.1 ∙ v ∙ sym here ]))
