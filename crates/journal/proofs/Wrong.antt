-- Protocols that the claims deny: each differs from the journal in one thing, and has a list of acts that it fails on, computed.
use Rattle.std.proofs.Common.{◌≡◌, ℕ, suc, true, not, eqb, ltb, ◌⊎◌, List, [], ◌∷◌, ◌++◌, sym, refl, ap, ◌∙◌, subst, inl, inr, arith}
use Rattle.tables.specs.Base.{all, at, tab}
use Rattle.tables.specs.Rule.{test}
use Rattle.journal.specs.Device.{Content, Sectors, landed, now, Op, sync, carry, cut}
use Rattle.journal.specs.Layout.{Store, odd, next_sequence, area_at, home_at, zeros, commit_words, homes_of, commit_of, fits, valid, named}
use Rattle.journal.specs.Journal.{Protocol, to_area, to_home, commit, read_back, idle, World, sequence, Act, begin, cutting, killing, look, go_on, take_up, act, run, start}
use Rattle.journal.specs.Claims.{nexts, becomes, after, quiet, reached, HomeIs, WholeOrNot, OneMore}

-- ── what it is to fail ──
-- home before the first store: empty sectors
abbrev blank : Sectors
blank s = []

-- a home sector whose first word is not that after these stores
record Differs (p : Protocol) (w : World) (stores : List Store) : Type 0 where
  pub sector : ℕ
  pub finds : ℕ
  pub wants : ℕ
  pub found : at (now w.device (home_at p.most sector)) 0 ≡ finds
  pub wanted : at (after (λ x. []) stores sector) 0 ≡ wants
  pub apart : ¬ (finds ≡ wants)

not_home : (p : Protocol) (w : World) (stores : List Store) → Differs p w stores → ¬ HomeIs p blank w stores
not_home p w stores d h = d.apart (sym d.found ∙ ap (λ (c : Content). at c 0) (h d.sector) ∙ d.wanted)

-- Acts with a store in flight at their end, and quiet ones after them: the journal is idle, and home is as after none of what it may be.
record Fails (p : Protocol) : Type 0 where
  pub acts : List Act
  pub later : List Act
  pub calm : quiet later
  pub flying : Store
  pub flight : (reached p blank acts).flight ≡ flying ∷ []
  pub number : ℕ
  pub idles : (run p (reached p blank acts) later).mode ≡ idle number
  -- the stores that count; those that counted before; those and the one in flight
  pub counted : Differs p (run p (reached p blank acts) later) (run p (reached p blank acts) later).kept
  pub without : Differs p (run p (reached p blank acts) later) (reached p blank acts).kept
  pub with_it : Differs p (run p (reached p blank acts) later) (flying ∷ (reached p blank acts).kept)

run_on : (p : Protocol) (w : World) (acts later : List Act) → run p w (acts ++ later) ≡ run p (run p w acts) later
unfolding run
run_on p w [] later = refl
run_on p w (a ∷ acts) later = run_on p (act p w a) acts later

first_of : List Store → Store
first_of [] = []
first_of (s ∷ rest) = s

abbrev Denied : Protocol → Type 0
Denied p = (¬ WholeOrNot p) × (¬ OneMore p)

denied : (p : Protocol) → Fails p → Denied p
unfolding WholeOrNot OneMore first_of
denied p k = (whole, more)
  where
    whole : ¬ WholeOrNot p
    whole h = not_home p _ _ k.counted (subst (λ (w : World). w.mode ≡ idle k.number → HomeIs p blank w w.kept) (run_on p (start blank) k.acts k.later) (λ e. (h blank (k.acts ++ k.later) k.number e).1) k.idles)

    go : HomeIs p blank (run p (reached p blank k.acts) k.later) (reached p blank k.acts).kept ⊎ ((s : Store) × ((reached p blank k.acts).flight ≡ s ∷ []) × HomeIs p blank (run p (reached p blank k.acts) k.later) (s ∷ (reached p blank k.acts).kept)) → ⊥
    go (inl h) = not_home p _ _ k.without h
    go (inr h) = not_home p _ _ k.with_it (subst (λ (s : Store). HomeIs p blank (run p (reached p blank k.acts) k.later) (s ∷ (reached p blank k.acts).kept)) (ap first_of (sym h.1 ∙ k.flight)) h.2)

    more : ¬ OneMore p
    more h = go (h blank k.acts k.later k.number k.calm k.idles)

-- ── the lists ──
-- two home sectors at once
abbrev first : Store
first = record { place = 0; words = 11 ∷ [] } ∷ record { place = 1; words = 12 ∷ [] } ∷ []

abbrev second : Store
second = record { place = 2; words = 21 ∷ [] } ∷ record { place = 3; words = 22 ∷ [] } ∷ []

-- Areas of 2 sectors and 4 home sectors, with this plan, and a recovery that does so before its look and before its way home.
abbrev wrong : (ℕ → ℕ → ℕ) → (ℕ → Store → List Op) → List Op → List Op → Protocol
wrong area plan before_look before_home = record { most = 2; room = 4; area = area; plan = plan; before_look = before_look; before_home = before_home; after_home = [] }

-- the journal's own plan
abbrev right : ℕ → Store → List Op
right n s = to_area 2 (area_at 2 n) 0 s ++ (sync ∷ commit 2 n s ∷ sync ∷ to_home 2 s)

-- ── home before the commit: one home sector lands, the other and the commit do not ──
abbrev home_first : Protocol
home_first = wrong (area_at 2) (λ n s. to_area 2 (area_at 2 n) 0 s ++ (sync ∷ (to_home 2 s ++ (commit 2 n s ∷ sync ∷ [])))) (sync ∷ []) []

home_first_fails : Fails home_first
unfolding run act start go_on take_up look now landed carry cut to_area to_home commit_of commit_words zeros homes_of fits valid test named read_back becomes after home_at area_at odd next_sequence sequence tab all
home_first_fails = record {
  acts = nexts 2 (begin first ∷ nexts 5 []);
  later = cutting (λ i. eqb i 0) ∷ nexts 3 [];
  calm = tt;
  flying = first;
  flight = refl;
  number = 0;
  idles = refl;
  counted = record { sector = 1; finds = 12; wants = 0; found = refl; wanted = refl; apart = omega arith };
  without = record { sector = 1; finds = 12; wants = 0; found = refl; wanted = refl; apart = omega arith };
  with_it = record { sector = 0; finds = 0; wants = 11; found = refl; wanted = refl; apart = omega arith };
}

pub home_first_denied : Denied home_first
home_first_denied = denied home_first home_first_fails

-- ── no first sync: the commit lands, one content does not ──
abbrev no_first_sync : Protocol
no_first_sync = wrong (area_at 2) (λ n s. to_area 2 (area_at 2 n) 0 s ++ (commit 2 n s ∷ sync ∷ to_home 2 s)) (sync ∷ []) []

no_first_sync_fails : Fails no_first_sync
unfolding run act start go_on take_up look now landed carry cut to_area to_home commit_of commit_words zeros homes_of fits valid test named read_back becomes after home_at area_at odd next_sequence sequence tab all
no_first_sync_fails = record {
  acts = nexts 2 (begin first ∷ nexts 3 []);
  later = cutting (λ i. ltb i 2) ∷ nexts 5 [];
  calm = tt;
  flying = first;
  flight = refl;
  number = 1;
  idles = refl;
  counted = record { sector = 0; finds = 0; wants = 11; found = refl; wanted = refl; apart = omega arith };
  without = record { sector = 1; finds = 12; wants = 0; found = refl; wanted = refl; apart = omega arith };
  with_it = record { sector = 0; finds = 0; wants = 11; found = refl; wanted = refl; apart = omega arith };
}

pub no_first_sync_denied : Denied no_first_sync
no_first_sync_denied = denied no_first_sync no_first_sync_fails

-- ── no second sync: one home sector lands, the commit does not ──
abbrev no_second_sync : Protocol
no_second_sync = wrong (area_at 2) (λ n s. to_area 2 (area_at 2 n) 0 s ++ (sync ∷ commit 2 n s ∷ to_home 2 s)) (sync ∷ []) []

no_second_sync_fails : Fails no_second_sync
unfolding run act start go_on take_up look now landed carry cut to_area to_home commit_of commit_words zeros homes_of fits valid test named read_back becomes after home_at area_at odd next_sequence sequence tab all
no_second_sync_fails = record {
  acts = nexts 2 (begin first ∷ nexts 6 []);
  later = cutting (λ i. eqb i 0) ∷ nexts 3 [];
  calm = tt;
  flying = first;
  flight = refl;
  number = 0;
  idles = refl;
  counted = record { sector = 1; finds = 12; wants = 0; found = refl; wanted = refl; apart = omega arith };
  without = record { sector = 1; finds = 12; wants = 0; found = refl; wanted = refl; apart = omega arith };
  with_it = record { sector = 0; finds = 0; wants = 11; found = refl; wanted = refl; apart = omega arith };
}

pub no_second_sync_denied : Denied no_second_sync
no_second_sync_denied = denied no_second_sync no_second_sync_fails

-- ── one area: the second store's contents land over those that the commit still names ──
abbrev one_area : Protocol
one_area = wrong (λ n i. suc i) (λ n s. to_area 2 suc 0 s ++ (sync ∷ commit 2 n s ∷ sync ∷ to_home 2 s)) (sync ∷ []) []

one_area_fails : Fails one_area
unfolding run act start go_on take_up look now landed carry cut to_area to_home commit_of commit_words zeros homes_of fits valid test named read_back becomes after home_at area_at odd next_sequence sequence tab all
one_area_fails = record {
  acts = nexts 2 (begin first ∷ nexts 8 (begin second ∷ nexts 2 []));
  later = cutting (λ i. ltb i 2) ∷ nexts 5 [];
  calm = tt;
  flying = second;
  flight = refl;
  number = 1;
  idles = refl;
  counted = record { sector = 0; finds = 21; wants = 11; found = refl; wanted = refl; apart = omega arith };
  without = record { sector = 0; finds = 21; wants = 11; found = refl; wanted = refl; apart = omega arith };
  with_it = record { sector = 0; finds = 21; wants = 11; found = refl; wanted = refl; apart = omega arith };
}

pub one_area_denied : Denied one_area
one_area_denied = denied one_area one_area_fails

-- ── a recovery that clears the commit first: at a cut in it, the clearing and one home sector land ──
abbrev clear_first : Protocol
clear_first = wrong (area_at 2) right (sync ∷ []) (commit 2 0 [] ∷ [])

clear_first_fails : Fails clear_first
unfolding run act start go_on take_up look now landed carry cut to_area to_home commit_of commit_words zeros homes_of fits valid test named read_back becomes after home_at area_at odd next_sequence sequence tab all
clear_first_fails = record {
  acts = nexts 3 (begin first ∷ nexts 5 []);
  later = cutting (λ i. true) ∷ nexts 5 (cutting (λ i. not (eqb i 1)) ∷ nexts 4 []);
  calm = tt;
  flying = first;
  flight = refl;
  number = 0;
  idles = refl;
  counted = record { sector = 0; finds = 0; wants = 11; found = refl; wanted = refl; apart = omega arith };
  without = record { sector = 1; finds = 12; wants = 0; found = refl; wanted = refl; apart = omega arith };
  with_it = record { sector = 0; finds = 0; wants = 11; found = refl; wanted = refl; apart = omega arith };
}

pub clear_first_denied : Denied clear_first
clear_first_denied = denied clear_first clear_first_fails

-- ── a recovery that looks before it syncs: after a kill it goes by a commit that is open, and a cut takes that and half of home ──
abbrev looks_first : Protocol
looks_first = wrong (area_at 2) right [] []

looks_first_fails : Fails looks_first
unfolding run act start go_on take_up look now landed carry cut to_area to_home commit_of commit_words zeros homes_of fits valid test named read_back becomes after home_at area_at odd next_sequence sequence tab all
looks_first_fails = record {
  acts = nexts 2 (begin first ∷ nexts 4 []);
  later = killing ∷ nexts 3 (cutting (λ i. eqb i 0) ∷ nexts 2 []);
  calm = tt;
  flying = first;
  flight = refl;
  number = 0;
  idles = refl;
  counted = record { sector = 0; finds = 0; wants = 11; found = refl; wanted = refl; apart = omega arith };
  without = record { sector = 1; finds = 12; wants = 0; found = refl; wanted = refl; apart = omega arith };
  with_it = record { sector = 0; finds = 0; wants = 11; found = refl; wanted = refl; apart = omega arith };
}

pub looks_first_denied : Denied looks_first
looks_first_denied = denied looks_first looks_first_fails
