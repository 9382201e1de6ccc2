-- The sectors after a cut: the commit sector names store n, it is whole in its area, and brought home it gives home as after n stores.
use Rattle.std.proofs.Common.{◌≡◌, ℕ, ◌<◌, T, eqb, ◌∷◌, sym, ap, ◌∙◌, subst, arith, ne_eqb}
use native.Mathlib.Decide.{ℕ_discrete}
use Rattle.tables.specs.Base.{if}
use Rattle.journal.specs.Device.{Content, Sectors, Write, put}
use Rattle.journal.specs.Layout.{Store, commit_at, next_sequence, area_at, home_at, commit_of, fits}
use Rattle.journal.specs.Claims.{becomes}
use Rattle.journal.specs.Laws.Commits.{in_area}
use Rattle.journal.proofs.Places.{put_here, put_there, area_commit, home_commit, home_area, area_next, home_put}
use Rattle.journal.proofs.Stores.{Overwrites, InArea, in_area_put}

module _ (most room : ℕ) where
  -- home is as H says
  abbrev pub Home : Sectors → Sectors → Type 0
  Home H f = (x : ℕ) → f (home_at most x) ≡ H x

  -- .. or will be once r is brought there
  abbrev pub Rest : Sectors → Store → Sectors → Type 0
  Rest H r f = (x : ℕ) → becomes r x (f (home_at most x)) ≡ H x

  pub record Good (n : ℕ) (s : Store) (H f : Sectors) : Type 0 where
    pub fit : T (fits most room s)
    pub names : f commit_at ≡ commit_of n s
    pub whole : InArea f (area_at most n) 0 s
    pub restores : Rest H s f

  -- ── what leaves that as it is ──
  -- a content of the next store
  pub good_next : (n : ℕ) (s : Store) (H f : Sectors) (j : ℕ) (c : Content) → j < most → Good n s H f → Good n s H (put (record { place = area_at most (next_sequence n) j; words = c }) f)
  good_next n s H f j c h g = record {
    fit = g.fit;
    names = put_there (area_at most (next_sequence n) j) commit_at c f (λ e. area_commit most (next_sequence n) j (sym e)) ∙ g.names;
    whole = in_area_put s (area_at most n) 0 (area_at most (next_sequence n) j) c f (λ i a b. area_next most n i j (omega (arith, b, in_area most room s g.fit)) h) g.whole;
    restores = λ x. ap (becomes s x) (put_there (area_at most (next_sequence n) j) (home_at most x) c f (home_area most x (next_sequence n) j h)) ∙ g.restores x;
  }

  -- a write home of what the store overwrites
  pub good_home : (n : ℕ) (s : Store) (H f : Sectors) (y : ℕ) (c : Content) → Overwrites s y → Good n s H f → Good n s H (put (record { place = home_at most y; words = c }) f)
  good_home n s H f y c o g = record {
    fit = g.fit;
    names = put_there (home_at most y) commit_at c f (λ e. home_commit most y (sym e)) ∙ g.names;
    whole = in_area_put s (area_at most n) 0 (home_at most y) c f (λ i a b e. home_area most y n i (omega (arith, b, in_area most room s g.fit)) (sym e)) g.whole;
    restores = λ x. ap (becomes s x) (home_put most x y c f) ∙ same x (ℕ_discrete x y) ∙ g.restores x;
  }
    where
      same : (x : ℕ) → Dec (x ≡ y) → becomes s x (if (eqb x y) c (f (home_at most x))) ≡ becomes s x (f (home_at most x))
      same x (yes e) = subst (λ (v : ℕ). Overwrites s v) (sym e) o _ _
      same x (no e) = rw (ne_eqb x y e)

  -- ── the commit ──
  -- all that the commit of store n rests on
  pub record Ready (n : ℕ) (s : Store) (H f : Sectors) : Type 0 where
    pub fit : T (fits most room s)
    pub whole : InArea f (area_at most n) 0 s
    pub home : Home H f

  -- committed, and nothing of it home yet
  pub record Committed (n : ℕ) (s : Store) (H f : Sectors) : Type 0 where
    pub ready : Ready n s H f
    pub names : f commit_at ≡ commit_of n s

  pub commits : (n : ℕ) (s : Store) (H f : Sectors) → Ready n s H f → Committed n s H (put (record { place = commit_at; words = commit_of n s }) f)
  commits n s H f r = record {
    ready = record {
      fit = r.fit;
      whole = in_area_put s (area_at most n) 0 commit_at (commit_of n s) f (λ i a b. area_commit most n i) r.whole;
      home = λ x. put_there commit_at (home_at most x) (commit_of n s) f (home_commit most x) ∙ r.home x;
    };
    names = put_here commit_at (commit_of n s) f;
  }

  -- then it is the store that a recovery finds
  pub committed_good : (n : ℕ) (s : Store) (H f : Sectors) → Committed n s H f → Good n s (λ x. becomes s x (H x)) f
  committed_good n s H f c = record { fit = c.ready.fit; names = c.names; whole = c.ready.whole; restores = λ x. ap (becomes s x) (c.ready.home x) }

  -- ── one more write home ──
  pub rest_home : (H f : Sectors) (w : Write) (r : Store) → Rest H (w ∷ r) f → Rest H r (put (record { place = home_at most w.place; words = w.words }) f)
  unfolding becomes
  rest_home H f w r h x = ap (becomes r x) (home_put most x w.place w.words f) ∙ h x
