-- The events that change one frame, and at most the address, text and switches of one page: what has to be shown for each.
use mathlib.Core.Path.{◌≡◌, refl, ap, sym, ◌∙◌, subst}
use mathlib.Core.Bool.{Bool}
use mathlib.Core.List.{List}
use mathlib.Core.Logic.{inl, inr}
use Prim.Native.Nat.{ℕ, suc, ◌+◌, ◌*◌, ◌<◌}
use native.Mathlib.Decide.{ℕ_discrete}
use lib.Dec.{T}
use lib.ListN.{set}
use lib.Seq.{get_or-set_other}
use Rattle.tables.specs.Base.{at}
use Rattle.model.specs.declared.frame.Frame.{Frame}
use Rattle.model.specs.declared.sizes.Sizes.{Sizes}
use Rattle.model.specs.Lines.{LIVE}
use Rattle.model.specs.State.{Core, Held, State, no_frame, frame_at, READING, all_pages, slot_of}
use Rattle.model.specs.Ledger.{Ledger, Pages, Note, Write}
use Rattle.crash.proofs.Link.{Opened, InFrame, Away, Tied}

-- equal but for the switches used, wired and initial
pub record Alike (a b : Frame) : Type 0 where
  pub page : a.page ≡ b.page
  pub modified : a.modified ≡ b.modified
  pub transfer : a.transfer ≡ b.transfer

pub alike_same : {a b : Frame} → a ≡ b → Alike a b
alike_same e = record { page = ap (λ (g : Frame). g.page) e; modified = ap (λ (g : Frame). g.modified) e; transfer = ap (λ (g : Frame). g.transfer) e }

pub alike_trans : {a b c : Frame} → Alike a b → Alike b c → Alike a c
alike_trans p q = record { page = p.page ∙ q.page; modified = p.modified ∙ q.modified; transfer = p.transfer ∙ q.transfer }

-- another frame than the one stored to
pub other_frame : (fs : List Frame) (f : ℕ) (a : Frame) (g : ℕ) → ¬ (g ≡ f) → Alike (frame_at (set fs f a) g) (frame_at fs g)
other_frame fs f a g e = alike_same (get_or-set_other fs f g a no_frame e)

-- the page is in no other frame than f, or in one that is being read
abbrev pub Elsewhere : Sizes → (ℕ → Frame) → ℕ → ℕ → Type 0
Elsewhere z frame f i = (g : ℕ) → g < z.frames → ¬ (g ≡ f) → (frame g).page ≡ suc i → (frame g).transfer ≡ READING

-- nor in f, that holds `new`
abbrev pub Out : Sizes → (ℕ → Frame) → ℕ → Frame → ℕ → Type 0
Out z frame f new i = Elsewhere z frame f i × (new.page ≡ suc i → new.transfer ≡ READING)

-- a page that is out of all other frames, and the frame's own page if that is being read, is away
pub away_but : (z : Sizes) (frame : ℕ → Frame) (f i : ℕ) → Elsewhere z frame f i → ((frame f).page ≡ suc i → (frame f).transfer ≡ READING) → Away z frame i
away_but z frame f i a b g h p = elim (ℕ_discrete g f) [ yes e ↦ rw e (b (rw e at p)) | no e ↦ a g h e p ]

-- what the ledger says of a frame, where the frame, its page and the notes are alike
module _ {z : Sizes} {g g' : Frame} {word word' address address' of of' : ℕ → ℕ} {text text' : ℕ → ℕ → ℕ} {touched touched' kept kept' : ℕ → Bool} {n n' : Note} {flag flag' : Bool} {x x' : Write} where
  pub in_frame_same : InFrame z g word address of text touched kept n flag x → Alike g' g → ((k : ℕ) → k < z.words → word' k ≡ word k) → n' ≡ n → flag' ≡ flag → x' ≡ x
      → ((i : ℕ) → g.page ≡ suc i → (address' i ≡ address i) × ((of' (slot_of z i) ≡ of (slot_of z i)) × (((k : ℕ) → text' i k ≡ text i k) × ((touched' i ≡ touched i) × (T (kept' i) → T (kept i))))))
      → InFrame z g' word' address' of' text' touched' kept' n' flag' x'
  in_frame_same o a ws en ef ex page = record {
    holding = λ i p. let q = sym a.page ∙ p in let c = page i q in let h = o.holding i q in record {
      place = ap (λ (m : Note). m.place) en ∙ h.place;
      design = ap (λ (m : Note). m.design) en ∙ h.design ∙ sym c.1.0;
      written = λ e. subst (λ (b : Bool). T b) (sym c.1.1.1.0) (h.written (sym a.modified ∙ e));
      clean = λ e t. h.clean (sym a.modified ∙ e) (c.1.1.1.1 t);
      turned = λ t. a.modified ∙ h.turned (subst (λ (b : Bool). T b) c.1.1.1.0 t);
      awaited = λ e t. h.awaited (sym a.transfer ∙ e) (subst (λ (b : Bool). T b) c.1.1.1.0 t);
      said = λ e k l. ws k l ∙ h.said (λ b. e (a.transfer ∙ b)) k l ∙ sym (c.1.1.0 k);
      opened = λ e. let b = h.opened (sym a.transfer ∙ e) in subst (λ (y : Write). Opened z address' of' text' i y) (sym ex) (record {
        design = b.design ∙ sym c.1.0;
        page = b.page;
        record' = c.0 ∙ b.record';
        words = λ k l. b.words k l ∙ sym (c.1.1.0 k);
      });
    };
    only = λ t. a.transfer ∙ o.only (subst (λ (b : Bool). T b) ef t);
    opened = λ e. subst (λ (b : Bool). T b) (sym ef) (o.opened (sym a.transfer ∙ e));
  }

module _ (z : Sizes) (st : State) (l : Ledger) (f : ℕ) (new : Frame) (core' : Core) (held' : Held) (used' : List ℕ) (pages' : Pages) (noted' : ℕ → Note) (flag' : ℕ → Bool) (write' : ℕ → Write) where
  abbrev pub st' : State
  st' = record { disk = st.disk; memory = record { core = core'; held = held'; slots = st.memory.slots; chip = st.memory.chip; line = st.memory.line; used = used' } }

  abbrev pub l' : Ledger
  l' = record {
    pack = l.pack;
    births = l.births;
    design = l.design;
    number = l.number;
    pages = pages';
    pending = record { noted = noted'; writing = flag'; write = write'; updating = l.pending.updating; update = l.pending.update };
    finished = l.finished;
    stored = l.stored;
  }

  abbrev frame : ℕ → Frame
  frame = frame_at st.memory.core.frames

  abbrev frame' : ℕ → Frame
  frame' = frame_at core'.frames

  abbrev address : ℕ → ℕ
  address = at st.memory.held.addresses

  abbrev address' : ℕ → ℕ
  address' = at held'.addresses

  abbrev state : ℕ → ℕ
  state = at st.memory.held.states

  abbrev state' : ℕ → ℕ
  state' = at held'.states

  abbrev active : ℕ → ℕ
  active = at st.memory.slots.active

  pub record OneFrame : Type 0 where
    pub within : f < z.frames
    pub stored : frame' f ≡ new
    -- the other frames
    pub frames : (g : ℕ) → g < z.frames → ¬ (g ≡ f) → Alike (frame' g) (frame g)
    pub words : (g n : ℕ) → g < z.frames → n < z.words → ¬ (g ≡ f) → at core'.words (g * z.words + n) ≡ at st.memory.core.words (g * z.words + n)
    pub noted : (g : ℕ) → ¬ (g ≡ f) → noted' g ≡ l.pending.noted g
    pub flag : (g : ℕ) → ¬ (g ≡ f) → flag' g ≡ l.pending.writing g
    pub write : (g : ℕ) → ¬ (g ≡ f) → write' g ≡ l.pending.write g
    -- the pages in them
    pub others : (g : ℕ) → g < z.frames → ¬ (g ≡ f) → (i : ℕ) → (frame g).page ≡ suc i → (address' i ≡ address i) × (((n : ℕ) → pages'.text i n ≡ l.pages.text i n) × (pages'.touched i ≡ l.pages.touched i))
    -- the frame
    pub here : InFrame z new (λ k. at core'.words (f * z.words + k)) address' l.design pages'.text pages'.touched pages'.kept (noted' f) (flag' f) (write' f)
    -- the pages
    pub was : (i : ℕ) → i < all_pages z → (r : ℕ) → address' i ≡ suc r → state' r ≡ LIVE → (address i ≡ suc r) × (state r ≡ LIVE)
    pub live : (i : ℕ) → i < all_pages z → T (pages'.live i) → (r : ℕ) × (address' i ≡ suc r) × (state' r ≡ LIVE)
    pub alive : (i : ℕ) → i < all_pages z → (r : ℕ) → address' i ≡ suc r → state' r ≡ LIVE → T (pages'.live i)
    pub paged : (i : ℕ) → i < all_pages z → Out z frame f new i → (r : ℕ) → address' i ≡ suc r → state' r ≡ LIVE → (n : ℕ) → n < z.words → at st.disk.records (r * z.words + n) ≡ pages'.text i n
    pub void : (i : ℕ) → i < all_pages z → active (slot_of z i) ≡ 1 → Out z frame f new i → ((r : ℕ) → address' i ≡ suc r → ¬ (state' r ≡ LIVE)) → (n : ℕ) → n < z.words → pages'.text i n ≡ 0
    pub asleep : (i : ℕ) → i < all_pages z → ¬ (active (slot_of z i) ≡ 1) → (n : ℕ) → pages'.text i n ≡ l.pages.text i n
    pub kept : (i : ℕ) → T (pages'.kept i) → T (l.pages.kept i) × ((n : ℕ) → pages'.text i n ≡ l.pages.text i n)

  pub one_frame : Tied z st l → OneFrame → Tied z st' l'
  one_frame k c = record {
    disk = record { designs = k.disk.designs; listing = k.disk.listing };
    memory = let m = k.memory in record {
      named = record {
        imaged = m.named.imaged;
        live = λ i h r p e. let t = c.was i h r p e in m.named.live i h r t.0 t.1;
        latest = λ i h r p e. let t = c.was i h r p e in m.named.latest i h r t.0 t.1;
        rested = m.named.rested;
      };
      begun = m.begun;
      lives = c.live;
      alive = c.alive;
      framed = λ g h. elim (ℕ_discrete g f) [
        | yes e ↦ subst (λ (y : ℕ). InFrame z (frame' y) (λ n. at core'.words (y * z.words + n)) address' l.design pages'.text pages'.touched pages'.kept (noted' y) (flag' y) (write' y)) (sym e)
            (subst (λ (y : Frame). InFrame z y (λ n. at core'.words (f * z.words + n)) address' l.design pages'.text pages'.touched pages'.kept (noted' f) (flag' f) (write' f)) (sym c.stored) c.here)
        | no e ↦ in_frame_same (m.framed g h) (c.frames g h e) (λ n b. c.words g n h b e) (c.noted g e) (c.flag g e) (c.write g e)
            (λ i p. let o = c.others g h e i p in (o.0, (refl, (o.1.0, (o.1.1, λ t. (c.kept i t).0)))))
      ];
      away = record { paged = λ i h a. c.paged i h (out i a); void = λ i h o a. c.void i h o (out i a) };
      filed = λ i h a n b. let o = m.filed i h a n b in (λ p. c.asleep i h a n ∙ o.0 p, λ r p. c.asleep i h a n ∙ o.1 r p);
      kept = λ i h t r n. let o = c.kept i t in let a = m.kept i h o.0 r (elim n [
        | inl p ↦ inl p
        | inr y ↦ elim y [ inl p ↦ inr (inl p) | inr p ↦ inr (inr (c.was i h r p.0 p.1)) ]
      ]) in record { latest = a.latest; words = λ x b. o.1 x ∙ a.words x b };
    };
  }
    where
      out : (i : ℕ) → Away z frame' i → Out z frame f new i
      out i a = (λ g h e p. sym (c.frames g h e).transfer ∙ a g h ((c.frames g h e).page ∙ p), λ p. sym (ap (λ (x : Frame). x.transfer) c.stored) ∙ a f c.within (ap (λ (x : Frame). x.page) c.stored ∙ p))
