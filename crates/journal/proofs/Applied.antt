-- The theorems applied: two stores, a kill with the second commit open, a cut inside the recovery; and the same with a cut that loses that commit. Home at the end is shown.
use Rattle.std.proofs.Common.{◌≡◌, ℕ, Bool, false, ◌⊎◌, List, [], ◌∷◌, ◌++◌, Ok, Err, refl, ap, ◌∙◌}
use Rattle.tables.specs.Base.{all, tab}
use Rattle.tables.specs.Rule.{test}
use Rattle.journal.specs.declared.Refusal.TheVariants.{Foreign, TooMany, NoHome, NotZero}
use Rattle.journal.specs.Device.{Content, Sectors, sector_words, landed, now, carry, cut}
use Rattle.journal.specs.Layout.{Store, MAGIC, odd, next_sequence, area_at, home_at, zeros, commit_words, homes_of, commit_of, fits, valid, named}
use Rattle.journal.specs.Journal.{Protocol, journal, planned, syncs, to_area, to_home, read_back, idle, World, sequence, Act, begin, cutting, killing, look, go_on, take_up, act, run, opened, start}
use Rattle.journal.specs.Claims.{nexts, becomes, after, reached, HomeIs, WholeOrNot, OneMore, CountsForEver, Untouched}
use Rattle.journal.specs.Steps.{looked}
use Rattle.journal.proofs.Theorem.{whole_or_not, one_more, counts_for_ever}
use Rattle.journal.proofs.Refused.{untouched}

-- ── the lists ──
-- a sector of 128 words
abbrev full : ℕ → Content
full x = tab sector_words (λ i. x) 0

-- before the format each sector holds its own number
abbrev old : Sectors
old s = full s

-- areas of 2 sectors, 4 home sectors, which are sectors 5 to 8
abbrev p : Protocol
p = journal 2 4 0

abbrev first : Store
first = record { place = 0; words = full 11 } ∷ record { place = 1; words = full 12 } ∷ []

abbrev second : Store
second = record { place = 1; words = full 21 } ∷ record { place = 2; words = full 22 } ∷ []

-- the first store is reported; of the second the commit is written and open
abbrev acts : List Act
acts = nexts 2 (begin first ∷ nexts 8 (begin second ∷ nexts 4 []))

-- The program is killed. The recovery syncs, finds the second store and writes one home sector; a cut loses that write. The next recovery ends.
abbrev killed : List Act
killed = killing ∷ nexts 3 (cutting (λ i. false) ∷ nexts 5 [])

-- the power fails, and the commit is lost
abbrev lost : List Act
lost = cutting (λ i. false) ∷ nexts 5 []

abbrev end : List Act → World
end later = reached p old (acts ++ later)

-- ── the premises are met, and these stores count ──
begun : ((reached p old acts).flight ≡ second ∷ []) × ((reached p old acts).kept ≡ first ∷ [])
unfolding run act start go_on take_up look now landed carry cut to_area to_home commit_of commit_words zeros homes_of fits valid test named read_back home_at area_at odd next_sequence sequence journal planned syncs tab all
begun = (refl, refl)

killed_idle : ((end killed).mode ≡ idle 2) × ((end killed).kept ≡ second ∷ first ∷ []) × ((run p (reached p old acts) killed).mode ≡ idle 2)
unfolding run act start go_on take_up look now landed carry cut to_area to_home commit_of commit_words zeros homes_of fits valid test named read_back home_at area_at odd next_sequence sequence journal planned syncs tab all
killed_idle = (refl, refl, refl)

lost_idle : ((end lost).mode ≡ idle 1) × ((end lost).kept ≡ first ∷ []) × ((run p (reached p old acts) lost).mode ≡ idle 1)
unfolding run act start go_on take_up look now landed carry cut to_area to_home commit_of commit_words zeros homes_of fits valid test named read_back home_at area_at odd next_sequence sequence journal planned syncs tab all
lost_idle = (refl, refl, refl)

zeros_foreign : valid 2 4 (old 0) ≡ false
unfolding valid tab
zeros_foreign = refl

-- ── so home is as after them ──
-- what a read finds in home sector x
abbrev home : List Act → ℕ → Content
home later x = now (end later).device (home_at 2 x)

-- the second store's contents, whole; sectors that no store names are as they were
pub killed_home : (home killed 0 ≡ full 11) × (home killed 1 ≡ full 21) × (home killed 2 ≡ full 22) × (home killed 3 ≡ full 8)
unfolding WholeOrNot after becomes home_at journal
killed_home = (go 0, go 1, go 2, go 3)
  where
    go : (x : ℕ) → home killed x ≡ after (λ y. old (home_at 2 y)) (second ∷ first ∷ []) x
    go x = (whole_or_not 2 4 0 old (acts ++ killed) 2 killed_idle.0).1 x ∙ ap (λ (l : List Store). after (λ y. old (home_at 2 y)) l x) killed_idle.1

-- none of the second store
pub lost_home : (home lost 0 ≡ full 11) × (home lost 1 ≡ full 12) × (home lost 2 ≡ full 7) × (home lost 3 ≡ full 8)
unfolding WholeOrNot after becomes home_at journal
lost_home = (go 0, go 1, go 2, go 3)
  where
    go : (x : ℕ) → home lost x ≡ after (λ y. old (home_at 2 y)) (first ∷ []) x
    go x = (whole_or_not 2 4 0 old (acts ++ lost) 1 lost_idle.0).1 x ∙ ap (λ (l : List Store). after (λ y. old (home_at 2 y)) l x) lost_idle.1

-- ── the other theorems, on the same lists ──
-- whatever becomes of the second store, the first counts
pub first_counts : (later : List Act) → (newer : List Store) × ((run p (reached p old acts) later).kept ≡ newer ++ (first ∷ []))
unfolding CountsForEver
first_counts later = let k = counts_for_ever 2 4 0 old acts later in (k.0, k.1 ∙ ap (λ (l : List Store). k.0 ++ l) begun.1)

-- with it or without it: nothing between
abbrev Either : World → Type 0
Either w = HomeIs p old w (reached p old acts).kept ⊎ ((s : Store) × ((reached p old acts).flight ≡ s ∷ []) × HomeIs p old w (s ∷ (reached p old acts).kept))

pub either_way : Either (run p (reached p old acts) killed) × Either (run p (reached p old acts) lost)
unfolding OneMore
either_way = (one_more 2 4 0 old acts killed 2 tt killed_idle.2, one_more 2 4 0 old acts lost 1 tt lost_idle.2)

-- ── a device that no journal wrote ──
-- its sector 0 holds zeros: it is refused and left alone, whatever happens
pub foreign_stays : (acts : List Act) (lands : ℕ → Bool) → landed (run p (opened p old) acts).device.durable (run p (opened p old) acts).device.unsynced lands ≡ old
unfolding Untouched journal
foreign_stays acts = (untouched 2 4 0 old acts zeros_foreign).0

-- ── what a look says of a commit sector, and of one word of it changed ──
abbrev sector : (magic count home behind : ℕ) → Content
sector magic count home behind = magic ∷ 7 ∷ count ∷ home ∷ 1 ∷ behind ∷ zeros 122

pub looks : (looked 2 4 (sector MAGIC 2 3 0) ≡ Ok (record { sequence = 7; count = 2 })) × (looked 2 4 (sector 0 2 3 0) ≡ Err Foreign) × (looked 2 4 (sector MAGIC 3 3 0) ≡ Err TooMany) × (looked 2 4 (sector MAGIC 2 4 0) ≡ Err NoHome) × (looked 2 4 (sector MAGIC 2 3 1) ≡ Err NotZero)
unfolding looked test all zeros
looks = (refl, refl, refl, refl, refl)

-- areas larger than a commit sector can name
pub looks_over : looked 200 200 (MAGIC ∷ 7 ∷ 126 ∷ zeros 125) ≡ Err TooMany
unfolding looked
looks_over = refl
