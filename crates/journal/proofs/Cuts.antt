-- What holds of every cut's sectors, and what a read finds, along writes and syncs.
use Rattle.std.proofs.Common.{◌≡◌, ℕ, suc, Bool, true, false, List, [], ◌∷◌, refl}
use Rattle.tables.specs.Base.{if}
use Rattle.journal.specs.Device.{Sectors, Write, put, Device, landed, now, Op, write, sync, carry, cut}

-- whatever lands, P holds of the sectors
abbrev pub Always : (Sectors → Type 0) → Device → Type 0
Always P d = (lands : ℕ → Bool) → P (landed d.durable d.unsynced lands)

-- P holds of what a read finds
abbrev pub Now : (Sectors → Type 0) → Device → Type 0
Now P d = P (now d)

pub always_now : (P : Sectors → Type 0) (d : Device) → Always P d → Now P d
unfolding now
always_now P d a = a (λ i. true)

-- ── a write ──
pub always_write : (P Q : Sectors → Type 0) (w : Write) (d : Device) → ((f : Sectors) → P f → Q f) → ((f : Sectors) → P f → Q (put w f)) → Always P d → Always Q (carry (write w) d)
unfolding carry landed
always_write P Q w d same put_Keeps a lands = go (lands 0) (a (λ i. lands (suc i)))
  where
    go : (b : Bool) → P (landed d.durable d.unsynced (λ i. lands (suc i))) → Q (if b (put w (landed d.durable d.unsynced (λ i. lands (suc i)))) (landed d.durable d.unsynced (λ i. lands (suc i))))
    go true h = put_Keeps _ h
    go false h = same _ h

pub now_write : (w : Write) (d : Device) → now (carry (write w) d) ≡ put w (now d)
unfolding now carry landed
now_write w d = refl

-- ── a sync ──
pub now_sync : (d : Device) → now (carry sync d) ≡ now d
unfolding now carry landed
now_sync d = refl

pub always_sync : (P : Sectors → Type 0) (d : Device) → Now P d → Always P (carry sync d)
unfolding carry landed
always_sync P d h lands = h

-- ── a cut ──
pub always_cut : (P : Sectors → Type 0) (lands : ℕ → Bool) (d : Device) → P (landed d.durable d.unsynced lands) → Always P (cut lands d)
unfolding cut landed
always_cut P lands d h others = h

-- ── operations one after another: before each, and at the end, a cut is safe; at the end the work is done ──
abbrev pub Runs : (Safe End : Device → Type 0) → List Op → Device → Type 0
Runs Safe End [] d = Safe d × End d
Runs Safe End (o ∷ ops) d = Safe d × Runs Safe End ops (carry o d)

pub runs_safe : (Safe End : Device → Type 0) (ops : List Op) (d : Device) → Runs Safe End ops d → Safe d
runs_safe Safe End [] d r = r.0
runs_safe Safe End (o ∷ ops) d r = r.0
