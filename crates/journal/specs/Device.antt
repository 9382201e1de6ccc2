-- A device of sectors that tears: what was written since the last sync is open, and at a cut each open write lands or not, in any mix.
use Rattle.std.specs.Prelude.{ℕ, suc, Bool, true, List, [], ◌∷◌, ◌==◌}
use Rattle.tables.specs.Base.{if}

-- how many words a sector has
abbrev pub sector_words : ℕ
sector_words = 128

-- what a sector holds: its words
abbrev pub Content : Type 0
Content = List ℕ

-- all sectors of a device, by number
abbrev pub Sectors : Type 0
Sectors = ℕ → Content

-- a sector's number, and what it is to hold
pub record Write : Type 0 where
  pub place : ℕ
  pub words : Content

-- The sectors after one write. A sector lands whole: this is assumed of the device.
abbrev pub put : Write → Sectors → Sectors
put w f s = if (s == w.place) w.words (f s)

pub record Device : Type 0 where
  -- what no cut takes away
  pub durable : Sectors
  -- written since the last sync, the newest first
  pub unsynced : List Write

-- The sectors if just these open writes land: each sector is old, or has one of the contents written to it.
unfoldable pub landed : Sectors → List Write → (ℕ → Bool) → Sectors
landed f [] lands = f
landed f (w ∷ ws) lands = let rest = landed f ws (λ i. lands (suc i)) in if (lands 0) (put w rest) rest

-- what a read finds: every write, open or not
unfoldable pub now : Device → Sectors
now d = landed d.durable d.unsynced (λ i. true)

-- what the firmware can ask of a device, beside a read
pub data Op : Type 0 where
  write : Write → Op
  sync : Op

-- A write is open; a sync makes all open writes durable. That it leaves none open, also after one that failed, is assumed too.
unfoldable pub carry : Op → Device → Device
carry (write w) d = record { durable = d.durable; unsynced = w ∷ d.unsynced }
carry sync d = record { durable = now d; unsynced = [] }

-- The power fails: of the open writes these land, the others are lost.
unfoldable pub cut : (ℕ → Bool) → Device → Device
cut lands d = record { durable = landed d.durable d.unsynced lands; unsynced = [] }
