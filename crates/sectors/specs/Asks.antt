-- What the steps of writing ask of their callers: sectors that the image has, records that fit, and counts that can still grow.
-- The counts are bounded so that no sum overflows; "any call: at most 8,000 and 65,536" is proved of calls, in demands.
use Rattle.std.specs.Prelude.{ℕ, ◌+◌, ◌*◌, ◌≤◌, ◌<◌}
use Rattle.codec.specs.Slots.{slot_size}
use Rattle.flash.specs.Image.{sector_size, sectors_most}
use Rattle.records.specs.Table.{limit}
use Rattle.records.specs.Fitting.{head_max}
use Rattle.sectors.specs.declared.Used.{Used}

-- an image of so many bytes has this sector
abbrev pub HasSector : ℕ → ℕ → Type 0
HasSector len s = s * sector_size + sector_size ≤ len

-- no count goes above this
abbrev pub count_most : ℕ
count_most = 131072

-- k slots more can be counted
abbrev pub SlotsMore : ℕ → Used → Type 0
SlotsMore k used = used.programmed + slot_size * k ≤ count_most

-- k sectors more can be counted
abbrev pub SectorsMore : ℕ → Used → Type 0
SectorsMore k used = used.erased + sector_size * k ≤ count_most

-- a commit tries n sectors at most, each with a header and as many records as the limit
pub record CanCommit (len n count : ℕ) (used : Used) : Type 0 where
  pub few : count ≤ limit
  pub sectors : n ≤ sectors_most
  pub sized : n * sector_size ≤ len
  pub slots : SlotsMore (n * (limit + 1)) used
  pub erases : SectorsMore n used

-- an append tries three slots of its own, and then a commit
pub record CanAppend (len n s head count : ℕ) (used : Used) : Type 0 where
  pub few : count ≤ limit
  pub sectors : n ≤ sectors_most
  pub sized : n * sector_size ≤ len
  pub active : s < n
  pub high : head ≤ head_max
  pub slots : SlotsMore (3 + n * (limit + 1)) used
  pub erases : SectorsMore n used
