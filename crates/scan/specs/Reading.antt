-- "In the winner, slots 1..255 are read in order."
use Rattle.std.specs.Prelude.{List, [], ℕ, zero, suc, Option, Some, None}
use Rattle.basics.specs.Choice.{pick}
use Rattle.basics.specs.Lists.{all_are}
use Rattle.codec.specs.declared.Raw.{Raw}
use Rattle.codec.specs.Slots.{decoded}
use Rattle.records.specs.Table.{limit, has_room, absorbed}

-- the records read so far, or more keys than a log can hold
pub data Read : Type 0 where
  too_many : Read
  these : List Raw → Read

-- a record is absorbed where there is room for its key; what is no record changes nothing
abbrev pub with_record : Option Raw → List Raw → Read
with_record None t = these t
with_record (Some r) t = pick (has_room limit r t) (these (absorbed r t)) too_many

abbrev pub with_slot : ℕ → List ℕ → Read → Read
with_slot seq slot too_many = too_many
with_slot seq slot (these t) = with_record (decoded seq slot) t

-- n more slots from k on, with these contents
unfoldable pub read_from : ℕ → ℕ → ℕ → (ℕ → List ℕ) → Read → Read
read_from zero k seq slots read = read
read_from (suc n) k seq slots read = read_from n (suc k) seq slots (with_slot seq (slots k) read)

-- "head is one past the last slot that isn't erased, or 1"
unfoldable pub head_from : ℕ → ℕ → (ℕ → List ℕ) → ℕ → ℕ
head_from zero k slots head = head
head_from (suc n) k slots head = head_from n (suc k) slots (pick (all_are 0xFF (slots k)) head (suc k))

-- the sector whose slots these are
abbrev pub records_in : ℕ → (ℕ → List ℕ) → Read
records_in seq slots = read_from 255 1 seq slots (these [])

abbrev pub head_in : (ℕ → List ℕ) → ℕ
head_in slots = head_from 255 1 slots 1
