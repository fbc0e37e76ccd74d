-- Concrete sticks, and the calls that are made on them.
use Rattle.std.specs.Prelude.{false, Some, None, List, [], ◌∷◌, ◌++◌, ℕ, ◌+◌, replicate}
use Rattle.ids.specs.declared.CounterState.{CounterState}
use Rattle.codec.specs.declared.Raw.{Raw}
use Rattle.codec.specs.Slots.{header_slot, slot_of}
use Rattle.bodies.specs.Bodies.{counter_record}
use Rattle.flash.specs.declared.Plan.{Plan}
use Rattle.flash.specs.Image.{with_slot}
use Rattle.records.specs.declared.State.TheVariants.{Active}
use Rattle.records.specs.declared.Log.{Log}
use Rattle.records.specs.Logs.{log_of}
use Rattle.decisions.specs.declared.seeds.Seed.{Seed}
use Rattle.demands.specs.Chance.{cut_at}
use Rattle.demands.specs.Calls.{Call, format, spend, advance_lamport}
use Rattle.demands.specs.Sessions.{Made}

-- ---- plans
abbrev pub refusing : ℕ → Plan
refusing programs = record { units = None; refuse_erase = false; refuse_programs = programs }

abbrev pub pulled_after : ℕ → Plan
pulled_after units = record { units = Some units; refuse_erase = false; refuse_programs = 0 }

abbrev pub made : Call → Plan → Made
made call plan = record { call = call; plan = plan }

-- ---- sticks
-- the user PIN with three tries
abbrev pub pin : ℕ
pin = 1

abbrev pub three : CounterState
three = record { total = 0; at_reset = 0; allowance = 3 }

-- its record, and the one after a spend
abbrev pub unspent : Raw
unspent = counter_record pin three

abbrev pub spent : Raw
spent = counter_record pin (record { total = 1; at_reset = 0; allowance = 3 })

-- an older one, with five tries: an opening that took it for the newest would be seen
abbrev older : Raw
older = counter_record pin (record { total = 0; at_reset = 0; allowance = 5 })

-- a sector with this number, a record, and erased bytes behind it
abbrev sector : ℕ → Raw → ℕ → List ℕ
sector seq r erased = header_slot seq ++ (slot_of seq r ++ replicate erased 0xFF)

-- one that is full: its last slot is used, if only by zeros
abbrev full_sector : ℕ → Raw → List ℕ
full_sector seq r = sector seq r 4048 ++ replicate 16 0

unfoldable pub blank_stick : List ℕ
blank_stick = replicate 4096 0xFF

unfoldable pub new_stick : List ℕ
new_stick = sector 1 unspent 4064

-- two sectors: the first is active and full, and the second, which was full before it, has an older copy of the log
unfoldable pub full_stick : List ℕ
full_stick = full_sector 2 unspent ++ full_sector 1 older

-- under this number of a sector the first spend, cut after eight bytes, carries a matching checksum by chance
abbrev pub unlucky : ℕ
unlucky = 3525023928

unfoldable pub unlucky_stick : List ℕ
unlucky_stick = sector unlucky unspent 4064

-- a log with one record: the first sector under this number is active, and the next number is one more
abbrev pub log_with : ℕ → ℕ → Raw → Log
log_with seq head r = log_of (Active 0 seq head) (seq + 1) (r ∷ [])

-- a stick whose slot k of sector s was cut after j bytes
abbrev pub torn : ℕ → ℕ → ℕ → List ℕ → List ℕ → List ℕ
torn s k j slot image = with_slot s k (cut_at j slot) image

-- ---- calls
-- a place of zeros
abbrev no_seed : Seed
no_seed = record { credential = 0; state = record { total = 0; at_reset = 0; allowance = 0 } }

-- "The seeds come as eight places by value with a count": the PIN's in the first of them
abbrev pub pin_seeds : List Seed
pin_seeds = record { credential = pin; state = three } ∷ replicate 7 no_seed

abbrev pub formatting : Plan → Made
formatting plan = made (format pin_seeds 1) plan

abbrev pub spend_on : Plan → Made
spend_on plan = made (spend pin 3) plan

-- a spend in the third slot that it tries, one that is refused every slot, and a Lamport number in its second
unfoldable pub refusals : List Made
refusals = spend_on (refusing 2) ∷ spend_on (refusing 3) ∷ made (advance_lamport 7) (refusing 1) ∷ []
