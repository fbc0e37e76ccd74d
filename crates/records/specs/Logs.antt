-- "The log is Unformatted, Failed, or an Active case that carries sector, sequence number and head; with next_seq and at most 32 records."
use Rattle.std.specs.Prelude.{List, ◌++◌, ℕ, ◌-◌, length, take, replicate}
use Rattle.codec.specs.declared.Raw.{Raw}
use Rattle.codec.specs.Slots.{no_raw}
use Rattle.records.specs.declared.State.{State}
use Rattle.records.specs.declared.Log.{Log}
use Rattle.records.specs.Table.{limit}

-- "Places past the count hold zeros only."
abbrev pub places : List Raw → List Raw
places t = t ++ replicate (limit - length t) no_raw

-- the log with this state, next_seq and table
abbrev pub log_of : State → ℕ → List Raw → Log
log_of state next t = record { state = state; next_seq = next; count = length t; table = places t }

-- the records of a log, in table order
abbrev pub records_of : Log → List Raw
records_of l = take l.count l.table
