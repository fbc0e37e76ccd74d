-- What demand 3 compares: "state, sector, sequence number and table"; and the table alone, before a call and after it.
use Rattle.std.specs.Prelude.{List, ℕ}
use Rattle.codec.specs.declared.Raw.{Raw}
use Rattle.records.specs.declared.State.{State}
use Rattle.records.specs.declared.State.TheVariants.{Unformatted, Failed, Active}
use Rattle.records.specs.declared.Log.{Log}
use Rattle.records.specs.Logs.{records_of}

-- a log without its head and next_seq
pub data Seen : Type 0 where
  unformatted failed : Seen
  active : ℕ → ℕ → List Raw → Seen

abbrev pub seen_by : State → List Raw → Seen
seen_by Unformatted t = unformatted
seen_by Failed t = failed
seen_by (Active sector seq head) t = active sector seq t

abbrev pub seen : Log → Seen
seen log = seen_by log.state (records_of log)

-- the table alone: "Unformatted counts as the table before", and so does Failed, which no call changes
pub data Table : Type 0 where
  blank broken : Table
  holding : List Raw → Table

abbrev pub table_in : Seen → Table
table_in unformatted = blank
table_in failed = broken
table_in (active sector seq t) = holding t

abbrev pub table_of : Log → Table
table_of log = table_in (seen log)

-- "The head found on reopening may be lower than the one held."
abbrev pub head_of : State → ℕ
head_of Unformatted = 0
head_of Failed = 0
head_of (Active sector seq head) = head
