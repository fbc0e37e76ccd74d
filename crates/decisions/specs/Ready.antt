-- The steps that perform a decision: what each asks, and what it hands back.
use Rattle.std.specs.Prelude.{◌≡◌, true, List, ℕ, ◌+◌, ◌*◌, ◌≤◌, ◌<◌, length, take, Result, Ok, Err, is_ok}
use Rattle.basics.specs.Choice.{pick}
use Rattle.basics.specs.Answers.{is_done, beside}
use Rattle.basics.specs.declared.Refusal.{Refusal}
use Rattle.codec.specs.declared.Raw.{Raw}
use Rattle.flash.specs.Image.{sector_size, sectors_most}
use Rattle.flash.specs.Run.{Flash}
use Rattle.records.specs.declared.Log.{Log}
use Rattle.records.specs.Table.{limit, place_of}
use Rattle.records.specs.Logs.{places, records_of}
use Rattle.records.specs.Fitting.{log_fits}
use Rattle.sectors.specs.declared.Used.{Used}
use Rattle.sectors.specs.declared.Wrote.{Wrote}
use Rattle.sectors.specs.Asks.{SlotsMore, SectorsMore}
use Rattle.decisions.specs.declared.Decision.{Decision}
use Rattle.decisions.specs.Decisions.{writes_record, record_in, when_active}
use Rattle.decisions.specs.declared.outcomes.Done.{Done}
use Rattle.decisions.specs.Outcomes.{Outcome, refused}
use Rattle.decisions.specs.Performing.{performed}

-- nothing is written
abbrev pub answered_of : Result ℕ Refusal → Log → Used → Done
answered_of answer log used = record { answer = answer; programmed = used.programmed; erased = used.erased; plan = used.plan; log = log }

-- what was written becomes the log: the new table where it is done, else the old
unfoldable pub finished_of : Wrote → ℕ → Log → List Raw → ℕ → Done
finished_of w value log table count =
    record {
      answer = beside w.answer value;
      programmed = w.used.programmed;
      erased = w.used.erased;
      plan = w.used.plan;
      log = record {
        state = w.state;
        next_seq = w.next_seq;
        count = pick (is_done w.answer) count log.count;
        table = pick (is_done w.answer) table log.table;
      };
    }

-- an image of n sectors, a log that fits it, and counts that can grow by an append
pub record FitToWrite (len n : ℕ) (log : Log) (used : Used) : Type 0 where
  pub few : n ≤ sectors_most
  pub sized : n * sector_size ≤ len
  pub fits : log_fits n log ≡ true
  pub slots : SlotsMore (3 + n * (limit + 1)) used
  pub erases : SectorsMore n used

-- places with so many records in front, and zeros only behind them
pub record Filled (table : List Raw) (count : ℕ) : Type 0 where
  pub counted : length (take count table) ≡ count
  pub most : count ≤ limit
  pub behind : table ≡ places (take count table)

-- a record to write, and the place of its key in the log's table
pub record Placed (log : Log) (at : ℕ) (r : Raw) : Type 0 where
  pub place : at ≡ place_of r.tag r.id (records_of log)
  pub free : at < limit

-- a call is ready for what was decided; nothing is asked where it was refused. Beside a decision stands the place of its key
pub record Ready (len n : ℕ) (log : Log) (used : Used) (decided : Result (ℕ × Decision) Refusal) : Type 0 where
  pub room : is_ok decided ≡ true → FitToWrite len n log used
  pub placed : (at : ℕ) (d : Decision) → decided ≡ Ok (at, d) → writes_record d ≡ true → Placed log at (record_in d)

-- what comes of what was decided in a log of any state, and of a refusal
abbrev pub performed_on : Result (ℕ × Decision) Refusal → ℕ → Log → Flash → Outcome
performed_on (Ok (at, d)) n log f = performed (when_active log.state d) n log f
performed_on (Err r) n log f = refused (Err r) log f
