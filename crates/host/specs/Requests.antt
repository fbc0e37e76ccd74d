-- What can be asked of the flash, and what comes of it: each kind is the call of that name, or one step alone.
use Rattle.basics.specs.Answers.{all_done}
use Rattle.std.specs.Prelude.{List, replicate, ℕ}
use Rattle.codec.specs.Slots.{slot_size}
use Rattle.ids.specs.Counters.{fresh_of}
use Rattle.flash.specs.declared.Plan.{Plan}
use Rattle.flash.specs.Run.{Stepped}
use Rattle.records.specs.declared.Log.{Log}
use Rattle.decisions.specs.declared.seeds.Seed.{Seed}
use Rattle.decisions.specs.Seeds.{seeds_most}
use Rattle.decisions.specs.Outcomes.{Outcome, flash_of, refused}
use Rattle.counter_log.specs.Calls.{put_of, put_value_of, put_anchor_of, format_of}
use Rattle.tries.specs.Tries.{spend_of, set_of, advance_of}
use Rattle.host.specs.declared.requests.Kind.{Kind}
use Rattle.host.specs.declared.requests.Kind.TheVariants.{Nothing, Put, PutValue, PutAnchor, Format, Spend, Set, AdvanceLamport, Program, Erase}
use Rattle.host.specs.declared.requests.Request.{Request}
use Rattle.host.specs.Places.{program_of, erase_of}

-- a request with no array to look at, and those with one
abbrev pub no_seed : Seed
no_seed = record { credential = 0; state = fresh_of 0 }

abbrev pub request_of : Kind → Request
request_of kind = record { kind = kind; seeds = replicate seeds_most no_seed; bytes = replicate slot_size 0 }

abbrev pub format_with : List Seed → ℕ → Request
format_with seeds count = record { kind = Format count; seeds = seeds; bytes = replicate slot_size 0 }

abbrev pub program_with : ℕ → ℕ → List ℕ → Request
program_with sector slot bytes = record { kind = Program sector slot; seeds = replicate seeds_most no_seed; bytes = bytes }

-- a step alone leaves the log as it is, and answers no value
abbrev pub step_outcome : Log → Stepped → Outcome
step_outcome log s = refused s.answer log s.flash

abbrev pub asked_by : Kind → List Seed → List ℕ → List ℕ → Log → Plan → Outcome
asked_by Nothing seeds bytes image log plan = refused all_done log (flash_of image plan)
asked_by (Put credential new) seeds bytes image log plan = put_of image log plan credential new
asked_by (PutValue id new) seeds bytes image log plan = put_value_of image log plan id new
asked_by (PutAnchor new) seeds bytes image log plan = put_anchor_of image log plan new
asked_by (Format count) seeds bytes image log plan = format_of image log plan seeds count
asked_by (Spend credential current) seeds bytes image log plan = spend_of image log plan credential current
asked_by (Set credential tries) seeds bytes image log plan = set_of image log plan credential tries
asked_by (AdvanceLamport latest) seeds bytes image log plan = advance_of image log plan latest
asked_by (Program sector slot) seeds bytes image log plan = step_outcome log (program_of image sector plan slot bytes)
asked_by (Erase sector) seeds bytes image log plan = step_outcome log (erase_of image sector plan)

abbrev pub requested : Request → List ℕ → Log → Plan → Outcome
requested r = asked_by r.kind r.seeds r.bytes
