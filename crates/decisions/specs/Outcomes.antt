-- What a call on an image comes to, and how the answer struct and the image show it.
use Rattle.std.specs.Prelude.{◌≡◌, Bool, false, List, ℕ, length}
use Rattle.basics.specs.Choice.{pick}
use Rattle.basics.specs.Answers.{is_done, beside, Answer}
use Rattle.flash.specs.declared.Plan.{Plan}
use Rattle.flash.specs.Image.{sectors_in}
use Rattle.flash.specs.Run.{Flash}
use Rattle.records.specs.declared.Log.{Log}
use Rattle.reads.specs.Entering.{entry_answer}
use Rattle.decisions.specs.declared.outcomes.Done.{Done}

pub record Outcome : Type 0 where
  pub answer : Answer
  pub value : ℕ
  pub log : Log
  pub flash : Flash

abbrev pub done_of : Outcome → Done
done_of o =
    record {
      answer = beside o.answer o.value;
      programmed = o.flash.programmed;
      erased = o.flash.erased;
      plan = o.flash.plan;
      log = o.log;
    }

-- an answer and an image that show this outcome
pub record ShowsDone (o : Outcome) (r : Done) (image : List ℕ) : Type 0 where
  pub answered : r ≡ done_of o
  pub left : image ≡ o.flash.image

-- a flash as a call finds it
abbrev pub flash_of : List ℕ → Plan → Flash
flash_of image plan = record { image = image; plan = plan; programmed = 0; erased = 0; cut = false }

-- "all unchanged", "beside a refusal any value asked for is 0"
abbrev pub refused : Answer → Log → Flash → Outcome
refused a log f = record { answer = a; value = 0; log = log; flash = f }

-- "Order: 1, 2, 3, then the Rust's order." `known`: the ids that the call names are known
unfoldable pub entered : List ℕ → Log → Plan → Bool → (ℕ → Log → Flash → Outcome) → Outcome
entered image log plan known call =
    pick (is_done (entry_answer (sectors_in (length image)) log known))
    (call (sectors_in (length image)) log (flash_of image plan))
    (refused (entry_answer (sectors_in (length image)) log known) log (flash_of image plan))
