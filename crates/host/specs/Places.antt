-- A program and an erase alone: a step in a place that the image has, and else a refusal.
use Rattle.std.specs.Prelude.{Err, List, ◌&&◌, ℕ, eqb, ltb, length}
use Rattle.basics.specs.Answers.{all_done, is_done, Answer}
use Rattle.basics.specs.Choice.{pick}
use Rattle.basics.specs.declared.Refusal.TheVariants.{BadImage, WriteError, EraseError}
use Rattle.flash.specs.declared.Plan.{Plan}
use Rattle.flash.specs.Image.{slot_count, sectors_in}
use Rattle.flash.specs.Run.{Flash, Stepped, program, erase}
use Rattle.decisions.specs.Outcomes.{flash_of}

-- "1 BadImage"; what the image doesn't have is refused as `outside` says
unfoldable pub place_answer : ℕ → ℕ → ℕ → Answer → Answer
place_answer n sector slot outside = pick (eqb n 0) (Err BadImage) (pick (ltb sector n && ltb slot slot_count) all_done outside)

-- a step in a place of the image, where the image has it
unfoldable pub within : List ℕ → ℕ → Plan → ℕ → Answer → (Flash → Stepped) → Stepped
within image sector plan slot outside run =
    pick (is_done (place_answer (sectors_in (length image)) sector slot outside)) (run (flash_of image plan))
    (record { answer = place_answer (sectors_in (length image)) sector slot outside; flash = flash_of image plan })

abbrev pub program_of : List ℕ → ℕ → Plan → ℕ → List ℕ → Stepped
program_of image sector plan slot bytes = within image sector plan slot (Err WriteError) (program sector slot bytes)

abbrev pub erase_of : List ℕ → ℕ → Plan → Stepped
erase_of image sector plan = within image sector plan 0 (Err EraseError) (erase sector)
