-- What a program and an erase do to an image, step by step. `cut` says that one of them stopped for want of a unit.
use Rattle.std.specs.Prelude.{Err, Bool, ◌||◌, List, [], ◌∷◌, ◌++◌, ℕ, zero, suc, ◌+◌, ltb, drop, replicate}
use Rattle.basics.specs.Answers.{all_done, Answer}
use Rattle.std.specs.Int.Bits.{bit_and}
use Rattle.basics.specs.Choice.{pick}
use Rattle.basics.specs.Lists.{same, all_are}
use Rattle.basics.specs.declared.Refusal.TheVariants.{WriteError, EraseError}
use Rattle.codec.specs.Slots.{slot_size}
use Rattle.flash.specs.declared.Plan.{Plan}
use Rattle.flash.specs.Image.{sector_size, slot_at, sector_at, with_slot, with_sector}
use Rattle.flash.specs.Power.{to_program, after_program, program_cut, to_erase, after_erase, erase_cut}

pub record Flash : Type 0 where
  pub image : List ℕ
  pub plan : Plan
  pub programmed : ℕ
  pub erased : ℕ
  pub cut : Bool

-- an answer, and the flash that it leaves
pub record Stepped : Type 0 where
  pub answer : Answer
  pub flash : Flash

-- "each byte in address order .. becomes old AND new": the first n of them
unfoldable pub landed : ℕ → List ℕ → List ℕ → List ℕ
landed zero new old = old
landed (suc n) new [] = []
landed (suc n) [] (o ∷ old) = o ∷ old
landed (suc n) (x ∷ new) (o ∷ old) = bit_and o x ∷ landed n new old

-- "with no unit left it stops with 6"; "read it back (another content is a failure, 6)"
abbrev pub program_answer : ℕ → List ℕ → List ℕ → Answer
program_answer n new found = pick (ltb n slot_size) (Err WriteError) (pick (same found new) all_done (Err WriteError))

-- program slot k of sector s, and read it back
unfoldable pub program : ℕ → ℕ → List ℕ → Flash → Stepped
program s k new f =
    let n = to_program f.plan in
    let left = landed n new (slot_at f.image s k) in
    record {
      answer = program_answer n new left;
      flash = record {
        image = with_slot s k left f.image;
        plan = after_program f.plan;
        programmed = f.programmed + n;
        erased = f.erased;
        cut = f.cut || program_cut f.plan;
      };
    }

-- "each byte from the sector's first .. becomes FF": the first n of them
abbrev pub blanked : ℕ → List ℕ → List ℕ
blanked n old = replicate n 0xFF ++ drop n old

-- "with no unit left it stops with 7"; then "check all erased"
abbrev pub erase_answer : ℕ → List ℕ → Answer
erase_answer n found = pick (ltb n sector_size) (Err EraseError) (pick (all_are 0xFF found) all_done (Err EraseError))

-- erase sector s, and check that all of it is erased
unfoldable pub erase : ℕ → Flash → Stepped
erase s f =
    let n = to_erase f.plan in
    let left = blanked n (sector_at f.image s) in
    record {
      answer = erase_answer n left;
      flash = record {
        image = with_sector s left f.image;
        plan = after_erase f.plan;
        programmed = f.programmed;
        erased = f.erased + n;
        cut = f.cut || erase_cut f.plan;
      };
    }
