-- "Numbers returned": the number of each answer.
use Rattle.std.specs.Prelude.{Bool, ℕ, Result, Ok, Err, is_ok}
use Rattle.std.specs.Result.{result_and}
use Rattle.basics.specs.declared.Refusal.{Refusal}
use Rattle.basics.specs.declared.Refusal.TheVariants.{BadImage, BadLog, BadId, NotFormatted, ReadError, WriteError, EraseError}
use Rattle.basics.specs.declared.Refusal.TheVariants.{KeystoreFull, IntegrityFailure}

-- an `Answer`, since antt has no name for an alias
abbrev pub Answer : Type 0
Answer = Result Unit Refusal

abbrev pub refusal_number : Refusal → ℕ
refusal_number BadImage = 1
refusal_number BadLog = 2
refusal_number BadId = 3
refusal_number NotFormatted = 4
refusal_number ReadError = 5
refusal_number WriteError = 6
refusal_number EraseError = 7
refusal_number KeystoreFull = 8
refusal_number IntegrityFailure = 9

abbrev pub number_of : Answer → ℕ
number_of (Ok d) = 0
number_of (Err r) = refusal_number r

-- the answer of a call that hands back nothing else
abbrev pub all_done : Answer
all_done = Ok tt

-- 0 is done, every other number a refusal
abbrev pub is_done : Answer → Bool
is_done = is_ok

-- x where an answer is done, else what f makes of the refusal
abbrev pub on_answer : {A : Type 0} → Answer → A → (Refusal → A) → A
on_answer (Ok d) x f = x
on_answer (Err r) x f = f r

-- a value beside an answer that is done, else the refusal
abbrev pub beside : {A : Type 0} → Answer → A → Result A Refusal
beside a x = result_and a (Ok x)

-- what a result answers, its value apart
abbrev pub answer_in : {A : Type 0} → Result A Refusal → Answer
answer_in (Ok x) = all_done
answer_in (Err r) = Err r
