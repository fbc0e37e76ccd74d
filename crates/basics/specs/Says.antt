-- What an answer says in the paper's terms: its number, and the value asked for. `result_says` and `option_says` give this for every case
-- of what is handed back.
use Rattle.std.specs.Prelude.{Bool, true, false, ℕ, Option, Some, None, Result, Ok, Err, option_map}
use Rattle.basics.specs.declared.Refusal.{Refusal}
use Rattle.basics.specs.Answers.{refusal_number}

pub record Says (A : Type 0) : Type 0 where
  pub number : ℕ
  pub value : Option A

-- "Beside a refusal any value asked for is 0 or none."
abbrev pub says_refused : {A : Type 0} → ℕ → Says A
says_refused n = record { number = n; value = None }

-- done, and there is none
abbrev pub says_nothing : {A : Type 0} → Says A
says_nothing = record { number = 0; value = None }

-- done, with this value
abbrev pub says_held : {A : Type 0} → A → Says A
says_held x = record { number = 0; value = Some x }

-- the same number, with what f makes of the value
abbrev pub says_map : {A B : Type 0} → (A → B) → Says A → Says B
says_map f s = record { number = s.number; value = option_map f s.value }

-- what is handed back, in these terms: a value or a refusal; and a value, none or a refusal
abbrev pub result_says : {A : Type 0} → Result A Refusal → Says A
result_says (Ok x) = says_held x
result_says (Err r) = says_refused (refusal_number r)

abbrev pub option_says : {A : Type 0} → Result (Option A) Refusal → Says A
option_says (Ok o) = record { number = 0; value = o }
option_says (Err r) = says_refused (refusal_number r)

-- the number that a call tells where there is always one: beside a refusal it is 0
abbrev pub value_told : Result ℕ Refusal → ℕ
value_told (Ok x) = x
value_told (Err r) = 0

-- a flag as such a number: 1 where it is true; 0 where it is false, and beside a refusal
abbrev pub flag_number : Bool → ℕ
flag_number true = 1
flag_number false = 0

abbrev pub flag_told : Result Bool Refusal → ℕ
flag_told (Ok b) = flag_number b
flag_told (Err r) = 0
