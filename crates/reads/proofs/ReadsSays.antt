-- What get, value and anchor answer, in the paper's numbers. By one law of any read, and the three states of a log.
use mathlib.Core.Path.{◌≡◌, refl}
use mathlib.Core.Bool.{Bool, true}
use mathlib.Core.List.{List}
use Prim.Native.Nat.{ℕ}
use Rattle.std.specs.Prelude.{Option, None, Result, Ok, Err}
use Rattle.basics.specs.Answers.{Answer, refusal_number, on_answer}
use Rattle.basics.specs.Says.{Says, says_refused, says_nothing, option_says}
use Rattle.basics.specs.declared.Refusal.{Refusal}
use Rattle.basics.specs.declared.Refusal.TheVariants.{NotFormatted}
use Rattle.ids.specs.Ids.{counter_tag, value_tag, anchor_tag, is_credential, is_value}
use Rattle.codec.specs.declared.Raw.{Raw}
use Rattle.bodies.specs.Bodies.{counter_in, value_in, anchor_in}
use Rattle.records.specs.declared.State.{State}
use Rattle.records.specs.declared.State.TheVariants.{Unformatted, Failed, Active}
use Rattle.records.specs.declared.Log.{Log}
use Rattle.records.specs.Table.{held_of}
use Rattle.records.specs.Logs.{records_of}
use Rattle.reads.specs.Entering.{entry_answer}
use Rattle.reads.specs.Reads.{held_by, record_held, read_in, held_says, read_says, get_of, get_says, value_of, value_says, anchor_of, anchor_says}

-- of any read: what is said of its answer is what is said of the state and record, or of the refusal
module _ {A : Type 0} (body_in : List ℕ → A) (unformatted : Result (Option Raw) Refusal) (says : Says A)
    (blank : option_says (read_in body_in unformatted) ≡ says) (log : Log) (known : Bool) (tag id : ℕ) where
  pub read-says : option_says (read_in body_in (record_held unformatted log known tag id)) ≡ read_says says body_in log known tag id
  unfolding record_held
  read-says = go (entry_answer 16 log known) log.state (held_of tag id (records_of log))
    where
      go : (a : Answer) (z : State) (held : Option Raw)
          → option_says (read_in body_in (on_answer a (held_by unformatted z held) Err))
          ≡ on_answer a (held_says says body_in z held) (λ r. says_refused (refusal_number r))
      go (Ok d) Unformatted held = blank
      go (Ok d) Failed held = refl
      go (Ok d) (Active sector seq head) held = refl
      go (Err r) z held = refl

pub get-says : (log : Log) (credential : ℕ) → option_says (get_of log credential) ≡ get_says log credential
unfolding get_of get_says
get-says log credential = read-says counter_in (Err NotFormatted) (says_refused 4) refl log (is_credential credential) counter_tag credential

pub value-says : (log : Log) (id : ℕ) → option_says (value_of log id) ≡ value_says log id
unfolding value_of value_says
value-says log id = read-says value_in (Err NotFormatted) (says_refused 4) refl log (is_value id) value_tag id

pub anchor-says : (log : Log) → option_says (anchor_of log) ≡ anchor_says log
unfolding anchor_of anchor_says
anchor-says log = read-says anchor_in (Ok None) says_nothing refl log true anchor_tag 0
