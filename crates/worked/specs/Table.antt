-- "Worked by hand (★ is proved, all ★ in a single table)": the starred cases in the paper's order,
-- each with what the definitions give and what the paper says: bytes, a number, or all that a call comes to.
use Rattle.std.specs.Prelude.{false, Some, None, List, [], ◌∷◌, map, ℕ, ◌-◌, ◌^◌, replicate, Result, Ok, Err}
use Rattle.std.specs.Result.{result_map_both}
use Rattle.basics.specs.Answers.{refusal_number, number_of}
use Rattle.basics.specs.declared.Refusal.{Refusal}
use Rattle.basics.specs.declared.Refusal.TheVariants.{WriteError}
use Rattle.crc.specs.Register.{crc32_of}
use Rattle.ids.specs.declared.CounterState.{CounterState}
use Rattle.ids.specs.declared.Anchor.{Anchor}
use Rattle.ids.specs.Ids.{lamport, signature_counter}
use Rattle.ids.specs.Counters.{remaining_of}
use Rattle.codec.specs.Slots.{header_bytes, bytes_of}
use Rattle.codec.specs.declared.Raw.{Raw}
use Rattle.bodies.specs.Bodies.{counter_record, value_record, value_in, anchor_record}
use Rattle.flash.specs.declared.Plan.{Plan}
use Rattle.records.specs.declared.State.TheVariants.{Active}
use Rattle.records.specs.declared.Log.{Log}
use Rattle.records.specs.Logs.{log_of, records_of}
use Rattle.decisions.specs.Outcomes.{Outcome, flash_of, refused}
use Rattle.counter_log.specs.Calls.{put_value_of, put_anchor_of}

-- `kind`: the type of what is compared
pub record Row : Type 1 where
  pub kind : Type 0
  pub given : kind
  pub said : kind

abbrev counter : ℕ → ℕ → ℕ → CounterState
counter allowance total at_reset = record { total = total; at_reset = at_reset; allowance = allowance }

abbrev anchor : ℕ → ℕ → ℕ → Anchor
anchor gen seq slot = record { format_gen = gen; head_seq = seq; head_slot = slot }

abbrev row : {A : Type 0} → A → A → Row
row {A} given said = record { kind = A; given = given; said = said }

-- the calls are made on a blank sector, and on a log that holds a 5
abbrev blank : List ℕ
blank = replicate 4096 0xFF

abbrev holds_five : ℕ → Log
holds_five id = log_of (Active 0 1 1) 2 (value_record id 5 ∷ [])

abbrev calm : Plan
calm = record { units = None; refuse_erase = false; refuse_programs = 0 }

-- one that any write would run down
abbrev scarce : Plan
scarce = record { units = Some 100; refuse_erase = false; refuse_programs = 1 }

-- a put of an anchor whose head_seq is 2^48
abbrev anchor_above : Outcome
anchor_above = put_anchor_of blank (holds_five lamport) scarce (anchor 7 (2 ^ 48) 9)

-- a put of 4 where 5 is held
abbrev four_over : ℕ → Outcome
four_over id = put_value_of blank (holds_five id) calm id 4

-- the bytes of a record, or the number of what refuses it
abbrev spelled : Result Raw Refusal → Result (List ℕ) ℕ
spelled = result_map_both bytes_of refusal_number

abbrev value_held : Raw → ℕ
value_held r = value_in r.body

unfoldable pub table : List Row
table =
    -- 1. "Header body, seq 1: 50 32 52 43 01 00 00 00 02 00 00 00."
    row (header_bytes 1) (0x50 ∷ 0x32 ∷ 0x52 ∷ 0x43 ∷ 0x01 ∷ 0x00 ∷ 0x00 ∷ 0x00 ∷ 0x02 ∷ 0x00 ∷ 0x00 ∷ 0x00 ∷ [])
    -- "CRC of ASCII 123456789 is CBF43926."
    ∷ row (crc32_of (0x31 ∷ 0x32 ∷ 0x33 ∷ 0x34 ∷ 0x35 ∷ 0x36 ∷ 0x37 ∷ 0x38 ∷ 0x39 ∷ [])) 0xCBF4_3926
    -- 2. "User PIN, allowance 3, total 5, at-reset 4: 52 01 03 00 05 00 00 00 04 00 00 00;"
    ∷ row (bytes_of (counter_record 0x01 (counter 3 5 4))) (0x52 ∷ 0x01 ∷ 0x03 ∷ 0x00 ∷ 0x05 ∷ 0x00 ∷ 0x00 ∷ 0x00 ∷ 0x04 ∷ 0x00 ∷ 0x00 ∷ 0x00 ∷ [])
    -- "remaining 2."
    ∷ row (remaining_of (counter 3 5 4)) 2
    -- 3. "Lamport 258: 4C 01 00 00 02 01 00 00 00 00 00 00."
    ∷ row (bytes_of (value_record lamport 258)) (0x4C ∷ 0x01 ∷ 0x00 ∷ 0x00 ∷ 0x02 ∷ 0x01 ∷ 0x00 ∷ 0x00 ∷ 0x00 ∷ 0x00 ∷ 0x00 ∷ 0x00 ∷ [])
    -- 4. "Anchor 7, 2^48 − 1, 9: 41 00 07 00 FF FF FF FF FF FF 09 00;"
    ∷ row (spelled (anchor_record (anchor 7 (2 ^ 48 - 1) 9)))
    (Ok (0x41 ∷ 0x00 ∷ 0x07 ∷ 0x00 ∷ 0xFF ∷ 0xFF ∷ 0xFF ∷ 0xFF ∷ 0xFF ∷ 0xFF ∷ 0x09 ∷ 0x00 ∷ []))
    -- "head_seq 2^48 gives 6": the record does, and the call, with log, image and plan as they were
    ∷ row (spelled (anchor_record (anchor 7 (2 ^ 48) 9))) (Err 6)
    ∷ row (number_of anchor_above.answer) 6
    ∷ row anchor_above (refused (Err WriteError) (holds_five lamport) (flash_of blank scarce))
    -- 5. "Total 1, at-reset 2: remaining 0."
    ∷ row (remaining_of (counter 3 1 2)) 0
    -- "Allowance 3, total 4, at-reset 0: 0."
    ∷ row (remaining_of (counter 3 4 0)) 0
    -- 6. "Lamport put of 4 over 5: 9."
    ∷ row (number_of (four_over lamport).answer) 9
    -- "SignatureCounter 4 over 5: accepted": the answer, and what is held then
    ∷ row (number_of (four_over signature_counter).answer ∷ map value_held (records_of (four_over signature_counter).log)) (0 ∷ 4 ∷ [])
    ∷ []
