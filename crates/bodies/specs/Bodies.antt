-- "Slot layouts": bytes 2..11 of counters, values and anchors, as records and read from them.
use Rattle.std.specs.Prelude.{List, ◌∷◌, ◌++◌, ℕ, ltb, get_or, take, Result, Ok, Err}
use Rattle.basics.specs.Choice.{pick}
use Rattle.basics.specs.Lists.{part}
use Rattle.basics.specs.Little.{le_bytes, le_number}
use Rattle.basics.specs.declared.Refusal.{Refusal}
use Rattle.basics.specs.declared.Refusal.TheVariants.{WriteError}
use Rattle.ids.specs.declared.CounterState.{CounterState}
use Rattle.ids.specs.declared.Anchor.{Anchor}
use Rattle.ids.specs.Ids.{counter_tag, value_tag, anchor_tag, anchor_seq_max}
use Rattle.codec.specs.declared.Raw.{Raw}

-- "counter: 52 | credential | allowance, 0 | total, at-reset"
abbrev pub counter_body : CounterState → List ℕ
counter_body s = s.allowance ∷ 0 ∷ (le_bytes 4 s.total ++ le_bytes 4 s.at_reset)

abbrev pub counter_record : ℕ → CounterState → Raw
counter_record credential s = record { tag = counter_tag; id = credential; body = counter_body s }

abbrev pub counter_in : List ℕ → CounterState
counter_in body = record { total = le_number (part 2 4 body); at_reset = le_number (part 6 4 body); allowance = get_or body 0 0 }

-- "value: 4C | value id | 0, 0 | u64"
abbrev pub value_body : ℕ → List ℕ
value_body x = 0 ∷ 0 ∷ le_bytes 8 x

abbrev pub value_record : ℕ → ℕ → Raw
value_record id x = record { tag = value_tag; id = id; body = value_body x }

abbrev pub value_in : List ℕ → ℕ
value_in body = le_number (part 2 8 body)

-- "anchor: 41 | 0 | format_gen | head_seq 48 bits, head_slot": of head_seq's eight bytes, the low six
abbrev pub anchor_body : Anchor → List ℕ
anchor_body a = le_bytes 2 a.format_gen ++ (take 6 (le_bytes 8 a.head_seq) ++ le_bytes 2 a.head_slot)

-- "head_seq above 2^48 − 1 gives 6"
unfoldable pub anchor_record : Anchor → Result Raw Refusal
anchor_record a =
    pick (ltb anchor_seq_max a.head_seq) (Err WriteError)
    (Ok (record { tag = anchor_tag; id = 0; body = anchor_body a }))

abbrev pub anchor_in : List ℕ → Anchor
anchor_in body =
    record {
      format_gen = le_number (part 0 2 body);
      head_seq = le_number (part 2 6 body);
      head_slot = le_number (part 8 2 body);
    }
