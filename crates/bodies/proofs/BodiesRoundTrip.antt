-- The round trips of bodies: what is written is read, and what was read from bytes is written as those bytes.
use mathlib.Core.Path.{◌≡◌, ap, ap₂, ◌∙◌}
use Prim.Native.Nat.{ℕ, ◌≤◌, ◌<◌}
use native.Mathlib.Omega.{arith}
use lib.ListN.{take}
use borrow.Author.Tests.{le-ltb, lt-ltb}
use Rattle.basics.specs.Little.{le_bytes, le_number}
use Rattle.std.specs.Prelude.{Ok, Err}
use Rattle.basics.specs.declared.Refusal.TheVariants.{WriteError}
use Rattle.basics.proofs.LittleLaws.{le_read}
use Rattle.ids.specs.declared.CounterState.{CounterState}
use Rattle.ids.specs.declared.Anchor.{Anchor}
use Rattle.ids.specs.Ids.{anchor_tag, anchor_seq_max}
use Rattle.bodies.specs.Bodies.{counter_body, counter_in, value_body, value_in, anchor_body, anchor_in, anchor_record}

-- ---- what is written is read
pub counter-read : (s : CounterState) → counter_in (counter_body s) ≡ s
unfolding le_bytes
counter-read s =
    ap₂ (λ (t r : ℕ). record { total = t; at_reset = r; allowance = s.allowance }) (le_read 3 s.total) (le_read 3 s.at_reset)

pub value_read : (x : ℕ) → value_in (value_body x) ≡ x
unfolding le_bytes
value_read x = le_read 7 x

-- the low six bytes hold a number of 48 bits
six : (x : ℕ) → x ≤ anchor_seq_max → le_number (take 6 (le_bytes 8 x)) ≡ x
unfolding le_bytes le_number
six x h = omega arith

pub anchor-read : (a : Anchor) → a.head_seq ≤ anchor_seq_max → anchor_in (anchor_body a) ≡ a
unfolding le_bytes
anchor-read a h =
    ap₂ (λ (g q : ℕ). record { format_gen = g; head_seq = q; head_slot = le_number (le_bytes 2 a.head_slot) })
    (le_read 1 a.format_gen) (six a.head_seq h)
    ∙ ap (λ (s : ℕ). record { format_gen = a.format_gen; head_seq = a.head_seq; head_slot = s }) (le_read 1 a.head_slot)

-- an anchor has a record just where its head_seq has 48 bits
pub anchor-made : (a : Anchor) → a.head_seq ≤ anchor_seq_max → anchor_record a ≡ Ok (record { tag = anchor_tag; id = 0; body = anchor_body a })
unfolding anchor_record
anchor-made a h = rw (le-ltb anchor_seq_max a.head_seq h)

pub anchor-refused : (a : Anchor) → anchor_seq_max < a.head_seq → anchor_record a ≡ Err WriteError
unfolding anchor_record
anchor-refused a h = rw (lt-ltb anchor_seq_max a.head_seq h)
