-- A register of 32 bits stays one, and the checksum is one.
use Prim.Native.Nat.{ℕ, zero, suc, ◌*◌, ◌/◌, ◌%◌, ◌^◌, ◌<◌}
use mathlib.Core.List.{List, [], ◌∷◌}
use native.Mathlib.Omega.{arith}
use lib.Bits.{bit_xor, xor_lt}
use lib.Dec.{T, lit<}
use lib.Pow.{are_bytes}
use Rattle.basics.proofs.ListsLaws.{bytes-head, bytes_tail}
use Rattle.crc.specs.Register.{reflected, turn, turns, eat, feed, initial, finished, crc32_of}

pub turn_lt : (s : ℕ) → s < 2 ^ 32 → turn s < 2 ^ 32
unfolding turn
turn_lt s h = xor_lt 32 (s / 2) (s % 2 * reflected) (omega arith) (omega arith)

pub turns_lt : (n s : ℕ) → s < 2 ^ 32 → turns n s < 2 ^ 32
unfolding turns
turns_lt zero s h = h
turns_lt (suc n) s h = turns_lt n (turn s) (turn_lt s h)

pub feed_lt : (s : ℕ) (bs : List ℕ) → s < 2 ^ 32 → T (are_bytes bs) → feed s bs < 2 ^ 32
unfolding feed eat
feed_lt s [] h t = h
feed_lt s (b ∷ bs) h t =
    let fits = xor_lt 32 s b h (omega (arith, bytes-head b bs t)) in
    feed_lt (eat s b) bs (turns_lt 8 (bit_xor s b) fits) (bytes_tail b bs t)

pub crc_lt : (bs : List ℕ) → T (are_bytes bs) → crc32_of bs < 2 ^ 32
unfolding crc32_of finished
crc_lt bs t = xor_lt 32 (feed initial bs) 0xFFFF_FFFF (feed_lt initial bs (lit< tt) t) (lit< tt)
