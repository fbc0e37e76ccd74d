-- Numbers and bytes as text, and what putting text into a buffer leaves.
use Rattle.std.specs.Prelude.{◌≡◌, List, [], ◌∷◌, ℕ, zero, suc, ◌+◌, ◌-◌, ◌*◌, ◌/◌, ◌%◌, ltb, length}
use Rattle.basics.specs.Choice.{pick}
use Rattle.basics.specs.Lists.{splice}

-- the ASCII digits of a number, no leading zeros, in front of `more`; at most n of them
unfoldable pub digits : ℕ → ℕ → List ℕ → List ℕ
digits zero x more = more
digits (suc n) x more = pick (ltb x 10) ((48 + x) ∷ more) (digits n (x / 10) ((48 + x % 10) ∷ more))

-- a number in decimal; numbers of 64 bits have at most 20 digits
unfoldable pub decimal : ℕ → List ℕ
decimal x = digits 20 x []

-- the number that digits spell, behind what was read before them
unfoldable pub value_from : ℕ → List ℕ → ℕ
value_from v [] = v
value_from v (d ∷ ds) = value_from (10 * v + (d - 48)) ds

abbrev pub value_of : List ℕ → ℕ
value_of text = value_from 0 text

-- a hex digit, lower-case
unfoldable pub hex_digit : ℕ → ℕ
hex_digit x = pick (ltb x 10) (48 + x) (87 + x)

-- the two of a byte
unfoldable pub hex_of : ℕ → List ℕ
hex_of b = hex_digit (b / 16) ∷ hex_digit (b % 16) ∷ []

-- the text stands in the buffer from `at` on, r is one past its end, and every other byte is as it was
pub record Puts (before : List ℕ) (at : ℕ) (text after : List ℕ) (r : ℕ) : Type 0 where
  pub past : r ≡ at + length text
  pub left : after ≡ splice at (length text) text before
