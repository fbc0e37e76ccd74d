-- Laws of hex digits: a figure up to nine, a letter from ten on.
use mathlib.Core.Path.{◌≡◌, refl}
use Prim.Native.Nat.{ℕ, ◌+◌, ◌≤◌, ◌<◌}
use lib.ListN.{length}
use borrow.Author.Tests.{lt-ltb, le-ltb}
use Rattle.text.specs.Text.{hex_digit, hex_of}

pub digit_low : (x : ℕ) → x < 10 → hex_digit x ≡ 48 + x
unfolding hex_digit
digit_low x h = rw (lt-ltb x 10 h)

pub digit-high : (x : ℕ) → 10 ≤ x → hex_digit x ≡ 87 + x
unfolding hex_digit
digit-high x h = rw (le-ltb x 10 h)

pub hex_two : (b : ℕ) → length (hex_of b) ≡ 2
unfolding hex_of
hex_two b = refl
