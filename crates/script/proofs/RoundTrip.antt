-- What is written reads back: a number in decimal, and a byte in hex.
use mathlib.Core.Path.{◌≡◌, refl, ap, ◌∙◌}
use mathlib.Core.Bool.{Bool, true, false}
use mathlib.Core.List.{List, [], ◌∷◌}
use Prim.Native.Nat.{ℕ, zero, suc, ◌+◌, ◌*◌, ◌/◌, ◌%◌, ◌^◌, ◌≤◌, ◌<◌}
use native.Mathlib.Omega.{arith}
use lib.Dec.{ltb}
use lib.ListN.{length}
use borrow.Author.Tests.{le-leb, ltb-true, ltb-false}
use Rattle.std.specs.Prelude.{Some}
use Rattle.basics.proofs.ChoiceLaws.{both, by_test}
use Rattle.text.specs.Text.{digits, decimal, hex_digit, hex_of}
use Rattle.text.proofs.TextDecimal.{decimal-read}
use Rattle.text.proofs.TextHex.{digit_low, digit-high}
use Rattle.script.specs.Decimals.{all_digits, amount_from, amount_of}
use Rattle.script.specs.Hex.{hex_value, bytes_of}
use Rattle.script.proofs.DecimalsAmounts.{a-digit, some_amount}
use Rattle.script.proofs.HexPairs.{value-digit, value_letter}

-- ---- numbers
-- the text of a number is digits, and some
digits-all : (n x : ℕ) (more : List ℕ) → all_digits more ≡ true → all_digits (digits n x more) ≡ true
unfolding digits all_digits
digits-all zero x more e = e
digits-all (suc n) x more e =
    by_test (λ (l : List ℕ). all_digits l ≡ true) (ltb x 10) ((48 + x) ∷ more) (digits n (x / 10) ((48 + x % 10) ∷ more))
    (λ t. both (a-digit (48 + x) (omega arith) (omega (arith, ltb-true x 10 t))) e)
    (λ t. digits-all n (x / 10) ((48 + x % 10) ∷ more) (both (a-digit (48 + x % 10) (omega arith) (omega arith)) e))

digits-some : (n x : ℕ) (more : List ℕ) → length more ≤ length (digits n x more)
unfolding digits
digits-some zero x more = omega arith
digits-some (suc n) x more =
    by_test (λ (l : List ℕ). length more ≤ length l) (ltb x 10) ((48 + x) ∷ more) (digits n (x / 10) ((48 + x % 10) ∷ more))
    (λ t. omega arith)
    (λ t. omega (arith, digits-some n (x / 10) ((48 + x % 10) ∷ more)))

decimal-some : (x : ℕ) → 0 < length (decimal x)
unfolding decimal digits
decimal-some x =
    by_test (λ (l : List ℕ). 0 < length l) (ltb x 10) ((48 + x) ∷ []) (digits 19 (x / 10) ((48 + x % 10) ∷ []))
    (λ t. omega arith)
    (λ t. omega (arith, digits-some 19 (x / 10) ((48 + x % 10) ∷ [])))

-- a number written in decimal is read as that number, wherever it fits
pub decimal_amount : (most x : ℕ) → x < 2 ^ 64 → x ≤ most → amount_of most (decimal x) ≡ Some x
unfolding amount_from decimal all_digits
decimal_amount most x h k =
    some_amount most (decimal x) (λ e. let some = decimal-some x in omega arith)
    ∙ rw (digits-all 20 x [] refl, decimal-read x h, le-leb x most k)

-- ---- bytes
digit-read : (x : ℕ) → x < 16 → hex_value (hex_digit x) ≡ Some x
digit-read x h = go (ltb x 10) refl
  where
    go : (t : Bool) → ltb x 10 ≡ t → hex_value (hex_digit x) ≡ Some x
    go true t =
        let low = ltb-true x 10 t in
        ap hex_value (digit_low x low) ∙ value-digit (48 + x) (omega arith) (omega arith) ∙ ap Some (omega arith)
    go false t =
        let high = ltb-false x 10 t in
        ap hex_value (digit-high x high) ∙ value_letter (87 + x) (omega arith) (omega arith) ∙ ap Some (omega arith)

-- a byte written in hex, in front of what is written behind it
pub hex_read : (b : ℕ) (more : List ℕ) → b < 256 → bytes_of (hex_digit (b / 16) ∷ hex_digit (b % 16) ∷ more) ≡ b ∷ bytes_of more
unfolding bytes_of
hex_read b more h =
    let high = digit-read (b / 16) (omega arith) in
    let low = digit-read (b % 16) (omega arith) in
    let spelt : 16 * (b / 16) + b % 16 ≡ b = omega arith in
    rw (high, low, spelt)

pub hex_byte_read : (b : ℕ) → b < 256 → bytes_of (hex_of b) ≡ b ∷ []
unfolding hex_of bytes_of
hex_byte_read b h = hex_read b [] h
