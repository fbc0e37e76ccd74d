-- What the checksum is for: an error that stays within 32 bits in a row, wherever they lie, always changes it.
-- A turn loses nothing, so the register after the error still tells the states before it apart.
use mathlib.Core.Path.{◌≡◌, refl, sym, ap, ap₂, ◌∙◌}
use mathlib.Core.List.{List, [], ◌∷◌, ◌++◌, append_assoc}
use Prim.Native.Nat.{ℕ, zero, suc, ◌*◌, ◌/◌, ◌%◌, ◌^◌, ◌≤◌, ◌<◌}
use native.Mathlib.Omega.{arith}
use lib.Bits.{bit_xor, xor_shr, xor_lt}
use lib.Dec.{T, lit<}
use lib.ListN.{length}
use lib.Pow.{are_bytes, pow_mono}
use Rattle.basics.proofs.ListsLaws.{bytes-append, bytes_cons}
use Rattle.crc.specs.Register.{reflected, turn, turns, feed, initial, finished, crc32_of}
use Rattle.crc.specs.Ieee.{Poly, bits, message}
use Rattle.crc.proofs.RegisterBounds.{turn_lt}
use Rattle.crc.proofs.IeeeBits.{digit, number, number-bits, number_lt, bits-number, bits-length, xor_cancel, xor_cancel_left}
use Rattle.crc.proofs.RegisterSerial.{feed_bits, bit_lt, feed_bits_lt, feed_bits-append, feed_bits-turns, feed-bits}

-- ---- nothing is lost
-- the highest bit after a turn is the bit shifted out, for the polynomial's own highest bit is 1
turn-top : (s : ℕ) → s < 2 ^ 32 → turn s / 2 ^ 31 ≡ s % 2
unfolding turn
turn-top s h =
    let none : s / 2 / 2 ^ 31 ≡ 0 = omega arith in
    let out : s % 2 * reflected / 2 ^ 31 ≡ s % 2 = omega arith in
    xor_shr (s / 2) (s % 2 * reflected) 31 ∙ ap₂ bit_xor none out

turn_inj : (s t : ℕ) → s < 2 ^ 32 → t < 2 ^ 32 → turn s ≡ turn t → s ≡ t
unfolding turn
turn_inj s t hs ht e =
    let out : s % 2 ≡ t % 2 = sym (turn-top s hs) ∙ ap (λ (x : ℕ). x / 2 ^ 31) e ∙ turn-top t ht in
    let alike = e ∙ ap (λ (x : ℕ). bit_xor (t / 2) (x * reflected)) (sym out) in
    let rest : s / 2 ≡ t / 2 = xor_cancel (s / 2) (t / 2) (s % 2 * reflected) alike in
    omega arith

turns_inj : (n s t : ℕ) → s < 2 ^ 32 → t < 2 ^ 32 → turns n s ≡ turns n t → s ≡ t
unfolding turns
turns_inj zero s t hs ht e = e
turns_inj (suc n) s t hs ht e = turn_inj s t hs ht (turns_inj n (turn s) (turn t) (turn_lt s hs) (turn_lt t ht) e)

-- bits that follow an error do not hide it
state_inj : (s t : ℕ) (l : Poly) → s < 2 ^ 32 → t < 2 ^ 32 → feed_bits s l ≡ feed_bits t l → s ≡ t
unfolding feed_bits
state_inj s t [] hs ht e = e
state_inj s t (b ∷ l) hs ht e =
    let s' = bit_xor s (digit b) in
    let t' = bit_xor t (digit b) in
    let hs' = bit_lt s b hs in
    let ht' = bit_lt t b ht in
    xor_cancel s t (digit b) (turn_inj s' t' hs' ht' (state_inj (turn s') (turn t') l (turn_lt s' hs') (turn_lt t' ht') e))

-- up to 32 bits are told apart, whatever went in before them
bits_inj : (s : ℕ) (a b : Poly) → s < 2 ^ 32 → length a ≡ length b → length a ≤ 32 → feed_bits s a ≡ feed_bits s b → a ≡ b
bits_inj s a b h size short e =
    sym (bits-number a) ∙ ap₂ bits size (xor_cancel_left s (number a) (number b) same) ∙ bits-number b
  where
    fits : (l : Poly) → length l ≤ 32 → bit_xor s (number l) < 2 ^ 32
    fits l k = xor_lt 32 s (number l) h (omega (arith, number_lt l, pow_mono k))

    same : bit_xor s (number a) ≡ bit_xor s (number b)
    same =
        turns_inj (length a) (bit_xor s (number a)) (bit_xor s (number b)) (fits a short) (fits b (omega arith))
        (sym (feed_bits-turns s a) ∙ e ∙ feed_bits-turns s b ∙ ap (λ (n : ℕ). turns n (bit_xor s (number b))) (sym size))

message_around : (xs : List ℕ) (b : ℕ) (ys : List ℕ) → message (xs ++ b ∷ ys) ≡ message xs ++ (bits 8 b ++ message ys)
unfolding message
message_around [] b ys = refl
message_around (x ∷ xs) b ys =
    ap (λ (l : Poly). bits 8 x ++ l) (message_around xs b ys)
    ∙ sym (append_assoc (bits 8 x) (message xs) (bits 8 b ++ message ys))

-- ---- the theorems
-- an error of up to 32 bits in a row
pub burst : (xs ys : List ℕ) (p a b q : Poly) → T (are_bytes xs) → T (are_bytes ys)
    → message xs ≡ p ++ (a ++ q) → message ys ≡ p ++ (b ++ q) → length a ≡ length b → length a ≤ 32
    → crc32_of xs ≡ crc32_of ys → a ≡ b
unfolding crc32_of finished
burst xs ys p a b q tx ty ex ey size short e =
    let s = feed_bits initial p in
    let hs = feed_bits_lt initial p (lit< tt) in
    let after = state_inj (feed_bits s a) (feed_bits s b) q (feed_bits_lt s a hs) (feed_bits_lt s b hs) in
    bits_inj s a b hs size short
    (after (sym (fed xs a tx ex) ∙ xor_cancel (feed initial xs) (feed initial ys) 0xFFFF_FFFF e ∙ fed ys b ty ey))
  where
    fed : (zs : List ℕ) (l : Poly) → T (are_bytes zs) → message zs ≡ p ++ (l ++ q)
        → feed initial zs ≡ feed_bits (feed_bits (feed_bits initial p) l) q
    fed zs l t m =
        feed-bits initial zs t
        ∙ ap (feed_bits initial) m
        ∙ feed_bits-append initial p (l ++ q)
        ∙ feed_bits-append (feed_bits initial p) l q

-- and so an error in one byte
pub one_byte : (xs : List ℕ) (b d : ℕ) (ys : List ℕ) → T (are_bytes xs) → b < 256 → d < 256 → T (are_bytes ys)
    → crc32_of (xs ++ b ∷ ys) ≡ crc32_of (xs ++ d ∷ ys) → b ≡ d
one_byte xs b d ys tx hb hd ty e = sym (number-bits 8 b hb) ∙ ap number same ∙ number-bits 8 d hd
  where
    bytes : (x : ℕ) → x < 256 → T (are_bytes (xs ++ x ∷ ys))
    bytes x h = bytes-append xs (x ∷ ys) tx (bytes_cons x ys h ty)

    same : bits 8 b ≡ bits 8 d
    same =
        burst (xs ++ b ∷ ys) (xs ++ d ∷ ys) (message xs) (bits 8 b) (bits 8 d) (message ys) (bytes b hb) (bytes d hd)
        (message_around xs b ys) (message_around xs d ys)
        (bits-length 8 b ∙ sym (bits-length 8 d)) (omega (arith, bits-length 8 b)) e
