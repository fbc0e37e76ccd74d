-- The theorems: the CRC-32 of the register form is the CRC of IEEE 802.3, and nothing else is.
use mathlib.Core.Path.{◌≡◌, refl, sym, ap, ap₂, ◌∙◌}
use mathlib.Core.Bool.{true, not}
use mathlib.Core.List.{List, ◌++◌, map, append_assoc, append-nil}
use Prim.Native.Nat.{ℕ, ◌+◌, ◌^◌, ◌≤◌, ◌<◌}
use native.Mathlib.Omega.{arith}
use lib.Dec.{T, lit<}
use lib.ListN.{length, take, drop, replicate, length-append, drop_of_length-le}
use lib.Pow.{are_bytes}
use lib.Seq.{take_all, take-append-le, drop-append-le}
use Rattle.crc.specs.Register.{reflected, feed, initial, finished, crc32_of}
use Rattle.crc.specs.Ieee.{Poly, sum, zeros, bits, message, dividend, IsCheck}
use Rattle.crc.proofs.RegisterBounds.{crc_lt}
use Rattle.crc.proofs.IeeeDivision.{rem, quot, rem-length, quot-length, divides, rem_only}
use Rattle.crc.proofs.IeeeBits.{number, number-bits, bits-length, bits-xor}
use Rattle.crc.proofs.IeeePolynomials.{sum_comm, sum-length, sum_ones}
use Rattle.crc.proofs.IeeeRemainder.{low, generator-low, register_rem}
use Rattle.crc.proofs.RegisterSerial.{feed-bits}

-- ---- the register starts as 32 ones, and the final exclusive-or is with 32 ones
ones : bits 32 0xFFFF_FFFF ≡ replicate 32 true
unfolding bits
ones = refl

dividend-sum : (m : Poly) → dividend m ≡ sum (bits 32 initial) (m ++ zeros 32)
unfolding dividend
dividend-sum m =
    let l = m ++ zeros 32 in
    sym (ap (λ (x : Poly). sum x l) ones
    ∙ sum_comm (replicate 32 true) l
    ∙ sum_ones l 32 (omega (arith, length-append m (zeros 32))))

finished-not : (s : ℕ) → bits 32 (finished s) ≡ map not (bits 32 s)
unfolding finished
finished-not s =
    let b = bits 32 s in
    let size : length b ≡ 32 = bits-length 32 s in
    bits-xor 32 s 0xFFFF_FFFF
    ∙ ap (sum b) ones
    ∙ sum_ones b 32 (omega arith)
    ∙ ap₂ (λ (x y : Poly). map not x ++ y) (take_all 32 b (omega arith)) (drop_of_length-le b {i = 32} (omega arith))
    ∙ append-nil (map not b)

-- ---- long division
-- the remainder that long division finds
abbrev remainder_of : Poly → Poly
remainder_of m = rem low (length m) (dividend m)

low-length : length low ≡ 32
low-length = bits-length 32 reflected

dividend-length : (m : Poly) → length (dividend m) ≡ length m + length low
dividend-length m =
    let start = bits 32 initial in
    let l = m ++ zeros 32 in
    let long = length-append m (zeros 32) in
    omega (arith, ap length (dividend-sum m), sum-length start l (omega (arith, bits-length 32 initial, long)), long, low-length)

crc_remainder : (bs : List ℕ) → T (are_bytes bs) → bits 32 (crc32_of bs) ≡ map not (remainder_of (message bs))
unfolding crc32_of
crc_remainder bs t =
    let m = message bs in
    finished-not (feed initial bs)
    ∙ ap (map not)
    (ap (bits 32) (feed-bits initial bs t)
    ∙ sym (ap (rem low (length m)) (dividend-sum m) ∙ register_rem initial m (lit< tt)))

check-remainder : (m r : Poly) → IsCheck m r → r ≡ map not (remainder_of m)
check-remainder m r c =
    let only = rem_only low c.quotient c.remainder (c.remainder-size ∙ sym low-length) in
    c.complemented ∙ ap (map not) (sym (rw (c.quotient-size, ← generator-low, ← c.divided) at only))

-- ---- the theorems
-- the checksum of bytes is the CRC that the standard defines
pub crc_check : (bs : List ℕ) → T (are_bytes bs) → IsCheck (message bs) (bits 32 (crc32_of bs))
crc_check bs t =
    let m = message bs in
    let size = dividend-length m in
    record {
      quotient = quot low (length m) (dividend m);
      quotient-size = quot-length low (length m) (dividend m) size;
      remainder = remainder_of m;
      remainder-size = rem-length low (length m) (dividend m) size ∙ low-length;
      divided = rw generator-low (divides low (length m) (dividend m) size);
      complemented = crc_remainder bs t;
    }

-- a message has only one
pub check_unique : (m r r' : Poly) → IsCheck m r → IsCheck m r' → r ≡ r'
check_unique m r r' c c' = check-remainder m r c ∙ sym (check-remainder m r' c')

-- so a number of 32 bits that is the CRC is the checksum
pub crc_only : (bs : List ℕ) (r : ℕ) → T (are_bytes bs) → r < 2 ^ 32 → IsCheck (message bs) (bits 32 r) → r ≡ crc32_of bs
crc_only bs r t h c =
    sym (number-bits 32 r h)
    ∙ ap number (check_unique (message bs) (bits 32 r) (bits 32 (crc32_of bs)) c (crc_check bs t))
    ∙ number-bits 32 (crc32_of bs) (crc_lt bs t)

-- of a message of 32 bits or more its own first 32 bits are complemented, the others stay, and 32 zeros follow
pub dividend-long : (m : Poly) → 32 ≤ length m → dividend m ≡ (map not (take 32 m) ++ drop 32 m) ++ zeros 32
unfolding dividend
dividend-long m h =
    rw (take-append-le 32 m (zeros 32) h, drop-append-le 32 m (zeros 32) h)
    (sym (append_assoc (map not (take 32 m)) (drop 32 m) (zeros 32)))
