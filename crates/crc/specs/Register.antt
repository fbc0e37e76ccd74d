-- "CRC-32 is IEEE 802.3: reflected EDB88320, start and final exclusive-or FFFFFFFF."
use Rattle.std.specs.Prelude.{List, [], ◌∷◌, ℕ, zero, suc, ◌*◌, ◌/◌, ◌%◌}
use Rattle.std.specs.Int.Bits.{bit_xor}

-- the polynomial, reflected
abbrev pub reflected : ℕ
reflected = 0xEDB8_8320

-- one bit: the register is shifted, and the polynomial goes in where the bit shifted out is 1
unfoldable pub turn : ℕ → ℕ
turn s = bit_xor (s / 2) (s % 2 * reflected)

unfoldable pub turns : ℕ → ℕ → ℕ
turns zero s = s
turns (suc n) s = turns n (turn s)

-- one byte: it goes into the low end of the register, and eight turns follow
unfoldable pub eat : ℕ → ℕ → ℕ
eat s b = turns 8 (bit_xor s b)

-- the register after some bytes
unfoldable pub feed : ℕ → List ℕ → ℕ
feed s [] = s
feed s (b ∷ bs) = feed (eat s b) bs

-- the start
abbrev pub initial : ℕ
initial = 0xFFFF_FFFF

-- the final exclusive-or
unfoldable pub finished : ℕ → ℕ
finished s = bit_xor s 0xFFFF_FFFF

-- the checksum of bytes
unfoldable pub crc32_of : List ℕ → ℕ
crc32_of bs = finished (feed initial bs)
