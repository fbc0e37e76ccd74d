-- "Slot layouts (source document 000, little-endian)": headers, records and their checksums.
use Rattle.std.specs.Prelude.{Bool, not, ◌&&◌, List, [], ◌∷◌, ◌++◌, ℕ, eqb, length, get_or, take, replicate, Option, Some, None}
use Rattle.basics.specs.Choice.{pick}
use Rattle.basics.specs.Lists.{same, part}
use Rattle.basics.specs.Little.{le_bytes, le_number}
use Rattle.crc.specs.Register.{feed, initial, finished, crc32_of}
use Rattle.codec.specs.declared.Raw.{Raw}

-- "A sector has 256 slots of 16 bytes."
abbrev pub slot_size : ℕ
slot_size = 16

-- "12..15 CRC": twelve bytes, and their checksum behind them
abbrev pub sealed : ℕ → List ℕ → List ℕ
sealed check bytes = bytes ++ le_bytes 4 check

abbrev pub crc_in : List ℕ → ℕ
crc_in slot = le_number (part 12 4 slot)

-- ---- the header
-- "A header begins with the four bytes P2RC."
abbrev pub magic : List ℕ
magic = 0x50 ∷ 0x32 ∷ 0x52 ∷ 0x43 ∷ []

-- "50 32 52 43 in 0..3, seq 4..7, version 02 at 8, zeros 9..11"
abbrev pub header_bytes : ℕ → List ℕ
header_bytes seq = magic ++ (le_bytes 4 seq ++ (2 ∷ 0 ∷ 0 ∷ 0 ∷ []))

-- "CRC of 0..11"
unfoldable pub header_slot : ℕ → List ℕ
header_slot seq = sealed (crc32_of (header_bytes seq)) (header_bytes seq)

-- "Its reader tests magic, version and CRC, not bytes 9..11."
abbrev pub magic_at : List ℕ → Bool
magic_at slot = same (take 4 slot) magic

abbrev pub is_header : ℕ → List ℕ → Bool
is_header version slot =
    eqb (length slot) slot_size && (magic_at slot && (eqb (get_or slot 8 0) version && eqb (crc32_of (take 12 slot)) (crc_in slot)))

-- the seq of a header, where the slot holds one
unfoldable pub header_of : ℕ → List ℕ → Option ℕ
header_of version slot = pick (is_header version slot) (Some (le_number (part 4 4 slot))) None

-- ---- any other slot
-- "The CRC of any other slot runs over the sector's seq (4 bytes) and then bytes 0..11."
unfoldable pub crc_under : ℕ → List ℕ → ℕ
crc_under seq bytes = crc32_of (le_bytes 4 seq ++ bytes)

-- tag, id and body of a record are bytes 0, 1 and 2..11
abbrev pub bytes_of : Raw → List ℕ
bytes_of r = r.tag ∷ r.id ∷ r.body

abbrev pub raw_of : List ℕ → Raw
raw_of slot = record { tag = get_or slot 0 0; id = get_or slot 1 0; body = part 2 10 slot }

abbrev pub no_raw : Raw
no_raw = record { tag = 0; id = 0; body = replicate 10 0 }

-- the slot of a record in a sector with this seq
unfoldable pub slot_of : ℕ → Raw → List ℕ
slot_of seq r = sealed (crc_under seq (bytes_of r)) (bytes_of r)

-- "A record is valid when byte 0 isn't FF and its CRC matches": the checksum of bytes 0..11 is handed in
abbrev pub is_record_with : ℕ → List ℕ → Bool
is_record_with check slot = eqb (length slot) slot_size && (not (eqb (get_or slot 0 0) 0xFF) && eqb check (crc_in slot))

-- "tag, id and body 2..11 are held as read, known or not"
unfoldable pub decoded_with : ℕ → List ℕ → Option Raw
decoded_with check slot = pick (is_record_with check slot) (Some (raw_of slot)) None

-- the record in a slot of a sector with this seq
unfoldable pub decoded : ℕ → List ℕ → Option Raw
decoded seq slot = decoded_with (crc_under seq (take 12 slot)) slot

-- ---- the checksum run on: the register after the seq, and what twelve bytes more make of it
unfoldable pub seq_fed : ℕ → ℕ
seq_fed seq = feed initial (le_bytes 4 seq)

unfoldable pub crc_from : ℕ → List ℕ → ℕ
crc_from start bytes = finished (feed start bytes)
