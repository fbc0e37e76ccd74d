-- "Bytes are lower-case hex with no separator."
use Rattle.std.specs.Prelude.{◌&&◌, List, [], ◌∷◌, ℕ, ◌+◌, ◌-◌, ◌*◌, eqb, leb, length, get_or, take, drop, Option, Some, None}
use Rattle.basics.specs.Choice.{pick}

-- the value of a digit
unfoldable pub hex_value : ℕ → Option ℕ
hex_value c = pick (leb 48 c && leb c 57) (Some (c - 48)) (pick (leb 97 c && leb c 102) (Some (c - 87)) None)

-- the byte of two such values
abbrev pub pair_of : Option ℕ → Option ℕ → Option ℕ
pair_of (Some high) (Some low) = Some (16 * high + low)
pair_of (Some high) None = None
pair_of None low = None

-- the byte whose digits these are
abbrev pub byte_of : ℕ → ℕ → Option ℕ
byte_of a b = pair_of (hex_value a) (hex_value b)

-- the byte whose digits stand at `at`; behind the text's end there is none
unfoldable pub byte_at : ℕ → List ℕ → Option ℕ
byte_at at text = byte_of (get_or text at 0) (get_or text (at + 1) 0)

-- what a byte says of a run, with the run behind it: it ends in front of what is none
abbrev pub run_of : Option ℕ → List ℕ → List ℕ
run_of (Some b) more = b ∷ more
run_of None more = []

-- the bytes in front of what is none
unfoldable pub bytes_of : List ℕ → List ℕ
bytes_of [] = []
bytes_of (a ∷ []) = []
bytes_of (a ∷ b ∷ rest) = run_of (byte_of a b) (bytes_of rest)

-- as many of those from place `at` on as a buffer of this size has room for from place `to` on
abbrev pub bytes_in : ℕ → List ℕ → ℕ → ℕ → List ℕ
bytes_in at text to size = take (size - to) (bytes_of (drop at text))

-- the n bytes that a whole text is, two digits each
unfoldable pub whole_of : ℕ → List ℕ → Option (List ℕ)
whole_of n text = pick (eqb (length text) (2 * n) && eqb (length (bytes_of text)) n) (Some (bytes_of text)) None
