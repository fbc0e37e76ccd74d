-- "Numbers are decimal", and "one that doesn't fit its place is a line that cannot be read". Zeros in front are taken, a sign is not.
use Rattle.std.specs.Prelude.{Bool, true, ◌&&◌, List, [], ◌∷◌, ℕ, ◌+◌, eqb, leb, length, Option, Some, None}
use Rattle.basics.specs.Choice.{pick}
use Rattle.text.specs.Text.{value_from}
use Rattle.script.specs.Words.{space, space_at, word_at, end_of}

-- 0 to 9 in ASCII
abbrev pub is_digit : ℕ → Bool
is_digit c = leb 48 c && leb c 57

unfoldable pub all_digits : List ℕ → Bool
all_digits [] = true
all_digits (c ∷ cs) = is_digit c && all_digits cs

-- the number of these digits behind v, if it is at most `most`
unfoldable pub amount_from : ℕ → ℕ → List ℕ → Option ℕ
amount_from most v word = pick (all_digits word && leb (value_from v word) most) (Some (value_from v word)) None

-- the number that a word is; a word has at least one digit
unfoldable pub amount_of : ℕ → List ℕ → Option ℕ
amount_of most word = pick (eqb (length word) 0) None (amount_from most 0 word)

-- with the place behind it
abbrev pub taken_at : ℕ → Option ℕ → Option (ℕ × ℕ)
taken_at next (Some v) = Some (v, next)
taken_at next None = None

-- the number behind a space
unfoldable pub number_at : ℕ → ℕ → List ℕ → Option (ℕ × ℕ)
number_at most at text =
    pick (space_at at text) (taken_at (end_of space (at + 1) text) (amount_of most (word_at (at + 1) text))) None
