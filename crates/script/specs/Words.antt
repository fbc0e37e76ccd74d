-- "Words are separated by one space, lines end with a newline."
use Rattle.std.specs.Prelude.{Bool, ◌&&◌, List, [], ◌∷◌, ℕ, ◌+◌, eqb, length, get_or, drop, Option, Some, None}
use Rattle.basics.specs.Choice.{pick}
use Rattle.basics.specs.Lists.{same}

-- the bytes in front of the first `stop`
unfoldable pub up_to : ℕ → List ℕ → List ℕ
up_to stop [] = []
up_to stop (b ∷ bs) = pick (eqb b stop) [] (b ∷ up_to stop bs)

-- where those from place `at` on end
abbrev pub end_of : ℕ → ℕ → List ℕ → ℕ
end_of stop at text = at + length (up_to stop (drop at text))

abbrev pub space : ℕ
space = 32

-- a space stands there
abbrev pub space_at : ℕ → List ℕ → Bool
space_at at text = eqb (get_or text at 0) space

-- the word from place `at` on
abbrev pub word_at : ℕ → List ℕ → List ℕ
word_at at text = up_to space (drop at text)

-- where the word behind a space ends
unfoldable pub end_behind : ℕ → List ℕ → Option ℕ
end_behind at text = pick (space_at at text) (Some (end_of space (at + 1) text)) None

-- past a space and the word behind it, where it is this one
unfoldable pub skip_of : List ℕ → ℕ → List ℕ → Option ℕ
skip_of word at text = pick (space_at at text && same (word_at (at + 1) text) word) (Some (end_of space (at + 1) text)) None
