-- Tests on lists, a part of a list, and a list with a part put in its place.
use Rattle.std.specs.Prelude.{Bool, true, false, ◌&&◌, List, [], ◌∷◌, ◌++◌, ℕ, eqb, take, drop}

-- the two lists are the same
unfoldable pub same : List ℕ → List ℕ → Bool
same [] [] = true
same [] (y ∷ ys) = false
same (x ∷ xs) [] = false
same (x ∷ xs) (y ∷ ys) = eqb x y && same xs ys

-- every element is v
unfoldable pub all_are : ℕ → List ℕ → Bool
all_are v [] = true
all_are v (x ∷ xs) = eqb x v && all_are v xs

-- n elements from place a on
abbrev pub part {ℓ} : {A : Type ℓ} → ℕ → ℕ → List A → List A
part a n xs = take n (drop a xs)

-- the list with ys in the place of its n elements from place a on
abbrev pub splice {ℓ} : {A : Type ℓ} → ℕ → ℕ → List A → List A → List A
splice a n ys xs = take a xs ++ (ys ++ drop n (drop a xs))
