-- Laws of the tests on lists, and of elements read one by one.
use mathlib.Core.Path.{◌≡◌, refl, sym, ap, ap₂, ◌∙◌}
use mathlib.Core.Bool.{Bool, true, false, ◌&&◌, false≢true}
use mathlib.Core.List.{List, [], ◌∷◌, ◌++◌}
use Prim.Native.Nat.{ℕ, zero, suc, ◌+◌, ◌≤◌, ◌<◌}
use native.Mathlib.Numerals.{add-one}
use native.Mathlib.Omega.{arith}
use lib.Dec.{T, eqb, ltb, lt→ltb, ltb→lt}
use lib.ListN.{length, get_or, take, drop, replicate, drop_of_length-le}
use lib.Pow.{are_bytes}
use lib.Seq.{drop-cons, take_all}
use borrow.Author.Tests.{eq-eqb, eqb-true}
use Rattle.std.specs.Prelude.{nat_eq}
use Rattle.std.specs.Cmp.Lexicographic.{pointwise, same_text, other_text}
use Rattle.basics.specs.Lists.{same, all_are, part}
use Rattle.basics.proofs.ChoiceLaws.{both, first, second}

-- ---- same
pub same_refl : (xs : List ℕ) → same xs xs ≡ true
unfolding same
same_refl [] = refl
same_refl (x ∷ xs) = both (eq-eqb x x refl) (same_refl xs)

pub same_eq : (xs ys : List ℕ) → same xs ys ≡ true → xs ≡ ys
unfolding same
same_eq [] [] e = refl
same_eq [] (y ∷ ys) e = absurd (false≢true e)
same_eq (x ∷ xs) [] e = absurd (false≢true e)
same_eq (x ∷ xs) (y ∷ ys) e =
    ap₂ (λ (a : ℕ) (l : List ℕ). a ∷ l) (eqb-true x y (first (eqb x y) (same xs ys) e)) (same_eq xs ys (second (eqb x y) (same xs ys) e))

-- in std's word for `==` of slices
pub same_pointwise : (xs ys : List ℕ) → same xs ys ≡ pointwise eqb xs ys
unfolding same
same_pointwise [] [] = refl
same_pointwise [] (y ∷ ys) = refl
same_pointwise (x ∷ xs) [] = refl
same_pointwise (x ∷ xs) (y ∷ ys) = ap (λ (t : Bool). eqb x y && t) (same_pointwise xs ys)

-- std's `starts_with`, and its `==` of two texts, is the same test
pub pointwise-same : (xs ys : List ℕ) → pointwise nat_eq ys xs ≡ same xs ys
pointwise-same xs ys = go (pointwise nat_eq ys xs) (same xs ys) refl refl
  where
    go : (b c : Bool) → b ≡ pointwise nat_eq ys xs → c ≡ same xs ys → b ≡ c
    go true true e f = refl
    go true false e f = absurd (false≢true (f ∙ ap (λ (l : List ℕ). same l ys) (sym (same_text ys xs e)) ∙ same_refl ys))
    go false true e f = absurd (other_text ys xs e (sym (same_eq xs ys (sym f))))
    go false false e f = refl

-- ---- all_are
pub all_replicate : (n v : ℕ) → all_are v (replicate n v) ≡ true
unfolding all_are
all_replicate zero v = refl
all_replicate (suc n) v = both (eq-eqb v v refl) (all_replicate n v)

pub all_eq : (v : ℕ) (xs : List ℕ) → all_are v xs ≡ true → xs ≡ replicate (length xs) v
unfolding all_are
all_eq v [] e = refl
all_eq v (x ∷ xs) e =
    ap₂ (λ (a : ℕ) (l : List ℕ). a ∷ l) (eqb-true x v (first (eqb x v) (all_are v xs) e)) (all_eq v xs (second (eqb x v) (all_are v xs) e))

-- a loop over the list, from place i on
module _ (v : ℕ) (xs : List ℕ) (i : ℕ) where
  pub all_end : length xs ≤ i → all_are v (drop i xs) ≡ true
  unfolding all_are
  all_end h = rw (drop_of_length-le xs h)

  pub all-step : i < length xs → all_are v (drop i xs) ≡ (eqb (get_or xs i 0) v && all_are v (drop (i + 1) xs))
  unfolding all_are
  all-step h = rw (add-one, drop-cons xs i 0 h)

-- ---- elements read one by one
-- n elements from place i on
abbrev pub read : ℕ → ℕ → List ℕ → List ℕ
read zero i xs = []
read (suc n) i xs = get_or xs i 0 ∷ read n (suc i) xs

pub read-part : (n i : ℕ) (xs : List ℕ) → i + n ≤ length xs → read n i xs ≡ part i n xs
read-part zero i xs h = refl
read-part (suc n) i xs h = rw (drop-cons xs i 0 (omega arith), read-part n (suc i) xs (omega arith))

pub read_all : (n : ℕ) (xs : List ℕ) → length xs ≡ n → read n 0 xs ≡ xs
read_all n xs e = read-part n 0 xs (omega arith) ∙ take_all n xs (omega arith)

-- ---- bytes
pub bytes-head : (b : ℕ) (bs : List ℕ) → T (are_bytes (b ∷ bs)) → b < 256
bytes-head b bs t = ltb→lt b 256 (T-left (ltb b 256) (are_bytes bs) t)
  where
    T-left : (x y : Bool) → T (x && y) → T x
    T-left true y t = tt
    T-left false y t = absurd t

pub bytes_tail : (b : ℕ) (bs : List ℕ) → T (are_bytes (b ∷ bs)) → T (are_bytes bs)
bytes_tail b bs t = T-right (ltb b 256) (are_bytes bs) t
  where
    T-right : (x y : Bool) → T (x && y) → T y
    T-right true y t = t
    T-right false y t = absurd t

pub bytes_cons : (b : ℕ) (bs : List ℕ) → b < 256 → T (are_bytes bs) → T (are_bytes (b ∷ bs))
bytes_cons b bs h t = T-both (ltb b 256) (are_bytes bs) (lt→ltb b 256 h) t
  where
    T-both : (x y : Bool) → T x → T y → T (x && y)
    T-both true y p q = q
    T-both false y p q = absurd p

-- a list whose every element is below 256, as the type of a slice of bytes says
pub bytes-all : (bs : List ℕ) → ((i : ℕ) → get_or bs i 0 < 256) → T (are_bytes bs)
bytes-all [] h = tt
bytes-all (b ∷ bs) h = bytes_cons b bs (h 0) (bytes-all bs (λ i. h (suc i)))

pub bytes-append : (xs ys : List ℕ) → T (are_bytes xs) → T (are_bytes ys) → T (are_bytes (xs ++ ys))
bytes-append [] ys p q = q
bytes-append (x ∷ xs) ys p q = bytes_cons x (xs ++ ys) (bytes-head x xs p) (bytes-append xs ys (bytes_tail x xs p) q)

pub bytes_take : (n : ℕ) (xs : List ℕ) → T (are_bytes xs) → T (are_bytes (take n xs))
bytes_take zero xs t = tt
bytes_take (suc n) [] t = tt
bytes_take (suc n) (x ∷ xs) t = bytes_cons x (take n xs) (bytes-head x xs t) (bytes_take n xs (bytes_tail x xs t))

pub bytes_drop : (n : ℕ) (xs : List ℕ) → T (are_bytes xs) → T (are_bytes (drop n xs))
bytes_drop zero xs t = t
bytes_drop (suc n) [] t = tt
bytes_drop (suc n) (x ∷ xs) t = bytes_drop n xs (bytes_tail x xs t)
