-- Laws of numbers as bytes: what is written is read back, both ways, and how large it can be.
use mathlib.Core.Path.{◌≡◌, refl, ap, ap₂, ◌∙◌}
use mathlib.Core.List.{List, [], ◌∷◌, ◌++◌}
use Prim.Native.Nat.{ℕ, zero, suc, ◌+◌, ◌*◌, ◌/◌, ◌%◌, ◌^◌, ◌<◌}
use native.Mathlib.Nat.{pow-suc, mul_assoc, mul_comm}
use native.Mathlib.Omega.{arith}
use lib.Dec.{T}
use lib.ListN.{length}
use lib.Pow.{are_bytes}
use Rattle.basics.specs.Little.{le_bytes, le_number}
use Rattle.basics.proofs.ListsLaws.{bytes-head, bytes_tail, bytes_cons}

pub le_length : (n x : ℕ) → length (le_bytes n x) ≡ n
unfolding le_bytes
le_length zero x = refl
le_length (suc zero) x = refl
le_length (suc (suc n)) x = ap suc (le_length (suc n) (x / 256))

-- a number is read as it was written
pub le_read : (n x : ℕ) → le_number (le_bytes (suc n) x) ≡ x
unfolding le_bytes le_number
le_read zero x = omega arith
le_read (suc n) x = ap (λ (q : ℕ). x % 256 + 256 * q) (le_read n (x / 256)) ∙ omega arith

-- bytes are written as they were read
pub le_write : (bs : List ℕ) → T (are_bytes bs) → le_bytes (length bs) (le_number bs) ≡ bs
unfolding le_bytes le_number
le_write [] t = refl
le_write (b ∷ []) t = ap (λ (x : ℕ). x ∷ []) (omega arith)
le_write (b ∷ d ∷ bs) t =
    let h = bytes-head b (d ∷ bs) t in
    let low : (b + 256 * le_number (d ∷ bs)) % 256 ≡ b = omega arith in
    let high : (b + 256 * le_number (d ∷ bs)) / 256 ≡ le_number (d ∷ bs) = omega arith in
    ap₂ (λ (x : ℕ) (y : List ℕ). x ∷ y) low (ap (le_bytes (length (d ∷ bs))) high ∙ le_write (d ∷ bs) (bytes_tail b (d ∷ bs) t))

-- a number that fits is written in bytes
pub le-bytes : (n x : ℕ) → x < 256 ^ n → T (are_bytes (le_bytes n x))
unfolding le_bytes
le-bytes zero x h = tt
le-bytes (suc zero) x h = bytes_cons x [] h tt
le-bytes (suc (suc n)) x h =
    bytes_cons (x % 256) (le_bytes (suc n) (x / 256)) (omega arith) (le-bytes (suc n) (x / 256) (omega (arith, pow-suc 256 (suc n))))

-- bytes spell a number that fits
pub le_fits : (bs : List ℕ) → T (are_bytes bs) → le_number bs < 256 ^ length bs
unfolding le_number
le_fits [] t = omega arith
le_fits (b ∷ bs) t = omega (arith, bytes-head b bs t, le_fits bs (bytes_tail b bs t), pow-suc 256 (length bs))

-- the bytes of a low and a high part
pub le_append : (xs ys : List ℕ) → le_number (xs ++ ys) ≡ le_number xs + 256 ^ length xs * le_number ys
unfolding le_number
le_append [] ys = omega arith
le_append (x ∷ xs) ys =
    let p = 256 ^ length xs * le_number ys in
    let e : 256 ^ suc (length xs) * le_number ys ≡ 256 * p =
    rw (pow-suc 256 (length xs), mul_comm (256 ^ length xs) 256) (mul_assoc 256 (256 ^ length xs) (le_number ys)) in
    ap (λ (q : ℕ). x + 256 * q) (le_append xs ys) ∙ omega (arith, e)
