-- Laws of what lands: a slot of which the first n bytes were programmed, and a sector of which the first n were erased.
use mathlib.Core.Path.{◌≡◌, refl, ap, ap₂, ◌∙◌}
use mathlib.Core.List.{List, [], ◌∷◌, ◌++◌, append-nil}
use Prim.Native.Nat.{ℕ, zero, suc, ◌+◌, ◌-◌, ◌≤◌, ◌<◌}
use native.Mathlib.Nat.{mod-eq_of_lt}
use native.Mathlib.Numerals.{add-one}
use native.Mathlib.Omega.{arith}
use lib.Bits.{bit_and, and_comm, and_mask, and_le_l}
use lib.Dec.{T}
use lib.ListN.{length, get_or, take, drop, set, replicate, length-append, length-drop, length-replicate, drop_of_length-le}
use lib.Pow.{are_bytes}
use lib.Seq.{take_all}
use Rattle.basics.proofs.ListsLaws.{bytes-head, bytes_tail, bytes_cons, bytes-append, bytes_drop}
use Rattle.flash.specs.Run.{landed, blanked}

-- ---- landed
pub landed-length : (n : ℕ) (new old : List ℕ) → length (landed n new old) ≡ length old
unfolding landed
landed-length zero new old = refl
landed-length (suc n) new [] = refl
landed-length (suc n) [] (o ∷ old) = refl
landed-length (suc n) (x ∷ new) (o ∷ old) = ap suc (landed-length n new old)

pub landed_none : (new old : List ℕ) → landed 0 new old ≡ old
unfolding landed
landed_none new old = refl

-- no more than all of it can land
pub landed-all : (n : ℕ) (new old : List ℕ) → length new ≤ n → landed n new old ≡ landed (length new) new old
unfolding landed
landed-all zero [] old h = refl
landed-all zero (x ∷ new) old h = absurd (omega arith)
landed-all (suc n) [] [] h = refl
landed-all (suc n) [] (o ∷ old) h = refl
landed-all (suc n) (x ∷ new) [] h = refl
landed-all (suc n) (x ∷ new) (o ∷ old) h = ap (λ (l : List ℕ). bit_and o x ∷ l) (landed-all n new old (omega arith))

-- one byte more, as a loop stores it
landed_suc : (i : ℕ) (new old : List ℕ) → i < length new → i < length old
    → set (landed i new old) i (bit_and (get_or (landed i new old) i 0) (get_or new i 0)) ≡ landed (suc i) new old
unfolding landed
landed_suc i [] old h k = absurd (omega arith)
landed_suc i (x ∷ new) [] h k = absurd (omega arith)
landed_suc zero (x ∷ new) (o ∷ old) h k = refl
landed_suc (suc i) (x ∷ new) (o ∷ old) h k = ap (λ (l : List ℕ). bit_and o x ∷ l) (landed_suc i new old (omega arith) (omega arith))

pub landed-step : (i : ℕ) (new old : List ℕ) → i < length new → i < length old
    → set (landed i new old) i (bit_and (get_or (landed i new old) i 0) (get_or new i 0)) ≡ landed (i + 1) new old
landed-step i new old h k = rw add-one (landed_suc i new old h k)

pub landed-bytes : (n : ℕ) (new old : List ℕ) → T (are_bytes old) → T (are_bytes (landed n new old))
unfolding landed
landed-bytes zero new old t = t
landed-bytes (suc n) new [] t = tt
landed-bytes (suc n) [] (o ∷ old) t = t
landed-bytes (suc n) (x ∷ new) (o ∷ old) t =
    bytes_cons (bit_and o x) (landed n new old) (omega (arith, and_le_l o x, bytes-head o old t)) (landed-bytes n new old (bytes_tail o old t))

-- over a blank slot the new bytes themselves land, and the rest stays blank
pub landed-blank : (n : ℕ) (new : List ℕ) → T (are_bytes new)
    → landed n new (replicate (length new) 0xFF) ≡ take n new ++ replicate (length new - n) 0xFF
unfolding landed
landed-blank zero new t = let none : length new - 0 ≡ length new = omega arith in rw none
landed-blank (suc n) [] t = let none : 0 - suc n ≡ 0 = omega arith in rw none
landed-blank (suc n) (x ∷ new) t =
    let byte : bit_and 0xFF x ≡ x = and_comm 0xFF x ∙ and_mask x 8 ∙ mod-eq_of_lt (bytes-head x new t) in
    let less : suc (length new) - suc n ≡ length new - n = omega arith in
    rw less (ap₂ (λ (b : ℕ) (l : List ℕ). b ∷ l) byte (landed-blank n new (bytes_tail x new t)))

pub landed-new : (n : ℕ) (new : List ℕ) → T (are_bytes new) → length new ≤ n → landed n new (replicate (length new) 0xFF) ≡ new
landed-new n new t h =
    let none : length new - n ≡ 0 = omega arith in
    landed-blank n new t ∙ rw (none, append-nil) (take_all n new h)

-- ---- blanked
module _ (n : ℕ) (old : List ℕ) where
  pub blanked-length : n ≤ length old → length (blanked n old) ≡ length old
  blanked-length h = simp (length-append, length-replicate, length-drop) (omega arith)

  pub blanked-all : length old ≤ n → blanked n old ≡ replicate n 0xFF
  blanked-all h = rw (drop_of_length-le old h, append-nil)

  pub blanked-bytes : T (are_bytes old) → T (are_bytes (blanked n old))
  blanked-bytes t = bytes-append (replicate n 0xFF) (drop n old) (full n) (bytes_drop n old t)
    where
      full : (m : ℕ) → T (are_bytes (replicate m 0xFF))
      full zero = tt
      full (suc m) = full m
