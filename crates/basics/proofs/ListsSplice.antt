-- Laws of `splice`: the length stays, the new part reads back, and every part beside it reads as before.
use mathlib.Core.Path.{◌≡◌, ap, sym, ◌∙◌}
use mathlib.Core.List.{List, ◌++◌}
use Prim.Native.Nat.{ℕ, ◌+◌, ◌-◌, ◌≤◌}
use native.Mathlib.Omega.{arith}
use lib.ListN.{length, take, drop, length-append, length-drop, take-append-drop}
use lib.Seq.{length-take-le, take_at, drop_at, take-append-le, drop-append-le, drop-drop}
use Rattle.basics.specs.Lists.{part, splice}

module _ {A : Type 0} (a n : ℕ) (ys xs : List A) (fits : a + n ≤ length xs) (size : length ys ≡ n) where
  front : length (take a xs) ≡ a
  front = length-take-le a xs (omega arith)

  pub splice-length : length (splice a n ys xs) ≡ length xs
  splice-length = simp (length-append, length-drop) (omega (arith, front))

  -- what was put in is read back
  pub splice-here : part a n (splice a n ys xs) ≡ ys
  splice-here = rw (drop_at (take a xs) (ys ++ drop n (drop a xs)) a front) (take_at ys (drop n (drop a xs)) n size)

  -- what lies before it is as it was
  pub splice-before : (b m : ℕ) → b + m ≤ a → part b m (splice a n ys xs) ≡ part b m xs
  splice-before b m h =
      let rest = ys ++ drop n (drop a xs) in
      ap (take m) (drop-append-le b (take a xs) rest (omega (arith, front)))
      ∙ take-append-le m (drop b (take a xs)) rest (simp length-drop (omega (arith, front)))
      ∙ sym (take-append-le m (drop b (take a xs)) (drop a xs) (simp length-drop (omega (arith, front))))
      ∙ ap (take m) (sym (drop-append-le b (take a xs) (drop a xs) (omega (arith, front))) ∙ ap (drop b) (take-append-drop a xs))

  -- and what lies behind it
  pub splice-behind : (b m : ℕ) → a + n ≤ b → part b m (splice a n ys xs) ≡ part b m xs
  splice-behind b m h =
      let k = b - (a + n) in
      let at : b ≡ (a + n) + k = omega arith in
      ap (take m)
      (ap (λ (x : ℕ). drop x (splice a n ys xs)) at
      ∙ sym (drop-drop k (a + n) (splice a n ys xs))
      ∙ ap (drop k) behind
      ∙ drop-drop k (a + n) xs
      ∙ ap (λ (x : ℕ). drop x xs) (sym at))
    where
      behind : drop (a + n) (splice a n ys xs) ≡ drop (a + n) xs
      behind =
          sym (drop-drop n a (splice a n ys xs))
          ∙ ap (drop n) (drop_at (take a xs) (ys ++ drop n (drop a xs)) a front)
          ∙ drop_at ys (drop n (drop a xs)) n size
          ∙ drop-drop n a xs

-- putting back what is there changes nothing
pub splice-same : {A : Type 0} (a n : ℕ) (xs : List A) → splice a n (part a n xs) xs ≡ xs
splice-same a n xs = ap (λ (l : List _). take a xs ++ l) (take-append-drop n (drop a xs)) ∙ take-append-drop a xs
