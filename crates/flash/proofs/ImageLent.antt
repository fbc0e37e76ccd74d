-- What a function that lent n bytes of an image, from place a on, finds in the whole where they came back as what f makes of them.
use mathlib.Core.Path.{◌≡◌}
use mathlib.Core.List.{List}
use Prim.Native.Nat.{ℕ, ◌+◌, ◌-◌, ◌≤◌}
use native.Mathlib.Nat.{add-sub_cancel_left}
use native.Mathlib.Omega.{arith}
use lib.ListN.{length, drop, length-drop}
use lib.Seq.{length-take-le}
use Rattle.basics.specs.Lists.{part, splice}
use Rattle.basics.proofs.ListsSplice.{splice-here}

module _ (a n : ℕ) (f : List ℕ → List ℕ) (image back : List ℕ) (came : back ≡ f (part a (a + n - a) image)) where
  pub lent-whole : splice a (a + n - a) back image ≡ splice a n (f (part a n image)) image
  lent-whole = rw (came, add-sub_cancel_left a n)

  -- the same bytes read again
  pub lent_again : a + n ≤ length image → ((l : List ℕ) → length l ≡ n → length (f l) ≡ n)
      → part a (a + n - a) (splice a (a + n - a) back image) ≡ f (part a n image)
  lent_again fits keeps =
      let size = keeps (part a n image) (length-take-le n (drop a image) (simp length-drop (omega arith))) in
      rw lent-whole (rw (add-sub_cancel_left a n) (splice-here a n (f (part a n image)) image fits size))
