-- The running form: a register fed part by part comes to what the whole gives. Callers cite these laws and no definition's text.
use mathlib.Core.Path.{◌≡◌, refl, ap}
use mathlib.Core.List.{List, [], ◌∷◌, ◌++◌}
use Prim.Native.Nat.{ℕ, ◌+◌, ◌≤◌, ◌<◌}
use native.Mathlib.Numerals.{add-one}
use lib.ListN.{length, drop, get_or, drop_of_length-le}
use lib.Seq.{drop-cons}
use Rattle.crc.specs.Register.{eat, feed, initial, finished, crc32_of}

-- one part after the other
pub feed-append : (s : ℕ) (xs ys : List ℕ) → feed s (xs ++ ys) ≡ feed (feed s xs) ys
unfolding feed
feed-append s [] ys = refl
feed-append s (x ∷ xs) ys = feed-append (eat s x) xs ys

-- the checksum of two parts, the first fed before
pub crc_parts : (xs ys : List ℕ) → crc32_of (xs ++ ys) ≡ finished (feed (feed initial xs) ys)
unfolding crc32_of
crc_parts xs ys = ap finished (feed-append initial xs ys)

-- a loop over bytes, from place i on
module _ (s : ℕ) (bs : List ℕ) (i : ℕ) where
  pub feed_end : length bs ≤ i → feed s (drop i bs) ≡ s
  unfolding feed
  feed_end h = rw (drop_of_length-le bs h)

  pub feed-step : i < length bs → feed s (drop i bs) ≡ feed (eat s (get_or bs i 0)) (drop (i + 1) bs)
  unfolding feed
  feed-step h = rw (add-one, drop-cons bs i 0 h)
