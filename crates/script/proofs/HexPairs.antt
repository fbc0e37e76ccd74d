-- Laws of bytes in hex: what a digit is worth, and a run of bytes one by one.
use mathlib.Core.Path.{◌≡◌, refl, ap, ap₂, ◌∙◌}
use mathlib.Core.Bool.{Bool, true, false, ◌&&◌}
use mathlib.Core.List.{List, [], ◌∷◌, append-nil}
use Prim.Native.Nat.{ℕ, suc, ◌+◌, ◌-◌, ◌*◌, ◌≤◌, ◌<◌}
use native.Mathlib.Nat.{add-zero}
use native.Mathlib.Omega.{arith}
use lib.Dec.{ltb, leb}
use lib.ListN.{length, get_or, take, drop, length-take, get_or-eq_default, drop_of_length-le}
use lib.Seq.{get_or-drop, drop-drop, take-nil}
use borrow.Author.Tests.{le-leb, lt-leb, leb-true, ltb-true, ltb-false, eq-eqb, ne_eqb}
use Rattle.std.specs.Prelude.{Option, Some, None}
use Rattle.std.proofs.lemmas.List.{take_all}
use Rattle.basics.specs.Choice.{pick}
use Rattle.basics.proofs.ChoiceLaws.{second}
use Rattle.text.specs.Text.{Puts}
use Rattle.script.specs.Hex.{hex_value, pair_of, byte_of, byte_at, run_of, bytes_of, bytes_in, whole_of}

-- ---- one digit
module _ (c : ℕ) where
  pub value-digit : 48 ≤ c → c ≤ 57 → hex_value c ≡ Some (c - 48)
  unfolding hex_value
  value-digit h k = rw (le-leb 48 c h, le-leb c 57 k)

  pub value_letter : 97 ≤ c → c ≤ 102 → hex_value c ≡ Some (c - 87)
  unfolding hex_value
  value_letter h k = rw (le-leb 48 c (omega arith), lt-leb c 57 (omega arith), le-leb 97 c h, le-leb c 102 k)

  pub value-below : c < 48 → hex_value c ≡ None
  unfolding hex_value
  value-below h = rw (lt-leb 48 c h, lt-leb 97 c (omega arith))

  pub value_between : 57 < c → c < 97 → hex_value c ≡ None
  unfolding hex_value
  value_between h k = rw (le-leb 48 c (omega arith), lt-leb c 57 h, lt-leb 97 c k)

  pub value-above : 102 < c → hex_value c ≡ None
  unfolding hex_value
  value-above h = rw (le-leb 48 c (omega arith), lt-leb c 57 (omega arith), le-leb 97 c (omega arith), lt-leb c 102 h)

  -- a value is below sixteen
  pub value_small : (v : ℕ) → hex_value c ≡ Some v → v < 16
  unfolding hex_value
  value_small v = digit (leb 48 c && leb c 57) refl
    where
      letter : (t : Bool) → leb 97 c && leb c 102 ≡ t → pick t (Some (c - 87)) None ≡ Some v → v < 16
      letter true t e = let is : c - 87 ≡ v = cc in let k = leb-true c 102 (second (leb 97 c) (leb c 102) t) in omega arith
      letter false t e = cc

      digit : (t : Bool) → leb 48 c && leb c 57 ≡ t
          → pick t (Some (c - 48)) (pick (leb 97 c && leb c 102) (Some (c - 87)) None) ≡ Some v → v < 16
      digit true t e = let is : c - 48 ≡ v = cc in let k = leb-true c 57 (second (leb 48 c) (leb c 57) t) in omega arith
      digit false t e = letter (leb 97 c && leb c 102) refl e

-- ---- two digits
pub pair_none : (high : Option ℕ) → pair_of high None ≡ None
pair_none (Some high) = refl
pair_none None = refl

-- the byte at a place, by what its digits are worth
module _ (at : ℕ) (text : List ℕ) where
  pub no_first : hex_value (get_or text at 0) ≡ None → byte_at at text ≡ None
  unfolding byte_at
  no_first e = rw e

  pub no_second : hex_value (get_or text (at + 1) 0) ≡ None → byte_at at text ≡ None
  unfolding byte_at
  no_second e = rw e (pair_none (hex_value (get_or text at 0)))

  pub a_pair : (high low : ℕ) → hex_value (get_or text at 0) ≡ Some high → hex_value (get_or text (at + 1) 0) ≡ Some low
      → byte_at at text ≡ Some (16 * high + low)
  unfolding byte_at
  a_pair high low e k = rw (e, k)

  -- behind the text's end there is none
  pub byte_outside : length text ≤ at + 1 → byte_at at text ≡ None
  byte_outside h = no_second (rw (get_or-eq_default text 0 h) (value-below 0 (omega arith)))

-- so a byte lies within the text
pub byte_within : (at : ℕ) (text : List ℕ) (b : ℕ) → byte_at at text ≡ Some b → at + 1 < length text
byte_within at text b e = go (ltb (at + 1) (length text)) refl
  where
    go : (t : Bool) → ltb (at + 1) (length text) ≡ t → at + 1 < length text
    go true h = ltb-true (at + 1) (length text) h
    go false h = let none = byte_outside at text (ltb-false (at + 1) (length text) h) in cc

-- ---- a run of bytes, from place i on
run-front : (l : List ℕ) → bytes_of l ≡ run_of (byte_of (get_or l 0 0) (get_or l 1 0)) (bytes_of (drop 2 l))
unfolding bytes_of
run-front [] = rw (value-below 0 (omega arith))
run-front (a ∷ []) = rw (value-below 0 (omega arith), pair_none (hex_value a))
run-front (a ∷ b ∷ rest) = refl

module _ (text : List ℕ) (i : ℕ) where
  run_at : bytes_of (drop i text) ≡ run_of (byte_at i text) (bytes_of (drop (i + 2) text))
  unfolding byte_at
  run_at =
      run-front (drop i text)
      ∙ rw (get_or-drop i text 0 0, get_or-drop i text 1 0, add-zero, drop-drop 2 i text)

  pub run_none : byte_at i text ≡ None → bytes_of (drop i text) ≡ []
  run_none e = run_at ∙ rw e

  pub run_more : (b : ℕ) → byte_at i text ≡ Some b → bytes_of (drop i text) ≡ b ∷ bytes_of (drop (i + 2) text)
  run_more b e = run_at ∙ rw e

-- ---- the same, as far as there is room from place k on in a buffer of this size
module _ (text : List ℕ) (i k size : ℕ) where
  pub fill_none : byte_at i text ≡ None → bytes_in i text k size ≡ []
  fill_none e = ap (take (size - k)) (run_none text i e) ∙ take-nil (size - k)

  pub fill_more : (b : ℕ) → k < size → byte_at i text ≡ Some b → bytes_in i text k size ≡ b ∷ bytes_in (i + 2) text (k + 1) size
  fill_more b h e =
      let one : size - k ≡ suc (size - (k + 1)) = omega arith in
      ap₂ (λ (n : ℕ) (l : List ℕ). take n l) one (run_more text i b e)

  pub fill-full : size ≤ k → bytes_in i text k size ≡ []
  fill-full h = let none : size - k ≡ 0 = omega arith in rw none

  pub fill-room : k ≤ size → k + length (bytes_in i text k size) ≤ size
  fill-room h = simp length-take (omega arith)

-- ---- the bytes that a whole text is
run_short : (o : Option ℕ) (more : List ℕ) (n : ℕ) → 2 * length more ≤ n → 2 * length (run_of o more) ≤ 2 + n
run_short (Some b) more n h = omega arith
run_short None more n h = omega arith

bytes_short : (l : List ℕ) → 2 * length (bytes_of l) ≤ length l
unfolding bytes_of
bytes_short [] = omega arith
bytes_short (a ∷ []) = omega arith
bytes_short (a ∷ b ∷ rest) = omega (arith, run_short (byte_of a b) (bytes_of rest) (length rest) (bytes_short rest))

-- what fills a buffer is what stands there
fills : {before text after : List ℕ} {r : ℕ} → Puts before 0 text after r → length text ≡ length before → after ≡ text
fills {before} {text} p same = p.left ∙ rw (drop_of_length-le before {i = length text} (omega arith)) (append-nil text)

module _ (n : ℕ) (text : List ℕ) where
  pub whole_size : (length text ≡ 2 * n → ⊥) → whole_of n text ≡ None
  unfolding whole_of
  whole_size e = rw (ne_eqb (length text) (2 * n) e)

  module _ (before after : List ℕ) (r : ℕ) (size : length text ≡ 2 * n) (room : length before ≡ n)
      (put : Puts before 0 (bytes_in 0 text 0 (length before)) after r) where
    all_read : bytes_in 0 text 0 (length before) ≡ bytes_of text
    all_read =
        let all : length before - 0 ≡ length before = omega arith in
        rw all (take_all (length before) (bytes_of text) (omega (arith, bytes_short text)))

    pub whole_none : (r ≡ n → ⊥) → whole_of n text ≡ None
    unfolding whole_of
    whole_none e =
        let short : length (bytes_of text) ≡ n → ⊥ = λ k. e (omega (arith, put.past, ap length all_read)) in
        rw (eq-eqb (length text) (2 * n) size, ne_eqb (length (bytes_of text)) n short)

    pub whole_some : r ≡ n → whole_of n text ≡ Some after
    unfolding whole_of
    whole_some e =
        let many : length (bytes_of text) ≡ n = omega (arith, put.past, ap length all_read) in
        let is : after ≡ bytes_of text = fills put (omega (arith, ap length all_read)) ∙ all_read in
        rw (eq-eqb (length text) (2 * n) size, eq-eqb (length (bytes_of text)) n many, is)

pub ruleset byte_laws = (no_first, no_second, a_pair, byte_outside, value_small)
