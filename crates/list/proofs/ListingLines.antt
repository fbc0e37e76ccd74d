-- A line of numbers and the lines of a table, place by place.
use mathlib.Core.Path.{◌≡◌, ap, subst}
use mathlib.Core.List.{List, [], ◌++◌}
use Prim.Native.Nat.{ℕ, ◌+◌, ◌≤◌, ◌<◌}
use native.Mathlib.Numerals.{add-one}
use lib.ListN.{length, get_or, take, drop, drop_of_length-le}
use native.Mathlib.Omega.{arith}
use lib.Seq.{drop-cons, get_or-take, length-take-le}
use Rattle.codec.specs.declared.Raw.{Raw}
use Rattle.text.specs.Text.{Puts}
use Rattle.text.proofs.TextPutting.{Begun, begun, next}
use Rattle.list.specs.Listing.{number, line, record_line, record_lines}

-- the line from place i of xs on
abbrev pub line_from : List ℕ → ℕ → List ℕ
line_from xs i = line (get_or xs i 0) (drop (i + 1) xs)

module _ (xs : List ℕ) where
  pub line-all : (x : ℕ) → 0 < length xs → line x xs ≡ number x 32 ++ line_from xs 0
  unfolding line
  line-all x h = ap (line x) (drop-cons xs 0 0 h)

  pub line_step : (i : ℕ) → i + 1 < length xs → line_from xs i ≡ number (get_or xs i 0) 32 ++ line_from xs (i + 1)
  unfolding line
  line_step i h = rw (drop-cons xs (i + 1) 0 h, add-one (i + 1))

  pub line_end : (i : ℕ) → length xs ≤ i + 1 → line_from xs i ≡ number (get_or xs i 0) 10
  unfolding line
  line_end i h = rw (drop_of_length-le xs {i = i + 1} h)

nine : (body : List ℕ) → length body ≡ 10 → length (take 9 body) ≡ 9
nine body long = length-take-le 9 body (omega (arith, long))

-- putting a record's line: its tag, its id, the nine numbers of its body that others follow, and the tenth
module _ {before after : List ℕ} {at q : ℕ} (r : Raw) (long : length r.body ≡ 10) (room : at + length (record_line r) ≤ length before) where
  pub id_next : Puts before at (number r.tag 32) after q → Begun before at (record_line r) (number r.id 32 ++ line_from r.body 0) after q
  unfolding line
  id_next p =
      subst (λ (l : List ℕ). Begun before at (record_line r) l after q) (line-all r.body r.id (omega (arith, long))) (next room (begun room) p)

  module _ (i : ℕ) (b : Begun before at (record_line r) (line_from r.body i) after q) where
    pub number_next : i < length (take 9 r.body)
        → Begun before at (record_line r) (number (get_or (take 9 r.body) i 0) 32 ++ line_from r.body (i + 1)) after q
    number_next h =
        rw (get_or-take 9 r.body i 0 (omega (arith, nine r.body long)))
        (rw (line_step r.body i (omega (arith, nine r.body long, long))) at b)

    pub last_next : length (take 9 r.body) ≤ i → i ≤ length (take 9 r.body) → Begun before at (record_line r) (number (get_or r.body 9 0) 10) after q
    last_next h k =
        let all : i ≡ 9 = omega (arith, nine r.body long) in
        rw (all, line_end r.body 9 (omega (arith, long))) at b

-- the lines from place i on
pub lines_step : (rs : List Raw) (i : ℕ) (d : Raw) → i < length rs
    → record_lines (drop i rs) ≡ record_line (get_or rs i d) ++ record_lines (drop (i + 1) rs)
unfolding record_lines
lines_step rs i d h = rw (add-one i, drop-cons rs i d h)

pub lines_end : (rs : List Raw) (i : ℕ) → length rs ≤ i → record_lines (drop i rs) ≡ []
unfolding record_lines
lines_end rs i h = rw (drop_of_length-le rs {i = i} h)
