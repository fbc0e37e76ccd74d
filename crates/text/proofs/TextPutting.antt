-- Laws of putting text: where it ends, how two puts make one, and how a long text is put piece by piece.
use mathlib.Core.Path.{◌≡◌, refl, sym, ap, ap₂, subst, ◌∙◌}
use mathlib.Core.List.{List, [], ◌∷◌, ◌++◌, append_assoc}
use Prim.Native.Nat.{ℕ, ◌+◌, ◌≤◌, ◌<◌}
use native.Mathlib.Numerals.{add-one}
use native.Mathlib.Omega.{arith}
use lib.ListN.{length, take, drop, set, length-append, length-drop}
use lib.Seq.{length-take-le, take_at, drop_at, drop-drop, set_split}
use Rattle.basics.specs.Lists.{splice}
use Rattle.basics.proofs.ListsSplice.{splice-length, splice-same}
use Rattle.text.specs.Text.{Puts}

-- no text leaves the buffer as it was
pub put-none : (before : List ℕ) (at : ℕ) → Puts before at [] before at
put-none before at = record { past = omega arith; left = sym (splice-same at 0 before) }

-- one byte stored
pub put_one : (before : List ℕ) (at b : ℕ) → at < length before → Puts before at (b ∷ []) (set before at b) (at + 1)
put_one before at b h =
    record
    { past = refl; left = set_split before at b h ∙ ap (λ (l : List ℕ). take at before ++ (b ∷ l)) (rw (drop-drop 1 at before, add-one)) }

-- the buffer keeps its length
pub put-length : {before text after : List ℕ} {at r : ℕ} → Puts before at text after r → at + length text ≤ length before
    → length after ≡ length before
put-length {before} {text} {after} {at} p room = ap length p.left ∙ splice-length at (length text) text before room refl

-- text that was put into a buffer lies within it
pub put-within : {before text after : List ℕ} {at r : ℕ} → Puts before at text after r → at ≤ length before → length after ≡ length before
    → r ≤ length before
put-within {before} {text} {after} {at} p h same =
    omega
    (arith, p.past, length-take-le at before h, simp (length-append, length-drop) at (ap length p.left))

-- one text, and another behind it
module _ (before : List ℕ) (at : ℕ) (t u : List ℕ) (room : at + length t ≤ length before) where
  front : length (take at before ++ t) ≡ at + length t
  front = length-append (take at before) t ∙ omega (arith, length-take-le at before (omega arith))

  splice_then : splice (at + length t) (length u) u (splice at (length t) t before) ≡ splice at (length (t ++ u)) (t ++ u) before
  splice_then =
      let rest = drop (length t) (drop at before) in
      let parts = sym (append_assoc (take at before) t rest) in
      ap (splice (at + length t) (length u) u) parts
      ∙ ap₂ (λ (a b : List ℕ). a ++ (u ++ drop (length u) b)) (take_at (take at before ++ t) rest (at + length t) front)
      (drop_at (take at before ++ t) rest (at + length t) front)
      ∙ append_assoc (take at before) t (u ++ drop (length u) rest)
      ∙ ap (λ (l : List ℕ). take at before ++ l)
      (sym (append_assoc t u (drop (length u) rest))
      ∙ ap (λ (l : List ℕ). (t ++ u) ++ l)
      (drop-drop (length u) (length t) (drop at before) ∙ ap (λ (n : ℕ). drop n (drop at before)) (sym (length-append t u))))

  pub put_then : {middle after : List ℕ} {q r : ℕ} → Puts before at t middle q → Puts middle q u after r → Puts before at (t ++ u) after r
  put_then {middle} {after} {q} {r} p s = record {
    past = omega (arith, p.past, s.past, length-append t u);
    left = s.left ∙ ap₂ (λ (a : ℕ) (l : List ℕ). splice a (length u) u l) p.past p.left ∙ splice_then;
  }

-- of the text `whole` all stands but `rest`
pub record Begun (before : List ℕ) (at : ℕ) (whole rest after : List ℕ) (r : ℕ) : Type 0 where
  pub done : List ℕ
  pub stands : Puts before at done after r
  pub lacks : done ++ rest ≡ whole

module _ {before : List ℕ} {at : ℕ} {whole : List ℕ} (room : at + length whole ≤ length before) where
  pub begun : Begun before at whole whole before at
  begun = record { done = []; stands = put-none before at; lacks = refl }

  module _ {rest after : List ℕ} {r : ℕ} (b : Begun before at whole rest after r) where
    sizes : length b.done + length rest ≡ length whole
    sizes = sym (length-append b.done rest) ∙ ap length b.lacks

    pub same-room : length after ≡ length before
    same-room = put-length b.stands (omega (arith, sizes))

    -- what is left to put has room
    pub room-left : r + length rest ≤ length after
    room-left = omega (arith, sizes, b.stands.past, same-room)

  -- and so has its first piece
  pub piece_fits : (t rest : List ℕ) {after : List ℕ} {r : ℕ} → Begun before at whole (t ++ rest) after r → r + length t ≤ length after
  piece_fits t rest b = omega (arith, room-left b, length-append t rest)

  -- the next piece
  pub next : {t rest middle after : List ℕ} {q r : ℕ} → Begun before at whole (t ++ rest) middle q → Puts middle q t after r
      → Begun before at whole rest after r
  next {t} {rest} b p = record {
    done = b.done ++ t;
    stands = put_then before at b.done t (omega (arith, sizes b)) b.stands p;
    lacks = append_assoc b.done t rest ∙ b.lacks;
  }

  -- the last piece
  pub last : {t middle after : List ℕ} {q r : ℕ} → Begun before at whole t middle q → Puts middle q t after r → Puts before at whole after r
  last {t} {middle} {after} {q} {r} b p =
      subst (λ (l : List ℕ). Puts before at l after r) b.lacks (put_then before at b.done t (omega (arith, sizes b)) b.stands p)

  -- nothing is left
  pub ended : {after : List ℕ} {r : ℕ} → Begun before at whole [] after r → Puts before at whole after r
  ended {after} {r} b = last b (put-none after r)
