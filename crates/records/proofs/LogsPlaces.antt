-- An array of places and a count stand for a list of records: what a read and a store at a place make of the list.
use mathlib.Core.Path.{◌≡◌, refl, sym, ap, ◌∙◌}
use mathlib.Core.List.{List, [], ◌∷◌, ◌++◌, map}
use Prim.Native.Nat.{ℕ, suc, ◌+◌, ◌-◌, ◌≤◌, ◌<◌}
use native.Mathlib.Numerals.{add-one}
use native.Mathlib.Omega.{arith}
use lib.ListN.{length, get_or, set, take, replicate, length-append, length-replicate, length-set, get_or-append}
use lib.Seq.{set-append_left, set_at, take-suc-set, append_snoc, take_at}
use Rattle.codec.specs.declared.Raw.{Raw}
use Rattle.codec.specs.Slots.{no_raw}
use Rattle.records.specs.Table.{limit}
use Rattle.records.specs.Logs.{places}

module _ (t : List Raw) where
  pub places-length : length t ≤ limit → length (places t) ≡ limit
  places-length h = length-append t (replicate (limit - length t) no_raw) ∙ omega (arith, length-replicate (limit - length t) no_raw)

  pub places-take : take (length t) (places t) ≡ t
  places-take = take_at t (replicate (limit - length t) no_raw) (length t) refl

  pub places_get : (i : ℕ) (d : Raw) → i < length t → get_or (places t) i d ≡ get_or t i d
  places_get i d h = get_or-append t (replicate (limit - length t) no_raw) d i h

  -- a store at a place that is used
  pub places-set : (i : ℕ) (r : Raw) → i < length t → set (places t) i r ≡ places (set t i r)
  places-set i r h =
      set-append_left t (replicate (limit - length t) no_raw) i r h
      ∙ ap (λ (n : ℕ). set t i r ++ replicate (limit - n) no_raw) (sym (length-set t i r))

  -- a store at the first place that is free
  pub places-add : (r : Raw) → length t < limit → set (places t) (length t) r ≡ places (t ++ (r ∷ []))
  places-add r h =
      let free : limit - length t ≡ suc (limit - (length t + 1)) = omega arith in
      let longer : length (t ++ (r ∷ [])) ≡ length t + 1 = length-append t (r ∷ []) in
      ap (λ (n : ℕ). set (t ++ replicate n no_raw) (length t) r) free
      ∙ set_at t no_raw (replicate (limit - (length t + 1)) no_raw) r (length t) refl
      ∙ sym (append_snoc t r (replicate (limit - (length t + 1)) no_raw))
      ∙ ap (λ (n : ℕ). t ++ (r ∷ []) ++ replicate (limit - n) no_raw) (sym longer)

-- one list for a part of each record, kept beside the table
pub beside-add : {A : Type 0} (f : Raw → A) (t : List Raw) (r : Raw) → map f (t ++ (r ∷ [])) ≡ map f t ++ (f r ∷ [])
beside-add f [] r = refl
beside-add f (e ∷ t) r = ap (λ (l : List _). f e ∷ l) (beside-add f t r)

pub beside-stored : (f : Raw → ℕ) (t : List Raw) (r : Raw) (column : List ℕ) (count : ℕ) → count < length column → take count column ≡ map f t
    → take (count + 1) (set column count (f r)) ≡ map f (t ++ (r ∷ []))
beside-stored f t r column count h e =
    rw add-one (take-suc-set column count (f r) h ∙ ap (λ (l : List ℕ). l ++ (f r ∷ [])) e ∙ sym (beside-add f t r))
