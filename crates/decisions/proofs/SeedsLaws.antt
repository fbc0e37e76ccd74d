-- The loops over seeds and places, one turn at a time: what is left to do comes to what the whole does.
use mathlib.Core.Path.{◌≡◌, refl, ap}
use mathlib.Core.Bool.{Bool, true, false, ◌&&◌}
use mathlib.Core.List.{List, [], ◌∷◌}
use Prim.Native.Nat.{ℕ, suc, ◌+◌, ◌≤◌, ◌<◌}
use native.Mathlib.Omega.{arith}
use native.Mathlib.Numerals.{add-one}
use lib.ListN.{length, get_or, drop, drop_of_length-le}
use lib.Seq.{drop-cons}
use Rattle.std.specs.Prelude.{Option}
use Rattle.std.specs.List.{list_all, AllWithin, HoldsAt}
use Rattle.std.specs.Option.{MatchOption, unwrap_or}
use Rattle.std.proofs.lemmas.Iterator.{index_from_first}
use Rattle.basics.specs.Choice.{pick}
use Rattle.ids.specs.Ids.{is_credential}
use Rattle.codec.specs.declared.Raw.{Raw}
use Rattle.bodies.specs.Bodies.{counter_record}
use Rattle.records.specs.Table.{has_key, same_key, place_of, joined}
use Rattle.decisions.specs.declared.seeds.Seed.{Seed}
use Rattle.decisions.specs.Seeds.{seeded, all_known}

-- the element that a read past the last seed gives
abbrev pub no_seed : Seed
no_seed = record { credential = 0; state = record { total = 0; at_reset = 0; allowance = 0 } }

-- ---- the tests of seeds, and the place of a key, in std's words
pub known_all : (seeds : List Seed) → all_known seeds ≡ list_all (λ s. is_credential s.credential) seeds
unfolding all_known
known_all [] = refl
known_all (s ∷ seeds) = ap (λ (b : Bool). is_credential s.credential && b) (known_all seeds)

module _ (tag id : ℕ) where
  pub place_first : (t : List Raw) (r : Option ℕ)
      → MatchOption r (AllWithin (λ e. has_key tag id e ≡ false) t 0 (length t))
      (λ i. (i < length t) × HoldsAt (λ e. has_key tag id e ≡ true) t i × AllWithin (λ e. has_key tag id e ≡ false) t 0 i)
      → place_of tag id t ≡ unwrap_or r (length t)
  unfolding place_of
  place_first =
      index_from_first (place_of tag id) (λ e. has_key tag id e ≡ true) (λ e. has_key tag id e ≡ false) refl
      (λ e es h. rw h) (λ e es h. rw (h, add-one))

-- ---- seeds from place i on
module _ (seeds : List Seed) (i : ℕ) where
  pub seeded_end : (t : List Raw) → length seeds ≤ i → seeded (drop i seeds) t ≡ t
  unfolding seeded
  seeded_end t h = rw (drop_of_length-le seeds h)

  pub seeded-turn : (t : List Raw) → i < length seeds
      → seeded (drop i seeds) t
      ≡ seeded (drop (i + 1) seeds) (joined (counter_record (get_or seeds i no_seed).credential (get_or seeds i no_seed).state) t)
  unfolding seeded
  seeded-turn t h = rw (add-one, drop-cons seeds i no_seed h)

-- ---- a seed brings one record at most
join_most : (r : Raw) (t : List Raw) → length (joined r t) ≤ length t + 1
unfolding joined
join_most r [] = omega arith
join_most r (e ∷ es) = go (join_most r es) (same_key e r)
  where
    go : length (joined r es) ≤ length es + 1 → (b : Bool) → length (pick b (r ∷ es) (e ∷ joined r es)) ≤ suc (length es) + 1
    go ih true = omega arith
    go ih false = omega (arith, ih)

pub seeded-most : (seeds : List Seed) (t : List Raw) → length (seeded seeds t) ≤ length t + length seeds
unfolding seeded
seeded-most [] t = omega arith
seeded-most (s ∷ seeds) t =
    let r = counter_record s.credential s.state in
    omega (arith, join_most r t, seeded-most seeds (joined r t))
