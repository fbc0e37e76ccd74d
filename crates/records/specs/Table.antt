-- The table of records: one a key, in the order in which the keys came.
use Rattle.std.specs.Prelude.{Bool, false, ◌&&◌, ◌||◌, List, [], ◌∷◌, ℕ, suc, ◌+◌, eqb, ltb, length, get_or, Option, Some, None}
use Rattle.basics.specs.Choice.{pick}
use Rattle.ids.specs.Ids.{is_monotonic}
use Rattle.codec.specs.declared.Raw.{Raw}
use Rattle.codec.specs.Slots.{no_raw}
use Rattle.bodies.specs.Bodies.{value_in}

-- "at most 32 records"
abbrev pub limit : ℕ
limit = 32

-- a key is a tag and an id
abbrev pub has_key : ℕ → ℕ → Raw → Bool
has_key tag id r = eqb r.tag tag && eqb r.id id

abbrev pub same_key : Raw → Raw → Bool
same_key a b = has_key b.tag b.id a

-- the place of the record with this key; the number of records where there is none
unfoldable pub place_of : ℕ → ℕ → List Raw → ℕ
place_of tag id [] = 0
place_of tag id (e ∷ es) = pick (has_key tag id e) 0 (suc (place_of tag id es))

-- the same, of tags and ids in two lists
unfoldable pub key_place : ℕ → ℕ → List ℕ → List ℕ → ℕ
key_place tag id [] ids = 0
key_place tag id (x ∷ tags) [] = 0
key_place tag id (x ∷ tags) (y ∷ ids) = pick (eqb x tag && eqb y id) 0 (suc (key_place tag id tags ids))

-- whether a record with this key is held
unfoldable pub holds : ℕ → ℕ → List Raw → Bool
holds tag id [] = false
holds tag id (e ∷ es) = has_key tag id e || holds tag id es

-- the record held of a key, if there is one
unfoldable pub held_of : ℕ → ℕ → List Raw → Option Raw
held_of tag id t = pick (holds tag id t) (Some (get_or t (place_of tag id t) no_raw)) None

-- "replaces the held one of the same tag and id in its place, or joins at the end"
unfoldable pub joined : Raw → List Raw → List Raw
joined r [] = r ∷ []
joined r (e ∷ es) = pick (same_key e r) (r ∷ es) (e ∷ joined r es)

-- "a monotonic value (tag 4C) smaller than the held one is ignored"
unfoldable pub falls : Raw → Raw → Bool
falls new held = is_monotonic new.tag new.id && ltb (value_in new.body) (value_in held.body)

unfoldable pub absorbed : Raw → List Raw → List Raw
absorbed r [] = r ∷ []
absorbed r (e ∷ es) = pick (same_key e r) (pick (falls r e) (e ∷ es) (r ∷ es)) (e ∷ absorbed r es)

-- a key that is held, or room for one more: a 33rd key has none
abbrev pub has_room : ℕ → Raw → List Raw → Bool
has_room most r t = holds r.tag r.id t || ltb (length t) most

-- one record more where the key's place is the count
abbrev pub new_count : ℕ → ℕ → ℕ
new_count count at = pick (eqb at count) (count + 1) count
