-- "Slot layouts": credentials, value ids, tags, and what a tag and id mean.
use Rattle.std.specs.Prelude.{Bool, not, ◌&&◌, ◌||◌, List, [], ◌∷◌, ℕ, ◌+◌, ◌-◌, ◌^◌, eqb, leb, Option, Some, None, is_some}
use Rattle.basics.specs.Choice.{pick}
use Rattle.ids.specs.declared.Meaning.{Meaning}
use Rattle.ids.specs.declared.Meaning.TheVariants as meaning

-- "counter 52", "value 4C", "anchor 41"
abbrev pub counter_tag : ℕ
counter_tag = 0x52

abbrev pub value_tag : ℕ
value_tag = 0x4C

abbrev pub anchor_tag : ℕ
anchor_tag = 0x41

-- "head_seq 48 bits": the highest one
abbrev pub anchor_seq_max : ℕ
anchor_seq_max = 2 ^ 48 - 1

-- "the seven credential numbers stand in one fixed table, 01 02 03 11 12 21 22 in this order"
abbrev pub credentials : List ℕ
credentials = 0x01 ∷ 0x02 ∷ 0x03 ∷ 0x11 ∷ 0x12 ∷ 0x21 ∷ 0x22 ∷ []

-- the first place that holds x, in a list whose places count from i
unfoldable pub place_from : ℕ → List ℕ → ℕ → Option ℕ
place_from i [] x = None
place_from i (c ∷ cs) x = pick (eqb c x) (Some i) (place_from (i + 1) cs x)

abbrev pub place_of : List ℕ → ℕ → Option ℕ
place_of = place_from 0

-- a credential is a number of the table
abbrev pub is_credential : ℕ → Bool
is_credential x = is_some (place_of credentials x)

-- "Value ids 1..8: Lamport, PoolClock, PoolConfig, PoolSeq, SignatureCounter, StoreDegradedOpens, StoreReanchors, StoreLastReanchor."
abbrev pub lamport : ℕ
lamport = 1

abbrev pub pool_clock : ℕ
pool_clock = 2

abbrev pub pool_config : ℕ
pool_config = 3

abbrev pub pool_seq : ℕ
pool_seq = 4

abbrev pub signature_counter : ℕ
signature_counter = 5

abbrev pub store_degraded_opens : ℕ
store_degraded_opens = 6

abbrev pub store_reanchors : ℕ
store_reanchors = 7

abbrev pub store_last_reanchor : ℕ
store_last_reanchor = 8

abbrev pub is_value : ℕ → Bool
is_value d = leb 1 d && leb d 8

-- "All are monotonic but 3, 5 and 8."
abbrev pub may_fall : ℕ → Bool
may_fall d = eqb d pool_config || (eqb d signature_counter || eqb d store_last_reanchor)

-- an unknown id is not monotonic
unfoldable pub is_monotonic : ℕ → ℕ → Bool
is_monotonic t d = eqb t value_tag && (is_value d && not (may_fall d))

-- "What a tag and id mean is decided by cases."
abbrev pub credential_meaning : Option ℕ → Meaning
credential_meaning (Some i) = meaning.Credential i
credential_meaning None = meaning.Unknown

unfoldable pub value_meaning : ℕ → Meaning
value_meaning d = pick (is_value d) (pick (may_fall d) meaning.Free meaning.Monotonic) meaning.Unknown

unfoldable pub meaning_of : ℕ → ℕ → Meaning
meaning_of t d =
    pick (eqb t counter_tag) (credential_meaning (place_of credentials d))
    (pick (eqb t value_tag) (value_meaning d)
    (pick (eqb t anchor_tag && eqb d 0) meaning.Anchor meaning.Unknown))
