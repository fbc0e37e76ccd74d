-- The values that arguments can have: a u8 is below 256, and so on. Nothing more is asked of the arguments of a call.
use Rattle.std.specs.Prelude.{List, [], ◌∷◌, ◌<◌, ◌^◌}
use Rattle.ids.specs.declared.CounterState.{CounterState}
use Rattle.ids.specs.declared.Anchor.{Anchor}
use Rattle.decisions.specs.declared.seeds.Seed.{Seed}

pub record TypedCounter (s : CounterState) : Type 0 where
  pub total : s.total < 2 ^ 32
  pub at-reset : s.at_reset < 2 ^ 32
  pub allowance : s.allowance < 256

pub record TypedAnchor (a : Anchor) : Type 0 where
  pub format-gen : a.format_gen < 2 ^ 16
  pub head-seq : a.head_seq < 2 ^ 64
  pub head-slot : a.head_slot < 2 ^ 16

unfoldable pub TypedSeeds : List Seed → Type 0
TypedSeeds [] = Unit {0}
TypedSeeds (s ∷ seeds) = (s.credential < 256) × TypedCounter s.state × TypedSeeds seeds
