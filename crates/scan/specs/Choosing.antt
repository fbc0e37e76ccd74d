-- "The valid header with the highest seq wins; among equals, the lowest sector."
use Rattle.std.specs.Prelude.{Option, Some, None, ◌≡◌, List, ◌⊎◌, ℕ, zero, suc, ◌≤◌, ◌<◌, ltb}
use Rattle.basics.specs.Choice.{pick}
use Rattle.codec.specs.Slots.{header_of}
use Rattle.flash.specs.Image.{slot_at}

-- the header of a sector is its slot 0
abbrev pub header_at : ℕ → List ℕ → ℕ → Option ℕ
header_at version image s = header_of version (slot_at image s 0)

-- a sector that comes later wins only with a higher seq
abbrev pub better : Option (ℕ × ℕ) → ℕ → Option ℕ → Option (ℕ × ℕ)
better None s None = None
better None s (Some seq) = Some (s, seq)
better (Some (w, most)) s None = Some (w, most)
better (Some (w, most)) s (Some seq) = pick (ltb most seq) (Some (s, seq)) (Some (w, most))

-- n more sectors from s on, with these headers
unfoldable pub best_from : ℕ → ℕ → (ℕ → Option ℕ) → Option (ℕ × ℕ) → Option (ℕ × ℕ)
best_from zero s headers best = best
best_from (suc n) s headers best = best_from n (suc s) headers (better best s (headers s))

-- the choice among n sectors
abbrev pub chosen_of : ℕ → ℕ → List ℕ → Option (ℕ × ℕ)
chosen_of version n image = best_from n 0 (header_at version image) None

-- the same in plain words: of n sectors, w wins with this seq
pub record Wins (headers : ℕ → Option ℕ) (n w seq : ℕ) : Type 0 where
  pub within : w < n
  pub own : headers w ≡ Some seq
  pub beats : (s other : ℕ) → s < n → headers s ≡ Some other → (other < seq) ⊎ ((other ≡ seq) × (w ≤ s))
