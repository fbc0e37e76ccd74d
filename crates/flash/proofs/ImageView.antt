-- The view laws: what slots and sectors hold after a slot or a sector is put in. Nothing above this file opens the geometry of an image.
use mathlib.Core.Path.{◌≡◌, refl, sym, ap, ◌∙◌}
use mathlib.Core.Bool.{true}
use mathlib.Core.List.{List, [], ◌∷◌, ◌++◌}
use mathlib.Core.Logic.{◌⊎◌, inl, inr}
use Prim.Native.Nat.{ℕ, zero, suc, ◌+◌, ◌*◌, ◌≤◌, ◌<◌}
use native.Mathlib.Omega.{arith}
use lib.Dec.{T}
use lib.ListN.{length, get_or, take, drop, replicate, length-take, length-drop, length-replicate, get_or-replicate, get_or-append}
use lib.Pow.{are_bytes}
use lib.Seq.{length-take-le, take-take, drop-drop, get_or-take}
use Rattle.basics.specs.Lists.{all_are, part, splice}
use Rattle.basics.proofs.ListsLaws.{all_replicate, bytes-append, bytes_take, bytes_drop}
use Rattle.basics.proofs.ListsSplice.{splice-length, splice-here, splice-before, splice-behind, splice-same}
use Rattle.flash.specs.Image.{addr, slot_at, sector_at, with_slot, with_sector}
use Rattle.flash.specs.Run.{blanked}
use Rattle.flash.proofs.RunLanding.{blanked-length, blanked-all}

-- an image of n sectors
abbrev pub Fits : ℕ → List ℕ → Type 0
Fits n image = length image ≡ n * 4096

-- ---- lists
-- a part of the front is that part of the whole
part-front : (b w n : ℕ) (xs : List ℕ) → b + w ≤ n → part b w (take n xs) ≡ part b w xs
part-front zero w n xs h = take-take w n xs (omega arith)
part-front (suc b) w zero xs h = absurd (omega arith)
part-front (suc b) w (suc n) [] h = refl
part-front (suc b) w (suc n) (x ∷ xs) h = part-front b w n xs (omega arith)

part-replicate : (b w n v : ℕ) → b + w ≤ n → part b w (replicate n v) ≡ replicate w v
part-replicate zero zero n v h = refl
part-replicate zero (suc w) zero v h = absurd (omega arith)
part-replicate zero (suc w) (suc n) v h = ap (λ (l : List ℕ). v ∷ l) (part-replicate zero w n v (omega arith))
part-replicate (suc b) w zero v h = absurd (omega arith)
part-replicate (suc b) w (suc n) v h = part-replicate b w n v (omega arith)

splice-bytes : (a n : ℕ) (ys xs : List ℕ) → T (are_bytes ys) → T (are_bytes xs) → T (are_bytes (splice a n ys xs))
splice-bytes a n ys xs p q =
    bytes-append (take a xs) (ys ++ drop n (drop a xs)) (bytes_take a xs q)
    (bytes-append ys (drop n (drop a xs)) p (bytes_drop n (drop a xs) (bytes_drop a xs q)))

apart : (a b : ℕ) → (a ≡ b → ⊥) → (a < b) ⊎ (b < a)
apart zero zero h = absurd (h refl)
apart zero (suc b) h = inl (omega arith)
apart (suc a) zero h = inr (omega arith)
apart (suc a) (suc b) h = up (apart a b (λ e. h (ap suc e)))
  where
    up : (a < b) ⊎ (b < a) → (suc a < suc b) ⊎ (suc b < suc a)
    up (inl p) = inl (omega arith)
    up (inr p) = inr (omega arith)

-- ---- what is there
-- a slot is a part of its sector
pub slot_in_sector : (image : List ℕ) (s k : ℕ) → k < 256 → slot_at image s k ≡ part (k * 16) 16 (sector_at image s)
unfolding slot_at sector_at
slot_in_sector image s k h =
    sym (part-front (k * 16) 16 4096 (drop (s * 4096) image) (omega arith) ∙ ap (take 16) (drop-drop (k * 16) (s * 4096) image))

pub sector-most : (image : List ℕ) (s : ℕ) → length (sector_at image s) ≤ 4096
unfolding sector_at
sector-most image s = simp length-take (omega arith)

-- putting back what is there changes nothing
pub with-slot-same : (image : List ℕ) (s k : ℕ) → with_slot s k (slot_at image s k) image ≡ image
unfolding slot_at with_slot
with-slot-same image s k = splice-same (addr s k) 16 image

-- nor does an erase of no byte
pub erased-none : (image : List ℕ) (s : ℕ) → with_sector s (blanked 0 (sector_at image s)) image ≡ image
unfolding sector_at with_sector
erased-none image s = splice-same (s * 4096) 4096 image

module _ (n : ℕ) (image : List ℕ) (fits : Fits n image) (s : ℕ) (in_image : s < n) where
  pub slot-length : (k : ℕ) → k < 256 → length (slot_at image s k) ≡ 16
  unfolding slot_at
  slot-length k h = length-take-le 16 (drop (addr s k) image) (simp length-drop (omega arith))

  pub sector-length : length (sector_at image s) ≡ 4096
  unfolding sector_at
  sector-length = length-take-le 4096 (drop (s * 4096) image) (simp length-drop (omega arith))

  -- ---- another slot in its place
  module _ (k : ℕ) (in-sector : k < 256) (bytes : List ℕ) (size : length bytes ≡ 16) where
    pub with-slot-length : length (with_slot s k bytes image) ≡ length image
    unfolding with_slot
    with-slot-length = splice-length (addr s k) 16 bytes image (omega arith) size

    pub with-slot-here : slot_at (with_slot s k bytes image) s k ≡ bytes
    unfolding slot_at with_slot
    with-slot-here = splice-here (addr s k) 16 bytes image (omega arith) size

    -- every other slot, as its place is before or behind
    beside : (x j : ℕ) → (addr x j + 16 ≤ addr s k) ⊎ (addr s k + 16 ≤ addr x j) → slot_at (with_slot s k bytes image) x j ≡ slot_at image x j
    unfolding slot_at with_slot
    beside x j (inl h) = splice-before (addr s k) 16 bytes image (omega arith) size (addr x j) 16 h
    beside x j (inr h) = splice-behind (addr s k) 16 bytes image (omega arith) size (addr x j) 16 h

    pub with-slot-beside : (j : ℕ) → (j ≡ k → ⊥) → slot_at (with_slot s k bytes image) s j ≡ slot_at image s j
    with-slot-beside j h = go (apart j k h)
      where
        go : (j < k) ⊎ (k < j) → slot_at (with_slot s k bytes image) s j ≡ slot_at image s j
        go (inl p) = beside s j (inl (omega arith))
        go (inr p) = beside s j (inr (omega arith))

    pub with-slot-apart : (x j : ℕ) → (x ≡ s → ⊥) → j < 256 → slot_at (with_slot s k bytes image) x j ≡ slot_at image x j
    with-slot-apart x j h l = go (apart x s h)
      where
        go : (x < s) ⊎ (s < x) → slot_at (with_slot s k bytes image) x j ≡ slot_at image x j
        go (inl p) = beside x j (inl (omega arith))
        go (inr p) = beside x j (inr (omega arith))

  -- ---- another sector in its place
  module _ (bytes : List ℕ) (size : length bytes ≡ 4096) where
    pub with-sector-length : length (with_sector s bytes image) ≡ length image
    unfolding with_sector
    with-sector-length = splice-length (s * 4096) 4096 bytes image (omega arith) size

    pub with-sector-here : sector_at (with_sector s bytes image) s ≡ bytes
    unfolding sector_at with_sector
    with-sector-here = splice-here (s * 4096) 4096 bytes image (omega arith) size

    pub with-sector-slot : (j : ℕ) → j < 256 → slot_at (with_sector s bytes image) s j ≡ part (j * 16) 16 bytes
    with-sector-slot j h = slot_in_sector (with_sector s bytes image) s j h ∙ ap (part (j * 16) 16) with-sector-here

    pub with-sector-apart : (x j : ℕ) → (x ≡ s → ⊥) → j < 256 → slot_at (with_sector s bytes image) x j ≡ slot_at image x j
    unfolding slot_at with_sector
    with-sector-apart x j h l = go (apart x s h)
      where
        go : (x < s) ⊎ (s < x) → slot_at (with_sector s bytes image) x j ≡ slot_at image x j
        go (inl p) = splice-before (s * 4096) 4096 bytes image (omega arith) size (addr x j) 16 (omega arith)
        go (inr p) = splice-behind (s * 4096) 4096 bytes image (omega arith) size (addr x j) 16 (omega arith)

  -- ---- the sector with its first m bytes erased
  module _ (m : ℕ) (most : m ≤ 4096) where
    blanked-size : length (blanked m (sector_at image s)) ≡ 4096
    blanked-size = blanked-length m (sector_at image s) (omega (arith, sector-length)) ∙ sector-length

    pub erased-first : 0 < m → get_or (slot_at (with_sector s (blanked m (sector_at image s)) image) s 0) 0 0 ≡ 0xFF
    erased-first h =
        ap (λ (l : List ℕ). get_or l 0 0) (with-sector-slot (blanked m (sector_at image s)) blanked-size 0 (omega arith))
        ∙ get_or-take 16 (blanked m (sector_at image s)) 0 0 (omega arith)
        ∙ get_or-append (replicate m 0xFF) (drop m (sector_at image s)) 0 0 (simp length-replicate h)
        ∙ get_or-replicate m 0 0xFF 0 h

  -- ---- the sector erased whole
  pub erased-slot : (j : ℕ) → j < 256 → slot_at (with_sector s (blanked 4096 (sector_at image s)) image) s j ≡ replicate 16 0xFF
  erased-slot j h =
      with-sector-slot (blanked 4096 (sector_at image s)) (blanked-size 4096 (omega arith)) j h
      ∙ ap (part (j * 16) 16) (blanked-all 4096 (sector_at image s) (omega (arith, sector-length)))
      ∙ part-replicate (j * 16) 16 4096 0xFF (omega arith)

  pub erased-all : all_are 0xFF (sector_at (with_sector s (blanked 4096 (sector_at image s)) image) s) ≡ true
  erased-all =
      ap (all_are 0xFF)
      (with-sector-here (blanked 4096 (sector_at image s)) (blanked-size 4096 (omega arith))
      ∙ blanked-all 4096 (sector_at image s) (omega (arith, sector-length)))
      ∙ all_replicate 4096 0xFF

-- ---- bytes
module _ (image : List ℕ) (t : T (are_bytes image)) where
  pub slot-bytes : (s k : ℕ) → T (are_bytes (slot_at image s k))
  unfolding slot_at
  slot-bytes s k = bytes_take 16 (drop (addr s k) image) (bytes_drop (addr s k) image t)

  pub sector-bytes : (s : ℕ) → T (are_bytes (sector_at image s))
  unfolding sector_at
  sector-bytes s = bytes_take 4096 (drop (s * 4096) image) (bytes_drop (s * 4096) image t)

  module _ (bytes : List ℕ) (b : T (are_bytes bytes)) where
    pub with-slot-bytes : (s k : ℕ) → T (are_bytes (with_slot s k bytes image))
    unfolding with_slot
    with-slot-bytes s k = splice-bytes (addr s k) 16 bytes image b t

    pub with-sector-bytes : (s : ℕ) → T (are_bytes (with_sector s bytes image))
    unfolding with_sector
    with-sector-bytes s = splice-bytes (s * 4096) 4096 bytes image b t
