-- A value chosen by a test.
use Rattle.std.specs.Prelude.{Bool, true, false}

-- the first where the test passes, the second where it fails
abbrev pub pick {ℓ} : {A : Type ℓ} → Bool → A → A → A
pick true x y = x
pick false x y = y
