-- `text::figures::put_hex` meets its contract.
use mathlib.Core.Path.{subst}
use mathlib.Core.List.{[], ◌∷◌}
use Prim.Native.Nat.{ℕ, ◌/◌, ◌%◌}
use native.Mathlib.Omega.{arith}
use Rattle.text.specs.Text.{hex_digit, hex_of, Puts}
use Rattle.text.proofs.TextPutting.{put_then}
use Rattle.text.proofs.figures.put_hex.Goals as goal

pub returns : goal.returns
unfolding hex_of
returns c =
    let a = c.args in
    put_then a.out.now a.at (hex_digit (a.byte / 16) ∷ []) (hex_digit (a.byte % 16) ∷ []) (omega (arith, c.requires))
    (subst (λ (d : ℕ). Puts a.out.now a.at (d ∷ []) c.put_byte-next.new.out c.put_byte-next.result) c.hex_digit.ensures
    c.put_byte-next.ensures)
    (subst
    (λ (d : ℕ).
    Puts c.put_byte-next.new.out c.put_byte-next.result (d ∷ []) c.put_byte.new.out c.put_byte.result)
    c.hex_digit-2.ensures c.put_byte.ensures)
