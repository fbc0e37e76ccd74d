-- `script::hex::hex_array` meets its contract.
use mathlib.Core.Path.{sym}
use native.Mathlib.Omega.{arith}
use Rattle.script.proofs.HexPairs.{whole_size, whole_none, whole_some}
use Rattle.script.proofs.hex.hex_array.Goals.{then-text-ne0-via-then-text-ne0, then-text-ne0-via-else-text-ne0+then-text, then-text-ne0-via-else-text-ne0+else-text+then-hex_bytes}
use Rattle.script.proofs.hex.hex_array.Goals as goal

pub returns-then-text-ne0 : goal.returns-then-text-ne0
returns-then-text-ne0 g c =
    let n = g.row.N in
    let text = c.args.text.now in
    elim c.then-text-ne0.branch [
      | then-text-ne0-via-then-text-ne0 w ↦ sym (whole_size n text (λ e. omega arith))
      | then-text-ne0-via-else-text-ne0+then-text w ↦ sym (whole_size n text (λ e. omega arith))
      | then-text-ne0-via-else-text-ne0+else-text+then-hex_bytes w ↦
          sym (whole_none n text _ _ _ (omega arith) (omega arith) w.hex_bytes.ensures (λ e. omega arith))
    ]

pub returns : goal.returns
returns g c = sym (whole_some g.row.N c.args.text.now _ _ _ (omega arith) (omega arith) c.hex_bytes.ensures (omega arith))
