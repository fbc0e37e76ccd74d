-- `script::hex::hex_bytes` meets its contract. The loop's invariant: all stands but the bytes from `from` on that there is room for.
use lib.ListN.{length}
use Rattle.text.proofs.TextPutting.{Begun}
use Rattle.script.specs.Hex.{bytes_in}
use Rattle.script.proofs.hex.hex_bytes.Given as goal

abbrev pub invariant-loop-k : goal.invariant-loop-k
invariant-loop-k l =
    Begun l.initial.out l.to (bytes_in l.at l.text l.to (length l.initial.out)) (bytes_in l.from l.text l.k (length l.initial.out)) l.out l.k
