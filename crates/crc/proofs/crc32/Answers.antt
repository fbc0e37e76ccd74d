-- `crc::crc32` meets its contract.
use mathlib.Core.Path.{ap, ◌∙◌}
use Prim.Native.Nat.{ℕ}
use Rattle.crc.specs.Register.{feed, finished, crc32_of}
use Rattle.crc.proofs.crc32.Goals as goal

pub returns : goal.returns
unfolding crc32_of
returns c =
    let bytes = c.args.bytes.now in
    c.finish.ensures
    ∙ ap finished (c.update.ensures ∙ ap (λ (s : ℕ). feed s bytes) c.start.ensures)
