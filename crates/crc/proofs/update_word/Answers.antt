-- `crc::update_word` meets its contract.
use mathlib.Core.Path.{ap, ◌∙◌}
use Rattle.crc.specs.Register.{feed}
use Rattle.crc.proofs.update_word.Goals as goal

pub returns : goal.returns
returns c =
    let args = c.args in
    c.update.ensures ∙ ap (feed args.state) c.bytes4-b.ensures
