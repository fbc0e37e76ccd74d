-- `script::words::behind` keeps within the text.
use Rattle.std.proofs.Common.{sym, ap, ◌∙◌}
use Rattle.std.specs.Prelude.{Some}
use Rattle.script.proofs.WordsEnds.{behind_some, word_within}
use Rattle.script.proofs.words.behind.Goals as goal

pub returns-clause-within : goal.returns-clause-within
returns-clause-within c =
    let s = c.args in
    let here = sym (c.in_ok-get.ensures.lookup.3.1 0) ∙ c.if-branch-ne32.false in
    word_within s.at s.text.now c.end.result (behind_some s.at s.text.now here ∙ ap Some (sym c.end.ensures))
