-- `script::words::until` keeps within the text.
use Rattle.std.proofs.Common.{arith, drop, length-drop}
use Rattle.script.proofs.WordsEnds.{up_to_short}
use Rattle.script.proofs.words.until.Goals as goal

pub returns : goal.returns
returns c =
    let s = c.args in
    let e = c.end.ensures in
    (omega arith, omega (arith, up_to_short s.stop (drop s.from s.text.now), length-drop s.from s.text.now))
