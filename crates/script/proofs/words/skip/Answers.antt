-- `script::words::skip` meets its contract: what `==` says of two texts.
use Rattle.std.proofs.Common.{sym}
use Rattle.std.proofs.lemmas.Slice.Eq.{slice_eq-Decides}
use Rattle.std.proofs.lemmas.Bool.Decides.{Decides-eqb}
use Rattle.script.proofs.WordsBehind.{skip_here, skip_other}
use Rattle.script.proofs.words.skip.Goals as goal

pub returns-then-eq : goal.returns-then-eq
returns-then-eq c =
    let s = c.args in
    let same = slice_eq-Decides Decides-eqb _ _ _ c.eq.ensures in
    sym (skip_here s.word.now s.at s.text.now c.in_ok-to.to (sym c.in_ok-to.ensures.place) (same.0 c.if-eq.true))

pub returns-else-eq : goal.returns-else-eq
returns-else-eq c =
    let s = c.args in
    let same = slice_eq-Decides Decides-eqb _ _ _ c.eq.ensures in
    sym (skip_other s.word.now s.at s.text.now c.in_ok-to.to (sym c.in_ok-to.ensures.place) (λ e. let t = same.1 e in cc))
