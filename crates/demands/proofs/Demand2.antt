-- Demand 2: what a function may answer, and leave of what it was lent, is one thing only.
use mathlib.Core.Path.{sym, ap, ◌∙◌}
use mathlib.Core.Bool.{false}
use Rattle.crc.proofs.IeeeBits.{number, number-bits}
use Rattle.crc.proofs.IeeeCheck.{check_unique, crc_check}
use Rattle.demands.specs.Demand2.{Demand2}

pub demand_2 : Demand2
demand_2 = record {
  calls = λ o x y a b i. ((a.answered ∙ sym b.answered) i, (a.left ∙ sym b.left) i);
  lent-calls = λ o x y a b i.
      ((a.met.answered ∙ sym b.met.answered) i, (a.met.left ∙ sym b.met.left) i, (a.left ∙ sym b.left) i);
  turns = λ first second image log plan x y a b i. ((a.answered ∙ sym b.answered) i, (a.left ∙ sym b.left) i);
  steps = λ o x y a b i. (((a false).shown ∙ sym (b false).shown) i, ((a false).left ∙ sym (b false).left) i);
  writes = λ o x y a b i. (((a false).shown ∙ sym (b false).shown) i, ((a false).left ∙ sym (b false).left) i);
  puts = λ before at text x y a b i. ((a.left ∙ sym b.left) i, (a.past ∙ sym b.past) i);
  checksums = λ bytes r q a b.
      sym (number-bits 32 r a.0) ∙ ap number (check_unique _ _ _ a.1 b.1) ∙ number-bits 32 q b.0;
  checked = crc_check;
}
