-- `sectors::erase` meets its contract.
use mathlib.Core.Path.{sym, ap}
use native.Mathlib.Omega.{arith}
use Rattle.flash.specs.Run.{Stepped}
use Rattle.flash.proofs.PowerLaws.{to_erase-most}
use Rattle.flash.proofs.RunLaws.{erase-run}
use Rattle.sectors.specs.Shown.{flash_with, used_of}
use Rattle.sectors.proofs.erase.Goals as goal

pub erase_sector-answer-requires : goal.erase_sector-answer-requires
erase_sector-answer-requires c =
    (rw c.to_erase-n.ensures (to_erase-most c.args.used.plan), c.requires.0)

pub overflow_add-result : goal.overflow_add-result
overflow_add-result c =
    omega (arith, c.requires.1, c.to_erase-n.ensures, to_erase-most c.args.used.plan)

pub returns : goal.returns
returns c = λ cut.
    let a = c.args in
    let run =
    erase-run a.sector (flash_with a.image.now a.used cut) c.to_erase-n.result c.erase_sector-answer.result
    c.erase_sector-answer.new.image c.after_erase-left.result c.to_erase-n.ensures c.erase_sector-answer.ensures.0
    c.erase_sector-answer.ensures.1 c.after_erase-left.ensures in
    record {
      shown = ap (λ (o : Stepped). record { answer = o.answer; used = used_of o.flash }) (sym run);
      left = ap (λ (o : Stepped). o.flash.image) (sym run);
    }
