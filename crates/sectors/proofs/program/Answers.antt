-- `sectors::program` meets its contract.
use mathlib.Core.Path.{sym, ap}
use native.Mathlib.Omega.{arith}
use Rattle.flash.specs.Run.{Stepped}
use Rattle.flash.proofs.PowerLaws.{to_program-most}
use Rattle.flash.proofs.RunLaws.{program-run}
use Rattle.sectors.specs.Shown.{flash_with, used_of}
use Rattle.sectors.proofs.program.Goals as goal

pub program_slot-answer-requires : goal.program_slot-answer-requires
program_slot-answer-requires c =
    (c.requires.0, rw c.to_program-n.ensures (to_program-most c.args.used.plan), c.requires.1)

pub overflow_add-result : goal.overflow_add-result
overflow_add-result c =
    omega (arith, c.requires.2, c.to_program-n.ensures, to_program-most c.args.used.plan)

pub returns : goal.returns
returns c = λ cut.
    let a = c.args in
    let run =
    program-run a.sector a.slot a.bytes (flash_with a.image.now a.used cut) c.to_program-n.result
    c.program_slot-answer.result c.program_slot-answer.new.image c.after_program-left.result c.to_program-n.ensures
    c.program_slot-answer.ensures.0 c.program_slot-answer.ensures.1 c.after_program-left.ensures in
    record {
      shown = ap (λ (o : Stepped). record { answer = o.answer; used = used_of o.flash }) (sym run);
      left = ap (λ (o : Stepped). o.flash.image) (sym run);
    }
