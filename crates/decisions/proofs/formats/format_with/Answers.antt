-- `decisions::formats::format_with` meets its contract.
use mathlib.Core.Path.{sym, ap, ◌∙◌}
use mathlib.Core.List.{[]}
use native.Mathlib.Omega.{arith}
use lib.ListN.{length, take}
use Rattle.records.specs.declared.Log.{Log}
use Rattle.records.specs.Logs.{places}
use Rattle.records.proofs.LogsOwned.{whole-log}
use Rattle.records.proofs.FittingLaws.{fits-unformatted, records_length, log_is}
use Rattle.sectors.specs.Commits.{commit_first}
use Rattle.sectors.specs.Shown.{flash_with}
use Rattle.decisions.proofs.ReadyFinish.{finished}
use Rattle.decisions.proofs.formats.format_with.Goals as goal

pub commit-w-requires : goal.commit-w-requires
commit-w-requires c =
    let p = c.requires in
    (record { few = p.3.most; sectors = p.0.few; sized = p.0.sized; slots = omega (arith, p.0.slots); erases = p.0.erases }, p.2)

pub returns : goal.returns
returns c = λ cut.
    let a = c.args in
    let t = take a.count a.table in
    let fits = c.requires.0.fits in
    let whole = whole-log a.log c.well_formed.1.0 in
    let none = fits-unformatted a.sectors a.log fits c.requires.1 in
    let shown = c.commit-w.ensures cut in
    record {
      answered =
          c.finish.ensures
          ∙ finished (commit_first a.sectors t a.log.state a.log.next_seq (flash_with a.image.now a.used cut))
          c.commit-w.result 0 a.log t [] a.table a.count
          shown.shown c.requires.3.behind (sym c.requires.3.counted)
          (ap (λ (l : Log). l.table) (log_is a.log whole a.sectors fits) ∙ ap places none)
          (sym (records_length a.log whole a.sectors fits) ∙ ap length none);
      left = shown.left;
    }
