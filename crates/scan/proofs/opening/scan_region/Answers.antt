-- `scan::opening::scan_region` meets its contract.
use mathlib.Core.Path.{sym, ap, ◌∙◌, subst}
use Prim.Native.Nat.{ℕ}
use native.Mathlib.Omega.{arith}
use lib.ListN.{length}
use Rattle.flash.proofs.ImageSectors.{sectors-fit}
use Rattle.scan.specs.Choosing.{header_at, chosen_of, Wins}
use Rattle.scan.specs.Opening.{region_chosen, scan_of}
use Rattle.scan.proofs.ChoosingWinner.{Right, chosen_right}
use Rattle.scan.proofs.opening.scan_region.Goals as goal

pub choose-requires : goal.choose-requires
choose-requires c = rw c.sectors-n.ensures (sectors-fit (length c.args.image.now))

pub scan_sector-requires : goal.scan_sector-requires
scan_sector-requires c =
    let a = c.args in
    let n = c.sectors-n.result in
    let wins : Wins (header_at a.version a.image.now) n c.in-Some.sector c.in-Some.seq =
    subst (Right (header_at a.version a.image.now) n) (sym c.choose.ensures ∙ c.in-Some.is)
    (chosen_right (header_at a.version a.image.now) n) in
    let fit = sectors-fit (length a.image.now) in
    (omega (arith, wins.within, fit.0, c.sectors-n.ensures), omega (arith, wins.within, fit.1, c.sectors-n.ensures))

pub returns-in-None : goal.returns-in-None
unfolding scan_of
returns-in-None c =
    let a = c.args in
    rw c.empty_table-t.ensures
    (ap (region_chosen a.image.now)
    (sym c.in-None.is
    ∙ c.choose.ensures
    ∙ ap (λ (n : ℕ). chosen_of a.version n a.image.now) c.sectors-n.ensures))

pub returns-in-Some : goal.returns-in-Some
unfolding scan_of
returns-in-Some c =
    let a = c.args in
    c.scan_sector.ensures
    ∙ ap (region_chosen a.image.now)
    (sym c.in-Some.is
    ∙ c.choose.ensures
    ∙ ap (λ (n : ℕ). chosen_of a.version n a.image.now) c.sectors-n.ensures)
