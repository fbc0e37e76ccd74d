-- `records::fitting::bits_of` meets its contract.
use mathlib.Core.Path.{ap, ◌∙◌}
use mathlib.Core.List.{List, [], ◌∷◌}
use Prim.Native.Nat.{ℕ}
use lib.ListN.{get_or}
use Rattle.basics.specs.Lists.{all_are}
use Rattle.basics.proofs.ListsLaws.{read_all}
use Rattle.codec.proofs.SlotsOwned.{ten}
use Rattle.records.proofs.FittingZeros.{bits_none}
use Rattle.records.proofs.fitting.bits_of.Goals as goal

pub returns : goal.returns
unfolding all_are
returns c =
    let r = c.args.r in
    let b : ℕ → ℕ = λ i. get_or r.body i 0 in
    rw (c.number4.ensures, c.number4-2.ensures, c.number4-3.ensures)
    (bits_none (r.tag ∷ r.id ∷ b 0 ∷ b 1 ∷ []) (b 2 ∷ b 3 ∷ b 4 ∷ b 5 ∷ []) (b 6 ∷ b 7 ∷ b 8 ∷ b 9 ∷ [])
    ∙ ap (λ (body : List ℕ). all_are 0 (r.tag ∷ r.id ∷ body)) (read_all 10 r.body (ten r c.well_formed.0)))
