-- `counter_log::anchors::first_anchor` meets its contract.
use mathlib.Core.Path.{◌≡◌, sym, ap, subst, ◌∙◌}
use mathlib.Core.Bool.{Bool, true, false, not}
use mathlib.Core.List.{List, []}
use native.Mathlib.Omega.{arith}
use Prim.Native.Nat.{ℕ}
use Rattle.std.specs.Prelude.{None, Result, is_ok}
use Rattle.std.specs.Result.{result_unwrap_or}
use Rattle.basics.specs.declared.Refusal.{Refusal}
use Rattle.basics.specs.Answers.{is_done}
use Rattle.basics.proofs.AnswersLaws.{beside-done}
use Rattle.codec.specs.declared.Raw.{Raw}
use Rattle.flash.specs.Run.{Flash}
use Rattle.records.specs.Table.{place_of}
use Rattle.records.specs.Logs.{records_of}
use Rattle.records.specs.Fitting.{log_fits}
use Rattle.sectors.specs.Shown.{flash_with}
use Rattle.decisions.specs.Decisions.{when_active, record_in, anchor_decision}
use Rattle.decisions.specs.declared.Decision.{Decision}
use Rattle.decisions.specs.declared.outcomes.Done.{Done}
use Rattle.decisions.specs.Outcomes.{Outcome, ShowsDone}
use Rattle.decisions.specs.Performing.{performed, formatted}
use Rattle.counter_log.proofs.CallsAnchor.{format_cheap, format-fits, format-empty, first-stopped, first-decided}
use Rattle.counter_log.proofs.anchors.first_anchor.Goals as goal
use Rattle.counter_log.proofs.anchors.first_anchor.Goals.{After-is_err}

-- ---- the empty format, and whether it was done
abbrev flash-of : (c : After-is_err) → Bool → Flash
flash-of c cut = flash_with c.args.image.now c.args.used cut

abbrev outcome : (c : After-is_err) → Bool → Outcome
outcome c cut = formatted [] c.args.sectors c.args.log (flash-of c cut)

shown : (c : After-is_err) (cut : Bool) → ShowsDone (outcome c cut) c.format_with-f.result c.format_with-f.new.image
shown c cut = c.format_with-f.ensures cut

told : (c : After-is_err) (cut b : Bool) → not c.is_err.result ≡ b → is_done (outcome c cut).answer ≡ b
told c cut b e =
    sym (beside-done (outcome c cut).answer (outcome c cut).value)
    ∙ ap (λ (r : Done). is_ok r.answer) (sym (shown c cut).answered)
    ∙ c.is_err.ensures.negation
    ∙ e

empty : (c : After-is_err) (cut : Bool) → not c.is_err.result ≡ true → records_of (outcome c cut).log ≡ []
empty c cut formed = format-empty c.args.sectors c.args.log (flash-of c cut) c.requires.some (told c cut true formed)

pub returns-then-is_err : goal.returns-then-is_err
returns-then-is_err c =
    λ cut.
    let a = c.args in
    let form = (goal.at.returns-then-is_err c).After-is_err in
    rw (first-stopped a.new a.sectors (outcome form cut) (told form cut false (ap not c.if-is_err.true))) (shown form cut)

pub perform-requires : goal.perform-requires
unfolding place_of
perform-requires c =
    let form = (goal.at.perform-requires c).After-is_err in
    let formed : not c.is_err.result ≡ true = ap not c.if-is_err.false in
    let fits : log_fits c.args.sectors c.format_with-f.result.log ≡ true =
    ap (λ (r : Done). log_fits c.args.sectors r.log) (shown form true).answered
    ∙ format-fits c.args.sectors c.args.log (flash-of form true) c.requires.some (told form true true formed) in
    let e = (shown form true).answered in
    let cheap = format_cheap c.args.sectors c.args.log (flash-of form true) c.requires.fit.few c.requires.programmed c.requires.erased in
    record {
      room = λ _. record {
        few = c.requires.fit.few;
        sized = rw c.format_with-f.auto.image c.requires.fit.sized;
        fits = fits;
        slots = omega (arith, cheap.0, c.requires.fit.few, ap (λ (x : Done). x.programmed) e);
        erases = omega (arith, cheap.1, c.requires.fit.few, ap (λ (x : Done). x.erased) e);
      };
      placed = λ at d h w.
          let own : ℕ × Decision = (0, c.anchor_decision-d.result) in
          let is : own ≡ (at, d) = ap (λ (x : Result (ℕ × Decision) Refusal). result_unwrap_or x own) h in
          let key = record_in d in
          record {
            place =
                sym (ap (λ (p : ℕ × Decision). p.0) is)
                ∙ sym (ap (λ (t : List Raw). place_of key.tag key.id t) (ap (λ (x : Done). records_of x.log) e ∙ empty form true formed));
            free = omega (arith, ap (λ (p : ℕ × Decision). p.0) is);
          };
    }

pub returns : goal.returns
returns c =
    let form = (goal.at.returns c).After-is_err in
    let formed : not c.is_err.result ≡ true = ap not c.if-is_err.false in
    λ cut.
    let a = c.args in
    let o = outcome form cut in
    let e = (shown form cut).answered in
    let left = (shown form cut).left in
    let same : performed (when_active c.format_with-f.result.log.state c.anchor_decision-d.result) a.sectors c.format_with-f.result.log
    (record {
      image = c.format_with-f.new.image;
      plan = c.format_with-f.result.plan;
      programmed = c.format_with-f.result.programmed;
      erased = c.format_with-f.result.erased;
      cut = o.flash.cut;
    })
    ≡ performed (when_active o.log.state (anchor_decision None true a.new)) a.sectors o.log o.flash =
    λ i.
    performed (when_active (e i).log.state (c.anchor_decision-d.ensures i)) a.sectors (e i).log
    (record { image = left i; plan = (e i).plan; programmed = (e i).programmed; erased = (e i).erased; cut = o.flash.cut }) in
    rw (first-decided a.new a.sectors o (told form cut true formed) (empty form cut formed))
    (subst (λ (x : Outcome). ShowsDone x c.perform.result c.perform.new.image) same (c.perform.ensures o.flash.cut))
