-- `host::by_value::meet` meets its contract: by its kind a request is the call of that name, or one step alone.
use Rattle.std.specs.Prelude.{Ok}
use Rattle.basics.specs.Answers.{all_done, beside}
use mathlib.Core.Path.{◌≡◌, refl, sym, ap, ◌∙◌, subst}
use mathlib.Core.List.{List}
use Prim.Native.Nat.{ℕ}
use Rattle.flash.specs.declared.Plan.{Plan}
use Rattle.flash.specs.Run.{Stepped}
use Rattle.records.specs.declared.Log.{Log}
use Rattle.sectors.specs.declared.Step.{Step}
use Rattle.sectors.specs.declared.Used.{Used}
use Rattle.sectors.specs.Shown.{ShowsStep}
use Rattle.decisions.specs.declared.outcomes.Done.{Done}
use Rattle.decisions.specs.Outcomes.{Outcome, ShowsDone, flash_of, refused}
use Rattle.decisions.specs.Ready.{answered_of}
use Rattle.host.specs.declared.requests.Kind.{Kind}
use Rattle.host.specs.Requests.{step_outcome, asked_by, requested}
use Rattle.host.proofs.by_value.meet.Goals as goal

-- a plan of which nothing is used, beside the log as it came
nothing-done : (image : List ℕ) (log : Log) (plan : Plan) (u : Used) → u ≡ record { plan = plan; programmed = 0; erased = 0 }
    → (r : Done) → r ≡ answered_of (Ok 0) log u → ShowsDone (refused all_done log (flash_of image plan)) r image
nothing-done image log plan u unused r e = record { answered = e ∙ ap (λ (x : Used). answered_of (Ok 0) log x) unused; left = refl }

-- a step's answer, beside the log as it came
step-done : (o : Stepped) (s : Step) (left : List ℕ) → ShowsStep o s left → (log : Log) (r : Done) → r ≡ answered_of (beside s.answer 0) log s.used
    → ShowsDone (step_outcome log o) r left
step-done o s left shows log r e =
    record { answered = e ∙ ap (λ (x : Step). answered_of (beside x.answer 0) log x.used) shows.shown; left = shows.left }

pub returns-in-Nothing : goal.returns-in-Nothing
returns-in-Nothing c =
    let asked : Kind → Outcome = λ k. asked_by k c.args.request.seeds c.args.request.bytes c.args.image.now c.args.log c.args.plan in
    let by_kind : (k : Kind) → c.args.request.kind ≡ k → (r : Done) (left : List ℕ) → ShowsDone (asked k) r left
    → ShowsDone (requested c.args.request c.args.image.now c.args.log c.args.plan) r left = λ k e r left. subst
    (λ (x : Kind). ShowsDone (asked x) r left) (sym e) in
    by_kind _ c.in-Nothing.is _ _
    (nothing-done c.args.image.now c.args.log c.args.plan _ c.unused.ensures _ c.answered.ensures)

pub returns-in-Put : goal.returns-in-Put
returns-in-Put c =
    let asked : Kind → Outcome = λ k. asked_by k c.args.request.seeds c.args.request.bytes c.args.image.now c.args.log c.args.plan in
    let by_kind : (k : Kind) → c.args.request.kind ≡ k → (r : Done) (left : List ℕ) → ShowsDone (asked k) r left
    → ShowsDone (requested c.args.request c.args.image.now c.args.log c.args.plan) r left = λ k e r left. subst
    (λ (x : Kind). ShowsDone (asked x) r left) (sym e) in
    by_kind _ c.in-Put.is _ _ c.put.ensures

pub returns-in-PutValue : goal.returns-in-PutValue
returns-in-PutValue c =
    let asked : Kind → Outcome = λ k. asked_by k c.args.request.seeds c.args.request.bytes c.args.image.now c.args.log c.args.plan in
    let by_kind : (k : Kind) → c.args.request.kind ≡ k → (r : Done) (left : List ℕ) → ShowsDone (asked k) r left
    → ShowsDone (requested c.args.request c.args.image.now c.args.log c.args.plan) r left = λ k e r left. subst
    (λ (x : Kind). ShowsDone (asked x) r left) (sym e) in
    by_kind _ c.in-PutValue.is _ _ c.put_value.ensures

pub returns-in-PutAnchor : goal.returns-in-PutAnchor
returns-in-PutAnchor c =
    let asked : Kind → Outcome = λ k. asked_by k c.args.request.seeds c.args.request.bytes c.args.image.now c.args.log c.args.plan in
    let by_kind : (k : Kind) → c.args.request.kind ≡ k → (r : Done) (left : List ℕ) → ShowsDone (asked k) r left
    → ShowsDone (requested c.args.request c.args.image.now c.args.log c.args.plan) r left = λ k e r left. subst
    (λ (x : Kind). ShowsDone (asked x) r left) (sym e) in
    by_kind _ c.in-PutAnchor.is _ _ c.put_anchor.ensures

pub returns-in-Format : goal.returns-in-Format
returns-in-Format c =
    let asked : Kind → Outcome = λ k. asked_by k c.args.request.seeds c.args.request.bytes c.args.image.now c.args.log c.args.plan in
    let by_kind : (k : Kind) → c.args.request.kind ≡ k → (r : Done) (left : List ℕ) → ShowsDone (asked k) r left
    → ShowsDone (requested c.args.request c.args.image.now c.args.log c.args.plan) r left = λ k e r left. subst
    (λ (x : Kind). ShowsDone (asked x) r left) (sym e) in
    by_kind _ c.in-Format.is _ _ c.format.ensures

pub returns-in-Spend : goal.returns-in-Spend
returns-in-Spend c =
    let asked : Kind → Outcome = λ k. asked_by k c.args.request.seeds c.args.request.bytes c.args.image.now c.args.log c.args.plan in
    let by_kind : (k : Kind) → c.args.request.kind ≡ k → (r : Done) (left : List ℕ) → ShowsDone (asked k) r left
    → ShowsDone (requested c.args.request c.args.image.now c.args.log c.args.plan) r left = λ k e r left. subst
    (λ (x : Kind). ShowsDone (asked x) r left) (sym e) in
    by_kind _ c.in-Spend.is _ _ c.spend.ensures

pub returns-in-Set : goal.returns-in-Set
returns-in-Set c =
    let asked : Kind → Outcome = λ k. asked_by k c.args.request.seeds c.args.request.bytes c.args.image.now c.args.log c.args.plan in
    let by_kind : (k : Kind) → c.args.request.kind ≡ k → (r : Done) (left : List ℕ) → ShowsDone (asked k) r left
    → ShowsDone (requested c.args.request c.args.image.now c.args.log c.args.plan) r left = λ k e r left. subst
    (λ (x : Kind). ShowsDone (asked x) r left) (sym e) in
    by_kind _ c.in-Set.is _ _ c.set.ensures

pub returns-in-AdvanceLamport : goal.returns-in-AdvanceLamport
returns-in-AdvanceLamport c =
    let asked : Kind → Outcome = λ k. asked_by k c.args.request.seeds c.args.request.bytes c.args.image.now c.args.log c.args.plan in
    let by_kind : (k : Kind) → c.args.request.kind ≡ k → (r : Done) (left : List ℕ) → ShowsDone (asked k) r left
    → ShowsDone (requested c.args.request c.args.image.now c.args.log c.args.plan) r left = λ k e r left. subst
    (λ (x : Kind). ShowsDone (asked x) r left) (sym e) in
    by_kind _ c.in-AdvanceLamport.is _ _ c.advance_lamport.ensures

pub returns-in-Program : goal.returns-in-Program
returns-in-Program c =
    let asked : Kind → Outcome = λ k. asked_by k c.args.request.seeds c.args.request.bytes c.args.image.now c.args.log c.args.plan in
    let by_kind : (k : Kind) → c.args.request.kind ≡ k → (r : Done) (left : List ℕ) → ShowsDone (asked k) r left
    → ShowsDone (requested c.args.request c.args.image.now c.args.log c.args.plan) r left = λ k e r left. subst
    (λ (x : Kind). ShowsDone (asked x) r left) (sym e) in
    by_kind _ c.in-Program.is _ _ (step-done _ _ _ c.program.ensures c.args.log _ c.stepped.ensures)

pub returns-in-Erase : goal.returns-in-Erase
returns-in-Erase c =
    let asked : Kind → Outcome = λ k. asked_by k c.args.request.seeds c.args.request.bytes c.args.image.now c.args.log c.args.plan in
    let by_kind : (k : Kind) → c.args.request.kind ≡ k → (r : Done) (left : List ℕ) → ShowsDone (asked k) r left
    → ShowsDone (requested c.args.request c.args.image.now c.args.log c.args.plan) r left = λ k e r left. subst
    (λ (x : Kind). ShowsDone (asked x) r left) (sym e) in
    by_kind _ c.in-Erase.is _ _ (step-done _ _ _ c.erase.ensures c.args.log _ c.stepped-in-Erase.ensures)
