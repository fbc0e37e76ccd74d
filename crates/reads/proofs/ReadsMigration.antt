-- Whether a log is to be migrated: what the tests refuse, else whether its state is Unformatted.
use mathlib.Core.Path.{◌≡◌, refl, sym, ap, ◌∙◌}
use mathlib.Core.Bool.{true, false}
use Rattle.std.specs.Prelude.{Option, Ok, Err}
use Rattle.basics.specs.declared.Refusal.{Refusal}
use Rattle.ids.specs.Ids.{anchor_tag}
use Rattle.codec.specs.declared.Raw.{Raw}
use Rattle.records.specs.declared.State.{State}
use Rattle.records.specs.declared.State.TheVariants.{Unformatted, Failed, Active}
use Rattle.records.specs.declared.Log.{Log}
use Rattle.reads.specs.declared.Entry.{Entry}
use Rattle.reads.specs.Entering.{entry_of}
use Rattle.reads.specs.Reads.{migration_by, needs_migration_of}
use Rattle.reads.proofs.EnteringLaws.{read-refused, read-by}

pub migration_refused : (log : Log) (r : Refusal) → entry_of 16 log true anchor_tag 0 ≡ Err r → needs_migration_of log ≡ Err r
unfolding needs_migration_of
migration_refused log r e = sym (read-refused migration_by Err log true anchor_tag 0 r e)

by : (log : Log) (e : Entry) → entry_of 16 log true anchor_tag 0 ≡ Ok e → migration_by log.state e.held ≡ needs_migration_of log
unfolding needs_migration_of
by log e = read-by migration_by Err log true anchor_tag 0 e

pub migration_where : (log : Log) (e : Entry) → entry_of 16 log true anchor_tag 0 ≡ Ok e → log.state ≡ Unformatted → needs_migration_of log ≡ Ok true
migration_where log e k s = sym (by log e k) ∙ ap (λ (z : State). migration_by z e.held) s

-- any state but Unformatted
migrated : (z : State) (held : Option Raw) → (z ≡ Unformatted → ⊥) → migration_by z held ≡ Ok false
migrated Unformatted held h = absurd (h refl)
migrated Failed held h = refl
migrated (Active sector seq head) held h = refl

pub migration_nowhere_else : (log : Log) (e : Entry) → entry_of 16 log true anchor_tag 0 ≡ Ok e → (log.state ≡ Unformatted → ⊥)
    → needs_migration_of log ≡ Ok false
migration_nowhere_else log e k h = sym (by log e k) ∙ migrated log.state e.held h
