use Rattle.std.proofs.Common.{◌≡◌, ◌∙◌, sym, subst, refl, IfSome, Err}
use Rattle.meta_model.specs.Active.{active}
use Rattle.override_eval.proofs.Passes.{entries_settle}
use Rattle.datastore.specs.Faults.{refusal_of}
use Rattle.datastore.proofs.Looking.{of_meant}
use Rattle.datastore.proofs.looked.overrides_of.Goals as goal

pub returns-in-Ok : goal.returns-in-Ok
returns-in-Ok c = record { meant = sym (entries_settle c.args.store.now) ∙ c.in-Ok.ensures.ok }

pub returns-in-Err-Unstable : goal.returns-in-Err-Unstable
returns-in-Err-Unstable c = record { meant = (refl, sym (entries_settle c.args.store.now) ∙ (rw c.in-Err-Unstable.field-0-is at c.in-Err-Unstable.ensures.err)) }

pub returns-in-Err-Under : goal.returns-in-Err-Under
returns-in-Err-Under c =
    of_meant c.args.store.now c.without_overrides.result (c.without_overrides.ensures (active c.args.store.now) (subst (λ m. IfSome (refusal_of c.in-Err-Under.fault) (λ refusal. m ≡ Err refusal)) (entries_settle c.args.store.now) (rw c.in-Err-Under.field-0-is at c.in-Err-Under.ensures.err)))
