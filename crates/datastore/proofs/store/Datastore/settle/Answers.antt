use Rattle.std.proofs.Common.{subst, sym}
use Rattle.datastore.specs.Looked.{AreOf}
use Rattle.datastore.proofs.store.Datastore.settle.Goals as goal

pub invariant_of-self : goal.invariant_of-self
invariant_of-self c = record {
  keeps = c.self.invariant.keeps;
  settles = subst (λ l. AreOf l c.in_ok-overrides.overrides) (sym c.self.view_is) c.in_ok-overrides.ensures;
}
