use Rattle.std.proofs.Common.{◌≡◌, subst, IfOk}
use Rattle.meta_model.specs.Overrides as under
use Rattle.datastore.specs.Store.{all_entries}
use Rattle.datastore.proofs.store.Datastore.resolved_under.Goals as goal

pub returns : goal.returns
returns c =
    subst (λ l. IfOk c.resolve.result (λ made. made ≡ under.resolved l c.args.active.now c.args.name.now)) c.self.view_is (c.resolve.ensures (all_entries c.self.inside.maps c.self.inside.past.items c.self.inside.entries.items) c.self.invariant.keeps)
