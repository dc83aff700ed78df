use Rattle.std.proofs.Common.{◌≡◌, subst, IfOk}
use Rattle.meta_model.specs.Base as base
use Rattle.datastore.specs.Store.{all_entries}
use Rattle.datastore.proofs.store.Datastore.names.Goals as goal

pub returns : goal.returns
returns c = subst (λ l. IfOk c.names.result (λ made. made ≡ base.names l)) c.self.view_is (c.names.ensures (all_entries c.self.inside.maps c.self.inside.past.items c.self.inside.entries.items) c.self.invariant.keeps)
