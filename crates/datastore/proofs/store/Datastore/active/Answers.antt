use Rattle.datastore.specs.Store.{all_entries}
use Rattle.datastore.proofs.Looking.{settled_is}
use Rattle.datastore.proofs.store.Datastore.active.Goals as goal

pub returns-in-Some : goal.returns-in-Some
returns-in-Some c =
    c.settled_in.ensures c.args.self.now
    (settled_is (all_entries c.self.inside.maps c.self.inside.past.items c.self.inside.entries.items) c.args.self.now c.self.inside.settled c.in-Some.overrides c.self.view_is c.in-Some.is c.self.invariant.settles)
