use Rattle.build_store.proofs.Rows.{named_by}
use Rattle.build_store.proofs.store.Store.known_name.Goals as goal

pub returns : goal.returns
returns g c = named_by _ c.self.invariant.0 _ c.name_of.result c.name_of.ensures
