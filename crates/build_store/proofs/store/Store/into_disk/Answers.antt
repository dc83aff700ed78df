use Rattle.build_store.proofs.Invariant.{clean_by, nothing_of}
use Rattle.build_store.proofs.store.Store.into_disk.Goals as goal

pub returns-clause-swept : goal.returns-clause-swept
returns-clause-swept g c told = rw (← c.self.view_is) (λ faultless none. clean_by c.self.inside.open_ones.items (g.D.Disk.story c.self.inside.disk) (c.self.invariant.4 told faultless) (nothing_of c.self.inside.open_ones.items none))
