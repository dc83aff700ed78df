use Rattle.build_store.proofs.Closing.{same_stand}
use Rattle.build_store.proofs.Invariant.{keys_looked, kept_looked}
use Rattle.build_store.proofs.Tidy.{tidy_same}
use Rattle.build_store.proofs.store.Store.available.Goals as goal

pub invariant_of-self : goal.invariant_of-self
invariant_of-self g c =
    let rows = c.self.inside.index in
    let xs = c.self.inside.open_ones.items in
    let a = g.D.Disk.story c.self.inside.disk in
    let b = g.D.Disk.story c.available.new.disk in (
      c.self.invariant.0,
      λ told. kept_looked rows a b (c.available.ensures.others told) (c.self.invariant.1 told),
      c.self.invariant.2,
      λ told. same_stand rows a b (c.available.ensures.others told) xs (c.self.invariant.3 told),
      λ told faultless. tidy_same xs a b (c.self.invariant.4 told faultless) (c.available.ensures.others told),
      c.self.invariant.5,
      c.self.invariant.6,
      λ told. keys_looked c.self.inside.keys a b (c.available.ensures.others told) (c.self.invariant.7 told),
    )
