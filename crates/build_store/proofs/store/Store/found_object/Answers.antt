use Rattle.build_store.proofs.Closing.{same_stand}
use Rattle.build_store.proofs.Invariant.{keys_looked, kept_looked}
use Rattle.build_store.proofs.Tidy.{tidy_same}
use Rattle.build_store.proofs.RestoringOpens.{all_known}
use Rattle.build_store.specs.View.{signed_by}
use Rattle.build_store.proofs.store.Store.found_object.Goals as goal

pub invariant_of-self : goal.invariant_of-self
invariant_of-self g c =
    let rows = c.self.inside.index in
    let xs = c.self.inside.open_ones.items in
    let a = g.D.Disk.story c.self.inside.disk in
    let b = g.D.Disk.story c.found_object.new.disk in (
      c.self.invariant.0,
      λ told. kept_looked rows a b (c.found_object.ensures.others told) (c.self.invariant.1 told),
      c.self.invariant.2,
      λ told. same_stand rows a b (c.found_object.ensures.others told) xs (c.self.invariant.3 told),
      λ told faultless. tidy_same xs a b (c.self.invariant.4 told faultless) (c.found_object.ensures.others told),
      c.self.invariant.5,
      c.self.invariant.6,
      λ told. keys_looked c.self.inside.keys a b (c.found_object.ensures.others told) (c.self.invariant.7 told),
    )

pub returns-clause-of : goal.returns-clause-of
returns-clause-of g c = rw (← c.self.view_is) (all_known c.self.inside.keys c.self.inside.index (signed_by c.args.task.now c.args.sig.now) c.self.invariant.5 c.found_object.result c.found_object.ensures.of)

pub returns-clause-found : goal.returns-clause-found
returns-clause-found g c told = rw (← c.self.view_is) (c.found_object.ensures.found told)
