use Rattle.std.proofs.Common.{refl}
use Rattle.std.proofs.lemmas.Bool.{false≢true}
use Rattle.build_store.specs.Publication.{publication}
use Rattle.build_store.specs.View.{signed_as}
use Rattle.build_store.proofs.Invariant.{keys_published}
use Rattle.build_store.proofs.KnownKeys.{open_held}
use Rattle.build_store.proofs.Shared.{named_as}
use Rattle.build_store.proofs.store.Store.step_as.Goals as goal

pub returns-in-Ok-clause-steps : goal.returns-in-Ok-clause-steps
returns-in-Ok-clause-steps g c = rw (← c.self.view_is) (c.in-Ok.ensures.steps c.self.inside.keys c.self.inside.faultless)

pub returns-in-Ok-clause-published : goal.returns-in-Ok-clause-published
returns-in-Ok-clause-published g c told = rw (← c.self.view_is) (c.in-Ok.ensures.published told)

pub step_at-done-requires-clause-keyed : goal.step_at-done-requires-clause-keyed
step_at-done-requires-clause-keyed g c told =
    open_held c.self.inside.keys (g.D.Disk.story c.self.inside.disk).held c.self.inside.open_ones.items (c.self.invariant.7 told) c.self.invariant.6

pub invariant_of-self : goal.invariant_of-self
invariant_of-self g c =
    let known = c.step_at-done.ensures.knows c.self.inside.keys c.self.invariant.5 c.self.invariant.6 in
    let open_one = c.step_at-done.ensures.was_open in (
      c.step_at-done.ensures.rows,
      λ told. c.step_at-done.ensures.keeps told,
      c.step_at-done.ensures.stand,
      λ told. c.step_at-done.ensures.on told,
      λ told faultless. c.in-Ok.ensures.tidy told (c.self.invariant.4 told faultless),
      known.0,
      known.1,
      λ told. keys_published c.self.inside.keys (publication c.self.inside.index (signed_as c.args.shared c.args.task.now c.args.sig.now) open_one.0) (g.D.Disk.story c.self.inside.disk) (g.D.Disk.story c.step_at-done.new.disk) refl
          (c.step_at-done.ensures.publishing told open_one.0 open_one.1) (c.self.invariant.7 told),
    )

pub invariant_of-self-in-Err : goal.invariant_of-self-in-Err
invariant_of-self-in-Err g c =
    let known = c.step_at-done.ensures.knows c.self.inside.keys c.self.invariant.5 c.self.invariant.6 in
    let open_one = c.step_at-done.ensures.was_open in (
      c.step_at-done.ensures.rows,
      λ told. c.step_at-done.ensures.keeps told,
      c.step_at-done.ensures.stand,
      λ told. c.step_at-done.ensures.on told,
      λ told faultless. absurd (false≢true faultless),
      known.0,
      known.1,
      λ told. keys_published c.self.inside.keys (publication c.self.inside.index (signed_as c.args.shared c.args.task.now c.args.sig.now) open_one.0) (g.D.Disk.story c.self.inside.disk) (g.D.Disk.story c.step_at-done.new.disk) refl
          (c.step_at-done.ensures.publishing told open_one.0 open_one.1) (c.self.invariant.7 told),
    )

pub step_at-done-requires-clause-named : goal.step_at-done-requires-clause-named
step_at-done-requires-clause-named g c = named_as c.args.shared c.args.task.now c.args.sig.now c.requires.named
