use Rattle.std.proofs.Common.{◌∙◌, subst, sym}
use Rattle.outside_traits.proofs.Calls.{then_same}
use Rattle.outside_traits.specs.Store.{Store}
use Rattle.store_opening.specs.Survey.{HasRead}
use Rattle.store_opening.proofs.Surveyed.{read_more}
use Rattle.store_opening.proofs.records.read_all.Goals as goal

pub loop-path-preserved : goal.loop-path-preserved
loop-path-preserved g c = record {
  faults = c.in_ok-read_onto.ensures.cause.stayed ∙ c.loop-path.invariant.faults;
  run = λ told. then_same (c.loop-path.invariant.run told) (c.read_onto.ensures.others told);
  so_far = λ told.
      let held = (g.D.Disk.story c.args.disk.now).held in
      read_more held c.args.paths.now c.loop-path.path-index c.path-item.result c.loop-path.files.items c.read_onto.new.files.items c.loop-path-test.true c.path-item.is
      (c.requires told c.path-item.result (c.loop-path.path-index, c.loop-path-test.true, sym c.path-item.is))
      (c.loop-path.invariant.so_far told)
      (subst (λ (h : Store). HasRead h c.path-item.result c.loop-path.files.items c.read_onto.new.files.items) (c.loop-path.invariant.run told).held (c.in_ok-read_onto.ensures.read told));
}
