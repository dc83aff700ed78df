use Rattle.std.proofs.Common.{◌∙◌, refl}
use Rattle.std.specs.Prelude.{codes}
use Rattle.outside_traits.proofs.Runs.{passes_again, passes_none, passes_so}
use Rattle.store_upgrade.specs.Steps.{Within}
use Rattle.store_upgrade.proofs.Copied.{at_itself, at_place, copied_all, copied_more, copied_start, round_within, sources_more, sources_start}
use Rattle.store_upgrade.proofs.Ended.{within_joins}
use Rattle.store_upgrade.proofs.objects.copy_objects.Goals as goal

pub loop-one-init : goal.loop-one-init
loop-one-init g c = record {
  faults = refl;
  run = λ told. passes_none (g.D.Disk.story c.args.disk.now) (Within (codes "obj")) (λ i. record { others = λ q never. refl });
  sources = λ told none. sources_start c.args.moved.now (g.D.Disk.story c.args.disk.now).held;
  so_far = λ told none. copied_start c.args.rows.now c.args.moved.now (g.D.Disk.story c.args.disk.now).held;
}

pub returns-in_err-copy_of-clause-within : goal.returns-in_err-copy_of-clause-within
returns-in_err-copy_of-clause-within g c told =
    passes_again (within_joins (codes "obj")) (c.loop-one.invariant.run told) (passes_so (Within (codes "obj")) (c.in_err-copy_of.ensures.round told) (round_within (at_place c.args.moved.now c.loop-one.one-index).unihash (g.D.Disk.story c.loop-one.disk).held))

pub loop-one-preserved : goal.loop-one-preserved
loop-one-preserved g c = record {
  faults = c.in_ok-copy_of.ensures.cause.stayed ∙ c.loop-one.invariant.faults;
  run = λ told. passes_again (within_joins (codes "obj")) (c.loop-one.invariant.run told) (passes_so (Within (codes "obj")) (c.in_ok-copy_of.ensures.round told) (round_within (at_place c.args.moved.now c.loop-one.one-index).unihash (g.D.Disk.story c.loop-one.disk).held));
  sources = λ told none.
      sources_more c.args.rows.now c.args.moved.now c.loop-one.one-index (at_place c.args.moved.now c.loop-one.one-index) (g.D.Disk.story c.args.disk.now).held (g.D.Disk.story c.loop-one.disk).held (g.D.Disk.story c.copy_of.new.disk).held c.loop-one-test.true (at_itself c.args.moved.now c.loop-one.one-index c.loop-one-test.true) none (c.in_ok-copy_of.ensures.round told).held
      (c.loop-one.invariant.sources told none);
  so_far = λ told none.
      copied_more c.args.rows.now c.args.moved.now c.loop-one.one-index (at_place c.args.moved.now c.loop-one.one-index) (g.D.Disk.story c.args.disk.now).held (g.D.Disk.story c.loop-one.disk).held (g.D.Disk.story c.copy_of.new.disk).held c.loop-one-test.true (at_itself c.args.moved.now c.loop-one.one-index c.loop-one-test.true) none (c.in_ok-copy_of.ensures.round told).held
      (c.loop-one.invariant.sources told none) (c.loop-one.invariant.so_far told none) (c.in_ok-copy_of.ensures.copied told) (c.in_ok-copy_of.ensures.kept told);
}

pub returns-clause-copied : goal.returns-clause-copied
returns-clause-copied g c told none = copied_all c.args.rows.now c.args.moved.now c.loop-one.one-index (g.D.Disk.story c.args.disk.now).held (g.D.Disk.story c.loop-one.disk).held c.loop-one-test.false (c.loop-one.invariant.so_far told none)
