use Rattle.std.proofs.Common.{◌∙◌, refl}
use Rattle.outside_traits.proofs.Runs.{passes_none, passes_then}
use Rattle.store_upgrade.specs.Steps.{PutsKeys}
use Rattle.store_upgrade.proofs.Keyed.{among_all, keys_all, keys_more, keys_none, keys_run, keys_start}
use Rattle.store_upgrade.proofs.keys.put_keys.Goals as goal

pub loop-one-preserved : goal.loop-one-preserved
loop-one-preserved g c = record {
  faults = c.in_ok-put_key.ensures.cause.stayed ∙ c.loop-one.invariant.faults;
  run = λ told.
      passes_then (PutsKeys c.args.added.now (g.D.Disk.story c.args.disk.now).held) (c.loop-one.invariant.run told) (c.in_ok-put_key.ensures.puts told) (λ i j puts. puts)
      (keys_run c.args.added.now c.one-item.result (g.D.Disk.story c.args.disk.now).held (g.D.Disk.story c.loop-one.disk).held (among_all c.args.added.now c.loop-one.one-index c.one-item.result c.loop-one-test.true c.one-item.is) (c.loop-one.invariant.run told).held);
  laid = c.in_ok-put_key.ensures.laid;
  so_far = λ told differ.
      keys_more c.args.added.now c.loop-one.one-index c.one-item.result (g.D.Disk.story c.args.disk.now).held (g.D.Disk.story c.loop-one.disk).held (g.D.Disk.story c.put_key.new.disk).held c.loop-one-test.true c.one-item.is differ
      (c.loop-one.invariant.so_far told differ) (c.in_ok-put_key.ensures.puts told).held (c.in_ok-put_key.ensures.held told);
}

pub returns-in_err-put_key-clause-puts : goal.returns-in_err-put_key-clause-puts
returns-in_err-put_key-clause-puts g c told =
    passes_then (PutsKeys c.args.added.now (g.D.Disk.story c.args.disk.now).held) (c.loop-one.invariant.run told) (c.in_err-put_key.ensures.puts told) (λ i j puts. puts)
    (keys_run c.args.added.now c.one-item.result (g.D.Disk.story c.args.disk.now).held (g.D.Disk.story c.loop-one.disk).held (among_all c.args.added.now c.loop-one.one-index c.one-item.result c.loop-one-test.true c.one-item.is) (c.loop-one.invariant.run told).held)

pub loop-one-init : goal.loop-one-init
loop-one-init g c = record {
  faults = refl;
  run = λ told. passes_none (g.D.Disk.story c.args.disk.now) (PutsKeys c.args.added.now (g.D.Disk.story c.args.disk.now).held) (keys_none c.args.added.now (g.D.Disk.story c.args.disk.now).held);
  laid = c.requires.laid;
  so_far = λ told differ. keys_start c.args.added.now (g.D.Disk.story c.args.disk.now).held;
}

pub returns-clause-held : goal.returns-clause-held
returns-clause-held g c told differ = keys_all c.args.added.now c.loop-one.one-index (g.D.Disk.story c.loop-one.disk).held c.loop-one-test.false (c.loop-one.invariant.so_far told differ)
