use Rattle.std.proofs.Common.{◌∙◌, ◌+◌, refl, take}
use Rattle.outside_traits.proofs.Runs.{passes_none, passes_so}
use Rattle.store_upgrade.specs.Steps.{PutsRound}
use Rattle.store_upgrade.proofs.Rounded.{gone_more, gone_none, put_all, put_more, put_none, round_all, round_first, round_none, round_run, round_settled}
use Rattle.store_upgrade.proofs.records.put_round.Goals as goal

pub put_of_round-requires-clause-settled : goal.put_of_round-requires-clause-settled
put_of_round-requires-clause-settled g c told own some =
    round_settled (take c.loop-one.one-index c.args.added.now) c.args.round (g.D.Disk.story c.args.disk.now) (g.D.Disk.story c.loop-one.disk) c.one-item.result.name (c.requires.durable told) (c.loop-one.invariant.run told) (c.loop-one.invariant.gone told) some

pub loop-one-init : goal.loop-one-init
loop-one-init g c = record {
  faults = refl;
  run = λ told. passes_none (g.D.Disk.story c.args.disk.now) (PutsRound (take 0 c.args.added.now) c.args.round (g.D.Disk.story c.args.disk.now).held) (round_none c.args.added.now c.args.round (g.D.Disk.story c.args.disk.now).held);
  laid = c.requires.laid;
  gone = λ told. gone_none c.args.added.now c.args.round (g.D.Disk.story c.args.disk.now).held;
  so_far = λ told. put_none c.args.added.now c.args.round (g.D.Disk.story c.args.disk.now).held (g.D.Disk.story c.args.disk.now).held;
}

pub loop-one-preserved : goal.loop-one-preserved
loop-one-preserved g c = record {
  faults = c.in_ok-put_of_round.ensures.cause.stayed ∙ c.loop-one.invariant.faults;
  run = λ told.
      round_run c.args.added.now c.loop-one.one-index c.one-item.result c.args.round (g.D.Disk.story c.args.disk.now).held c.loop-one-test.true c.one-item.is (g.D.Disk.story c.args.disk.now) (g.D.Disk.story c.loop-one.disk) (g.D.Disk.story c.put_of_round.new.disk) _ refl
      (c.loop-one.invariant.run told) (c.loop-one.invariant.gone told) (c.in_ok-put_of_round.ensures.puts told);
  laid = c.in_ok-put_of_round.ensures.laid;
  gone = λ told.
      gone_more c.args.added.now c.loop-one.one-index c.one-item.result c.args.round (g.D.Disk.story c.args.disk.now).held c.loop-one-test.true c.one-item.is (g.D.Disk.story c.loop-one.disk) (g.D.Disk.story c.put_of_round.new.disk) _
      (c.loop-one.invariant.gone told) (c.in_ok-put_of_round.ensures.puts told);
  so_far = λ told.
      put_more c.args.added.now c.loop-one.one-index c.one-item.result c.args.round (g.D.Disk.story c.args.disk.now).held c.loop-one-test.true c.one-item.is (g.D.Disk.story c.loop-one.disk) (g.D.Disk.story c.put_of_round.new.disk) _
      (c.loop-one.invariant.run told).held (c.loop-one.invariant.gone told) (c.loop-one.invariant.so_far told) (c.in_ok-put_of_round.ensures.puts told);
}

pub returns-in_err-put_of_round-clause-puts : goal.returns-in_err-put_of_round-clause-puts
returns-in_err-put_of_round-clause-puts g c told =
    passes_so (PutsRound c.args.added.now c.args.round (g.D.Disk.story c.args.disk.now).held)
    (round_run c.args.added.now c.loop-one.one-index c.one-item.result c.args.round (g.D.Disk.story c.args.disk.now).held c.loop-one-test.true c.one-item.is (g.D.Disk.story c.args.disk.now) (g.D.Disk.story c.loop-one.disk) (g.D.Disk.story c.put_of_round.new.disk) _ refl
    (c.loop-one.invariant.run told) (c.loop-one.invariant.gone told) (c.in_err-put_of_round.ensures.puts told))
    (round_first c.args.added.now (c.loop-one.one-index + 1) c.args.round (g.D.Disk.story c.args.disk.now).held)

pub returns-clause-put : goal.returns-clause-put
returns-clause-put g c told = put_all c.args.added.now c.loop-one.one-index c.args.round (g.D.Disk.story c.args.disk.now).held (g.D.Disk.story c.loop-one.disk).held c.loop-one-test.false (c.loop-one.invariant.so_far told)

pub returns-clause-puts : goal.returns-clause-puts
returns-clause-puts g c told = round_all c.args.added.now c.loop-one.one-index c.args.round (g.D.Disk.story c.args.disk.now).held (g.D.Disk.story c.args.disk.now) (g.D.Disk.story c.loop-one.disk) c.loop-one-test.false (c.loop-one.invariant.run told)
