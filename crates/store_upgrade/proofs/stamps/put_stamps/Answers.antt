use Rattle.std.proofs.Common.{◌∙◌, ◌+◌, refl, sym, subst, List, ℕ, Ok, Err, take}
use Rattle.std.specs.Prelude.{IsSome}
use Rattle.outside_traits.proofs.Runs.{passes_none, passes_so}
use Rattle.stamp_store.specs.Stamp.{IsFolder, stamp_path, staged_path}
use Rattle.store_upgrade.specs.Steps.{PutsOne, PutsStamps}
use Rattle.store_upgrade.proofs.Stamped.{away_more, away_none, stamp_in, stamp_settled, stamped_all, stamped_more, stamped_none, stamps_first, stamps_none, stamps_run, still_held}
use Rattle.store_upgrade.proofs.stamps.put_stamps.Goals as goal

pub put_stamp-requires-clause-folder : goal.put_stamp-requires-clause-folder
put_stamp-requires-clause-folder g c =
    subst IsFolder (sym c.as_str.ensures) (c.requires.folders c.stamp-item.result.0 c.stamp-item.result.1 (stamp_in c.args.stamps.now c.loop-stamp.stamp-index c.stamp-item.result c.loop-stamp-test.true c.stamp-item.is)).0

pub put_stamp-requires-clause-settled : goal.put_stamp-requires-clause-settled
put_stamp-requires-clause-settled g c told =
    stamp_settled (take c.loop-stamp.stamp-index c.args.stamps.now) (g.D.Disk.story c.args.disk.now) (g.D.Disk.story c.loop-stamp.disk) c.as_str.result.now (c.requires.durable told) (c.loop-stamp.invariant.run told) (c.loop-stamp.invariant.away told)

pub put_stamp-requires-clause-held : goal.put_stamp-requires-clause-held
put_stamp-requires-clause-held g c told =
    subst (λ (f : List ℕ). IsSome ((g.D.Disk.story c.loop-stamp.disk).held (stamp_path f))) (sym c.as_str.ensures)
    (still_held c.args.stamps.now (g.D.Disk.story c.args.disk.now).held (g.D.Disk.story c.loop-stamp.disk).held (stamps_first c.args.stamps.now c.loop-stamp.stamp-index (c.requires.names told) (g.D.Disk.story c.args.disk.now).held (g.D.Disk.story c.loop-stamp.disk).held (c.loop-stamp.invariant.run told).held)
    (c.requires.held told) c.stamp-item.result.0 c.stamp-item.result.1 (stamp_in c.args.stamps.now c.loop-stamp.stamp-index c.stamp-item.result c.loop-stamp-test.true c.stamp-item.is))

pub loop-stamp-init : goal.loop-stamp-init
loop-stamp-init g c = record {
  faults = refl;
  run = λ told. passes_none (g.D.Disk.story c.args.disk.now) (PutsStamps (take 0 c.args.stamps.now)) (stamps_none c.args.stamps.now);
  laid = c.requires.laid;
  away = λ told. away_none c.args.stamps.now (g.D.Disk.story c.args.disk.now).held;
  so_far = λ told. stamped_none c.args.stamps.now (g.D.Disk.story c.args.disk.now).held;
}

pub returns-in_err-put_stamp-clause-puts : goal.returns-in_err-put_stamp-clause-puts
returns-in_err-put_stamp-clause-puts g c told =
    passes_so (PutsStamps c.args.stamps.now)
    (stamps_run c.args.stamps.now c.loop-stamp.stamp-index c.stamp-item.result c.loop-stamp-test.true c.stamp-item.is (c.requires.names told) (g.D.Disk.story c.args.disk.now) (g.D.Disk.story c.loop-stamp.disk) (g.D.Disk.story c.put_stamp.new.disk) (Err c.in_err-put_stamp.field-0.0)
    (c.requires.staged told) (c.loop-stamp.invariant.run told) (c.loop-stamp.invariant.away told)
    (subst (λ (f : List ℕ). PutsOne (staged_path f) (stamp_path f) (g.D.Disk.story c.loop-stamp.disk) (g.D.Disk.story c.put_stamp.new.disk) (Err c.in_err-put_stamp.field-0.0)) c.as_str.ensures (c.in_err-put_stamp.ensures.puts told)))
    (stamps_first c.args.stamps.now (c.loop-stamp.stamp-index + 1) (c.requires.names told))

pub loop-stamp-preserved : goal.loop-stamp-preserved
loop-stamp-preserved g c = record {
  faults = c.in_ok-put_stamp.ensures.cause.stayed ∙ c.loop-stamp.invariant.faults;
  run = λ told.
      stamps_run c.args.stamps.now c.loop-stamp.stamp-index c.stamp-item.result c.loop-stamp-test.true c.stamp-item.is (c.requires.names told) (g.D.Disk.story c.args.disk.now) (g.D.Disk.story c.loop-stamp.disk) (g.D.Disk.story c.put_stamp.new.disk) (Ok (tt {0}))
      (c.requires.staged told) (c.loop-stamp.invariant.run told) (c.loop-stamp.invariant.away told)
      (subst (λ (f : List ℕ). PutsOne (staged_path f) (stamp_path f) (g.D.Disk.story c.loop-stamp.disk) (g.D.Disk.story c.put_stamp.new.disk) (Ok (tt {0}))) c.as_str.ensures (c.in_ok-put_stamp.ensures.puts told));
  laid = c.in_ok-put_stamp.ensures.laid;
  away = λ told.
      away_more c.args.stamps.now c.loop-stamp.stamp-index c.stamp-item.result c.loop-stamp-test.true c.stamp-item.is (c.requires.names told) (g.D.Disk.story c.loop-stamp.disk) (g.D.Disk.story c.put_stamp.new.disk) (tt {0}) (c.loop-stamp.invariant.away told)
      (subst (λ (f : List ℕ). PutsOne (staged_path f) (stamp_path f) (g.D.Disk.story c.loop-stamp.disk) (g.D.Disk.story c.put_stamp.new.disk) (Ok (tt {0}))) c.as_str.ensures (c.in_ok-put_stamp.ensures.puts told));
  so_far = λ told.
      stamped_more c.args.stamps.now c.loop-stamp.stamp-index c.stamp-item.result c.loop-stamp-test.true c.stamp-item.is (c.requires.names told) (g.D.Disk.story c.args.disk.now) (g.D.Disk.story c.loop-stamp.disk) (g.D.Disk.story c.put_stamp.new.disk) (tt {0})
      (c.requires.staged told) (c.loop-stamp.invariant.run told) (c.loop-stamp.invariant.away told) (c.loop-stamp.invariant.so_far told)
      (subst (λ (f : List ℕ). PutsOne (staged_path f) (stamp_path f) (g.D.Disk.story c.loop-stamp.disk) (g.D.Disk.story c.put_stamp.new.disk) (Ok (tt {0}))) c.as_str.ensures (c.in_ok-put_stamp.ensures.puts told));
}

pub returns-clause-stamped : goal.returns-clause-stamped
returns-clause-stamped g c told = stamped_all c.args.stamps.now c.loop-stamp.stamp-index (g.D.Disk.story c.loop-stamp.disk).held c.loop-stamp-test.false (c.loop-stamp.invariant.so_far told)

pub returns-clause-puts : goal.returns-clause-puts
returns-clause-puts g c told = passes_so (PutsStamps c.args.stamps.now) (c.loop-stamp.invariant.run told) (stamps_first c.args.stamps.now c.loop-stamp.stamp-index (c.requires.names told))
