use Rattle.std.proofs.Common.{subst, List}
use Rattle.outside_traits.specs.Passes.{Passes}
use Rattle.outside_traits.proofs.Runs.{passes_so}
use Rattle.record_move.specs.declared.records.AddedRecord.{AddedRecord}
use Rattle.store_upgrade.specs.Steps.{ArePut, AreStaged, NamesDiffer, PutsRounds}
use Rattle.store_upgrade.specs.Writes.{PutsPrepared}
use Rattle.store_upgrade.proofs.Called.{on_ok_of}
use Rattle.store_upgrade.proofs.Whole.{late_ends, late_stamps, late_start, puts_early, put_later, rounds_held, rounds_staged, run_ends, run_stamps, stamped_later}
use Rattle.store_upgrade.proofs.moving.put_prepared.Goals as goal

pub put_stamps-requires-clause-held : goal.put_stamps-requires-clause-held
put_stamps-requires-clause-held g c told =
    rounds_held c.args.moved.now.added.items c.args.stamps.now (g.D.Disk.story c.args.disk.now).held (g.D.Disk.story c.put_rounds.new.disk).held
    (subst
    (λ (l : List AddedRecord). Passes (g.D.Disk.story c.args.disk.now) (g.D.Disk.story c.put_rounds.new.disk) (λ i k. PutsRounds l (g.D.Disk.story c.args.disk.now).held k))
    c.deref.ensures.value (c.in_ok-put_rounds.ensures.puts told)).held
    (c.requires.held told)

pub put_stamps-requires-clause-staged : goal.put_stamps-requires-clause-staged
put_stamps-requires-clause-staged g c told =
    rounds_staged c.args.moved.now.added.items c.args.stamps.now (g.D.Disk.story c.args.disk.now).held (g.D.Disk.story c.put_rounds.new.disk).held
    (subst
    (λ (l : List AddedRecord). Passes (g.D.Disk.story c.args.disk.now) (g.D.Disk.story c.put_rounds.new.disk) (λ i k. PutsRounds l (g.D.Disk.story c.args.disk.now).held k))
    c.deref.ensures.value (c.in_ok-put_rounds.ensures.puts told)).held
    (c.requires.staged told)

pub returns-in_err-put_rounds-clause-puts : goal.returns-in_err-put_rounds-clause-puts
returns-in_err-put_rounds-clause-puts g c told =
    passes_so (λ i k. PutsPrepared c.args.moved.now (g.D.Disk.story c.args.disk.now).held k)
    (subst
    (λ (l : List AddedRecord). Passes (g.D.Disk.story c.args.disk.now) (g.D.Disk.story c.put_rounds.new.disk) (λ i k. PutsRounds l (g.D.Disk.story c.args.disk.now).held k))
    c.deref.ensures.value (c.in_err-put_rounds.ensures.puts told))
    (λ i k p. puts_early c.args.moved.now (g.D.Disk.story c.args.disk.now).held k p)

pub returns-in_err-put_stamps-clause-puts : goal.returns-in_err-put_stamps-clause-puts
returns-in_err-put_stamps-clause-puts g c told =
    run_stamps c.args.moved.now (g.D.Disk.story c.args.disk.now) (g.D.Disk.story c.put_rounds.new.disk) (g.met.D.Disk.sound c.put_rounds.new.disk told)
    (c.in_ok-put_rounds.ensures.durable told)
    (subst
    (λ (l : List AddedRecord). Passes (g.D.Disk.story c.args.disk.now) (g.D.Disk.story c.put_rounds.new.disk) (λ i k. PutsRounds l (g.D.Disk.story c.args.disk.now).held k))
    c.deref.ensures.value (c.in_ok-put_rounds.ensures.puts told))
    (subst (λ (l : List AddedRecord). NamesDiffer l → AreStaged l (g.D.Disk.story c.args.disk.now).held → ArePut l (g.D.Disk.story c.put_rounds.new.disk).held)
    c.deref.ensures.value (c.in_ok-put_rounds.ensures.put told))
    (g.D.Disk.story c.put_stamps.new.disk) c.args.stamps.now (c.in_err-put_stamps.ensures.puts told)

pub returns-clause-puts : goal.returns-clause-puts
returns-clause-puts g c told =
    run_ends c.args.moved.now (g.D.Disk.story c.args.disk.now) (g.D.Disk.story c.put_rounds.new.disk) (g.met.D.Disk.sound c.put_rounds.new.disk told)
    (c.in_ok-put_rounds.ensures.durable told)
    (subst
    (λ (l : List AddedRecord). Passes (g.D.Disk.story c.args.disk.now) (g.D.Disk.story c.put_rounds.new.disk) (λ i k. PutsRounds l (g.D.Disk.story c.args.disk.now).held k))
    c.deref.ensures.value (c.in_ok-put_rounds.ensures.puts told))
    (subst (λ (l : List AddedRecord). NamesDiffer l → AreStaged l (g.D.Disk.story c.args.disk.now).held → ArePut l (g.D.Disk.story c.put_rounds.new.disk).held)
    c.deref.ensures.value (c.in_ok-put_rounds.ensures.put told))
    (g.D.Disk.story c.put_stamps.new.disk) (g.D.Disk.story c.write_format.new.disk) c.args.stamps.now (c.in_ok-put_stamps.ensures.puts told) (c.write_format.ensures.ends told)

pub returns-clause-put : goal.returns-clause-put
returns-clause-put g c told =
    on_ok_of c.write_format.result
    (λ names staged.
    put_later c.args.moved.now (g.D.Disk.story c.args.disk.now).held (g.D.Disk.story c.put_rounds.new.disk).held (g.D.Disk.story c.write_format.new.disk).held
    (late_ends c.args.moved.now (g.D.Disk.story c.args.disk.now).held (g.D.Disk.story c.put_rounds.new.disk).held (g.D.Disk.story c.put_stamps.new.disk).held
    (g.D.Disk.story c.write_format.new.disk).held
    (late_stamps c.args.moved.now (g.D.Disk.story c.args.disk.now).held (g.D.Disk.story c.put_rounds.new.disk).held (g.D.Disk.story c.put_rounds.new.disk).held
    (g.D.Disk.story c.put_stamps.new.disk).held c.args.stamps.now
    (late_start c.args.moved.now (g.D.Disk.story c.args.disk.now).held (g.D.Disk.story c.put_rounds.new.disk).held) (c.in_ok-put_stamps.ensures.puts told).held)
    (c.write_format.ensures.ends told).held)
    ((subst (λ (l : List AddedRecord). NamesDiffer l → AreStaged l (g.D.Disk.story c.args.disk.now).held → ArePut l (g.D.Disk.story c.put_rounds.new.disk).held) c.deref.ensures.value (c.in_ok-put_rounds.ensures.put told)) names staged))

pub returns-clause-stamped : goal.returns-clause-stamped
returns-clause-stamped g c told = on_ok_of c.write_format.result (stamped_later c.args.stamps.now (g.D.Disk.story c.put_stamps.new.disk).held (g.D.Disk.story c.write_format.new.disk).held (c.write_format.ensures.ends told).held (c.in_ok-put_stamps.ensures.stamped told))
