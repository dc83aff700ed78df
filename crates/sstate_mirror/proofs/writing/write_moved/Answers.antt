use Rattle.std.proofs.Common.{◌∙◌, sym, subst, List, [], ◌∷◌}
use Rattle.outside_traits.specs.Passes.{Passes}
use Rattle.record_move.specs.declared.records.AddedRecord.{AddedRecord}
use Rattle.store_upgrade.specs.Steps.{ArePut, AreStaged, NamesDiffer, PutsRounds}
use Rattle.sstate_mirror.proofs.Counted.{handed_on, none_handed}
use Rattle.std.proofs.lemmas.Bool.{false≢true}
use Rattle.sstate_mirror.proofs.Written.{copied_later, early_writing, none_keyed, none_put, round_keys, round_objects, round_writing, run_early, run_written}
use Rattle.sstate_mirror.proofs.Refused.{disk_none}
use Rattle.sstate_mirror.proofs.writing.write_moved.Goals as goal

pub returns-in_err-copied-clause-images : goal.returns-in_err-copied-clause-images
returns-in_err-copied-clause-images g c told = run_early c.args.moved.now (g.D.Disk.story c.args.disk.now) (g.D.Disk.story c.prepare.new.disk) (c.in_err-copied.ensures.early told)

pub returns-in_err-put_rounds-clause-images : goal.returns-in_err-put_rounds-clause-images
returns-in_err-put_rounds-clause-images g c told =
    run_written c.args.moved.now c.deref.result.now (g.D.Disk.story c.args.disk.now) (g.D.Disk.story c.prepare.new.disk) (g.D.Disk.story c.put_rounds.new.disk) c.deref.ensures.value
    (g.met.D.Disk.sound c.prepare.new.disk told) (c.in_ok-copied.ensures.ready told).durable (c.in_ok-copied.ensures.early told) (c.in_ok-copied.ensures.staged told) (c.in_ok-copied.ensures.keyed told) c.in_ok-copied.ensures.spells
    (c.in_err-put_rounds.ensures.puts told)

pub returns-clause-images : goal.returns-clause-images
returns-clause-images g c told =
    run_written c.args.moved.now c.deref.result.now (g.D.Disk.story c.args.disk.now) (g.D.Disk.story c.prepare.new.disk) (g.D.Disk.story c.put_rounds.new.disk) c.deref.ensures.value
    (g.met.D.Disk.sound c.prepare.new.disk told) (c.in_ok-copied.ensures.ready told).durable (c.in_ok-copied.ensures.early told) (c.in_ok-copied.ensures.staged told) (c.in_ok-copied.ensures.keyed told) c.in_ok-copied.ensures.spells
    (c.in_ok-put_rounds.ensures.puts told)

pub returns-in_err-put_rounds-clause-cause : goal.returns-in_err-put_rounds-clause-cause
returns-in_err-put_rounds-clause-cause g c =
    handed_on (g.D.Disk.faults c.args.disk.now) (g.D.Disk.faults c.prepare.new.disk) (g.D.Disk.faults c.put_rounds.new.disk) c.from_residual-in_err-put_rounds.result c.in_err-put_rounds.field-0.0 c.from_residual-in_err-put_rounds.ensures.1
    c.in_ok-copied.ensures.cause c.in_err-put_rounds.ensures.cause

pub returns-in_err-put_rounds-clause-mirror_cause : goal.returns-in_err-put_rounds-clause-mirror_cause
returns-in_err-put_rounds-clause-mirror_cause g c =
    none_handed (g.M.Disk.faults c.args.mirror.now) (g.M.Disk.faults c.prepare.new.mirror) c.from_residual-in_err-put_rounds.result c.in_err-put_rounds.field-0.0 c.from_residual-in_err-put_rounds.ensures.1 c.in_ok-copied.ensures.mirror_cause

pub returns-clause-ready : goal.returns-clause-ready
returns-clause-ready g c told =
    let puts =
    subst (λ (l : List AddedRecord). Passes (g.D.Disk.story c.prepare.new.disk) (g.D.Disk.story c.put_rounds.new.disk) (λ i k. PutsRounds l (g.D.Disk.story c.prepare.new.disk).held k)) c.deref.ensures.value (c.in_ok-put_rounds.ensures.puts told) in
    record {
      laid = c.in_ok-put_rounds.ensures.laid told;
      way = round_objects c.args.moved.now (g.D.Disk.story c.prepare.new.disk).held (g.D.Disk.story c.put_rounds.new.disk).held puts.held (98 ∷ 106 ∷ []) ∙ (c.in_ok-copied.ensures.ready told).way;
      durable = c.in_ok-put_rounds.ensures.durable told;
    }

pub returns-clause-written : goal.returns-clause-written
returns-clause-written g c told tells =
    let m = c.args.moved.now in
    let base = (g.D.Disk.story c.prepare.new.disk).held in
    let held = (g.D.Disk.story c.args.disk.now).held in
    let now = (g.D.Disk.story c.put_rounds.new.disk).held in
    let early = (c.in_ok-copied.ensures.early told).held in
    let staged = c.in_ok-copied.ensures.staged told in
    let keyed = c.in_ok-copied.ensures.keyed told in
    let run =
    subst (λ (l : List AddedRecord). Passes (g.D.Disk.story c.prepare.new.disk) (g.D.Disk.story c.put_rounds.new.disk) (λ i k. PutsRounds l (g.D.Disk.story c.prepare.new.disk).held k)) c.deref.ensures.value (c.in_ok-put_rounds.ensures.puts told) in
    let put =
    subst (λ (l : List AddedRecord). NamesDiffer l → AreStaged l (g.D.Disk.story c.prepare.new.disk).held → ArePut l (g.D.Disk.story c.put_rounds.new.disk).held) c.deref.ensures.value (c.in_ok-put_rounds.ensures.put told) in
    record {
      writing = round_writing m held base early staged keyed c.in_ok-copied.ensures.spells now run.held;
      put = λ names. put names (staged names);
      keyed = round_keys m held base early staged keyed now run.held;
      copied = λ one. copied_later m.rows m.records.items (g.M.Disk.story c.args.mirror.now).held held base now c.in_ok-copied.copied (round_objects m base now run.held) (c.in_ok-copied.ensures.copied told tells one);
    }

pub returns-in_err-put_rounds-clause-none : goal.returns-in_err-put_rounds-clause-none
returns-in_err-put_rounds-clause-none g c = disk_none c.from_residual-in_err-put_rounds.result c.in_err-put_rounds.field-0.0 c.from_residual-in_err-put_rounds.ensures.1

pub returns-then-adds_none-clause-images : goal.returns-then-adds_none-clause-images
returns-then-adds_none-clause-images g c told = run_early c.args.moved.now (g.D.Disk.story c.args.disk.now) (g.D.Disk.story c.prepare.new.disk) (c.in_ok-copied.ensures.early told)

pub returns-then-adds_none-clause-written : goal.returns-then-adds_none-clause-written
returns-then-adds_none-clause-written g c told tells = record {
  writing = early_writing c.args.moved.now (g.D.Disk.story c.args.disk.now).held (g.D.Disk.story c.prepare.new.disk).held (c.in_ok-copied.ensures.early told).held;
  put = λ names. none_put c.args.moved.now.added.items (g.D.Disk.story c.prepare.new.disk).held (c.adds_none.ensures.0 c.if-adds_none.true);
  keyed = λ keys. none_keyed c.args.moved.now.added.items (g.D.Disk.story c.prepare.new.disk).held (c.adds_none.ensures.0 c.if-adds_none.true);
  copied = c.in_ok-copied.ensures.copied told tells;
}

pub returns-clause-idle : goal.returns-clause-idle
returns-clause-idle g c told zero none = absurd (false≢true (sym c.if-adds_none.false ∙ c.adds_none.ensures.1 none))
