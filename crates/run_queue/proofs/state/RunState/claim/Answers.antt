use Rattle.std.proofs.Common.{subst, Option, Ok}
use Rattle.run_queue.specs.declared.state.Claim.{Claim}
use Rattle.run_queue.specs.Seen.{seen}
use Rattle.run_queue.specs.Turns.{TurnsClean, TurnsRestore}
use Rattle.run_queue.proofs.Tried.{clean_from, restores_from, told_by_try}
use Rattle.run_queue.proofs.state.RunState.claim.Goals as goal

pub returns-in-Some-clause-clean : goal.returns-in-Some-clause-clean
returns-in-Some-clause-clean g c tells o run =
    let run' = c.loop-claim.invariant.run tells o run in
    let clean = subst (λ (x : Option Claim). TurnsClean o c.loop-claim.self.ends_wait (seen g.D.Disk.story g.W.Sink.written c.loop-claim.self) (Ok x)) c.in-Some.is (c.in_ok-claim.ensures.clean tells o run') in
    clean_from c.args.self.now c.loop-claim.self c.loop-claim.invariant.same g.D.Disk.story g.W.Sink.written o (Ok c.in-Some.claim) clean

pub returns-in-Some-clause-run : goal.returns-in-Some-clause-run
returns-in-Some-clause-run g c tells o run = c.in_ok-claim.ensures.run tells o (c.loop-claim.invariant.run tells o run)

pub returns-in_err-claim-clause-run : goal.returns-in_err-claim-clause-run
returns-in_err-claim-clause-run g c tells o run = c.in_err-claim.ensures.run tells o (c.loop-claim.invariant.run tells o run)

pub loop-claim-preserved : goal.loop-claim-preserved
loop-claim-preserved g c =
    let t = told_by_try c.args.number c.args.self.now c.loop-claim.self c.turn.new.self c.in_ok-claim.field-0 c.loop-claim.invariant.same c.in_ok-claim.ensures.turns (λ claim is. c.in_default.not-Some claim is) in
    record {
      same = t.0;
      began = c.loop-claim.invariant.began;
      faultless = t.1;
      run = λ tells o run. c.in_ok-claim.ensures.run tells o (c.loop-claim.invariant.run tells o run);
    }

pub returns-in-Some-clause-restores : goal.returns-in-Some-clause-restores
returns-in-Some-clause-restores g c =
    let by = subst (λ (x : Option Claim). TurnsRestore c.loop-claim.self c.turn.new.self (Ok x)) c.in-Some.is c.in_ok-claim.ensures.restores in
    restores_from c.args.self.now c.loop-claim.self c.turn.new.self c.loop-claim.invariant.same (Ok c.in-Some.claim) by
