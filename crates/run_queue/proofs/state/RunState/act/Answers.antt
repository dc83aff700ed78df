use Rattle.std.proofs.Common.{refl, subst, inl}
use Rattle.run_core.specs.declared.next.Next.{Next}
use Rattle.run_core.specs.Choice.{MayAnswerBeside}
use Rattle.run_queue.specs.Keeps.{IsUpToDate}
use Rattle.run_queue.specs.Seen.{seen}
use Rattle.run_queue.specs.Turns.{fates_of}
use Rattle.run_queue.proofs.Agreement.{some_known}
use Rattle.run_queue.proofs.Tried.{finished_clean, wait_clean}
use Rattle.run_queue.proofs.state.RunState.act.Goals as goal

pub returns-in-Finished-clause-clean : goal.returns-in-Finished-clause-clean
returns-in-Finished-clause-clean g c tells o run =
    let v = c.args.self.now in
    let answer = c.next.ensures in
    let now = some_known (IsUpToDate v.plan v.store.rows) v.known answer.known answer.is_known c.kept.ensures.current in
    finished_clean o (seen g.D.Disk.story g.W.Sink.written v) answer.known run c.kept.ensures.orderly answer.is_known now
    (subst (λ (n : Next). MayAnswerBeside v.options v.plan.tasks answer.known.need answer.known.avail (fates_of v) v.restoring n) c.in-Finished.is answer.may).0 v.ends_wait

pub returns-in-Finished-clause-turns : goal.returns-in-Finished-clause-turns
returns-in-Finished-clause-turns g c =
    let v = c.args.self.now in
    let answer = c.next.ensures in
    let now = some_known (IsUpToDate v.plan v.store.rows) v.known answer.known answer.is_known c.kept.ensures.current in
    (refl, record { need = answer.known.need; avail = answer.known.avail; needed = now.need; finished = (subst (λ (n : Next). MayAnswerBeside v.options v.plan.tasks answer.known.need answer.known.avail (fates_of v) v.restoring n) c.in-Finished.is answer.may).0 })

pub returns-in-Wait-clause-turns : goal.returns-in-Wait-clause-turns
returns-in-Wait-clause-turns g c =
    let v = c.args.self.now in
    let answer = c.next.ensures in
    let may = subst (λ (n : Next). MayAnswerBeside v.options v.plan.tasks answer.known.need answer.known.avail (fates_of v) v.restoring n) c.in-Wait.is answer.may in
    (refl, may.0, inl (record { known = answer.known; is_known = answer.is_known; idle = may.1 }))

pub returns-in-Wait-clause-clean : goal.returns-in-Wait-clause-clean
returns-in-Wait-clause-clean g c tells o run =
    let v = c.args.self.now in
    let answer = c.next.ensures in
    let now = some_known (IsUpToDate v.plan v.store.rows) v.known answer.known answer.is_known c.kept.ensures.current in
    wait_clean o (seen g.D.Disk.story g.W.Sink.written v) answer.known run c.kept.ensures.orderly answer.is_known now
    (subst (λ (n : Next). MayAnswerBeside v.options v.plan.tasks answer.known.need answer.known.avail (fates_of v) v.restoring n) c.in-Wait.is answer.may) v.ends_wait
