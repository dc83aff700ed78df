use Rattle.std.proofs.Common.{◌++◌, List, sym, ◌∙◌, ap, subst, refl, Some, None, inl, append-nil}
use Rattle.meta_model.specs.declared.event.Event.TheVariants as events
use Rattle.run_queue.specs.declared.state.Claim.{Claim}
use Rattle.turn_lock.specs.Seats.{view_of}
use Rattle.run_workers.specs.declared.shared.Told.{Told}
use Rattle.run_workers.specs.declared.worker.Halt.TheVariants as halts
use Rattle.run_workers.specs.Seats.{AddsBy, Entry, HasUnprinted, IsCleanClaim, IsScripted, MendAdds}
use Rattle.run_workers.specs.Ended.{SaysWhy, WasFaulty}
use Rattle.run_workers.specs.Told.{logged_in}
use Rattle.run_workers.specs.Worked.{Closes, Worked}
use Rattle.run_workers.proofs.Ending.{halts_now}
use Rattle.run_workers.proofs.Working.{quiet_mended, quiet_settled, worked_beside, worked_job, worked_on}
use Rattle.run_workers.proofs.Unprinted.{unprinted_here}
use Rattle.run_workers.proofs.worker.turn.Goals as goal

pub do_claimed-requires-clause-clean : goal.do_claimed-requires-clause-clean
do_claimed-requires-clause-clean g c t u o is run = subst (λ (x : Claim). IsCleanClaim o g.K.Began.first x) c.in-Run.is (c.in-Ok.ensures.clean t u o is run)

pub do_claimed-requires-clause-unprinted : goal.do_claimed-requires-clause-unprinted
do_claimed-requires-clause-unprinted g c is =
    let v = view_of c.args.seat.now in
    let claims = c.in-Ok.ensures.claims in
    let printed = c.in-Ok.field-0.printed in
    let entry : Entry v.number printed (events.Started c.in-Run.job.task v.number) claims.0 = subst (λ (x : Claim). AddsBy v.number printed x claims.0) c.in-Run.is claims.1 in
    subst HasUnprinted (sym (claims.2.mine ∙ ap (λ l. v.own ++ l) entry.is)) (unprinted_here v.own _ is)

pub returns-in-Run-clause-worked : goal.returns-in-Run-clause-worked
returns-in-Run-clause-worked g c old w =
    let v = view_of c.args.seat.now in
    let mid = view_of c.claim.new.seat in
    let new = view_of c.do_claimed.new.seat in
    let job = c.in-Run.job in
    let printed = c.in-Ok.field-0.printed in
    let e = c.do_claimed.ensures in
    let claims = c.in-Ok.ensures.claims in
    let entry : Entry v.number c.in-Ok.field-0.printed (events.Started job.task v.number) claims.0 = subst (λ (x : Claim). AddsBy v.number c.in-Ok.field-0.printed x claims.0) c.in-Run.is claims.1 in
    let begins = claims.2.mine ∙ ap (λ l. v.own ++ l) entry.is in
    worked_job g.D.Disk.tells g.B.Bench.tells g.K.Began.alike g.B.Bench.place g.B.Bench.gives g.B.Bench.faults g.K.Began.first g.K.Began.gives v.number v.own old c.args.bench.now w c.do_claimed.result job printed entry.moment mid.own new.own c.do_claimed.new.bench begins
    (subst (λ n. Closes n c.do_claimed.result mid.own new.own) claims.2.number e.closes) e.gives e.cause e.ran (λ u. (c.requires.gives u).0)
    (subst (λ (x : Claim). IsScripted g.K.Began.first.plan x) c.in-Run.is c.in-Ok.ensures.script) (λ t u o is run. subst (λ (x : Claim). IsCleanClaim o g.K.Began.first x) c.in-Run.is (c.in-Ok.ensures.clean t u o is run))

pub returns-in-Settled-clause-worked : goal.returns-in-Settled-clause-worked
returns-in-Settled-clause-worked g c old w =
    let v = view_of c.args.seat.now in
    let claims = c.in-Ok.ensures.claims in
    subst (λ (l : List Told). Worked g.D.Disk.tells g.B.Bench.tells g.K.Began.alike g.B.Bench.place g.B.Bench.gives g.B.Bench.faults g.K.Began.first g.K.Began.gives None v.number l old c.args.bench.now) (sym claims.2.mine)
    (worked_on g.D.Disk.tells g.B.Bench.tells g.K.Began.alike g.B.Bench.place g.B.Bench.gives g.B.Bench.faults g.K.Began.first g.K.Began.gives v.number v.own old c.args.bench.now w None claims.0 refl (quiet_settled v.number c.in-Settled.field-0 c.in-Ok.field-0.printed claims.0 (subst (λ (x : Claim). AddsBy v.number c.in-Ok.field-0.printed x claims.0) c.in-Settled.is claims.1)))

pub returns-in-Restore-clause-worked : goal.returns-in-Restore-clause-worked
returns-in-Restore-clause-worked g c old w =
    let v = view_of c.args.seat.now in
    let mid = view_of c.claim.new.seat in
    let new = view_of c.restore.new.seat in
    let claims = c.in-Ok.ensures.claims in
    let none = subst (λ (x : Claim). AddsBy v.number c.in-Ok.field-0.printed x claims.0) c.in-Restore.is claims.1 in
    let e = c.restore.ensures in
    let own = claims.2.mine ∙ ap (λ (l : List Told). v.own ++ l) none ∙ append-nil v.own in
    let mine = e.adds.3 ∙ ap (λ (l : List Told). l ++ e.adds.1) own in
    subst (λ (l : List Told). Worked g.D.Disk.tells g.B.Bench.tells g.K.Began.alike g.B.Bench.place g.B.Bench.gives g.B.Bench.faults g.K.Began.first g.K.Began.gives c.restore.result v.number l old c.restore.new.bench) (sym mine)
    (worked_beside g.D.Disk.tells g.B.Bench.tells g.K.Began.alike g.B.Bench.place g.B.Bench.gives g.B.Bench.faults g.K.Began.first g.K.Began.gives c.restore.result v.number (v.own ++ e.adds.1) old c.args.bench.now c.restore.new.bench e.gives e.place e.faults (λ u. (c.requires.gives u).0)
    (worked_on g.D.Disk.tells g.B.Bench.tells g.K.Began.alike g.B.Bench.place g.B.Bench.gives g.B.Bench.faults g.K.Began.first g.K.Began.gives v.number v.own old c.args.bench.now w c.restore.result e.adds.1 e.bench
    (quiet_mended v.number c.in-Restore.task e.adds.0 e.adds.1 (subst (λ n. MendAdds n c.in-Restore.task e.adds.0 e.adds.1) claims.2.number e.adds.2))))

pub returns-in-Finished-clause-worked : goal.returns-in-Finished-clause-worked
returns-in-Finished-clause-worked g c old w =
    let v = view_of c.args.seat.now in
    let claims = c.in-Ok.ensures.claims in
    subst (λ (l : List Told). Worked g.D.Disk.tells g.B.Bench.tells g.K.Began.alike g.B.Bench.place g.B.Bench.gives g.B.Bench.faults g.K.Began.first g.K.Began.gives (Some halts.Finished) v.number l old c.args.bench.now) (sym claims.2.mine)
    (worked_on g.D.Disk.tells g.B.Bench.tells g.K.Began.alike g.B.Bench.place g.B.Bench.gives g.B.Bench.faults g.K.Began.first g.K.Began.gives v.number v.own old c.args.bench.now w (Some halts.Finished) claims.0 refl (inl (subst (λ (x : Claim). AddsBy v.number c.in-Ok.field-0.printed x claims.0) c.in-Finished.is claims.1)))

pub returns-in-Stopped-clause-worked : goal.returns-in-Stopped-clause-worked
returns-in-Stopped-clause-worked g c old w =
    let v = view_of c.args.seat.now in
    let claims = c.in-Ok.ensures.claims in
    subst (λ (l : List Told). Worked g.D.Disk.tells g.B.Bench.tells g.K.Began.alike g.B.Bench.place g.B.Bench.gives g.B.Bench.faults g.K.Began.first g.K.Began.gives (Some halts.Stopped) v.number l old c.args.bench.now) (sym claims.2.mine)
    (worked_on g.D.Disk.tells g.B.Bench.tells g.K.Began.alike g.B.Bench.place g.B.Bench.gives g.B.Bench.faults g.K.Began.first g.K.Began.gives v.number v.own old c.args.bench.now w (Some halts.Stopped) claims.0 refl (inl (subst (λ (x : Claim). AddsBy v.number c.in-Ok.field-0.printed x claims.0) c.in-Stopped.is claims.1)))

pub returns-in-Err-clause-worked : goal.returns-in-Err-clause-worked
returns-in-Err-clause-worked g c old w =
    let v = view_of c.args.seat.now in
    let claims = c.in-Err.ensures.claims in
    subst (λ (l : List Told). Worked g.D.Disk.tells g.B.Bench.tells g.K.Began.alike g.B.Bench.place g.B.Bench.gives g.B.Bench.faults g.K.Began.first g.K.Began.gives (Some halts.Memory) v.number l old c.args.bench.now) (sym claims.2.mine)
    (worked_on g.D.Disk.tells g.B.Bench.tells g.K.Began.alike g.B.Bench.place g.B.Bench.gives g.B.Bench.faults g.K.Began.first g.K.Began.gives v.number v.own old c.args.bench.now w (Some halts.Memory) claims.0 refl (inl claims.1))

pub do_claimed-requires-clause-faulty : goal.do_claimed-requires-clause-faulty
do_claimed-requires-clause-faulty g c = c.in-Ok.ensures.says.1

pub returns-in-Finished-clause-ends : goal.returns-in-Finished-clause-ends
returns-in-Finished-clause-ends g c =
    let faulty = WasFaulty g.D.Disk.faults g.W.Sink.faults g.K.Began.first g.K.Began.faults in
    let tale = logged_in (view_of c.claim.new.seat).seen in
    halts_now g.K.Began.first faulty halts.Finished tale (subst (λ (x : Claim). SaysWhy g.K.Began.first tale (faulty tale) x) c.in-Finished.is c.in-Ok.ensures.says.0)

pub returns-in-Stopped-clause-ends : goal.returns-in-Stopped-clause-ends
returns-in-Stopped-clause-ends g c =
    let faulty = WasFaulty g.D.Disk.faults g.W.Sink.faults g.K.Began.first g.K.Began.faults in
    let tale = logged_in (view_of c.claim.new.seat).seen in
    halts_now g.K.Began.first faulty halts.Stopped tale (subst (λ (x : Claim). SaysWhy g.K.Began.first tale (faulty tale) x) c.in-Stopped.is c.in-Ok.ensures.says.0)

pub returns-in-Err-clause-ends : goal.returns-in-Err-clause-ends
returns-in-Err-clause-ends g c = halts_now g.K.Began.first (WasFaulty g.D.Disk.faults g.W.Sink.faults g.K.Began.first g.K.Began.faults) halts.Memory (logged_in (view_of c.claim.new.seat).seen) tt
