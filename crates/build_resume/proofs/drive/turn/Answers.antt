use Rattle.std.proofs.Common.{◌≡◌, ◌∙◌, sym, ap, subst, refl, [], append-nil, Ok, IsSome, Some, None}
use Rattle.std.specs.Prelude.{Result}
use Rattle.tree_model.specs.declared.text.Mem.{Mem}
use Rattle.run_queue.specs.declared.state.Claim.{Claim}
use Rattle.run_queue.specs.declared.state.Claim.TheVariants as claim
use Rattle.run_queue.specs.Turns.{Begins, Claims, ClaimsClean, IsCleanJob, Settles}
use Rattle.run_queue.specs.Seen.{seen}
use Rattle.run_model.specs.Report.{tale_text}
use Rattle.meta_model.specs.declared.plan.Plan.{Plan}
use Rattle.run_queue.specs.Keeps.{Prints}
use Rattle.build_resume.proofs.Driving.{broken_job, broken_none, broken_one, clean_run, drove_job, drove_none, grows_job, grows_none, grows_one}
use Rattle.build_resume.proofs.Turning.{closed_less, closed_none, runs_here, settled_by, settled_calm, settled_less, settled_starts, settled_whole}
use Rattle.build_resume.proofs.Halting.{clean_still, goes_or_halts, none_before, none_settled, unkept}
use Rattle.build_resume.proofs.Seating.{alone_one}
use Rattle.build_resume.proofs.Printing.{grew, said_halts, said_job, said_settled, said_whole}
use Rattle.run_workers.specs.declared.worker.Halt.TheVariants as halts
use Rattle.build_resume.proofs.drive.turn.Goals as goal

pub do_alone-halt-requires-clause-runs : goal.do_alone-halt-requires-clause-runs
do_alone-halt-requires-clause-runs g c =
    let claims : Claims 0 c.args.state.now c.claim_alone.new.state (Ok c.in-Ok-Run.field-0) = c.in-Ok-Run.ensures.claims in
    let begins : Begins 0 c.args.state.now.plan.tasks c.args.state.now.tale c.claim_alone.new.state.tale c.in-Ok-Run.job = subst (λ x. Claims 0 c.args.state.now c.claim_alone.new.state (Ok x)) c.in-Ok-Run.field-0-is claims in
    runs_here c.args.state.now c.claim_alone.new.state c.claim_alone.new.state c.in-Ok-Run.job.task c.in-Ok-Run.ensures.same.plan refl c.requires.none begins.marks c.kept-in-Ok-Run.ensures.orderly

pub returns-in-Ok-Run-clause-none : goal.returns-in-Ok-Run-clause-none
returns-in-Ok-Run-clause-none g c =
    let claims : Claims 0 c.args.state.now c.claim_alone.new.state (Ok c.in-Ok-Run.field-0) = c.in-Ok-Run.ensures.claims in
    let begins : Begins 0 c.args.state.now.plan.tasks c.args.state.now.tale c.claim_alone.new.state.tale c.in-Ok-Run.job = subst (λ x. Claims 0 c.args.state.now c.claim_alone.new.state (Ok x)) c.in-Ok-Run.field-0-is claims in
    closed_none c.args.state.now c.claim_alone.new.state c.do_alone-halt.new.state c.in-Ok-Run.job.task c.in-Ok-Run.ensures.same.plan c.do_alone-halt.ensures.same.plan c.requires.none begins.marks c.kept-in-Ok-Run.ensures.orderly c.do_alone-halt.result c.do_alone-halt.ensures.closes

pub returns-in-Ok-Run-clause-goes_on : goal.returns-in-Ok-Run-clause-goes_on
returns-in-Ok-Run-clause-goes_on g c =
    let claims : Claims 0 c.args.state.now c.claim_alone.new.state (Ok c.in-Ok-Run.field-0) = c.in-Ok-Run.ensures.claims in
    let begins : Begins 0 c.args.state.now.plan.tasks c.args.state.now.tale c.claim_alone.new.state.tale c.in-Ok-Run.job = subst (λ x. Claims 0 c.args.state.now c.claim_alone.new.state (Ok x)) c.in-Ok-Run.field-0-is claims in
    let stops : IsSome c.args.state.now.fault → ◌≡◌ {A = Result Claim Mem} (Ok c.in-Ok-Run.field-0) (Ok claim.Stopped) = c.in-Ok-Run.ensures.stops in
    let first = none_before c.args.state.now.fault c.in-Ok-Run.job (λ kept. ap (λ x. Ok x) (sym c.in-Ok-Run.field-0-is) ∙ stops kept) in
    goes_or_halts c.args.state.now c.do_alone-halt.new.state c.do_alone-halt.result
    (λ none. closed_less c.args.state.now c.claim_alone.new.state c.do_alone-halt.new.state c.in-Ok-Run.job.task c.in-Ok-Run.ensures.same.plan c.do_alone-halt.ensures.same.plan c.requires.none begins.marks c.kept-in-Ok-Run.ensures.orderly c.do_alone-halt.result c.do_alone-halt.ensures.closes
    first c.do_alone-halt.ensures.fault (c.do_alone-halt.ensures.goes_on none))
    c.do_alone-halt.ensures.halted

pub returns-in-Ok-Run-clause-run : goal.returns-in-Ok-Run-clause-run
returns-in-Ok-Run-clause-run g c tells told o gives run =
    let claims : Claims 0 c.args.state.now c.claim_alone.new.state (Ok c.in-Ok-Run.field-0) = c.in-Ok-Run.ensures.claims in
    let begins : Begins 0 c.args.state.now.plan.tasks c.args.state.now.tale c.claim_alone.new.state.tale c.in-Ok-Run.job = subst (λ x. Claims 0 c.args.state.now c.claim_alone.new.state (Ok x)) c.in-Ok-Run.field-0-is claims in
    let mid = c.in-Ok-Run.ensures.run tells o run in
    let cleans : ClaimsClean o c.args.state.now.ends_wait (seen g.D.Disk.story g.W.Sink.written c.args.state.now) (Ok c.in-Ok-Run.field-0) = c.in-Ok-Run.ensures.clean tells o run in
    let job : IsCleanJob o (seen g.D.Disk.story g.W.Sink.written c.args.state.now) c.in-Ok-Run.job = subst (λ x. ClaimsClean o c.args.state.now.ends_wait (seen g.D.Disk.story g.W.Sink.written c.args.state.now) (Ok x)) c.in-Ok-Run.field-0-is cleans in
    let still = clean_still g.D.Disk.story g.W.Sink.written o c.args.state.now c.claim_alone.new.state c.in-Ok-Run.job c.in-Ok-Run.ensures.same.plan job in (
      c.do_alone-halt.ensures.run tells told o gives mid still,
      drove_job (g.B.Bench.gives c.args.bench.now) c.args.state.now.plan c.do_alone-halt.result c.in-Ok-Run.job.task (c.in-Ok-Run.job.script, c.in-Ok-Run.job.layout) c.args.state.now.tale c.claim_alone.new.state.tale c.do_alone-halt.new.state.tale (g.B.Bench.place c.args.bench.now).runs (g.B.Bench.place c.do_alone-halt.new.bench).runs
          (clean_run o (seen g.D.Disk.story g.W.Sink.written c.args.state.now) c.args.state.now.plan (g.B.Bench.gives c.args.bench.now) c.in-Ok-Run.job gives refl job)
          begins.marks c.do_alone-halt.ensures.closes (c.do_alone-halt.ensures.ran told),
    )

pub returns-in-Ok-Settled-clause-goes_on : goal.returns-in-Ok-Settled-clause-goes_on
returns-in-Ok-Settled-clause-goes_on g c =
    let claims : Claims 0 c.args.state.now c.claim_alone.new.state (Ok c.in-Ok-Settled.field-0) = c.in-Ok-Settled.ensures.claims in
    let settles : Settles 0 c.in-Ok-Settled.field-0-0 c.args.state.now.tale c.claim_alone.new.state.tale = subst (λ x. Claims 0 c.args.state.now c.claim_alone.new.state (Ok x)) c.in-Ok-Settled.field-0-is claims in
    settled_less c.args.state.now c.claim_alone.new.state c.in-Ok-Settled.field-0-0 c.in-Ok-Settled.ensures.same.plan c.requires.none (settled_by 0 c.in-Ok-Settled.field-0-0 c.args.state.now.tale c.claim_alone.new.state.tale settles) c.kept-in-Ok-Settled.ensures.orderly (λ kept. (c.in-Ok-Settled.ensures.rests kept))

pub returns-in-Ok-Finished-clause-run : goal.returns-in-Ok-Finished-clause-run
returns-in-Ok-Finished-clause-run g c tells told o gives run =
    let claims : Claims 0 c.args.state.now c.claim_alone.new.state (Ok c.in-Ok-Finished.field-0) = c.in-Ok-Finished.ensures.claims in
    let same : Claims 0 c.args.state.now c.claim_alone.new.state (Ok claim.Finished) = subst (λ x. Claims 0 c.args.state.now c.claim_alone.new.state (Ok x)) c.in-Ok-Finished.field-0-is claims in
    (c.in-Ok-Finished.ensures.run tells o run, drove_none _ _ _ _ _ _ same.0)

pub returns-in-Ok-Stopped-clause-run : goal.returns-in-Ok-Stopped-clause-run
returns-in-Ok-Stopped-clause-run g c tells told o gives run =
    let claims : Claims 0 c.args.state.now c.claim_alone.new.state (Ok c.in-Ok-Stopped.field-0) = c.in-Ok-Stopped.ensures.claims in
    let same : Claims 0 c.args.state.now c.claim_alone.new.state (Ok claim.Stopped) = subst (λ x. Claims 0 c.args.state.now c.claim_alone.new.state (Ok x)) c.in-Ok-Stopped.field-0-is claims in
    (c.in-Ok-Stopped.ensures.run tells o run, drove_none _ _ _ _ _ _ same.0)

pub returns-in-Err-clause-run : goal.returns-in-Err-clause-run
returns-in-Err-clause-run g c tells told o gives run = (c.in-Err.ensures.run tells o run, drove_none _ _ _ _ _ _ c.in-Err.ensures.claims)

pub returns-in-Ok-Run-clause-printed : goal.returns-in-Ok-Run-clause-printed
returns-in-Ok-Run-clause-printed g c heard told from base before said =
    let old = c.args.state.now in
    let mid = c.claim_alone.new.state in
    let new = c.do_alone-halt.new.state in
    let written = g.W.Sink.written in
    let claims : Claims 0 c.args.state.now c.claim_alone.new.state (Ok c.in-Ok-Run.field-0) = c.in-Ok-Run.ensures.claims in
    let begins : Begins 0 c.args.state.now.plan.tasks c.args.state.now.tale c.claim_alone.new.state.tale c.in-Ok-Run.job = subst (λ x. Claims 0 c.args.state.now c.claim_alone.new.state (Ok x)) c.in-Ok-Run.field-0-is claims in
    let stops : IsSome c.args.state.now.fault → ◌≡◌ {A = Result Claim Mem} (Ok c.in-Ok-Run.field-0) (Ok claim.Stopped) = c.in-Ok-Run.ensures.stops in
    let first = none_before c.args.state.now.fault c.in-Ok-Run.job (λ kept. ap (λ x. Ok x) (sym c.in-Ok-Run.field-0-is) ∙ stops kept) in
    let closing = subst (λ (p : Plan). Prints base (written mid.sink) (tale_text p.tasks mid.tale) mid.sink_failed → Prints base (written new.sink) (tale_text p.tasks new.tale) new.sink_failed) c.in-Ok-Run.ensures.same.plan (c.do_alone-halt.ensures.text heard base) in
    said_job old.plan old.fault mid.fault new.fault from old.tale mid.tale new.tale before (g.B.Bench.place c.args.bench.now).runs (g.B.Bench.place c.do_alone-halt.new.bench).runs base (written old.sink) (written mid.sink) (written new.sink) said
    (grew (written old.sink) (written mid.sink) (c.in-Ok-Run.ensures.stays heard)) (grew (written mid.sink) (written new.sink) (c.do_alone-halt.ensures.stays heard))
    first c.in-Ok-Run.job.task (c.in-Ok-Run.job.script, c.in-Ok-Run.job.layout) (record { task = begins.task; is_task = begins.is_task; is = begins.script }) begins.marks c.do_alone-halt.result c.do_alone-halt.ensures.closes
    (c.do_alone-halt.ensures.ran told)
    (λ kept. let u = c.do_alone-halt.ensures.unheard kept in (u.0, u.1 told))
    (λ none. said_whole base (written old.sink) (written mid.sink) old.plan old.tale mid.tale old.sink_failed mid.sink_failed (c.in-Ok-Run.ensures.text heard base) (c.kept.ensures.heard first) (c.kept-in-Ok-Run.ensures.heard none))
    (λ none last. said_whole base (written mid.sink) (written new.sink) old.plan mid.tale new.tale mid.sink_failed new.sink_failed closing (c.kept-in-Ok-Run.ensures.heard none) (c.kept-in-Ok-Run-2.ensures.heard last))

pub returns-in-Ok-Run-clause-steady : goal.returns-in-Ok-Run-clause-steady
returns-in-Ok-Run-clause-steady g c tells told o gives run held =
    let cleans : ClaimsClean o c.args.state.now.ends_wait (seen g.D.Disk.story g.W.Sink.written c.args.state.now) (Ok c.in-Ok-Run.field-0) = c.in-Ok-Run.ensures.clean tells o run in
    let job : IsCleanJob o (seen g.D.Disk.story g.W.Sink.written c.args.state.now) c.in-Ok-Run.job = subst (λ x. ClaimsClean o c.args.state.now.ends_wait (seen g.D.Disk.story g.W.Sink.written c.args.state.now) (Ok x)) c.in-Ok-Run.field-0-is cleans in
    let still = clean_still g.D.Disk.story g.W.Sink.written o c.args.state.now c.claim_alone.new.state c.in-Ok-Run.job c.in-Ok-Run.ensures.same.plan job in
    c.do_alone-halt.ensures.steady tells told o gives (c.in-Ok-Run.ensures.run tells o run) still (c.in-Ok-Run.ensures.steady held)

pub returns-in-Ok-Settled-clause-printed : goal.returns-in-Ok-Settled-clause-printed
returns-in-Ok-Settled-clause-printed g c heard told from base before said =
    let old = c.args.state.now in
    let new = c.claim_alone.new.state in
    let written = g.W.Sink.written in
    let claims : Claims 0 c.args.state.now c.claim_alone.new.state (Ok c.in-Ok-Settled.field-0) = c.in-Ok-Settled.ensures.claims in
    let settles : Settles 0 c.in-Ok-Settled.field-0-0 c.args.state.now.tale c.claim_alone.new.state.tale = subst (λ x. Claims 0 c.args.state.now c.claim_alone.new.state (Ok x)) c.in-Ok-Settled.field-0-is claims in
    let s = settled_by 0 c.in-Ok-Settled.field-0-0 c.args.state.now.tale c.claim_alone.new.state.tale settles in
    let stops : IsSome c.args.state.now.fault → ◌≡◌ {A = Result Claim Mem} (Ok c.in-Ok-Settled.field-0) (Ok claim.Stopped) = c.in-Ok-Settled.ensures.stops in
    let first = none_settled c.args.state.now.fault c.in-Ok-Settled.field-0-0 (λ kept. ap (λ x. Ok x) (sym c.in-Ok-Settled.field-0-is) ∙ stops kept) in
    said_settled old.plan old.fault new.fault from old.tale new.tale before (g.B.Bench.place c.args.bench.now).runs base (written old.sink) (written new.sink) said
    (grew (written old.sink) (written new.sink) (c.in-Ok-Settled.ensures.stays heard))
    (record { event = s.event; seat = 0; moment = s.marks.moment }) s.marks.is (settled_starts c.in-Ok-Settled.field-0-0 s.marks.moment s.event s.which) (alone_one (record { event = s.event; seat = 0; moment = s.marks.moment }) refl) first
    (λ none. said_whole base (written old.sink) (written new.sink) old.plan old.tale new.tale old.sink_failed new.sink_failed (c.in-Ok-Settled.ensures.text heard base) (c.kept.ensures.heard first) (c.kept-in-Ok-Settled.ensures.heard none))

pub returns-in-Ok-Finished-clause-printed : goal.returns-in-Ok-Finished-clause-printed
returns-in-Ok-Finished-clause-printed g c heard told from base before said =
    let claims : Claims 0 c.args.state.now c.claim_alone.new.state (Ok c.in-Ok-Finished.field-0) = c.in-Ok-Finished.ensures.claims in
    let same : Claims 0 c.args.state.now c.claim_alone.new.state (Ok claim.Finished) = subst (λ x. Claims 0 c.args.state.now c.claim_alone.new.state (Ok x)) c.in-Ok-Finished.field-0-is claims in
    said_halts c.args.state.now.plan c.args.state.now.fault c.claim_alone.new.state.fault from c.args.state.now.tale c.claim_alone.new.state.tale before (g.B.Bench.place c.args.bench.now).runs base (g.W.Sink.written c.args.state.now.sink) (g.W.Sink.written c.claim_alone.new.state.sink) said
    (grew (g.W.Sink.written c.args.state.now.sink) (g.W.Sink.written c.claim_alone.new.state.sink) (c.in-Ok-Finished.ensures.stays heard)) _ [] (same.0 ∙ sym (append-nil c.args.state.now.tale))

pub returns-in-Ok-Stopped-clause-printed : goal.returns-in-Ok-Stopped-clause-printed
returns-in-Ok-Stopped-clause-printed g c heard told from base before said =
    let claims : Claims 0 c.args.state.now c.claim_alone.new.state (Ok c.in-Ok-Stopped.field-0) = c.in-Ok-Stopped.ensures.claims in
    let same : Claims 0 c.args.state.now c.claim_alone.new.state (Ok claim.Stopped) = subst (λ x. Claims 0 c.args.state.now c.claim_alone.new.state (Ok x)) c.in-Ok-Stopped.field-0-is claims in
    said_halts c.args.state.now.plan c.args.state.now.fault c.claim_alone.new.state.fault from c.args.state.now.tale c.claim_alone.new.state.tale before (g.B.Bench.place c.args.bench.now).runs base (g.W.Sink.written c.args.state.now.sink) (g.W.Sink.written c.claim_alone.new.state.sink) said
    (grew (g.W.Sink.written c.args.state.now.sink) (g.W.Sink.written c.claim_alone.new.state.sink) (c.in-Ok-Stopped.ensures.stays heard)) _ [] (same.0 ∙ sym (append-nil c.args.state.now.tale))

pub returns-in-Err-clause-printed : goal.returns-in-Err-clause-printed
returns-in-Err-clause-printed g c heard told from base before said =
    said_halts c.args.state.now.plan c.args.state.now.fault c.claim_alone.new.state.fault from c.args.state.now.tale c.claim_alone.new.state.tale before (g.B.Bench.place c.args.bench.now).runs base (g.W.Sink.written c.args.state.now.sink) (g.W.Sink.written c.claim_alone.new.state.sink) said
    (grew (g.W.Sink.written c.args.state.now.sink) (g.W.Sink.written c.claim_alone.new.state.sink) (c.in-Err.ensures.stays heard)) _ [] (c.in-Err.ensures.claims ∙ sym (append-nil c.args.state.now.tale))

pub returns-in-Ok-Run-clause-grows : goal.returns-in-Ok-Run-clause-grows
returns-in-Ok-Run-clause-grows g c =
    let claims : Claims 0 c.args.state.now c.claim_alone.new.state (Ok c.in-Ok-Run.field-0) = c.in-Ok-Run.ensures.claims in
    let begins : Begins 0 c.args.state.now.plan.tasks c.args.state.now.tale c.claim_alone.new.state.tale c.in-Ok-Run.job = subst (λ x. Claims 0 c.args.state.now c.claim_alone.new.state (Ok x)) c.in-Ok-Run.field-0-is claims in
    grows_job c.do_alone-halt.result c.in-Ok-Run.job.task c.args.state.now.tale c.claim_alone.new.state.tale c.do_alone-halt.new.state.tale begins.marks c.do_alone-halt.ensures.closes

pub returns-in-Ok-Settled-clause-grows : goal.returns-in-Ok-Settled-clause-grows
returns-in-Ok-Settled-clause-grows g c =
    let claims : Claims 0 c.args.state.now c.claim_alone.new.state (Ok c.in-Ok-Settled.field-0) = c.in-Ok-Settled.ensures.claims in
    let settles : Settles 0 c.in-Ok-Settled.field-0-0 c.args.state.now.tale c.claim_alone.new.state.tale = subst (λ x. Claims 0 c.args.state.now c.claim_alone.new.state (Ok x)) c.in-Ok-Settled.field-0-is claims in
    let s = settled_by 0 c.in-Ok-Settled.field-0-0 c.args.state.now.tale c.claim_alone.new.state.tale settles in
    grows_one None s.event c.args.state.now.tale c.claim_alone.new.state.tale s.marks (settled_calm c.in-Ok-Settled.field-0-0 s.event s.which)

pub returns-in-Ok-Finished-clause-grows : goal.returns-in-Ok-Finished-clause-grows
returns-in-Ok-Finished-clause-grows g c =
    let claims : Claims 0 c.args.state.now c.claim_alone.new.state (Ok c.in-Ok-Finished.field-0) = c.in-Ok-Finished.ensures.claims in
    let same : Claims 0 c.args.state.now c.claim_alone.new.state (Ok claim.Finished) = subst (λ x. Claims 0 c.args.state.now c.claim_alone.new.state (Ok x)) c.in-Ok-Finished.field-0-is claims in
    grows_none (Some halts.Finished) c.args.state.now.tale c.claim_alone.new.state.tale same.0

pub returns-in-Ok-Stopped-clause-grows : goal.returns-in-Ok-Stopped-clause-grows
returns-in-Ok-Stopped-clause-grows g c =
    let claims : Claims 0 c.args.state.now c.claim_alone.new.state (Ok c.in-Ok-Stopped.field-0) = c.in-Ok-Stopped.ensures.claims in
    let same : Claims 0 c.args.state.now c.claim_alone.new.state (Ok claim.Stopped) = subst (λ x. Claims 0 c.args.state.now c.claim_alone.new.state (Ok x)) c.in-Ok-Stopped.field-0-is claims in
    grows_none (Some halts.Stopped) c.args.state.now.tale c.claim_alone.new.state.tale same.0

pub returns-in-Err-clause-grows : goal.returns-in-Err-clause-grows
returns-in-Err-clause-grows g c = grows_none (Some halts.Memory) c.args.state.now.tale c.claim_alone.new.state.tale c.in-Err.ensures.claims

pub returns-in-Ok-Run-clause-broken : goal.returns-in-Ok-Run-clause-broken
returns-in-Ok-Run-clause-broken g c =
    let claims : Claims 0 c.args.state.now c.claim_alone.new.state (Ok c.in-Ok-Run.field-0) = c.in-Ok-Run.ensures.claims in
    let begins : Begins 0 c.args.state.now.plan.tasks c.args.state.now.tale c.claim_alone.new.state.tale c.in-Ok-Run.job = subst (λ x. Claims 0 c.args.state.now c.claim_alone.new.state (Ok x)) c.in-Ok-Run.field-0-is claims in
    broken_job c.do_alone-halt.result c.do_alone-halt.new.state.fault c.in-Ok-Run.job.task c.args.state.now.tale c.claim_alone.new.state.tale c.do_alone-halt.new.state.tale begins.marks c.do_alone-halt.ensures.closes c.do_alone-halt.ensures.stops

pub returns-in-Ok-Settled-clause-broken : goal.returns-in-Ok-Settled-clause-broken
returns-in-Ok-Settled-clause-broken g c =
    let claims : Claims 0 c.args.state.now c.claim_alone.new.state (Ok c.in-Ok-Settled.field-0) = c.in-Ok-Settled.ensures.claims in
    let settles : Settles 0 c.in-Ok-Settled.field-0-0 c.args.state.now.tale c.claim_alone.new.state.tale = subst (λ x. Claims 0 c.args.state.now c.claim_alone.new.state (Ok x)) c.in-Ok-Settled.field-0-is claims in
    let s = settled_by 0 c.in-Ok-Settled.field-0-0 c.args.state.now.tale c.claim_alone.new.state.tale settles in
    broken_one _ s.event c.args.state.now.tale c.claim_alone.new.state.tale s.marks (settled_whole c.in-Ok-Settled.field-0-0 s.event s.which)

pub returns-in-Ok-Finished-clause-broken : goal.returns-in-Ok-Finished-clause-broken
returns-in-Ok-Finished-clause-broken g c =
    let claims : Claims 0 c.args.state.now c.claim_alone.new.state (Ok c.in-Ok-Finished.field-0) = c.in-Ok-Finished.ensures.claims in
    let same : Claims 0 c.args.state.now c.claim_alone.new.state (Ok claim.Finished) = subst (λ x. Claims 0 c.args.state.now c.claim_alone.new.state (Ok x)) c.in-Ok-Finished.field-0-is claims in
    broken_none _ c.args.state.now.tale c.claim_alone.new.state.tale same.0

pub returns-in-Ok-Stopped-clause-broken : goal.returns-in-Ok-Stopped-clause-broken
returns-in-Ok-Stopped-clause-broken g c =
    let claims : Claims 0 c.args.state.now c.claim_alone.new.state (Ok c.in-Ok-Stopped.field-0) = c.in-Ok-Stopped.ensures.claims in
    let same : Claims 0 c.args.state.now c.claim_alone.new.state (Ok claim.Stopped) = subst (λ x. Claims 0 c.args.state.now c.claim_alone.new.state (Ok x)) c.in-Ok-Stopped.field-0-is claims in
    broken_none _ c.args.state.now.tale c.claim_alone.new.state.tale same.0

pub returns-in-Err-clause-broken : goal.returns-in-Err-clause-broken
returns-in-Err-clause-broken g c = broken_none _ c.args.state.now.tale c.claim_alone.new.state.tale c.in-Err.ensures.claims

-- ---- where a fault is kept nothing is marked

pub returns-in-Ok-Run-clause-rests : goal.returns-in-Ok-Run-clause-rests
returns-in-Ok-Run-clause-rests g c some =
    let stops : IsSome c.args.state.now.fault → ◌≡◌ {A = Result Claim Mem} (Ok c.in-Ok-Run.field-0) (Ok claim.Stopped) = c.in-Ok-Run.ensures.stops in
    absurd (unkept c.args.state.now.fault (none_before c.args.state.now.fault c.in-Ok-Run.job (λ kept. ap (λ x. Ok x) (sym c.in-Ok-Run.field-0-is) ∙ stops kept)) some)

pub returns-in-Ok-Settled-clause-rests : goal.returns-in-Ok-Settled-clause-rests
returns-in-Ok-Settled-clause-rests g c some =
    let stops : IsSome c.args.state.now.fault → ◌≡◌ {A = Result Claim Mem} (Ok c.in-Ok-Settled.field-0) (Ok claim.Stopped) = c.in-Ok-Settled.ensures.stops in
    absurd (unkept c.args.state.now.fault (none_settled c.args.state.now.fault c.in-Ok-Settled.field-0-0 (λ kept. ap (λ x. Ok x) (sym c.in-Ok-Settled.field-0-is) ∙ stops kept)) some)

pub returns-in-Ok-Finished-clause-rests : goal.returns-in-Ok-Finished-clause-rests
returns-in-Ok-Finished-clause-rests g c some =
    let claims : Claims 0 c.args.state.now c.claim_alone.new.state (Ok c.in-Ok-Finished.field-0) = c.in-Ok-Finished.ensures.claims in
    let same : Claims 0 c.args.state.now c.claim_alone.new.state (Ok claim.Finished) = subst (λ x. Claims 0 c.args.state.now c.claim_alone.new.state (Ok x)) c.in-Ok-Finished.field-0-is claims in
    (same.0, refl)

pub returns-in-Ok-Stopped-clause-rests : goal.returns-in-Ok-Stopped-clause-rests
returns-in-Ok-Stopped-clause-rests g c some =
    let claims : Claims 0 c.args.state.now c.claim_alone.new.state (Ok c.in-Ok-Stopped.field-0) = c.in-Ok-Stopped.ensures.claims in
    let same : Claims 0 c.args.state.now c.claim_alone.new.state (Ok claim.Stopped) = subst (λ x. Claims 0 c.args.state.now c.claim_alone.new.state (Ok x)) c.in-Ok-Stopped.field-0-is claims in
    (same.0, refl)

pub returns-in-Err-clause-rests : goal.returns-in-Err-clause-rests
returns-in-Err-clause-rests g c some = (c.in-Err.ensures.claims, refl)
