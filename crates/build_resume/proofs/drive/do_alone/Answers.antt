use Rattle.build_resume.proofs.Given.{is_given_by}
use Rattle.build_resume.proofs.Halting.{bench_halts}
use Rattle.build_resume.proofs.drive.do_alone.Goals as goal

pub returns-in-Ok-clause-run : goal.returns-in-Ok-clause-run
returns-in-Ok-clause-run g c tells told o gives run job =
    c.close_alone.ensures.run tells o run
    (is_given_by o.gives (g.B.Bench.gives c.args.bench.now) c.args.job c.in-Ok.given gives (c.in-Ok.ensures.given told)) job

pub returns-in-Err-Bench-clause-run : goal.returns-in-Err-Bench-clause-run
returns-in-Err-Bench-clause-run g c tells told o gives run job = c.broke-in-Err-Bench.ensures.run tells o run

pub returns-in-Err-Memory-clause-run : goal.returns-in-Err-Memory-clause-run
returns-in-Err-Memory-clause-run g c tells told o gives run job = c.broke-in-Err-Memory.ensures.run tells o run

pub returns-in-Ok-clause-steady : goal.returns-in-Ok-clause-steady
returns-in-Ok-clause-steady g c tells told o gives run job held =
    c.close_alone.ensures.steady tells o run
    (is_given_by o.gives (g.B.Bench.gives c.args.bench.now) c.args.job c.in-Ok.given gives (c.in-Ok.ensures.given told)) job held

pub returns-in-Err-Bench-clause-halted : goal.returns-in-Err-Bench-clause-halted
returns-in-Err-Bench-clause-halted g c = bench_halts 0 c.args.job.task c.args.state.now c.broke-in-Err-Bench.new.self c.broke-in-Err-Bench.ensures.marks
