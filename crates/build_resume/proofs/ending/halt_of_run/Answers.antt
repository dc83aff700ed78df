use Rattle.std.proofs.Common.{◌∙◌, sym, inr}
use Rattle.build_resume.proofs.Seating.{some_break}
use Rattle.build_resume.proofs.ending.halt_of_run.Goals as goal

pub returns-then-some_by_bench-clause-bench : goal.returns-then-some_by_bench-clause-bench
returns-then-some_by_bench-clause-bench c is = inr (some_break c.args.tale.now (sym c.some_by_bench.ensures ∙ c.if-some_by_bench.true))
