use Rattle.build_store.proofs.Limits.{read_short, read_long}
use Rattle.build_store.proofs.finding.short_enough.Goals as goal

pub returns-then-are_short-clause-output : goal.returns-then-are_short-clause-output
returns-then-are_short-clause-output c = λ folder held read. read_short c.args.tree folder held read (c.are_short.ensures.short.0 c.if-are_short.true)

pub returns-clause-output : goal.returns-clause-output
returns-clause-output c = λ folder held read. read_long c.args.tree folder held read (λ short. let t = c.are_short.ensures.short.1 short in let f = c.if-are_short.false in cc)
