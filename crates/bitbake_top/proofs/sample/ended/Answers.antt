use Rattle.std.proofs.Common.{sym, subst, ◌++◌}
use Rattle.answer_model.specs.Sample.{IsLine}
use Rattle.bitbake_top.proofs.Sampled.{line_behind}
use Rattle.bitbake_top.proofs.sample.ended.Goals as goal

pub returns-clause-line : goal.returns-clause-line
returns-clause-line c size =
    let text = c.in_ok-line.line in
    let own = subst (λ p. IsLine size p c.args.told.items c.args.status text) c.as_slice.ensures.value (subst (λ t. IsLine size c.as_slice.result.now t c.args.status text) c.as_slice-2.ensures.value (c.in_ok-line.ensures size)) in
    subst (λ p. IsLine size p c.append-2.new.self.items c.args.status text) (sym c.in_ok-append.ensures.items)
    (subst (λ t. IsLine size (c.args.plans.items ++ c.args.own.items) t c.args.status text) (sym c.in_ok-append-2.ensures.items)
    (line_behind size c.args.plans.items c.args.own.items c.args.tales.items c.args.told.items c.args.status text c.requires.other own))
