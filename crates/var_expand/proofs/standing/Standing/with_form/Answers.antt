use Rattle.var_expand.proofs.Steps.{one_form}
use Rattle.var_expand.proofs.standing.Standing.with_form.Goals as goal

pub returns : goal.returns
returns c = λ rest.
    one_form c.args.self.outer.items c.pop.new.self.items c.in-Some.frame c.args.self.inner c.in_ok-with_form-in-Some.field-0 c.args.form rest
    c.in-Some.ensures.items c.requires.name c.requires.form c.in_ok-with_form-in-Some.ensures
