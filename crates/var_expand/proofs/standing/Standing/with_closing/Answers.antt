use Rattle.std.proofs.Common.{◌∙◌, sym}
use Rattle.var_expand.proofs.Steps.{one_less, too_deep_inside}
use Rattle.var_expand.proofs.standing.Standing.with_closing.Goals as goal

pub returns-clause-ok : goal.returns-clause-ok
returns-clause-ok c = λ rest.
    one_less c.args.self.outer.items c.pop.new.self.items c.in-Some.frame c.args.self.inner c.in_ok-with_reference-in-Some.field-0 rest
    (c.in-Some.ensures.items) c.requires.name c.in_ok-with_reference-in-Some.ensures

pub returns-then-self-eq64-clause-deep : goal.returns-then-self-eq64-clause-deep
returns-then-self-eq64-clause-deep c = λ _ rest.
    too_deep_inside c.args.self.outer.items c.args.self.inner rest c.requires.open c.requires.name (sym c.args.self.inner.exact ∙ c.if-self-eq64.true)
