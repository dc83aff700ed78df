use Rattle.var_expand.proofs.Steps.{plain_one}
use Rattle.var_expand.proofs.standing.Standing.with_plain_brace.Goals as goal

pub returns : goal.returns
returns c = λ rest.
    plain_one c.args.self c.in_ok-whole.whole c.in_ok-with_text.field-0 c.new.result.items rest
    c.new.ensures.items c.requires c.in_ok-whole.ensures c.in_ok-with_text.ensures
