use Rattle.std.proofs.Common.{◌≡◌, ◌∙◌}
use Rattle.std.proofs.lemmas.Result.{IfOk-weaker}
use Rattle.var_expand.specs.Expanding.{last_name}
use Rattle.var_expand.proofs.Expanding.{last_found}
use Rattle.var_expand.proofs.going.innermost_name.Goals as goal

pub returns-in-Some : goal.returns-in-Some
returns-in-Some c =
    IfOk-weaker c.copy.result (λ made. made ≡ c.in-Some.name.now) (λ made. made ≡ last_name c.args.within.now)
    (λ made e. e ∙ last_found c.args.within.now c.in-Some.name.now c.in-Some.ensures.value) c.copy.ensures
