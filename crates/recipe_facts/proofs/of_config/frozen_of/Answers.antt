use Rattle.std.proofs.Common.{◌≡◌, subst, Ok}
use Rattle.std.proofs.lemmas.Result.{IfOk-weaker, IfErr-weaker}
use Rattle.meta_model.specs.Frozen.{frozen}
use Rattle.datastore.specs.Faults.{IsDataFault}
use Rattle.recipe_facts.proofs.of_config.frozen_of.Goals as goal

pub returns-clause-ok : goal.returns-clause-ok
returns-clause-ok c =
    IfOk-weaker c.freeze.result (λ made. frozen c.in_ok-copy.field-0 ≡ Ok made) (λ made. frozen c.args.config.now ≡ Ok made) (λ made e. subst (λ l. frozen l ≡ Ok made) c.in_ok-copy.ensures e) c.freeze.ensures.ok

pub returns-clause-err : goal.returns-clause-err
returns-clause-err c =
    IfErr-weaker c.freeze.result (λ fault. IsDataFault fault (frozen c.in_ok-copy.field-0)) (λ fault. IsDataFault fault (frozen c.args.config.now)) (λ fault h. subst (λ l. IsDataFault fault (frozen l)) c.in_ok-copy.ensures h) c.freeze.ensures.err
