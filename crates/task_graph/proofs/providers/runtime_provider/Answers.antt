use Rattle.std.proofs.Common.{subst, Bool, IfErr}
use Rattle.meta_model.specs.declared.facts.RecipeFacts.{RecipeFacts}
use Rattle.meta_model.specs.Providers.{only_one}
use Rattle.task_graph.specs.Faults.{IsRefusalOf, IsUnprovided}
use Rattle.task_graph.proofs.providers.runtime_provider.Goals as goal

pub returns-clause-err : goal.returns-clause-err
returns-clause-err c = subst (λ (test : RecipeFacts → Bool). IfErr c.only_one.result (IsRefusalOf (IsUnprovided c.args.name.now (only_one c.args.facts.now.recipes test)))) c.runtime_provider_test.ensures c.only_one.ensures.err
