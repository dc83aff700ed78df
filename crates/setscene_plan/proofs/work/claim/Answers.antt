use Rattle.std.proofs.Common.{◌∙◌}
use Rattle.setscene_plan.proofs.Working.{claimed}
use Rattle.setscene_plan.proofs.work.claim.Goals as goal

pub returns-clause-others : goal.returns-clause-others
returns-clause-others c = λ t. claimed c.args.owners.now c.insert.new.self c.args.distinct.now c.args.names.now c.args.place t _ c.copied-owner.result (c.copied-owner.ensures ∙ c.get.ensures.value) (c.is_taken.ensures c.if-is_taken.false) c.in_ok-insert.ensures.updates.2
