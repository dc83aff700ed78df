use Rattle.override_eval.proofs.Colons.{cut_parts}
use Rattle.class_inherit.proofs.late.cut_at_colon.Goals as goal

pub returns-clause-parts : goal.returns-clause-parts
returns-clause-parts c = cut_parts c.args.text.now c.split_once.result c.split_once.ensures.cases
