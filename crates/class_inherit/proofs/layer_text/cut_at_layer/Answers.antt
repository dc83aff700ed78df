use Rattle.class_inherit.proofs.LayerText.{cut_layer}
use Rattle.class_inherit.proofs.layer_text.cut_at_layer.Goals as goal

pub returns-clause-parts : goal.returns-clause-parts
returns-clause-parts c = cut_layer c.args.text.now c.split_once.result c.split_once.ensures.cases
