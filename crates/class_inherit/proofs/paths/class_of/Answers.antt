use Rattle.class_inherit.proofs.Classes.{class_none}
use Rattle.class_inherit.proofs.paths.class_of.Goals as goal

pub returns-in-None : goal.returns-in-None
returns-in-None c = class_none c.args.path.now c.file_name-name.result.now c.file_name-name.ensures c.in-None.ensures.cases
