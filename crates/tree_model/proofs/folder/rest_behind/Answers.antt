use Rattle.tree_model.proofs.FolderLemmas.{stripped}
use Rattle.tree_model.proofs.folder.rest_behind.Goals as goal

pub returns : goal.returns
returns c = stripped c.args.prefix.now c.args.path.now c.strip_prefix.result c.strip_prefix.ensures.cases
