use Rattle.path_words.proofs.Slashes.{cut_parts}
use Rattle.path_words.proofs.cuts.cut_at_slash.Goals as goal

pub returns-clause-parts : goal.returns-clause-parts
returns-clause-parts c = cut_parts c.args.text.now c.split_once.result c.split_once.ensures.cases
