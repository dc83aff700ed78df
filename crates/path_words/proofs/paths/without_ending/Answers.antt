use Rattle.std.proofs.Common.{Some, None}
use Rattle.path_words.proofs.Endings.{cut_ending}
use Rattle.path_words.proofs.paths.without_ending.Goals as goal

pub returns-in-Some : goal.returns-in-Some
returns-in-Some c = cut_ending c.args.ending.now c.args.text.now (Some c.in-Some.front) c.in-Some.ensures.cases

pub returns-in-None : goal.returns-in-None
returns-in-None c = cut_ending c.args.ending.now c.args.text.now None c.in-None.ensures.cases
