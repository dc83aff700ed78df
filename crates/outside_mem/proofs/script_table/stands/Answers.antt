use Rattle.std.proofs.lemmas.Str.Pattern.{contains_text}
use Rattle.outside_mem.proofs.Needles.{stands_is}
use Rattle.outside_mem.proofs.script_table.stands.Goals as goal

pub returns : goal.returns
returns c = stands_is c.contains.result c.args.needle.now c.args.text.now (contains_text c.contains.result c.args.needle.now c.args.text.now c.contains.ensures.cases)
