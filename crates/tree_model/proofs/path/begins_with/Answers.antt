use Rattle.tree_model.proofs.PathLemmas.{some_rest, unlike_from_none}
use Rattle.tree_model.proofs.path.begins_with.Goals as goal

pub returns-in-Some : goal.returns-in-Some
returns-in-Some c = (c.in-Some.field-0.now, some_rest _ _ _ _ c.in-Some.field-0 c.as_bytes.ensures.value c.as_bytes-2.ensures.value c.in-Some.ensures.cases)

pub returns-in-None : goal.returns-in-None
returns-in-None c = unlike_from_none c.args.path.now c.args.prefix.now _ _ c.as_bytes.ensures.value c.as_bytes-2.ensures.value c.in-None.ensures.cases
