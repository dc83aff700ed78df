use Rattle.outside_traits.proofs.Readings.{tree_of_entries, never_refused}
use Rattle.outside_traits.proofs.reading.tree_within.Goals as goal
use Rattle.outside_traits.proofs.reading.tree_within.Goals.{in-Err-this-4+in-BadPath-1, in-Err-this-4+in-Memory-1, in-Ok-2}

pub returns-in-Ok-clause-found : goal.returns-in-Ok-clause-found
returns-in-Ok-clause-found c is_tree = tree_of_entries c.args.entries.items _ c.args.max.now c.within.result c.in-Ok.ensures.entries c.in-Ok.ensures.tree c.within.ensures.found

pub returns-clause-found : goal.returns-clause-found
returns-clause-found c is_tree = absurd (never_refused c.args.entries.items c.in-Err-BadPath.field-0 c.in-Err-BadPath.field-0-0 is_tree c.in-Err-BadPath.ensures.refused c.in-Err-BadPath.field-0-is)
