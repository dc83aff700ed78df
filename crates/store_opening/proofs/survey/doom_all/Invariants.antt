use Rattle.std.proofs.Common.{◌≡◌, ◌++◌, take}
use Rattle.store_opening.proofs.survey.doom_all.Given as goal

abbrev pub invariant-loop-path : goal.invariant-loop-path
invariant-loop-path l = l.doomed.items ≡ l.initial.doomed.items ++ take l.path-index l.paths
