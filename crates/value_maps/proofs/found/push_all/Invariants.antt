use Rattle.std.proofs.Common.{◌≡◌, ◌++◌, take}
use Rattle.value_maps.proofs.found.push_all.Given as goal

abbrev pub invariant-loop-text : goal.invariant-loop-text
invariant-loop-text l = l.list ≡ l.fn.list ++ take l.text-index l.more
