use Rattle.std.proofs.Common.{◌≡◌, ◌++◌, take}
use Rattle.var_deps.proofs.led.push_all.Given as goal

abbrev pub invariant-loop-text : goal.invariant-loop-text
invariant-loop-text l = l.list.items ≡ l.initial.list.items ++ take l.text-index l.more
