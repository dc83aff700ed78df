use Rattle.std.proofs.Common.{◌≡◌, ◌++◌, take}
use Rattle.layer_conf.proofs.listing.put_behind.Given as goal

abbrev pub invariant-loop-path : goal.invariant-loop-path
invariant-loop-path l = l.found ≡ l.initial.found ++ take l.path-index l.more
