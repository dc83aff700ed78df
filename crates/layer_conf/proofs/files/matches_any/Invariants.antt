use Rattle.std.proofs.Common.{◌≡◌, take, false}
use Rattle.layer_conf.specs.Globs.{matches_any}
use Rattle.layer_conf.proofs.files.matches_any.Given as goal

abbrev pub invariant-loop-glob : goal.invariant-loop-glob
invariant-loop-glob l = matches_any (take l.glob-index l.globs) l.path ≡ false
