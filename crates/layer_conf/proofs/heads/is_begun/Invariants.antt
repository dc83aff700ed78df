use Rattle.std.proofs.Common.{◌≡◌, take, false}
use Rattle.layer_conf.specs.Globs.{begun_by}
use Rattle.layer_conf.proofs.heads.is_begun.Given as goal

abbrev pub invariant-loop-head : goal.invariant-loop-head
invariant-loop-head l = begun_by (take l.head-index l.heads) l.path ≡ false
