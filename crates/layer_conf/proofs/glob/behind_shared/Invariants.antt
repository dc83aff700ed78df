use Rattle.std.proofs.Common.{◌≡◌, length}
use Rattle.load_model.specs.Patterns.{matches}
use Rattle.layer_conf.proofs.glob.behind_shared.Given as goal

-- what is left matches just where the whole does
abbrev pub invariant-loop-left : goal.invariant-loop-left
invariant-loop-left l = matches l.pattern l.path ≡ matches l.left l.rest

abbrev pub decreases-loop-left : goal.decreases-loop-left
decreases-loop-left l = length l.left
