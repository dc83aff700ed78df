use Rattle.std.proofs.Common.{length}
use Rattle.bitbake_top.proofs.shown.+show_from.Given as goal

abbrev pub decreases-show_from : goal.decreases-show_from
decreases-show_from g l = length l.parts.now
