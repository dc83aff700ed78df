use Rattle.std.proofs.Common.{take}
use Rattle.sstate_mirror.specs.Titles.{AreTitles}
use Rattle.sstate_mirror.proofs.titles.titles_by_pn.Given as goal

abbrev pub invariant-loop-title : goal.invariant-loop-title
invariant-loop-title l = AreTitles (take l.title-index l.wanted) l.of_pn
