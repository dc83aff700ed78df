use Rattle.std.proofs.Common.{subst, List, ℕ}
use Rattle.std.proofs.lemmas.List.{take_all}
use Rattle.sstate_mirror.specs.Titles.{AreTitles}
use Rattle.sstate_mirror.proofs.Titled.{titled_more}
use Rattle.sstate_mirror.proofs.titles.titles_by_pn.Goals as goal

pub loop-title-preserved : goal.loop-title-preserved
loop-title-preserved c = titled_more c.args.wanted.now c.loop-title.title-index c.title-item.result c.loop-title.of_pn c.put_title.new.of_pn c.loop-title-test.true c.title-item.is c.loop-title.invariant c.in_ok-put_title.ensures

pub returns : goal.returns
returns c = subst (λ (l : List (List ℕ × List ℕ)). AreTitles l c.loop-title.of_pn) (take_all c.loop-title.title-index c.args.wanted.now c.loop-title-test.false) c.loop-title.invariant
