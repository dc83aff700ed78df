use Rattle.std.proofs.lemmas.List.{take_all}
use Rattle.std.specs.BTreeMap.{get_by_text}
use Rattle.recipe_set.proofs.Picking.{versions_more}
use Rattle.recipe_set.proofs.picks.versions_of.Goals as goal

pub loop-pair-preserved : goal.loop-pair-preserved
loop-pair-preserved c = λ t.
    versions_more t c.args.versions.now c.loop-pair.pair-index c.pair-item.result (get_by_text c.loop-pair.map t) (get_by_text c.put_version.new.map t) c.pair-item.is c.loop-pair-test.true (c.loop-pair.invariant t) (c.in_ok-put_version.ensures t)

pub returns : goal.returns
returns c = rw (take_all _ _ c.loop-pair-test.false) at c.loop-pair.invariant
