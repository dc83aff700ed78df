use Rattle.std.proofs.lemmas.List.{take_all}
use Rattle.std.proofs.Common.{◌∙◌, ap, ◌||◌, is_some, bytes_eq}
use Rattle.std.specs.BTreeMap.{get_by_text}
use Rattle.recipe_set.specs.Stems.{recipe_stem}
use Rattle.recipe_set.proofs.Appending.{stem_more}
use Rattle.recipe_set.proofs.dangling.stems_of.Goals as goal

pub loop-path-preserved : goal.loop-path-preserved
loop-path-preserved c = λ t.
    stem_more c.args.paths.now c.loop-path.path-index c.path-item.result t (is_some (get_by_text c.loop-path.set t)) (is_some (get_by_text c.put_stem.new.set t)) c.path-item.is c.loop-path-test.true (c.loop-path.invariant t)
    (c.in_ok-put_stem.ensures t ∙ ap (λ s. bytes_eq t s || is_some (get_by_text c.loop-path.set t)) (c.recipe_stem.ensures ∙ ap recipe_stem c.as_str.ensures))

pub returns : goal.returns
returns c = rw (take_all _ _ c.loop-path-test.false) at c.loop-path.invariant
