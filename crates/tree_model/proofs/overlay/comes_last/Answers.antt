use Rattle.tree_model.proofs.MergeLemmas.{last_cases}
use Rattle.tree_model.proofs.overlay.comes_last.Goals as goal

pub returns : goal.returns
returns c =
    last_cases c.args.one.now c.args.other.now c.in-Some.last.now c.in-Some-last.other_last.now c.as_str.result.now c.as_str-2.result.now c.comes_before.result c.requires.one c.requires.other
    c.in-Some.ensures.item.3.0 c.in-Some-last.ensures.item.3.0
    c.in-Some.ensures.item.1 c.in-Some-last.ensures.item.1 c.as_str.ensures c.as_str-2.ensures c.comes_before.ensures
