use Rattle.std.proofs.Common.{is_some, arith}
use Rattle.std.specs.BTreeMap.{get_by_text}
use Rattle.recipe_facts.proofs.Fronted.{fronts_begin, fronts_go_on}
use Rattle.recipe_facts.proofs.names.put_fronts.Goals as goal

pub loop-end-init : goal.loop-end-init
loop-end-init c = record {
  within = omega arith;
  fronts = λ t. fronts_begin c.args.name.now t (is_some (get_by_text c.args.set.now t));
}

pub loop-end-preserved : goal.loop-end-preserved
loop-end-preserved c = record {
  within = omega arith;
  fronts = λ t. fronts_go_on c.args.name.now t c.loop-end.end (is_some (get_by_text c.loop-end.set t)) (is_some (get_by_text c.put_front.new.set t)) _ (omega arith) (c.loop-end.invariant.fronts t) (c.in_ok-put_front.ensures t);
}
