use Rattle.std.proofs.Common.{arith, ◌-◌, is_some}
use Rattle.std.specs.BTreeMap.{get_by_text}
use Rattle.datastore.specs.Orders.{comes}
use Rattle.datastore.proofs.Orders.{orders_turn, gone_turn}
use Rattle.datastore.proofs.order.orders_of.Goals as goal

pub loop-left-preserved : goal.loop-left-preserved
loop-left-preserved c = record {
  within = omega arith;
  orders = λ a b. orders_turn c.args.lines.now (c.loop-left.left - 1) c.loop-left.left c.index-lines-left.result a b (is_some (get_by_text c.loop-left.gone a)) (is_some (get_by_text c.loop-left.gone b)) (comes c.note_line.new.orders a b) (comes c.loop-left.orders a b)
      (omega arith) c.index-lines-left.is (omega arith) (c.loop-left.invariant.gone a) (c.loop-left.invariant.gone b) (c.loop-left.invariant.orders a b) (c.in_ok-note_line.ensures.orders a b);
  gone = λ t. gone_turn c.args.lines.now (c.loop-left.left - 1) c.loop-left.left c.index-lines-left.result t (is_some (get_by_text c.note_line.new.gone t)) (is_some (get_by_text c.loop-left.gone t)) (omega arith) c.index-lines-left.is (omega arith) (c.loop-left.invariant.gone t) (c.in_ok-note_line.ensures.gone t);
}
