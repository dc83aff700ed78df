use Rattle.std.proofs.Common.{◌∙◌, ap, ◌||◌, ◌&&◌, bytes_eq}
use Rattle.datastore.specs.Orders.{comes, stay}
use Rattle.datastore.proofs.Orders.{after_turn}
use Rattle.datastore.proofs.order.note_after.Goals as goal

pub loop-other-preserved : goal.loop-other-preserved
loop-other-preserved c = λ a b.
    after_turn c.args.after.now c.loop-other.other-index c.other-item.result b (bytes_eq c.args.task.now a) (stay c.args.gone.now a b) (comes c.note_pair.new.orders a b) (comes c.loop-other.orders a b) (comes c.args.orders.now a b) c.other-item.is c.loop-other-test.true
    (c.in_ok-note_pair.ensures a b ∙ ap (λ t. ((bytes_eq c.args.task.now a && bytes_eq t b) && stay c.args.gone.now a b) || comes c.loop-other.orders a b) c.as_str.ensures) (c.loop-other.invariant a b)
