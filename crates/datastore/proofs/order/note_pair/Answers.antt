use Rattle.std.proofs.Common.{◌≡◌, ◌∙◌, sym, ◌||◌, ◌&&◌, ℕ, List, is_some, bytes_eq}
use Rattle.std.specs.BTreeMap.{get_by_text}
use Rattle.std.proofs.lemmas.Result.{on_ok_weaker}
use Rattle.datastore.specs.Orders.{comes}
use Rattle.datastore.proofs.Orders.{pair_gone, pair_stays}
use Rattle.datastore.proofs.order.note_pair.Goals as goal

pub returns-then-goes_one : goal.returns-then-goes_one
returns-then-goes_one c = λ a b. pair_gone (λ t. is_some (get_by_text c.args.gone.now t)) c.args.task.now c.args.other.now a b (comes c.args.orders.now a b) (sym c.goes_one.ensures ∙ c.if-goes_one.true)

pub returns : goal.returns
returns c =
    on_ok_weaker c.put_order.result
    (λ (e : (a b : List ℕ) → comes c.put_order.new.orders a b ≡ ((bytes_eq c.args.task.now a && bytes_eq c.args.other.now b) || comes c.args.orders.now a b)). λ a b.
    e a b ∙ pair_stays (λ t. is_some (get_by_text c.args.gone.now t)) c.args.task.now c.args.other.now a b (comes c.args.orders.now a b) (sym c.goes_one.ensures ∙ c.if-goes_one.false))
    c.put_order.ensures
