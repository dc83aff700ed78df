use Rattle.std.proofs.Common.{◌≡◌, ◌∙◌, ap, ◌||◌, ◌&&◌, ℕ, List, bytes_eq}
use Rattle.std.proofs.lemmas.Result.{on_ok_weaker}
use Rattle.meta_model.specs.Text.{is_in}
use Rattle.datastore.specs.Orders.{comes, stay}
use Rattle.datastore.proofs.Orders.{two_more}
use Rattle.datastore.proofs.order.note_added.Goals as goal

pub returns : goal.returns
returns c =
    on_ok_weaker c.note_before.result
    (λ (e : (a b : List ℕ) → comes c.note_before.new.orders a b ≡ (((bytes_eq c.args.task.now b && is_in a c.args.before.now) && stay c.args.gone.now a b) || comes c.note_after.new.orders a b)). λ a b.
    let y = bytes_eq c.args.task.now b && is_in a c.args.before.now in
    e a b ∙ ap (λ z. (y && stay c.args.gone.now a b) || z) (c.in_ok-note_after.ensures a b)
    ∙ two_more (bytes_eq c.args.task.now a && is_in b c.args.after.now) y (stay c.args.gone.now a b) (comes c.args.orders.now a b))
    c.note_before.ensures
