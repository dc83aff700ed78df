use Rattle.std.proofs.Common.{◌≡◌, refl, ◌∙◌, ap, sym, ◌||◌, ℕ, List, Some, None, is_some, bytes_eq}
use Rattle.std.specs.BTreeMap.{get_by_text}
use Rattle.std.specs.Map.{update}
use Rattle.std.proofs.lemmas.Map.Text.{btree_map_updates_text}
use Rattle.std.proofs.lemmas.Result.{on_ok_weaker}
use Rattle.datastore.specs.Orders.{is_noted}
use Rattle.datastore.proofs.Orders.{order_put, order_first}
use Rattle.datastore.proofs.order.put_order.Goals as goal

pub returns-in-Some : goal.returns-in-Some
returns-in-Some c =
    let m = c.args.orders.now in
    let w = c.put_name.new.set in
    let n = c.get_mut.follows.lender w in
    let found : get_by_text m c.args.task.now ≡ Some c.in-Some.set.now = sym c.get_mut.ensures.value ∙ rw c.in-Some.is in
    on_ok_weaker c.put_name.result
    (λ (e : (b : List ℕ) → is_some (get_by_text w b) ≡ (bytes_eq c.args.other.now b || is_some (get_by_text c.in-Some.set.now b))).
    order_put (get_by_text m) (get_by_text n) c.args.task.now c.args.other.now w
    (btree_map_updates_text c.args.task.now m n (Some w) ((c.get_mut.follows.holds w).3 (rw found refl)))
    (λ b. e b ∙ ap (λ o. bytes_eq c.args.other.now b || is_noted o b) (sym found)))
    c.put_name.ensures

pub returns-in_ok-set-in-None : goal.returns-in_ok-set-in-None
returns-in_ok-set-in-None c =
    let m = c.get_mut.follows.lender-at-none in
    let n = c.put_value.new.map in
    let k = c.args.task.now in
    let w = c.in_ok-set-in-None.set in
    let found : get_by_text c.args.orders.now k ≡ None = sym c.in-None.ensures.value in
    on_ok_weaker c.put_value.result
    (λ (u : (q : List ℕ) → get_by_text n q ≡ update bytes_eq (get_by_text m) k (Some w) q).
    order_put (get_by_text c.args.orders.now) (get_by_text n) k c.args.other.now w (rw c.get_mut.follows.holds-at-none at u)
    (λ b. c.in_ok-set-in-None.ensures b ∙ order_first (get_by_text c.args.orders.now k) (bytes_eq c.args.other.now b) b found))
    c.put_value.ensures.ok
