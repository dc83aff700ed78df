use Rattle.std.proofs.Common.{◌≡◌, refl, ◌∙◌, ap, sym, ◌++◌, ◌∷◌, [], Some, None, string_bytes, unwrap_or}
use Rattle.std.specs.BTreeMap.{get_by_text}
use Rattle.std.proofs.lemmas.Map.Text.{btree_map_updates_text}
use Rattle.std.proofs.lemmas.Result.{on_ok_weaker}
use Rattle.recipe_set.proofs.Appending.{one_put}
use Rattle.recipe_set.proofs.by_name.put_named.Goals as goal

pub returns-in_ok-copy-in-Some : goal.returns-in_ok-copy-in-Some
returns-in_ok-copy-in-Some c =
    let m = c.args.named.now in
    let stem = c.args.stem.now in
    let w = c.push.new.self in
    let n = c.get_mut.follows.lender w in
    let found : get_by_text m stem ≡ Some c.in-Some.list.now = sym c.get_mut.ensures.value ∙ rw c.in-Some.is in
    on_ok_weaker c.push.result
    (λ (e : w ≡ c.in-Some.list.now ++ c.in_ok-copy-in-Some.field-0 ∷ []).
    one_put (get_by_text m) (get_by_text n) stem c.args.append.now w
    (btree_map_updates_text stem m n (Some w) ((c.get_mut.follows.holds w).3 (rw found refl)))
    (e ∙ ap (λ a. c.in-Some.list.now ++ a ∷ []) c.in_ok-copy-in-Some.ensures ∙ ap (λ o. unwrap_or o [] ++ c.args.append.now ∷ []) (sym found)))
    c.push.ensures.ok

pub returns-in_ok-insert-in-None : goal.returns-in_ok-insert-in-None
returns-in_ok-insert-in-None c =
    let m = c.args.named.now in
    let stem = c.args.stem.now in
    let w = c.push-in-None.new.self in
    let n = c.insert.new.self in
    let key = c.in_ok-from_str-in-None.ensures.ok in
    let found : get_by_text m stem ≡ None = sym c.in-None.ensures.value in
    let u = btree_map_updates_text (string_bytes c.in_ok-from_str-in-None.field-0) c.get_mut.follows.lender-at-none n (Some w) c.in_ok-insert-in-None.ensures.updates in
    one_put (get_by_text m) (get_by_text n) stem c.args.append.now w
    (rw (c.get_mut.follows.holds-at-none, key) at u)
    (c.in_ok-push-in-None.ensures.ok ∙ ap (λ l. l ++ c.in_ok-copy-in-None.field-0 ∷ []) c.new-list.ensures ∙ ap (λ a. a ∷ []) c.in_ok-copy-in-None.ensures ∙ ap (λ o. unwrap_or o [] ++ c.args.append.now ∷ []) (sym found))
