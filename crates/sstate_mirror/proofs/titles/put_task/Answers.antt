use Rattle.std.proofs.Common.{◌≡◌, ◌∙◌, ap, sym, refl, ◌++◌, ◌∷◌, [], Some, None, string_bytes, unwrap_or}
use Rattle.std.specs.BTreeMap.{get_by_text}
use Rattle.std.proofs.lemmas.Map.Text.{btree_map_updates_text}
use Rattle.std.proofs.lemmas.Result.{on_ok_weaker}
use Rattle.sstate_mirror.proofs.Titled.{one_put}
use Rattle.sstate_mirror.proofs.titles.put_task.Goals as goal

pub returns-in-Some : goal.returns-in-Some
returns-in-Some c =
    let m = c.args.of_pn.now in
    let pn = c.args.pn.now in
    let w = c.push.new.self in
    let n = c.get_mut.follows.lender w in
    let found : get_by_text m pn ≡ Some c.in-Some.tasks.now = sym c.get_mut.ensures.value ∙ rw c.in-Some.is in
    on_ok_weaker c.push.result
    (λ (e : w ≡ c.in-Some.tasks.now ++ c.args.task ∷ []).
    one_put (get_by_text m) (get_by_text n) pn c.args.task w
    (btree_map_updates_text pn m n (Some w) ((c.get_mut.follows.holds w).3 (rw found refl)))
    (e ∙ ap (λ o. unwrap_or o [] ++ c.args.task ∷ []) (sym found)))
    c.push.ensures.ok

pub returns-in_ok-insert-in-None : goal.returns-in_ok-insert-in-None
returns-in_ok-insert-in-None c =
    let m = c.args.of_pn.now in
    let pn = c.args.pn.now in
    let w = c.push-in-None.new.self in
    let n = c.insert.new.self in
    let key = c.in_ok-from_str-in-None.ensures.ok in
    let found : get_by_text m pn ≡ None = sym c.in-None.ensures.value in
    let u = btree_map_updates_text (string_bytes c.in_ok-from_str-in-None.field-0) c.get_mut.follows.lender-at-none n (Some w) c.in_ok-insert-in-None.ensures.updates in
    one_put (get_by_text m) (get_by_text n) pn c.args.task w
    (rw (c.get_mut.follows.holds-at-none, key) at u)
    (c.in_ok-push-in-None.ensures.ok ∙ ap (λ l. l ++ c.args.task ∷ []) c.new-tasks.ensures ∙ ap (λ o. unwrap_or o [] ++ c.args.task ∷ []) (sym found))
