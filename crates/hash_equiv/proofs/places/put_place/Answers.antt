use Rattle.std.proofs.Common.{◌≡◌, refl, ◌∙◌, ap, sym, ◌++◌, ◌∷◌, [], Some, None, string_bytes, unwrap_or}
use Rattle.std.specs.BTreeMap.{get_by_text}
use Rattle.std.proofs.lemmas.Map.Text.{btree_map_updates_text}
use Rattle.std.proofs.lemmas.Result.{on_ok_weaker, on_err_weaker}
use Rattle.hash_equiv.proofs.Rowing.{one_put, same_put}
use Rattle.hash_equiv.proofs.places.put_place.Goals as goal

pub returns-in-Some-clause-ok : goal.returns-in-Some-clause-ok
returns-in-Some-clause-ok c =
    let m = c.args.of_pn.now in
    let pn = c.args.pn.now in
    let w = c.push.new.self in
    let n = c.get_mut.follows.lender w in
    let found : get_by_text m pn ≡ Some c.in-Some.places.now = sym c.get_mut.ensures.value ∙ rw c.in-Some.is in
    on_ok_weaker c.push.result
    (λ (e : w ≡ c.in-Some.places.now ++ c.args.place ∷ []).
    one_put (get_by_text m) (get_by_text n) pn c.args.place w
    (btree_map_updates_text pn m n (Some w) ((c.get_mut.follows.holds w).3 (rw found refl)))
    (e ∙ ap (λ o. unwrap_or o [] ++ c.args.place ∷ []) (sym found)))
    c.push.ensures.ok

pub returns-in_ok-insert-in-None-clause-ok : goal.returns-in_ok-insert-in-None-clause-ok
returns-in_ok-insert-in-None-clause-ok c =
    let m = c.args.of_pn.now in
    let pn = c.args.pn.now in
    let w = c.push-in-None.new.self in
    let n = c.insert.new.self in
    let key = c.in_ok-from_str-in-None.ensures.ok in
    let found : get_by_text m pn ≡ None = sym c.in-None.ensures.value in
    let u = btree_map_updates_text (string_bytes c.in_ok-from_str-in-None.field-0) c.get_mut.follows.lender-at-none n (Some w) c.in_ok-insert-in-None.ensures.updates in
    one_put (get_by_text m) (get_by_text n) pn c.args.place w
    (rw (c.get_mut.follows.holds-at-none, key) at u)
    (c.in_ok-push-in-None.ensures.ok ∙ ap (λ l. l ++ c.args.place ∷ []) c.new-places.ensures ∙ ap (λ o. unwrap_or o [] ++ c.args.place ∷ []) (sym found))

pub returns-in-Some-clause-err : goal.returns-in-Some-clause-err
returns-in-Some-clause-err c =
    let m = c.args.of_pn.now in
    let pn = c.args.pn.now in
    let w = c.push.new.self in
    let n = c.get_mut.follows.lender w in
    let found : get_by_text m pn ≡ Some c.in-Some.places.now = sym c.get_mut.ensures.value ∙ rw c.in-Some.is in
    on_err_weaker c.push.result
    (λ (e : w ≡ c.in-Some.places.now).
    same_put (get_by_text m) (get_by_text n) pn w
    (btree_map_updates_text pn m n (Some w) ((c.get_mut.follows.holds w).3 (rw found refl)))
    (found ∙ ap Some (sym e)))
    c.push.ensures.err
