use Rattle.std.proofs.Common.{◌≡◌, ℕ, List, refl, ◌∙◌, ap, sym, Some, None, bytes_eq}
use Rattle.std.specs.BTreeMap.{get_by_text}
use Rattle.std.specs.Map.{update}
use Rattle.std.proofs.lemmas.Map.Text.{btree_map_updates_text}
use Rattle.std.proofs.lemmas.Result.{on_ok_weaker, on_err_weaker}
use Rattle.meta_model.specs.Slot.{assigned}
use Rattle.value_maps.specs.Kept.{slot_of, flag_kept}
use Rattle.value_maps.proofs.Flags.{flag_put, flag_same}
use Rattle.value_maps.proofs.named.assign_flag.Goals as goal

pub returns-in-Some-clause-ok : goal.returns-in-Some-clause-ok
returns-in-Some-clause-ok c =
    let m = c.args.flags.now in
    let w = c.assign.new.self in
    let n = c.get_mut.follows.lender w in
    let found : get_by_text m c.args.flag.now ≡ Some c.in-Some.kept.now = sym c.get_mut.ensures.value ∙ rw c.in-Some.is in
    on_ok_weaker c.assign.result
    (λ (e : slot_of w ≡ assigned c.args.op c.args.text.now (slot_of c.in-Some.kept.now)).
    flag_put (get_by_text m) (get_by_text n) c.args.flag.now (Some w) (assigned c.args.op c.args.text.now)
    (btree_map_updates_text c.args.flag.now m n (Some w) ((c.get_mut.follows.holds w).3 (rw found refl)))
    (e ∙ ap (λ o. assigned c.args.op c.args.text.now (flag_kept o)) (sym found)))
    c.assign.ensures.ok

pub returns-in-Some-clause-err : goal.returns-in-Some-clause-err
returns-in-Some-clause-err c =
    let m = c.args.flags.now in
    let w = c.assign.new.self in
    let n = c.get_mut.follows.lender w in
    let found : get_by_text m c.args.flag.now ≡ Some c.in-Some.kept.now = sym c.get_mut.ensures.value ∙ rw c.in-Some.is in
    on_err_weaker c.assign.result
    (λ (e : slot_of w ≡ slot_of c.in-Some.kept.now).
    flag_same (get_by_text m) (get_by_text n) c.args.flag.now (Some w)
    (btree_map_updates_text c.args.flag.now m n (Some w) ((c.get_mut.follows.holds w).3 (rw found refl)))
    (e ∙ ap flag_kept (sym found)))
    c.assign.ensures.err

pub returns-in_ok-kept-in-None-clause-ok : goal.returns-in_ok-kept-in-None-clause-ok
returns-in_ok-kept-in-None-clause-ok c =
    let m = c.get_mut.follows.lender-at-none in
    let n = c.put_value.new.map in
    let k = c.args.flag.now in
    let w = c.in_ok-kept-in-None.kept in
    let found : get_by_text c.args.flags.now k ≡ None = sym c.in-None.ensures.value in
    let made = assigned c.args.op c.args.text.now in
    on_ok_weaker c.put_value.result
    (λ (u : (q : List ℕ) → get_by_text n q ≡ update bytes_eq (get_by_text m) k (Some w) q).
    flag_put (get_by_text c.args.flags.now) (get_by_text n) k (Some w) made (rw c.get_mut.follows.holds-at-none at u) (c.in_ok-kept-in-None.ensures ∙ ap (λ o. made (flag_kept o)) (sym found)))
    c.put_value.ensures.ok

pub returns-in_ok-kept-in-None-clause-err : goal.returns-in_ok-kept-in-None-clause-err
returns-in_ok-kept-in-None-clause-err c =
    let m = c.get_mut.follows.lender-at-none in
    let n = c.put_value.new.map in
    on_err_weaker c.put_value.result
    (λ (u : (q : List ℕ) → get_by_text n q ≡ get_by_text m q).
    let same : (q : List ℕ) → get_by_text n q ≡ get_by_text c.args.flags.now q = rw c.get_mut.follows.holds-at-none at u in
    λ q. ap flag_kept (same q))
    c.put_value.ensures.err
