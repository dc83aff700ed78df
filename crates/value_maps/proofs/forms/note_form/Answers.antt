use Rattle.std.proofs.Common.{◌≡◌, ◌∙◌, ap, sym, subst, refl, Some, None, true, bytes_eq, ℕ, List, ◌++◌, ◌∷◌, []}
use Rattle.std.specs.BTreeMap.{get_by_text}
use Rattle.std.specs.Map.{update}
use Rattle.std.proofs.lemmas.Map.Text.{btree_map_updates_text}
use Rattle.meta_model.specs.Text.{is_in}
use Rattle.std.proofs.lemmas.Result.{on_ok_weaker}
use Rattle.value_maps.specs.Forms.{rests}
use Rattle.value_maps.proofs.Rests.{in_last, rests_more, rests_first, found_here}
use Rattle.value_maps.proofs.forms.note_form.Goals as goal

pub returns-in-Some-clause-keeps : goal.returns-in-Some-clause-keeps
returns-in-Some-clause-keeps c =
    let m = c.args.forms.now in
    let w = c.push_rest.new.rests in
    let n = c.get_mut.follows.lender w in
    let found : get_by_text m c.args.front.now ≡ Some c.in-Some.rests.now = sym c.get_mut.ensures.value ∙ rw c.in-Some.is in
    let u = btree_map_updates_text c.args.front.now m n (Some w) ((c.get_mut.follows.holds w).3 (rw found refl)) in
    rests_more (get_by_text m) (get_by_text n) c.args.front.now c.in-Some.rests.now w c.args.rest.now c.push_rest.result u found c.push_rest.ensures.ok c.push_rest.ensures.err

pub returns-in-Some-clause-ok : goal.returns-in-Some-clause-ok
returns-in-Some-clause-ok c =
    let m = c.args.forms.now in
    let w = c.push_rest.new.rests in
    let n = c.get_mut.follows.lender w in
    let found : get_by_text m c.args.front.now ≡ Some c.in-Some.rests.now = sym c.get_mut.ensures.value ∙ rw c.in-Some.is in
    let u = btree_map_updates_text c.args.front.now m n (Some w) ((c.get_mut.follows.holds w).3 (rw found refl)) in
    on_ok_weaker c.push_rest.result
    (λ (e : w.items ≡ c.in-Some.rests.now.items ++ c.args.rest.now ∷ []).
    subst (λ l. is_in c.args.rest.now l ≡ true) (sym (ap rests (found_here (get_by_text m) (get_by_text n) c.args.front.now (Some w) u) ∙ e)) (in_last c.args.rest.now c.in-Some.rests.now.items))
    c.push_rest.ensures.ok

pub returns-in_ok-rests-in-None-clause-keeps : goal.returns-in_ok-rests-in-None-clause-keeps
returns-in_ok-rests-in-None-clause-keeps c =
    let found : get_by_text c.args.forms.now c.args.front.now ≡ None = sym c.in-None.ensures.value in
    rests_first (get_by_text c.args.forms.now) (get_by_text c.put_value.new.map) c.args.front.now c.in_ok-rests-in-None.rests c.put_value.result found
    (rw c.get_mut.follows.holds-at-none at c.put_value.ensures.ok) (rw c.get_mut.follows.holds-at-none at c.put_value.ensures.err)

pub returns-in_ok-rests-in-None-clause-ok : goal.returns-in_ok-rests-in-None-clause-ok
returns-in_ok-rests-in-None-clause-ok c =
    let m = get_by_text c.get_mut.follows.lender-at-none in
    let n = get_by_text c.put_value.new.map in
    let w = c.in_ok-rests-in-None.rests in
    on_ok_weaker c.put_value.result
    (λ (u : (q : List ℕ) → n q ≡ update bytes_eq m c.args.front.now (Some w) q).
    subst (λ l. is_in c.args.rest.now l ≡ true) (sym (ap rests (found_here m n c.args.front.now (Some w) u) ∙ c.in_ok-rests-in-None.ensures)) (in_last c.args.rest.now []))
    c.put_value.ensures.ok
