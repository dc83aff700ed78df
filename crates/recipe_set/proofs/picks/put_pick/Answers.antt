use Rattle.std.proofs.Common.{◌≡◌, refl, ◌∙◌, ap, sym, Some, None, string_bytes, cond, bytes_eq}
use Rattle.std.specs.BTreeMap.{get_by_text}
use Rattle.std.proofs.lemmas.Map.Text.{btree_map_updates_text}
use Rattle.recipe_facts.specs.Recipe.{recipe_meant}
use Rattle.recipe_set.specs.declared.choice.Pick.{Pick}
use Rattle.recipe_set.specs.Held.{turned_to}
use Rattle.recipe_set.specs.Picks.{held_at}
use Rattle.recipe_set.proofs.Picking.{pick_put, takes, keeps, begins}
use Rattle.recipe_set.proofs.picks.put_pick.Goals as goal

pub returns-then-gives_way-clause-held : goal.returns-then-gives_way-clause-held
returns-then-gives_way-clause-held c = λ t.
    let m = c.args.picks.now in
    let r = recipe_meant c.args.recipe in
    let k = c.as_str.result.now in
    let w : Pick = record { recipe = c.args.recipe; fits = c.args.fits } in
    let n = c.get_mut.follows.lender w in
    let found : get_by_text m k ≡ Some c.in-Some.pick.now = sym c.get_mut.ensures.value ∙ rw c.in-Some.is refl in
    pick_put (get_by_text m) (get_by_text n) k w c.args.fits r (btree_map_updates_text k m n (Some w) ((c.get_mut.follows.holds w).3 (rw found refl)))
    (takes c.in-Some.pick.now c.args.fits r (get_by_text m k) found (sym c.gives_way.ensures ∙ c.if-gives_way.true)) t
    ∙ ap (λ q. cond (bytes_eq q t) (turned_to c.args.fits (held_at m t) r) (held_at m t)) c.as_str.ensures

pub returns-else-gives_way-clause-held : goal.returns-else-gives_way-clause-held
returns-else-gives_way-clause-held c = λ t.
    let m = c.args.picks.now in
    let r = recipe_meant c.args.recipe in
    let k = c.as_str.result.now in
    let w = c.in-Some.pick.now in
    let n = c.get_mut.follows.lender w in
    let found : get_by_text m k ≡ Some w = sym c.get_mut.ensures.value ∙ rw c.in-Some.is refl in
    pick_put (get_by_text m) (get_by_text n) k w c.args.fits r (btree_map_updates_text k m n (Some w) ((c.get_mut.follows.holds w).3 (rw found refl)))
    (keeps w c.args.fits r (get_by_text m k) found (sym c.gives_way.ensures ∙ c.if-gives_way.false)) t
    ∙ ap (λ q. cond (bytes_eq q t) (turned_to c.args.fits (held_at m t) r) (held_at m t)) c.as_str.ensures

pub returns-in_ok-insert-in-None-clause-held : goal.returns-in_ok-insert-in-None-clause-held
returns-in_ok-insert-in-None-clause-held c = λ t.
    let m = c.args.picks.now in
    let r = recipe_meant c.args.recipe in
    let k = string_bytes c.in_ok-name-in-None.name in
    let w : Pick = record { recipe = c.args.recipe; fits = c.args.fits } in
    let n = c.insert.new.self in
    let key = c.in_ok-name-in-None.ensures.ok ∙ c.as_str-in-None.ensures in
    let found : get_by_text m k ≡ None = ap (get_by_text m) (key ∙ sym c.as_str.ensures) ∙ sym c.in-None.ensures.value in
    let u = btree_map_updates_text k c.get_mut.follows.lender-at-none n (Some w) c.in_ok-insert-in-None.ensures.updates in
    pick_put (get_by_text m) (get_by_text n) k w c.args.fits r (rw c.get_mut.follows.holds-at-none at u) (begins c.args.fits r (get_by_text m k) found) t
    ∙ ap (λ q. cond (bytes_eq q t) (turned_to c.args.fits (held_at m t) r) (held_at m t)) key
