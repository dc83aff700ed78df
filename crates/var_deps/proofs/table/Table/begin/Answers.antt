use Rattle.std.proofs.Common.{◌≡◌, refl, ◌∙◌, ap, sym, subst, ◌++◌, [], false, append-nil}
use Rattle.meta_model.specs.Text.{is_in}
use Rattle.meta_model.proofs.Bools.{not_both}
use Rattle.name_walk.specs.Walk.{IsWalk}
use Rattle.task_model.specs.Keys.{led_to}
use Rattle.var_deps.specs.Kept.{Shares, task_view}
use Rattle.var_deps.specs.Leaders.{task_led_is}
use Rattle.var_deps.proofs.GoingOn.{walk_shared, kept_led}
use Rattle.var_deps.proofs.table.Table.begin.Goals as goal
use Rattle.var_deps.proofs.table.Table.begin.Goals.{then-holds+in_ok-push_all-2, else-holds}

pub returns : goal.returns
returns c =
    let t = c.args.self.now in
    let led = led_to (task_view t) in
    let names = c.args.exports.now.start.names.items in
    let todo = c.args.todo.now.items in
    let reached = c.args.exports.now.reached.items in
    let shares : Shares t = c.shares.ensures c.if-not-shares.false in
    let asked : c.holds.result ≡ is_in t.task reached = c.holds.ensures ∙ ap (λ n. is_in n c.as_slice-done.result.now) c.as_str.ensures ∙ ap (is_in t.task) c.as_slice-done.ensures.value in
    subst (λ f. IsWalk f (todo ++ names) c.as_slice-done.result.now c.if-holds.todo.items) (sym (task_led_is t))
    (subst (λ d. IsWalk led (todo ++ names) d c.if-holds.todo.items) (sym c.as_slice-done.ensures.value) (elim c.if-holds.branch as (λ _. IsWalk led (todo ++ names) reached c.if-holds.todo.items) [
      | then-holds+in_ok-push_all-2 w ↦
          let own : w.as_slice-then-holds.result.now ≡ led t.task = w.as_slice-then-holds.ensures.value ∙ kept_led t c.requires.ready in
          let is : c.if-holds.todo.items ≡ todo ++ led t.task = ap (λ v. v.items) w.todo-is ∙ w.in_ok-push_all-2.ensures ∙ ap (λ l. todo ++ l) own in
          subst (IsWalk led (todo ++ names) reached) (sym is) (walk_shared t names todo reached (led t.task) c.requires.ready shares c.requires.exports.reached c.requires.task (λ there x h. h) (λ x h. h))
      | else-holds w ↦
          let away : is_in t.task reached ≡ false = sym asked ∙ w.if-holds.false in
          let is : c.if-holds.todo.items ≡ todo ++ [] = ap (λ v. v.items) w.todo-is ∙ sym (append-nil todo) in
          subst (IsWalk led (todo ++ names) reached) (sym is) (walk_shared t names todo reached [] c.requires.ready shares c.requires.exports.reached c.requires.task (λ there x h. not_both (is_in t.task reached) there away) (λ x h. not_both false h refl))
    ]))
