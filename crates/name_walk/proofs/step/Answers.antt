use Rattle.std.proofs.Common.{◌++◌, sym, ap, ◌∙◌, ℕ, List}
use Rattle.name_walk.proofs.Places.{is_there, is_new, done_there, todo_there, done_new, todo_new}
use Rattle.name_walk.proofs.step.Goals as goal

pub returns-in-Ok-clause-done : goal.returns-in-Ok-clause-done
returns-in-Ok-clause-done g c =
    done_there c.args.name c.args.done.now.items (is_there c.args.done.now.items c.as_slice.result.now c.args.name c.as_str.result.now c.in-Ok.field-0 c.as_slice.ensures.value c.as_str.ensures c.in-Ok.ensures.range c.in-Ok.ensures.place)

pub returns-in-Ok-clause-todo : goal.returns-in-Ok-clause-todo
returns-in-Ok-clause-todo g c =
    todo_there (g.L.Leading.led c.args.from.now) c.args.name c.args.done.now.items c.args.todo.now.items (is_there c.args.done.now.items c.as_slice.result.now c.args.name c.as_str.result.now c.in-Ok.field-0 c.as_slice.ensures.value c.as_str.ensures c.in-Ok.ensures.range c.in-Ok.ensures.place)

pub returns-in_ok-insert-in-Err-clause-done : goal.returns-in_ok-insert-in-Err-clause-done
returns-in_ok-insert-in-Err-clause-done g c =
    let new = is_new c.args.done.now.items c.as_slice.result.now c.args.name c.as_str.result.now c.in-Err.place c.as_slice.ensures.value c.as_str.ensures c.requires.ordered c.in-Err.ensures.range c.in-Err.ensures.place in
    c.in_ok-insert-in-Err.ensures.items ∙ sym new.1 ∙ done_new c.args.name c.args.done.now.items new.0

pub returns-in_ok-insert-in-Err-clause-todo : goal.returns-in_ok-insert-in-Err-clause-todo
returns-in_ok-insert-in-Err-clause-todo g c =
    let new = is_new c.args.done.now.items c.as_slice.result.now c.args.name c.as_str.result.now c.in-Err.place c.as_slice.ensures.value c.as_str.ensures c.requires.ordered c.in-Err.ensures.range c.in-Err.ensures.place in
    let led : List ℕ → List (List ℕ) = g.L.Leading.led c.args.from.now in
    c.in_ok-lead-in-Err.ensures.led ∙ ap (λ name. c.args.todo.now.items ++ led name) c.as_str-in-Err.ensures ∙ todo_new led c.args.name c.args.done.now.items c.args.todo.now.items new.0

pub returns-in-Ok-clause-stays : goal.returns-in-Ok-clause-stays
returns-in-Ok-clause-stays g c = g.met.L.Leading.stays_itself c.args.from.now
