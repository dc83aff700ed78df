use Rattle.std.proofs.Common.{◌≡◌, ◌∙◌, sym, ap, true, false}
use Rattle.std.proofs.lemmas.Result.{on_ok_weaker}
use Rattle.meta_model.specs.Text.{is_in, in_byte_order}
use Rattle.name_walk.specs.Walk.{with_more}
use Rattle.name_walk.proofs.Steps.{still_ordered}
use Rattle.name_walk.proofs.Besides.{passed_done, passed_todo, stepped_done, stepped_todo}
use Rattle.name_walk.proofs.step_on.Goals as goal

pub returns-then-holds-clause-done : goal.returns-then-holds-clause-done
returns-then-holds-clause-done g c =
    let done = c.args.done.now in
    let name = c.args.name in
    let there : is_in name done ≡ true = ap (λ n. is_in n done) (sym c.as_str.ensures) ∙ sym c.holds.ensures ∙ c.if-holds.true in
    passed_done done c.args.more.now.items name there

pub returns-then-holds-clause-todo : goal.returns-then-holds-clause-todo
returns-then-holds-clause-todo g c =
    let done = c.args.done.now in
    let name = c.args.name in
    let there : is_in name done ≡ true = ap (λ n. is_in n done) (sym c.as_str.ensures) ∙ sym c.holds.ensures ∙ c.if-holds.true in
    passed_todo (g.L.Leading.led c.args.from.now) done c.args.more.now.items c.args.todo.now.items name there

pub returns-clause-ordered : goal.returns-clause-ordered
returns-clause-ordered g c =
    on_ok_weaker c.step.result (λ e. ap in_byte_order e ∙ still_ordered c.args.name c.args.more.now.items c.requires.ordered ∙ sym e) c.step.ensures.done

pub returns-clause-done : goal.returns-clause-done
returns-clause-done g c =
    let done = c.args.done.now in
    let name = c.args.name in
    let away : is_in name done ≡ false = ap (λ n. is_in n done) (sym c.as_str.ensures) ∙ sym c.holds.ensures ∙ c.if-holds.false in
    on_ok_weaker c.step.result (λ e. ap (with_more done) e ∙ stepped_done done c.args.more.now.items name away) c.step.ensures.done

pub returns-clause-todo : goal.returns-clause-todo
returns-clause-todo g c =
    let done = c.args.done.now in
    let name = c.args.name in
    let away : is_in name done ≡ false = ap (λ n. is_in n done) (sym c.as_str.ensures) ∙ sym c.holds.ensures ∙ c.if-holds.false in
    on_ok_weaker c.step.result (λ e. e ∙ stepped_todo (g.L.Leading.led c.args.from.now) done c.args.more.now.items c.args.todo.now.items name away) c.step.ensures.todo
