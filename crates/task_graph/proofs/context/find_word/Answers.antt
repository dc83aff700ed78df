use Rattle.std.proofs.Common.{◌≡◌, ◌∙◌, sym, subst, Result, Err}
use Rattle.std.specs.Result.{IfOk, IfErr}
use Rattle.meta_model.specs.GraphRefusal.{GraphRefusal}
use Rattle.meta_model.specs.Needs.{Task}
use Rattle.task_graph.specs.Faults.{IsRefusalOf}
use Rattle.task_graph.specs.Context.{IsNumberOf}
use Rattle.task_graph.proofs.Contexts.{word_with_task}
use Rattle.task_graph.proofs.context.find_word.Goals as goal

pub returns-clause-ok : goal.returns-clause-ok
returns-clause-ok c = subst (λ (meant : Result Task GraphRefusal). IfOk c.find_task.result (IsNumberOf c.args.context.now.table meant))
    (word_with_task c.args.facts.now c.args.word.now c.as_str-2.result.now c.as_str-3.result.now c.as_str.result.now c.as_str.ensures (sym c.is_empty.ensures ∙ c.if-is_empty.false) c.as_str-2.ensures c.as_str-3.ensures) c.find_task.ensures.ok

pub returns-clause-err : goal.returns-clause-err
returns-clause-err c = subst (λ (meant : Result Task GraphRefusal). IfErr c.find_task.result (IsRefusalOf (λ refusal. meant ≡ Err refusal)))
    (word_with_task c.args.facts.now c.args.word.now c.as_str-2.result.now c.as_str-3.result.now c.as_str.result.now c.as_str.ensures (sym c.is_empty.ensures ∙ c.if-is_empty.false) c.as_str-2.ensures c.as_str-3.ensures) c.find_task.ensures.err
