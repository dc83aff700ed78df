use Rattle.std.proofs.Common.{◌∙◌, ap, sym, Some, None}
use Rattle.load_model.specs.Facts.{pair_of}
use Rattle.recipe_facts.proofs.Tasked.{cut_first}
use Rattle.recipe_facts.proofs.tasks.cut_word.Goals as goal

pub returns-in-Some-clause-name : goal.returns-in-Some-clause-name
returns-in-Some-clause-name c = c.parts_of_word.ensures.name ∙ ap (λ o. (pair_of c.args.word.now o).0) (sym (cut_first c.args.word.now (Some (c.in-Some.name, c.in-Some.task)) c.in-Some.ensures.cases))

pub returns-in-Some-clause-task : goal.returns-in-Some-clause-task
returns-in-Some-clause-task c = c.parts_of_word.ensures.task ∙ ap (λ o. (pair_of c.args.word.now o).1) (sym (cut_first c.args.word.now (Some (c.in-Some.name, c.in-Some.task)) c.in-Some.ensures.cases))

pub returns-in-None-clause-name : goal.returns-in-None-clause-name
returns-in-None-clause-name c = ap (λ o. (pair_of c.args.word.now o).0) (sym (cut_first c.args.word.now None c.in-None.ensures.cases))

pub returns-in-None-clause-task : goal.returns-in-None-clause-task
returns-in-None-clause-task c = ap (λ o. (pair_of c.args.word.now o).1) (sym (cut_first c.args.word.now None c.in-None.ensures.cases))
