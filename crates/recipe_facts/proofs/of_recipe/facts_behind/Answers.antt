use Rattle.std.proofs.Common.{◌∙◌, ap, sym, Ok}
use Rattle.meta_model.specs.Tasks.{tasks}
use Rattle.load_model.specs.Facts.{all_tasks}
use Rattle.recipe_facts.specs.Recipe.{recipe_meant, packages_of, facts_behind}
use Rattle.datastore.proofs.Freezing.{fault_on}
use Rattle.recipe_facts.proofs.Binding.{exit, fault_later, want}
use Rattle.meta_model.proofs.Passing.{goes_on}
use Rattle.recipe_facts.proofs.Chains.{facts3, facts4}
use Rattle.recipe_facts.proofs.of_recipe.facts_behind.Goals as goal

pub returns-in_err-packages-clause-err : goal.returns-in_err-packages-clause-err
returns-in_err-packages-clause-err c =
    let recipe = recipe_meant c.args.recipe.now in
    let fault = c.in_err-packages.field-0.0 in
    exit c.from_residual.result fault (facts_behind recipe c.args.provides c.args.depends) c.from_residual.ensures.1
    (fault_on fault (packages_of recipe.lines) (facts3 recipe c.args.provides c.args.depends) c.in_err-packages.ensures.err)

pub returns-in_err-tasks-clause-err : goal.returns-in_err-tasks-clause-err
returns-in_err-tasks-clause-err c =
    let recipe = recipe_meant c.args.recipe.now in
    let fault = c.in_err-tasks.field-0.0 in
    let packages = c.in_ok-packages.packages in
    exit c.from_residual-in_err-tasks.result fault (facts_behind recipe c.args.provides c.args.depends) c.from_residual-in_err-tasks.ensures.1
    (fault_later fault (packages_of recipe.lines) packages (facts3 recipe c.args.provides c.args.depends) c.in_ok-packages.ensures.ok
    (fault_on fault (all_tasks recipe.lines (tasks recipe.lines)) (facts4 recipe c.args.provides c.args.depends packages) c.in_err-tasks.ensures.err))

pub returns-in_err-facts_made-clause-err : goal.returns-in_err-facts_made-clause-err
returns-in_err-facts_made-clause-err c = want c.from_residual-in_err-facts_made.result (facts_behind (recipe_meant c.args.recipe.now) c.args.provides c.args.depends) c.from_residual-in_err-facts_made.ensures.1

pub returns-clause-ok : goal.returns-clause-ok
returns-clause-ok c =
    let recipe = recipe_meant c.args.recipe.now in
    let packages = c.in_ok-packages.packages in
    goes_on (packages_of recipe.lines) packages (facts3 recipe c.args.provides c.args.depends) c.in_ok-packages.ensures.ok
    ∙ goes_on (all_tasks recipe.lines (tasks recipe.lines)) c.in_ok-tasks.tasks (facts4 recipe c.args.provides c.args.depends packages) c.in_ok-tasks.ensures.ok
    ∙ ap Ok (sym c.in_ok-facts_made.ensures)
