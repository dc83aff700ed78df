use Rattle.std.proofs.Common.{◌≡◌, ◌∙◌, Ok, codes}
use Rattle.std.proofs.lemmas.Result.{IfOk-weaker, IfErr-weaker}
use Rattle.datastore.specs.Faults.{IsDataFault}
use Rattle.load_model.specs.LoadRefusal.{◌>>=◌}
use Rattle.load_model.specs.Layers.{words_of}
use Rattle.load_model.specs.Facts.{facts_of}
use Rattle.recipe_facts.specs.Recipe.{recipe_meant, facts_behind}
use Rattle.datastore.proofs.Freezing.{fault_on, fault_same}
use Rattle.recipe_facts.proofs.Binding.{exit, fault_later}
use Rattle.meta_model.proofs.Passing.{goes_on}
use Rattle.recipe_facts.proofs.Chains.{facts1, facts_apart}
use Rattle.recipe_facts.proofs.of_recipe.facts_of.Goals as goal

pub returns-in_err-provides-clause-err : goal.returns-in_err-provides-clause-err
returns-in_err-provides-clause-err c =
    let recipe = recipe_meant c.args.recipe.now in
    let first = words_of recipe.lines (codes "PROVIDES") in
    let fault = c.in_err-provides.field-0.0 in
    exit c.from_residual.result fault (facts_of recipe) c.from_residual.ensures.1
    (fault_same fault (facts_of recipe) (first >>= facts1 recipe) (facts_apart recipe) (fault_on fault first (facts1 recipe) c.in_err-provides.ensures.err))

pub returns-in_err-depends-clause-err : goal.returns-in_err-depends-clause-err
returns-in_err-depends-clause-err c =
    let recipe = recipe_meant c.args.recipe.now in
    let first = words_of recipe.lines (codes "PROVIDES") in
    let provides = c.in_ok-provides.provides in
    let fault = c.in_err-depends.field-0.0 in
    exit c.from_residual-in_err-depends.result fault (facts_of recipe) c.from_residual-in_err-depends.ensures.1
    (fault_same fault (facts_of recipe) (first >>= facts1 recipe) (facts_apart recipe)
    (fault_later fault first provides (facts1 recipe) c.in_ok-provides.ensures.ok (fault_on fault (words_of recipe.lines (codes "DEPENDS")) (facts_behind recipe provides) c.in_err-depends.ensures.err)))

pub returns-clause-ok : goal.returns-clause-ok
returns-clause-ok c =
    let recipe = recipe_meant c.args.recipe.now in
    let provides = c.in_ok-provides.provides in
    let depends = c.in_ok-depends.depends in
    let same = facts_apart recipe ∙ goes_on (words_of recipe.lines (codes "PROVIDES")) provides (facts1 recipe) c.in_ok-provides.ensures.ok ∙ goes_on (words_of recipe.lines (codes "DEPENDS")) depends (facts_behind recipe provides) c.in_ok-depends.ensures.ok in
    IfOk-weaker c.facts_behind.result (λ made. facts_behind recipe provides depends ≡ Ok made) (λ made. facts_of recipe ≡ Ok made) (λ made e. same ∙ e) c.facts_behind.ensures.ok

pub returns-clause-err : goal.returns-clause-err
returns-clause-err c =
    let recipe = recipe_meant c.args.recipe.now in
    let provides = c.in_ok-provides.provides in
    let depends = c.in_ok-depends.depends in
    let same = facts_apart recipe ∙ goes_on (words_of recipe.lines (codes "PROVIDES")) provides (facts1 recipe) c.in_ok-provides.ensures.ok ∙ goes_on (words_of recipe.lines (codes "DEPENDS")) depends (facts_behind recipe provides) c.in_ok-depends.ensures.ok in
    IfErr-weaker c.facts_behind.result (λ fault. IsDataFault fault (facts_behind recipe provides depends)) (λ fault. IsDataFault fault (facts_of recipe)) (λ fault h. fault_same fault (facts_of recipe) (facts_behind recipe provides depends) same h) c.facts_behind.ensures.err
