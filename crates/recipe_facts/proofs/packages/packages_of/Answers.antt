use Rattle.std.proofs.Common.{◌≡◌, ◌∙◌, ap, sym, Ok, codes}
use Rattle.std.proofs.lemmas.Result.{IfOk-weaker, IfErr-weaker}
use Rattle.datastore.specs.Faults.{IsDataFault}
use Rattle.load_model.specs.Layers.{words_of}
use Rattle.load_model.specs.Facts.{needed_words, recipe_packages}
use Rattle.recipe_facts.specs.Recipe.{packages_of}
use Rattle.datastore.proofs.Freezing.{fault_on, fault_same}
use Rattle.recipe_facts.proofs.Binding.{exit, fault_later}
use Rattle.meta_model.proofs.Passing.{goes_on}
use Rattle.recipe_facts.proofs.Chains.{packages1, packages2, packages3}
use Rattle.recipe_facts.proofs.packages.packages_of.Goals as goal

pub returns-in_err-names-clause-err : goal.returns-in_err-names-clause-err
returns-in_err-names-clause-err c =
    let lines = c.args.store.now in
    let fault = c.in_err-names.field-0.0 in
    exit c.from_residual.result fault (packages_of lines) c.from_residual.ensures.1
    (fault_on fault (words_of lines (codes "PACKAGES")) (packages1 lines) c.in_err-names.ensures.err)

pub returns-in_err-provided-clause-err : goal.returns-in_err-provided-clause-err
returns-in_err-provided-clause-err c =
    let lines = c.args.store.now in
    let names = c.in_ok-names.names in
    let fault = c.in_err-provided.field-0.0 in
    exit c.from_residual-in_err-provided.result fault (packages_of lines) c.from_residual-in_err-provided.ensures.1
    (fault_later fault (words_of lines (codes "PACKAGES")) names (packages1 lines) c.in_ok-names.ensures.ok
    (fault_on fault (words_of lines (codes "RPROVIDES")) (packages2 lines names) c.in_err-provided.ensures.err))

pub returns-in_err-needed-clause-err : goal.returns-in_err-needed-clause-err
returns-in_err-needed-clause-err c =
    let lines = c.args.store.now in
    let names = c.in_ok-names.names in
    let provided = c.in_ok-provided.provided in
    let fault = c.in_err-needed.field-0.0 in
    exit c.from_residual-in_err-needed.result fault (packages_of lines) c.from_residual-in_err-needed.ensures.1
    (fault_later fault (words_of lines (codes "PACKAGES")) names (packages1 lines) c.in_ok-names.ensures.ok
    (fault_later fault (words_of lines (codes "RPROVIDES")) provided (packages2 lines names) c.in_ok-provided.ensures.ok
    (fault_on fault (needed_words lines (codes "RDEPENDS")) (packages3 lines names provided) c.in_err-needed.ensures.err)))

pub returns-clause-ok : goal.returns-clause-ok
returns-clause-ok c =
    let lines = c.args.store.now in
    let names = c.in_ok-names.names in
    let provided = c.in_ok-provided.provided in
    let needed = c.in_ok-needed.needed in
    let same = goes_on (words_of lines (codes "PACKAGES")) names (packages1 lines) c.in_ok-names.ensures.ok
    ∙ goes_on (words_of lines (codes "RPROVIDES")) provided (packages2 lines names) c.in_ok-provided.ensures.ok
    ∙ goes_on (needed_words lines (codes "RDEPENDS")) needed (packages3 lines names provided) c.in_ok-needed.ensures.ok
    ∙ ap (recipe_packages lines provided needed) (sym c.as_slice.ensures) in
    IfOk-weaker c.recipe_packages.result (λ made. recipe_packages lines provided needed c.as_slice.result.now ≡ Ok made) (λ made. packages_of lines ≡ Ok made) (λ made e. same ∙ e) c.recipe_packages.ensures.ok

pub returns-clause-err : goal.returns-clause-err
returns-clause-err c =
    let lines = c.args.store.now in
    let names = c.in_ok-names.names in
    let provided = c.in_ok-provided.provided in
    let needed = c.in_ok-needed.needed in
    let same = goes_on (words_of lines (codes "PACKAGES")) names (packages1 lines) c.in_ok-names.ensures.ok
    ∙ goes_on (words_of lines (codes "RPROVIDES")) provided (packages2 lines names) c.in_ok-provided.ensures.ok
    ∙ goes_on (needed_words lines (codes "RDEPENDS")) needed (packages3 lines names provided) c.in_ok-needed.ensures.ok
    ∙ ap (recipe_packages lines provided needed) (sym c.as_slice.ensures) in
    IfErr-weaker c.recipe_packages.result (λ fault. IsDataFault fault (recipe_packages lines provided needed c.as_slice.result.now)) (λ fault. IsDataFault fault (packages_of lines))
    (λ fault h. fault_same fault (packages_of lines) (recipe_packages lines provided needed c.as_slice.result.now) same h) c.recipe_packages.ensures.err
