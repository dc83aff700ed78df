use Rattle.std.proofs.Common.{◌∙◌, ap, sym, Ok, codes}
use Rattle.datastore.proofs.Freezing.{fault_on}
use Rattle.recipe_facts.proofs.Binding.{exit, fault_later, want}
use Rattle.meta_model.proofs.Passing.{goes_on}
use Rattle.load_model.specs.Layers.{words_of}
use Rattle.load_model.specs.Facts.{form, needed_words, package_facts}
use Rattle.recipe_facts.proofs.Chains.{package1, package2}
use Rattle.recipe_facts.proofs.packages.package_facts.Goals as goal

pub returns-in_err-provides-clause-err : goal.returns-in_err-provides-clause-err
returns-in_err-provides-clause-err c =
    let lines = c.args.store.now in
    let provided = c.args.provided.now in
    let needed = c.args.needed.now in
    let name = c.args.name.now in
    let fault = c.in_err-provides.field-0.0 in
    exit c.from_residual.result fault (package_facts lines provided needed name) c.from_residual.ensures.1
    (fault_on fault (words_of lines (form (codes "RPROVIDES") name)) (package1 lines provided needed name) c.in_err-provides.ensures.err)

pub returns-in_err-needs-clause-err : goal.returns-in_err-needs-clause-err
returns-in_err-needs-clause-err c =
    let lines = c.args.store.now in
    let provided = c.args.provided.now in
    let needed = c.args.needed.now in
    let name = c.args.name.now in
    let provides = c.in_ok-provides.provides in
    let fault = c.in_err-needs.field-0.0 in
    exit c.from_residual-in_err-needs.result fault (package_facts lines provided needed name) c.from_residual-in_err-needs.ensures.1
    (fault_later fault (words_of lines (form (codes "RPROVIDES") name)) provides (package1 lines provided needed name) c.in_ok-provides.ensures.ok
    (fault_on fault (needed_words lines (form (codes "RDEPENDS") name)) (package2 provided needed name provides) c.in_err-needs.ensures.err))

pub returns-in_err-package_made-clause-err : goal.returns-in_err-package_made-clause-err
returns-in_err-package_made-clause-err c = want c.from_residual-in_err-package_made.result (package_facts c.args.store.now c.args.provided.now c.args.needed.now c.args.name.now) c.from_residual-in_err-package_made.ensures.1

pub returns-clause-ok : goal.returns-clause-ok
returns-clause-ok c =
    let lines = c.args.store.now in
    let provided = c.args.provided.now in
    let needed = c.args.needed.now in
    let name = c.args.name.now in
    let provides = c.in_ok-provides.provides in
    goes_on (words_of lines (form (codes "RPROVIDES") name)) provides (package1 lines provided needed name) c.in_ok-provides.ensures.ok
    ∙ goes_on (needed_words lines (form (codes "RDEPENDS") name)) c.in_ok-needs.needs (package2 provided needed name provides) c.in_ok-needs.ensures.ok
    ∙ ap Ok (sym c.in_ok-package_made.ensures)
