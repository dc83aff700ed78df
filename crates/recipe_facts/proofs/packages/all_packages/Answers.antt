use Rattle.std.proofs.Common.{◌∙◌, ap, sym, subst, refl, ◌+◌, drop}
use Rattle.datastore.specs.Faults.{IsDataFault}
use Rattle.load_model.specs.Facts.{package_facts, all_packages}
use Rattle.meta_model.specs.Passing.{behind}
use Rattle.meta_model.proofs.Passing.{one_turn}
use Rattle.recipe_facts.proofs.Binding.{exit, one_fault}
use Rattle.recipe_facts.proofs.packages.all_packages.Goals as goal

pub returns-in_err-package_facts-clause-err : goal.returns-in_err-package_facts-clause-err
returns-in_err-package_facts-clause-err c =
    let make = package_facts c.args.store.now c.args.provided.now c.args.needed.now in
    let all = all_packages c.args.store.now c.args.provided.now c.args.needed.now in
    let fault = c.in_err-package_facts.field-0.0 in
    exit c.from_residual.result fault (all c.args.names.now) c.from_residual.ensures.1
    (one_fault make all (λ b rest. refl) (all c.args.names.now) c.loop-name.made c.args.names.now c.loop-name.name-index c.name-item.result fault c.name-item.is c.loop-name-test.true c.loop-name.invariant
    (subst (λ n. IsDataFault fault (make n)) c.as_str.ensures c.in_err-package_facts.ensures.err))

pub loop-name-preserved : goal.loop-name-preserved
loop-name-preserved c =
    let make = package_facts c.args.store.now c.args.provided.now c.args.needed.now in
    let all = all_packages c.args.store.now c.args.provided.now c.args.needed.now in
    one_turn make all (λ b rest. refl) (all c.args.names.now) c.loop-name.made c.args.names.now c.loop-name.name-index c.name-item.result c.in_ok-package_facts.field-0 c.name-item.is c.loop-name-test.true c.loop-name.invariant
    (ap make (sym c.as_str.ensures) ∙ c.in_ok-package_facts.ensures.ok)
    ∙ ap (λ m. behind m (all (drop (c.loop-name.name-index + 1) c.args.names.now))) (sym c.in_ok-push.ensures.ok)
