use Rattle.std.proofs.Common.{◌∙◌, codes}
use Rattle.datastore.proofs.Freezing.{fault_on}
use Rattle.recipe_facts.proofs.Binding.{exit, fault_later}
use Rattle.meta_model.proofs.Passing.{goes_on}
use Rattle.load_model.specs.Layers.{words_of}
use Rattle.load_model.specs.Facts.{family, wishes_over}
use Rattle.recipe_facts.proofs.Chains.{wishes1, wishes2, wishes3}
use Rattle.recipe_facts.proofs.of_config.wishes_told.Goals as goal

pub returns-in_err-words_of-clause-err : goal.returns-in_err-words_of-clause-err
returns-in_err-words_of-clause-err c =
    let lines = c.args.store.now in
    let fault = c.in_err-words_of.field-0.0 in
    exit c.from_residual.result fault (wishes_over lines) c.from_residual.ensures.1
    (fault_on fault (words_of lines (codes "ASSUME_PROVIDED")) (wishes1 lines) (c.in_err-words_of.ensures.err))

pub returns-in_err-family-clause-err : goal.returns-in_err-family-clause-err
returns-in_err-family-clause-err c =
    let lines = c.args.store.now in
    let fault = c.in_err-family.field-0.0 in
    exit c.from_residual-in_err-family.result fault (wishes_over lines) c.from_residual-in_err-family.ensures.1
    (fault_later fault (words_of lines (codes "ASSUME_PROVIDED")) (c.in_ok-words_of.field-0) (wishes1 lines) (c.in_ok-words_of.ensures.ok)
    (fault_on fault (family lines (codes "PREFERRED_PROVIDER_")) (wishes2 lines c.in_ok-words_of.field-0) (c.in_err-family.ensures.err)))

pub returns-in_err-family-2-clause-err : goal.returns-in_err-family-2-clause-err
returns-in_err-family-2-clause-err c =
    let lines = c.args.store.now in
    let fault = c.in_err-family-2.field-0.0 in
    exit c.from_residual-in_err-family-2.result fault (wishes_over lines) c.from_residual-in_err-family-2.ensures.1
    (fault_later fault (words_of lines (codes "ASSUME_PROVIDED")) (c.in_ok-words_of.field-0) (wishes1 lines) (c.in_ok-words_of.ensures.ok)
    (fault_later fault (family lines (codes "PREFERRED_PROVIDER_")) (c.in_ok-family.field-0) (wishes2 lines c.in_ok-words_of.field-0) (c.in_ok-family.ensures.ok)
    (fault_on fault (family lines (codes "PREFERRED_VERSION_")) (wishes3 c.in_ok-words_of.field-0 c.in_ok-family.field-0) (c.in_err-family-2.ensures.err))))

pub returns-clause-ok : goal.returns-clause-ok
returns-clause-ok c =
    let lines = c.args.store.now in
    goes_on (words_of lines (codes "ASSUME_PROVIDED")) (c.in_ok-words_of.field-0) (wishes1 lines) (c.in_ok-words_of.ensures.ok)
    ∙ goes_on (family lines (codes "PREFERRED_PROVIDER_")) (c.in_ok-family.field-0) (wishes2 lines c.in_ok-words_of.field-0) (c.in_ok-family.ensures.ok)
    ∙ goes_on (family lines (codes "PREFERRED_VERSION_")) (c.in_ok-family-2.field-0) (wishes3 c.in_ok-words_of.field-0 c.in_ok-family.field-0) (c.in_ok-family-2.ensures.ok)
