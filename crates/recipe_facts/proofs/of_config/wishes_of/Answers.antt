use Rattle.std.proofs.Common.{◌≡◌, ◌∙◌, ap, sym, Ok}
use Rattle.std.proofs.lemmas.Result.{IfOk-weaker, IfErr-weaker}
use Rattle.meta_model.specs.Frozen.{frozen}
use Rattle.datastore.specs.Faults.{IsDataFault}
use Rattle.load_model.specs.Facts.{wishes, wishes_over}
use Rattle.recipe_facts.specs.Wished.{wished}
use Rattle.datastore.proofs.Freezing.{fault_same}
use Rattle.meta_model.proofs.Passing.{goes_on}
use Rattle.recipe_facts.proofs.of_config.wishes_of.Goals as goal

pub returns-clause-ok : goal.returns-clause-ok
returns-clause-ok c =
    let config = c.args.config.now in
    let store = c.settle.new.self in
    let same : wishes config ≡ wishes_over store = goes_on (frozen config) c.in_ok-store.store wishes_over c.in_ok-store.ensures.ok ∙ ap wishes_over (sym c.settle.ensures) in
    IfOk-weaker c.wishes_told.result (λ made. wishes_over store ≡ Ok (wished made)) (λ made. wishes config ≡ Ok (wished made)) (λ made e. same ∙ e) c.wishes_told.ensures.ok

pub returns-clause-err : goal.returns-clause-err
returns-clause-err c =
    let config = c.args.config.now in
    let store = c.settle.new.self in
    let same : wishes config ≡ wishes_over store = goes_on (frozen config) c.in_ok-store.store wishes_over c.in_ok-store.ensures.ok ∙ ap wishes_over (sym c.settle.ensures) in
    IfErr-weaker c.wishes_told.result (λ fault. IsDataFault fault (wishes_over store)) (λ fault. IsDataFault fault (wishes config)) (λ fault h. fault_same fault (wishes config) (wishes_over store) same h) c.wishes_told.ensures.err
