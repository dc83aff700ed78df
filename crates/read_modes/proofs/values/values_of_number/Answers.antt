use Rattle.std.proofs.Common.{◌≡◌, ◌∙◌, ap, Ok, get_or}
use Rattle.std.proofs.lemmas.Result.{IfOk-weaker, IfErr-weaker}
use Rattle.answer_model.specs.Modes.{recipe_values, values_of_number}
use Rattle.project_reading.specs.Answered.{IsRefusedAs}
use Rattle.project_reading.proofs.Told.{told_same}
use Rattle.read_modes.proofs.Numbers.{value_is}
use Rattle.read_modes.proofs.values.values_of_number.Goals as goal

pub returns-clause-ok : goal.returns-clause-ok
returns-clause-ok c =
    let set = c.args.set.now in
    let recipe = c.index-as_slice-number.result in
    let store = c.store_of.result.now in
    let all = c.as_slice.ensures ∙ ap (λ f. f.recipes) c.facts.ensures.facts in
    let same = value_is set c.args.number recipe store c.requires (c.index-as_slice-number.is ∙ ap (λ l. get_or l c.args.number recipe) all) c.store_of.ensures in
    IfOk-weaker c.recipe_values.result (λ text. recipe_values (recipe, store) ≡ Ok text) (λ text. values_of_number set c.args.number ≡ Ok text) (λ text e. same ∙ e) c.recipe_values.ensures.ok

pub returns-clause-err : goal.returns-clause-err
returns-clause-err c =
    let set = c.args.set.now in
    let recipe = c.index-as_slice-number.result in
    let store = c.store_of.result.now in
    let all = c.as_slice.ensures ∙ ap (λ f. f.recipes) c.facts.ensures.facts in
    let same = value_is set c.args.number recipe store c.requires (c.index-as_slice-number.is ∙ ap (λ l. get_or l c.args.number recipe) all) c.store_of.ensures in
    IfErr-weaker c.recipe_values.result (λ fault. IsRefusedAs fault (recipe_values (recipe, store))) (λ fault. IsRefusedAs fault (values_of_number set c.args.number)) (λ fault h. told_same fault (values_of_number set c.args.number) (recipe_values (recipe, store)) same h) c.recipe_values.ensures.err
