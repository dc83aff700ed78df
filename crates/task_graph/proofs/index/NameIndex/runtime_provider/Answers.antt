use Rattle.std.proofs.Common.{◌∙◌, sym, ap}
use Rattle.meta_model.specs.Providers.{is_named, is_runtime_candidate}
use Rattle.task_graph.specs.Only.{number_in}
use Rattle.task_graph.proofs.Indexed.{answer_narrow, answer_wide}
use Rattle.task_graph.proofs.index.NameIndex.runtime_provider.Goals as goal

pub returns-in-Some : goal.returns-in-Some
returns-in-Some c = c.only_number.ensures ∙ sym (answer_narrow c.args.facts.now.recipes (is_named c.args.name.now) (is_runtime_candidate c.args.name.now) c.in-Some.only
    (sym (c.requires.named c.args.name.now) ∙ sym c.get.ensures.value ∙ sym c.copied.ensures ∙ c.in-Some.is))

pub returns : goal.returns
returns c = c.only_number-2.ensures ∙ ap number_in (c.copied-2.ensures ∙ c.get-2.ensures.value ∙ c.requires.running c.args.name.now) ∙ sym (answer_wide c.args.facts.now.recipes (is_named c.args.name.now) (is_runtime_candidate c.args.name.now)
    (sym (c.requires.named c.args.name.now) ∙ sym c.get.ensures.value ∙ sym c.copied.ensures ∙ c.in_default.is))
