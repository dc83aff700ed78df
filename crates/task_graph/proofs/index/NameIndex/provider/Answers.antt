use Rattle.std.proofs.Common.{◌∙◌, sym, ap}
use Rattle.meta_model.specs.Providers.{is_preferred, is_named, is_candidate, narrowed}
use Rattle.task_graph.specs.Only.{number_in}
use Rattle.task_graph.proofs.Indexed.{answer_narrow, answer_middle, answer_widest}
use Rattle.task_graph.proofs.index.NameIndex.provider.Goals as goal

pub returns-in-Some : goal.returns-in-Some
returns-in-Some c = c.only_number.ensures ∙ sym (answer_narrow c.args.facts.now.recipes (is_preferred c.args.facts.now c.args.name.now) (narrowed c.args.facts.now.recipes (is_named c.args.name.now) (is_candidate c.args.name.now)) c.in-Some.only
    (sym (c.requires.preferred c.args.name.now) ∙ sym c.get.ensures.value ∙ sym c.copied.ensures ∙ c.in-Some.is))

pub returns-in-Some-copied : goal.returns-in-Some-copied
returns-in-Some-copied c = c.only_number-in-Some-copied.ensures ∙ sym (answer_middle c.args.facts.now.recipes (is_preferred c.args.facts.now c.args.name.now) (is_named c.args.name.now) (is_candidate c.args.name.now) c.in-Some-copied.only
    (sym (c.requires.preferred c.args.name.now) ∙ sym c.get.ensures.value ∙ sym c.copied.ensures ∙ c.in_default.is) (sym (c.requires.named c.args.name.now) ∙ sym c.get-2.ensures.value ∙ sym c.copied-2.ensures ∙ c.in-Some-copied.is))

pub returns : goal.returns
returns c = c.only_number-2.ensures ∙ ap number_in (c.copied-3.ensures ∙ c.get-3.ensures.value ∙ c.requires.building c.args.name.now)
    ∙ sym (answer_widest c.args.facts.now.recipes (is_preferred c.args.facts.now c.args.name.now) (is_named c.args.name.now) (is_candidate c.args.name.now)
    (sym (c.requires.preferred c.args.name.now) ∙ sym c.get.ensures.value ∙ sym c.copied.ensures ∙ c.in_default.is) (sym (c.requires.named c.args.name.now) ∙ sym c.get-2.ensures.value ∙ sym c.copied-2.ensures ∙ c.in_default-copied.is))
