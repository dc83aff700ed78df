use Rattle.std.proofs.lemmas.List.{take_all}
use Rattle.std.proofs.Common.{◌∙◌, ap}
use Rattle.std.specs.Result.{result_ok}
use Rattle.meta_model.specs.Providers.{runtime_provider}
use Rattle.task_graph.proofs.Resolving.{resolved_more, lacks_more}
use Rattle.task_graph.proofs.needed.resolve_names.Goals as goal

pub loop-name-preserved : goal.loop-name-preserved
loop-name-preserved c =
    let told = c.runtime_provider.ensures ∙ ap (λ n. result_ok (runtime_provider c.args.facts.now n)) c.as_str.ensures in (
      resolved_more (runtime_provider c.args.facts.now) c.args.names.now c.loop-name.name-index c.name-item.result c.args.made.now.found.items c.loop-name.made.found.items c.add.new.self.found.items c.runtime_provider.result c.loop-name-test.true c.name-item.is told c.loop-name.invariant.0 c.in_ok-add.ensures.found,
      lacks_more (runtime_provider c.args.facts.now) c.args.names.now c.loop-name.name-index c.name-item.result c.args.made.now.lacks c.loop-name.made.lacks c.add.new.self.lacks c.runtime_provider.result c.loop-name-test.true c.name-item.is told c.loop-name.invariant.1 c.in_ok-add.ensures.lacks,
    )

pub returns : goal.returns
returns c = record { found = rw (take_all _ _ c.loop-name-test.false) at c.loop-name.invariant.0; lacks = rw (take_all _ _ c.loop-name-test.false) at c.loop-name.invariant.1 }
