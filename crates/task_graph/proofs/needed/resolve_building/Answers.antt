use Rattle.std.proofs.lemmas.List.{take_all}
use Rattle.std.proofs.Common.{◌∙◌, sym, ap, not}
use Rattle.std.specs.Result.{result_ok}
use Rattle.meta_model.specs.Text.{is_in}
use Rattle.meta_model.specs.Providers.{provider}
use Rattle.task_graph.proofs.Resolving.{filter_kept, filter_dropped}
use Rattle.task_graph.proofs.needed.resolve_building.Goals as goal
use Rattle.task_graph.proofs.needed.resolve_building.Goals.{then-not-is_assumed+in_ok-add, else-not-is_assumed}

pub loop-name-preserved : goal.loop-name-preserved
loop-name-preserved c =
    let told = c.is_assumed.ensures ∙ ap (λ n. is_in n c.args.facts.now.assumed) c.as_str.ensures in
    elim c.if-not-is_assumed.branch [
      | then-not-is_assumed+in_ok-add w ↦ filter_kept (provider c.args.facts.now) (λ n. not (is_in n c.args.facts.now.assumed)) c.as_slice-name-items.result.now c.loop-name.name-index c.name-item.result c.loop-name.made w.add.new.self c.if-not-is_assumed.made w.provider.result
          c.loop-name-test.true c.name-item.is (ap not (sym told ∙ w.if-not-is_assumed.true)) (w.provider.ensures ∙ ap (λ n. result_ok (provider c.args.facts.now n)) w.as_str-then-not-is_assumed.ensures) c.loop-name.invariant w.in_ok-add.ensures.found w.in_ok-add.ensures.lacks w.made-is
      | else-not-is_assumed w ↦ filter_dropped (provider c.args.facts.now) (λ n. not (is_in n c.args.facts.now.assumed)) c.as_slice-name-items.result.now c.loop-name.name-index c.name-item.result c.loop-name.made c.if-not-is_assumed.made
          c.loop-name-test.true c.name-item.is (ap not (sym told ∙ w.if-not-is_assumed.false)) c.loop-name.invariant w.made-is
    ]

pub returns : goal.returns
returns c = rw (take_all _ _ c.loop-name-test.false, c.as_slice-name-items.ensures) at c.loop-name.invariant
