use Rattle.std.proofs.lemmas.List.{take_all}
use Rattle.std.proofs.Common.{◌∙◌, sym, ap}
use Rattle.meta_model.specs.declared.facts.Package.{Package}
use Rattle.meta_model.specs.Providers.{runtime_provider}
use Rattle.task_graph.specs.Needed.{resolved, lacks_provider}
use Rattle.task_graph.proofs.Resolving.{flat_step, resolved_append, lacks_append}
use Rattle.task_graph.proofs.needed.resolve_running.Goals as goal

pub loop-package-preserved : goal.loop-package-preserved
loop-package-preserved c =
    let provide = runtime_provider c.args.facts.now in
    let step = flat_step (λ (p : Package). p.rdepends) c.as_slice-package-items.result.now c.loop-package.package-index c.package-item.result c.loop-package-test.true c.package-item.is in
    record {
      found = c.in_ok-resolve_names.ensures.found ∙ rw (c.loop-package.invariant.found, c.as_slice.ensures) (sym (ap (resolved provide) step ∙ resolved_append provide _ c.package-item.result.rdepends));
      lacks = c.in_ok-resolve_names.ensures.lacks ∙ rw (c.loop-package.invariant.lacks, c.as_slice.ensures) (sym (ap (lacks_provider provide) step ∙ lacks_append provide _ c.package-item.result.rdepends));
    }

pub returns : goal.returns
returns c = rw (take_all _ _ c.loop-package-test.false, c.as_slice-package-items.ensures) at c.loop-package.invariant
