use Rattle.std.proofs.Common.{ap, ◌∙◌, sym, [], map, take}
use Rattle.tree_model.specs.Overlay.{overlaid}
use Rattle.meta_model.specs.CleanBuild.{Entries}
use Rattle.meta_model.specs.Layout.{overlaid_all}
use Rattle.task_worker.specs.declared.parts.Part.{Part}
use Rattle.task_worker.proofs.Lists.{overlaid_more}
use Rattle.task_worker.proofs.laying.laid_own.Goals as goal

pub loop-part-preserved : goal.loop-part-preserved
loop-part-preserved c =
    let here = c.part-item.result in
    let before : Entries = overlaid_all (map (λ (p : Part). p.output.now) (take c.loop-part.part-index c.args.parts.now)) in
    c.in_ok-lay_over.ensures
    ∙ ap (λ (t : Entries). overlaid t here.output.now) c.loop-part.invariant
    ∙ ap (λ (p : Part). overlaid before p.output.now) c.part-item.is
    ∙ sym (overlaid_more (λ (p : Part). p.output.now) [] c.args.parts.now c.loop-part.part-index here c.loop-part-test.true)
