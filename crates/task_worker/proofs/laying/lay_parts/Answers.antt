use Rattle.std.proofs.Common.{ap, ◌∙◌, sym, subst, map, take}
use Rattle.tree_model.specs.Overlay.{overlaid}
use Rattle.meta_model.specs.CleanBuild.{Entries}
use Rattle.meta_model.specs.Layout.{dependency_part, overlaid_onto}
use Rattle.task_worker.specs.declared.parts.Part.{Part}
use Rattle.task_worker.specs.Work.{IsLayable, part_needed, parts_needed}
use Rattle.task_worker.proofs.Lists.{parts_more}
use Rattle.task_worker.proofs.laying.lay_parts.Goals as goal

pub lay_part-requires : goal.lay_part-requires
lay_part-requires c =
    let here = c.part-item.result in
    subst (λ (p : Part). IsLayable (part_needed p)) (sym c.part-item.is) (c.requires c.loop-part.part-index here c.loop-part-test.true)

pub loop-part-preserved : goal.loop-part-preserved
loop-part-preserved c =
    let here = c.part-item.result in
    let before : Entries = overlaid_onto c.args.tree.now (map dependency_part (parts_needed (take c.loop-part.part-index c.args.parts.now))) in
    c.in_ok-lay_part.ensures
    ∙ ap (λ (t : Entries). overlaid t (dependency_part (part_needed here))) c.loop-part.invariant
    ∙ ap (λ (p : Part). overlaid before (dependency_part (part_needed p))) c.part-item.is
    ∙ sym (parts_more c.args.tree.now c.args.parts.now c.loop-part.part-index here c.loop-part-test.true)
