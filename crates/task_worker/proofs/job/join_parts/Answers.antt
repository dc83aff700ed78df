use Rattle.std.proofs.Common.{ap, ◌∙◌, sym, subst, [], map, take, ℕ, List}
use Rattle.std.specs.List.{list_any}
use Rattle.tree_model.specs.Overlay.{overlaid}
use Rattle.meta_model.specs.CleanBuild.{Entries, is_long, part_at}
use Rattle.meta_model.specs.Layout.{overlaid_all}
use Rattle.task_worker.specs.Parts.{IsShortPart}
use Rattle.task_worker.proofs.Joined.{any_more}
use Rattle.task_worker.proofs.Lists.{overlaid_more}
use Rattle.task_worker.proofs.job.join_parts.Goals as goal

pub loop-place-preserved : goal.loop-place-preserved
loop-place-preserved c =
    let tree = c.args.tree.now in
    let here = c.place-item.result in
    let before : Entries = overlaid_all (map (part_at tree) (take c.loop-place.place-index c.args.places.now)) in
    let one = subst (IsShortPart (part_at tree here)) c.in-Some.is c.in_ok-part.ensures in
    record {
      made =
          c.in_ok-lay_over.ensures
          ∙ ap (λ (t : Entries). overlaid t c.in-Some.part) c.loop-place.invariant.made
          ∙ ap (overlaid before) one.0
          ∙ ap (λ (p : List ℕ × List ℕ). overlaid before (part_at tree p)) c.place-item.is
          ∙ sym (overlaid_more (part_at tree) [] c.args.places.now c.loop-place.place-index here c.loop-place-test.true);
      short =
          any_more (λ place. list_any is_long (part_at tree place)) c.args.places.now c.loop-place.place-index here c.loop-place-test.true c.loop-place.invariant.short
          (ap (λ (p : List ℕ × List ℕ). list_any is_long (part_at tree p)) (sym c.place-item.is) ∙ one.1);
    }
