use Rattle.std.proofs.Common.{◌≡◌, ap, ◌∙◌, map, filter, List, ℕ}
use Rattle.std.specs.Prelude.{codes}
use Rattle.std.proofs.lemmas.Result.{IfOk-weaker}
use Rattle.meta_model.specs.CleanBuild.{Entries}
use Rattle.meta_model.specs.Layout.{Needed, by_depth, is_of, overlaid_all, put_inside}
use Rattle.run_model.specs.Layouts.{needed_among}
use Rattle.task_worker.specs.Work.{parts_needed}
use Rattle.task_worker.proofs.Laid.{own_clean, own_laid}
use Rattle.task_worker.proofs.laying.work_of.Goals as goal

pub moved_into-requires-clause-clean : goal.moved_into-requires-clause-clean
moved_into-requires-clause-clean c =
    let needed : List Needed = needed_among c.args.tasks.now c.args.outputs.now in
    own_clean c.args.task.now.id.pn c.args.tasks.now c.args.outputs.now c.deref.result.now c.in_ok-own.own c.requires
    (ap parts_needed c.deref.ensures.value ∙ c.in_ok-parts.ensures ∙ ap (λ (q : List ℕ). filter (is_of q) (by_depth needed)) c.as_str.ensures)
    c.in_ok-own.ensures c.entries-own.ensures.tree

pub returns : goal.returns
returns c =
    let needed : List Needed = needed_among c.args.tasks.now c.args.outputs.now in
    let pn = c.args.task.now.id.pn in
    let laid : Entries = overlaid_all (map (λ (n : Needed). n.output) (filter (is_of pn) (by_depth needed))) in
    let is : c.in_ok-own.own ≡ laid = c.in_ok-own.ensures ∙ own_laid pn c.deref.result.now needed (ap parts_needed c.deref.ensures.value ∙ c.in_ok-parts.ensures ∙ ap (λ (q : List ℕ). filter (is_of q) (by_depth needed)) c.as_str.ensures) in
    IfOk-weaker c.moved_into.result (λ (tree : Entries). tree ≡ put_inside (codes "work") c.in_ok-own.own) (λ (tree : Entries). tree ≡ put_inside (codes "work") laid) (λ tree e. e ∙ ap (put_inside (codes "work")) is) c.moved_into.ensures
