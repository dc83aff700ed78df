use Rattle.std.proofs.Common.{◌∙◌, ap, subst, ℕ, List}
use Rattle.std.specs.Prelude.{IfOk}
use Rattle.tree_model.specs.Folder.{IsRenameRefusal, picked, placed, renamed}
use Rattle.tree_model.proofs.OverlaidLemmas.{is_picked}
use Rattle.meta_model.specs.CleanBuild.{Entries}
use Rattle.task_worker.specs.Parts.{IsShortPart}
use Rattle.task_worker.proofs.Joined.{refused}
use Rattle.task_worker.proofs.job.move_part.Goals as goal

pub returns-in-Ok : goal.returns-in-Ok
returns-in-Ok c =
    let tree = c.args.tree.now in
    let same =
    c.in-Ok.ensures.entries
    ∙ ap (λ (f : List ℕ). renamed (placed f) c.in_ok-part.part) c.as_str-2.ensures
    ∙ ap (renamed (placed c.args.place.now.1)) (is_picked c.as_str.result.now tree c.in_ok-part.part c.entries-tree.ensures.tree c.in_ok-part.ensures)
    ∙ ap (λ (f : List ℕ). renamed (placed c.args.place.now.1) (picked f tree)) c.as_str.ensures in
    subst (λ (part : Entries). IsShortPart part c.short_part.result) same c.short_part.ensures

pub returns : goal.returns
returns c =
    let tree = c.args.tree.now in
    let same =
    ap (λ (f : List ℕ). renamed (placed f) c.in_ok-part.part) c.as_str-2.ensures
    ∙ ap (renamed (placed c.args.place.now.1)) (is_picked c.as_str.result.now tree c.in_ok-part.part c.entries-tree.ensures.tree c.in_ok-part.ensures)
    ∙ ap (λ (f : List ℕ). renamed (placed c.args.place.now.1) (picked f tree)) c.as_str.ensures in
    let unclean = subst (IsRenameRefusal (placed c.as_str-2.result.now) c.in_ok-part.part) c.in-Err-BadPath.field-0-is (c.in-Err-BadPath.ensures.refused) in
    subst (λ (part : Entries). IfOk c.refuse_path.result (IsShortPart part)) same (refused c.as_str-2.result.now _ c.in_ok-part.part c.refuse_path.result unclean c.refuse_path.ensures.ok)
