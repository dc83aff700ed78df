use Rattle.std.proofs.Common.{subst}
use Rattle.tree_model.specs.Folder.{IsRenameRefusal, placed}
use Rattle.task_worker.proofs.Laid.{never_unclean}
use Rattle.task_worker.proofs.laying.moved_into.Goals as goal

pub unreachable-requires : goal.unreachable-requires
unreachable-requires c =
    let refused = subst (IsRenameRefusal (placed c.args.folder.now) c.args.tree.now) c.in-Err-BadPath.field-0-is (c.in-Err-BadPath.ensures.refused) in
    never_unclean c.args.folder.now c.args.tree.now c.in-Err-BadPath.field-0-0 c.requires.folder c.requires.clean refused
