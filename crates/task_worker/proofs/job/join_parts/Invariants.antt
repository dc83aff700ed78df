use Rattle.std.proofs.Common.{◌≡◌, false, take, map}
use Rattle.std.specs.List.{list_any}
use Rattle.meta_model.specs.CleanBuild.{is_long, part_at}
use Rattle.meta_model.specs.Layout.{overlaid_all}
use Rattle.task_worker.proofs.job.join_parts.Given as goal

-- the parts so far are laid, and none of them has too long a path
abbrev pub invariant-loop-place : goal.invariant-loop-place
invariant-loop-place l = record {
  made : l.made ≡ overlaid_all (map (part_at l.tree) (take l.place-index l.places));
  short : list_any (λ place. list_any is_long (part_at l.tree place)) (take l.place-index l.places) ≡ false;
}
