use Rattle.std.proofs.Common.{◌≡◌, false, take}
use Rattle.std.specs.List.{list_any}
use Rattle.meta_model.specs.Providers.{is_package_for}
use Rattle.task_graph.proofs.providers.has_package_for.Given as goal

abbrev pub invariant-loop-package : goal.invariant-loop-package
invariant-loop-package l = list_any (is_package_for l.name) (take l.package-index l.packages) ≡ false
