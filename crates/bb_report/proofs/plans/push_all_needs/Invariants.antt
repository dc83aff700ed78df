use Rattle.std.proofs.Common.{◌≡◌, ◌++◌, take}
use Rattle.std.specs.Prelude.{flat_map}
use Rattle.run_model.specs.Texts as texts
use Rattle.bb_report.proofs.plans.push_all_needs.Given as goal

abbrev pub invariant-loop-number : goal.invariant-loop-number
invariant-loop-number l = l.made ≡ l.fn.made ++ flat_map (texts.need_text l.tasks) (take l.number-index l.deps)
