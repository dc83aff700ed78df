use Rattle.std.proofs.Common.{◌≡◌, ◌++◌}
use Rattle.task_model.specs.Leads.{without}
use Rattle.var_deps.specs.Led.{led_of}
use Rattle.var_deps.proofs.led.without.Given as goal

abbrev pub invariant-loop-name : goal.invariant-loop-name
invariant-loop-name l = led_of l.led ≡ without (l.ignored ++ l.excluded) l.yielded
