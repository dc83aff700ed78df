use Rattle.std.proofs.Common.{take, filter, not}
use Rattle.meta_model.specs.Text.{is_in}
use Rattle.meta_model.specs.Providers.{provider}
use Rattle.task_graph.specs.Needed.{IsResolved}
use Rattle.task_graph.proofs.needed.resolve_building.Given as goal

abbrev pub invariant-loop-name : goal.invariant-loop-name
invariant-loop-name l = IsResolved (provider l.facts) (filter (λ name. not (is_in name l.facts.assumed)) (take l.name-index l.name-items)) l.made
