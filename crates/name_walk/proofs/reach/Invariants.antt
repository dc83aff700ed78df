use Rattle.std.proofs.Common.{◌≡◌, ◌+◌, length}
use Rattle.meta_model.specs.Text.{in_byte_order}
use Rattle.name_walk.specs.Walk.{HasGoneOn, weight, with_more}
use Rattle.name_walk.proofs.reach.Given as goal

abbrev pub invariant-loop-name : goal.invariant-loop-name
invariant-loop-name g l = record {
  ready : g.L.Leading.IsReady l.from;
  ordered : in_byte_order l.more.items ≡ l.more.items;
  on : HasGoneOn (g.L.Leading.led l.fn.from) l.done l.fn.todo.items (with_more l.done l.more.items) l.todo.items;
  same : g.L.Leading.led l.from ≡ g.L.Leading.led l.fn.from;
  leaders : g.L.Leading.leaders l.from ≡ g.L.Leading.leaders l.fn.from;
  stays : g.L.Leading.Stays l.fn.from l.from;
}

abbrev pub decreases-loop-name : goal.decreases-loop-name
decreases-loop-name g l = weight (g.L.Leading.led l.fn.from) (g.L.Leading.leaders l.fn.from) (with_more l.done l.more.items) + length l.todo.items
