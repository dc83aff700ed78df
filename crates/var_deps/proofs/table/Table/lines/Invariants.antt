use Rattle.std.proofs.Common.{◌≡◌, [], length}
use Rattle.meta_model.specs.Text.{in_byte_order}
use Rattle.task_model.specs.Keys.{lines_of}
use Rattle.name_walk.specs.Walk.{with_more}
use Rattle.var_deps.specs.Kept.{IsReady, StaysSo, key_behind, task_view}
use Rattle.var_deps.proofs.table.Table.lines.Given as goal

abbrev pub invariant-loop-name : goal.invariant-loop-name
invariant-loop-name l = record {
  ready : IsReady l.self;
  stays : StaysSo l.fn.self l.self;
  one : in_byte_order l.one ≡ l.one;
  other : in_byte_order l.other ≡ l.other;
  lines : key_behind (record { lines = []; excluded = l.left_out }) (lines_of (task_view l.fn.self) (with_more l.done l.more)) ≡ key_behind l.key (lines_of (task_view l.fn.self) (with_more l.one l.other));
}

abbrev pub decreases-loop-name : goal.decreases-loop-name
decreases-loop-name l = length (with_more l.one l.other)
