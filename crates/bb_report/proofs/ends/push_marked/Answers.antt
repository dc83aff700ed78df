use Rattle.std.proofs.Common.{◌∙◌, sym, ap, Bool, false, get_or}
use Rattle.std.specs.Prelude.{◌||◌}
use Rattle.bb_report.proofs.Marks.{name_next, some_next}
use Rattle.bb_report.proofs.ends.push_marked.Goals as goal

pub loop-n-preserved : goal.loop-n-preserved
loop-n-preserved c =
    let n = c.loop-n.n in
    let tasks = c.args.tasks.now in
    let marks = c.args.marks.now in
    let task = c.index-tasks-n.result in
    let mark : Bool = get_or marks n false in
    record {
      made = c.in_ok-is_later.ensures.name ∙ name_next tasks marks n task false c.loop-n.is_later c.args.made.now c.loop-n.made c.requires c.loop-n-test.true c.index-tasks-n.is c.loop-n.invariant.later c.loop-n.invariant.made;
      later = c.in_ok-is_later.ensures.later ∙ ap (λ (b : Bool). mark || b) c.loop-n.invariant.later ∙ sym (some_next tasks marks n task false c.requires c.loop-n-test.true);
    }
