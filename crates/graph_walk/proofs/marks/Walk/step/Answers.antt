use Rattle.std.proofs.Common.{◌≡◌, ◌∙◌, ap, ◌<◌, length, get_or, arith, rules}
use Rattle.graph_walk.proofs.Walking.{finished, read_zero, last_within, is_read, next_bound, next_closes, next_done, next_new}
use Rattle.graph_walk.proofs.marks.Walk.step.Goals as goal

pub returns-then-left-eq0-clause-walk : goal.returns-then-left-eq0-clause-walk
returns-then-left-eq0-clause-walk c =
    let edges = c.args.edges.now in
    let rings = c.args.self.now.rings in
    let marks = c.args.self.now.marks.items in
    let left = c.args.self.now.left.items in
    let path = c.args.self.now.path.items in
    let lt : c.args.node < length edges = last_within edges rings marks left path c.requires.within c.requires.walk c.args.node c.requires.last in
    let none_left : get_or left c.args.node 0 ≡ 0 = read_zero left c.args.node c.index-left.result.now (omega (arith, lt, c.requires.walk.counted)) c.index-left.ensures ∙ c.if-left-eq0.true in
    rw (c.finish.ensures.marks, c.finish.ensures.path, ap (λ v. v.items) c.finish.ensures.left, c.finish.ensures.rings)
    (finished edges rings marks left path c.requires.within c.requires.walk c.args.node c.requires.last c.requires.opened none_left)

pub bounds-as_slice-left : goal.bounds-as_slice-left
bounds-as_slice-left c = next_bound (is_read c.requires.within c.requires.walk c.requires.last c.index-left.ensures c.if-left-eq0.false c.as_slice.ensures c.index-edges-node.is)

pub offset_bounds-as_slice-left : goal.offset_bounds-as_slice-left
offset_bounds-as_slice-left c =
    let bound = next_bound (is_read c.requires.within c.requires.walk c.requires.last c.index-left.ensures c.if-left-eq0.false c.as_slice.ensures c.index-edges-node.is) in
    search rules

pub returns-in-Open-clause-on : goal.returns-in-Open-clause-on
returns-in-Open-clause-on c = next_closes (is_read c.requires.within c.requires.walk c.requires.last c.index-left.ensures c.if-left-eq0.false c.as_slice.ensures c.index-edges-node.is) c.index.result.now c.index.ensures c.in-Open.is

pub returns-in-Done-clause-walk : goal.returns-in-Done-clause-walk
returns-in-Done-clause-walk c = next_done (is_read c.requires.within c.requires.walk c.requires.last c.index-left.ensures c.if-left-eq0.false c.as_slice.ensures c.index-edges-node.is) c.index.result.now c.in-Done.field-0 c.index.ensures c.in-Done.is

pub returns-in_ok-open-in-New-clause-walk : goal.returns-in_ok-open-in-New-clause-walk
returns-in_ok-open-in-New-clause-walk c =
    let opened = c.in_ok-open-in-New.ensures in
    rw (opened.marks, opened.path, ap (λ v. v.items) opened.left, opened.rings) (next_new (is_read c.requires.within c.requires.walk c.requires.last c.index-left.ensures c.if-left-eq0.false c.as_slice.ensures c.index-edges-node.is) c.index.result.now c.index.ensures c.in-New.is)
