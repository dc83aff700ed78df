use Rattle.std.proofs.Common.{refl, subst, length, IfSome}
use Rattle.std.specs.Ordering.{nat_cmp}
use Rattle.std.specs.BTreeMap.{get}
use Rattle.std.proofs.lemmas.Option.{slice_get_read}
use Rattle.std.proofs.lemmas.Result.{on_ok_weaker}
use Rattle.task_plan.specs.Ahead.{IsMadeOf}
use Rattle.task_plan.proofs.Aheads.{one_more_ahead}
use Rattle.task_plan.proofs.ahead.make_at.Goals as goal

pub returns-in-Some-clause-ahead : goal.returns-in-Some-clause-ahead
returns-in-Some-clause-ahead c =
    let set = c.args.set.now in
    let nodes = c.args.nodes.now in
    let node = c.index-nodes-number.result in
    let here = slice_get_read nodes (length nodes) c.args.number node refl c.requires.number c.index-nodes-number.is in
    let of : IsMadeOf set node c.in-Some.made = subst (λ o. IfSome o (IsMadeOf set node)) c.in-Some.is c.in_ok-made.ensures.made in
    on_ok_weaker c.put.result (λ made. one_more_ahead set nodes (get nat_cmp c.args.share.now) (get nat_cmp c.put.new.share) c.args.number c.in-Some.made made c.requires.ahead (record { node = node; at = here; is = of })) c.put.ensures
