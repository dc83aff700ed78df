use Rattle.std.proofs.Common.{◌≡◌, ◌<◌, ◌++◌, ◌∷◌, [], ◌∙◌, sym, ap, subst, length, List, All, append_assoc, arith}
use Rattle.std.specs.Vec.Iter.{into_iter_items}
use Rattle.std.proofs.lemmas.List.Elements.{All-tail}
use Rattle.task_graph.specs.declared.order.Draft.{Draft}
use Rattle.task_graph.specs.Order.{IsNodeOf}
use Rattle.task_graph.proofs.Reaching.{zip_push}
use Rattle.task_graph.proofs.nodes.nodes_of.Goals as goal

pub loop-draft-preserved : goal.loop-draft-preserved
loop-draft-preserved c =
    let at = c.loop-draft in
    let draft = c.in-Some.draft in
    let left = into_iter_items c.next.new.self in
    let steps : into_iter_items c.loop-draft.draft-iterator ≡ c.in-Some.draft ∷ into_iter_items c.next.new.self = c.in-Some.ensures.steps.0 in
    let placed = subst (λ (l : List Draft). All (λ d. d.place < length c.args.edges.now) l) steps at.invariant.placed in
    record {
      drafts = append_assoc at.yielded (draft ∷ []) left ∙ ap (λ (l : List Draft). at.yielded ++ l) (sym steps) ∙ at.invariant.drafts;
      count = (let gone = c.in-Some.ensures.steps.1 in let short = ap (length {A = Draft}) steps in omega (arith, at.invariant.count, gone, short));
      placed = All-tail (λ d. d.place < length c.args.edges.now) draft left placed;
      nodes = rw c.in_ok-push.ensures.ok (zip_push (IsNodeOf c.args.ranks.now c.args.edges.now) at.yielded c.loop-draft.nodes draft c.in_ok-node.node at.invariant.nodes c.in_ok-node.ensures);
    }
