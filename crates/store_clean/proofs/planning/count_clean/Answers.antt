use Rattle.std.proofs.Common.{◌≡◌, ◌∙◌, ap, length, List, subst, Bool}
use Rattle.store_keep.specs.Tries.{marked_in}
use Rattle.store_clean.specs.declared.nodes.Node.{Node}
use Rattle.store_clean.specs.Steps.{AreNodesBy, IsChosen, IsNode}
use Rattle.store_clean.proofs.Chosen.{decided_of, marks_long}
use Rattle.store_clean.proofs.Judged.{judged_held}
use Rattle.store_clean.proofs.planning.count_clean.Goals as goal

pub returns-clause-numbered : goal.returns-clause-numbered
returns-clause-numbered g c told =
    let rows = c.args.index.now in
    let nodes = c.in_ok-nodes.nodes.items in
    let chosen = c.in_ok-chosen.chosen in
    let are : AreNodesBy IsNode rows nodes = c.in_ok-nodes.ensures.nodes told (judged_held (g.D.Disk.story c.args.disk.now).held rows (c.requires told)) in
    let is_chosen : IsChosen nodes c.args.roots.now c.args.limit chosen = subst (λ (l : List Node). IsChosen l c.args.roots.now c.args.limit chosen) c.deref.ensures.value c.in_ok-chosen.ensures in
    let marks : c.deref-2.result.now ≡ chosen.marks.items = c.deref-2.ensures.value in
    record {
      marks = chosen.marks.items;
      decided = decided_of rows nodes c.args.roots.now c.args.limit chosen c.in_ok-nodes.ensures.titled are is_chosen;
      counted = record {
        kept = c.numbers.ensures.kept ∙ ap marked_in marks;
        all = c.numbers.ensures.all ∙ ap (length {A = Bool}) marks ∙ marks_long nodes c.args.roots.now c.args.limit chosen is_chosen ∙ c.in_ok-nodes.ensures.titled.long;
      };
    }
