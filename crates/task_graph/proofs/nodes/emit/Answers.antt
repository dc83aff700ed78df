use Rattle.std.proofs.Common.{◌<◌, arith, length, sym, ap, subst, List, ℕ, All, get_or}
use Rattle.std.proofs.lemmas.List.Elements.{All-weaker}
use Rattle.std.proofs.lemmas.Option.{slice_get-get_or}
use Rattle.task_graph.specs.declared.order.Draft.{Draft}
use Rattle.task_graph.specs.Order.{AreAllPlaces}
use Rattle.task_graph.proofs.Ranked.{drafts_long, place_small}
use Rattle.task_graph.proofs.nodes.emit.Goals as goal

pub ranks_of-requires-clause-few : goal.ranks_of-requires-clause-few
ranks_of-requires-clause-few c =
    let drafts = c.in_ok-drafts.drafts.items in
    omega (arith, drafts_long (length c.deref.result.now) drafts c.in_ok-drafts.ensures.places, ap (length {A = Draft}) c.deref-2.ensures.value, ap (length {A = ℕ}) c.deref.ensures.value, c.requires.small)

pub ranks_of-requires-clause-places : goal.ranks_of-requires-clause-places
ranks_of-requires-clause-places c =
    let drafts = c.in_ok-drafts.drafts.items in
    subst (λ (l : List Draft). AreAllPlaces (length l) l) (sym c.deref-2.ensures.value)
    (subst (λ n. AreAllPlaces n drafts) (sym (drafts_long (length c.deref.result.now) drafts c.in_ok-drafts.ensures.places)) c.in_ok-drafts.ensures.places)

pub ranked-requires : goal.ranked-requires
ranked-requires c =
    let drafts = c.in_ok-drafts.drafts.items in
    let long = drafts_long (length c.deref.result.now) drafts c.in_ok-drafts.ensures.places in
    subst (λ (l : List ℕ). All (λ p. p < length c.deref-3.result.now) l) (sym c.as_slice.ensures)
    (All-weaker (λ p. p < length c.args.reached.now.tasks.items) (λ p. p < length c.deref-3.result.now)
    (λ p lt. omega (arith, lt, long, ap (length {A = ℕ}) c.deref.ensures.value, ap (length {A = Draft}) c.deref-2.ensures.value, ap (length {A = ℕ}) c.deref-3.ensures.value, c.in_ok-ranks.ensures.long)) c.args.reached.now.ends c.requires.ends)

pub nodes_of-requires-clause-ranks : goal.nodes_of-requires-clause-ranks
nodes_of-requires-clause-ranks c =
    let long = drafts_long (length c.deref.result.now) c.in_ok-drafts.drafts.items c.in_ok-drafts.ensures.places in
    omega (arith, long, ap (length {A = ℕ}) c.deref.ensures.value, ap (length {A = Draft}) c.deref-2.ensures.value, ap (length {A = ℕ}) c.deref-4.ensures.value, ap (length {A = List ℕ}) c.deref-5.ensures.value, c.in_ok-ranks.ensures.long, c.requires.long)

pub nodes_of-requires-clause-placed : goal.nodes_of-requires-clause-placed
nodes_of-requires-clause-placed c =
    let drafts = c.in_ok-drafts.drafts.items in
    λ k d lt. omega (arith, place_small (length c.deref.result.now) drafts c.in_ok-drafts.ensures.places k (get_or drafts k d) (slice_get-get_or drafts k d lt), ap (length {A = ℕ}) c.deref.ensures.value, ap (length {A = List ℕ}) c.deref-5.ensures.value, c.requires.long)
