use Rattle.std.proofs.Common.{◌∙◌, arith, refl, subst, sym}
use Rattle.outside_traits.proofs.Calls.{then_same}
use Rattle.outside_traits.proofs.Runs.{passes_none}
use Rattle.outside_traits.specs.Passes.{Same}
use Rattle.outside_traits.specs.Store.{Store}
use Rattle.store_model.specs.Readable.{IsHeld}
use Rattle.store_clean.specs.Steps.{IsNode, IsTitled}
use Rattle.store_clean.proofs.Noded.{nodes_all, nodes_first, nodes_next, row_each}
use Rattle.store_clean.proofs.nodes.read_nodes.Goals as goal

pub loop-place-init : goal.loop-place-init
loop-place-init g c = record {
  faults = refl;
  run = λ told. passes_none (g.D.Disk.story c.args.disk.now) Same (λ i. refl);
  titled = nodes_first IsTitled c.args.index.now c.new-nodes.result.items c.new-nodes.ensures.items;
  nodes = λ told held. nodes_first IsNode c.args.index.now c.new-nodes.result.items c.new-nodes.ensures.items;
}

pub loop-place-preserved : goal.loop-place-preserved
loop-place-preserved g c = record {
  faults = c.in_ok-read_node.ensures.cause.stayed ∙ c.loop-place.invariant.faults;
  run = λ told. then_same (c.loop-place.invariant.run told) (c.read_node.ensures.same told);
  titled = nodes_next IsTitled c.args.index.now c.loop-place.place c.row_at.result.now c.in_ok-read_node.field-0 c.loop-place.nodes.items c.push.new.self.items c.row_at.ensures c.loop-place.invariant.titled c.in_ok-read_node.ensures.titled c.in_ok-push.ensures.items;
  nodes = λ told held.
      nodes_next IsNode c.args.index.now c.loop-place.place c.row_at.result.now c.in_ok-read_node.field-0 c.loop-place.nodes.items c.push.new.self.items c.row_at.ensures (c.loop-place.invariant.nodes told held)
      (c.in_ok-read_node.ensures.node told (subst (λ (h : Store). IsHeld h c.row_at.result.now) (sym (c.loop-place.invariant.run told).held) (row_each (IsHeld (g.D.Disk.story c.args.disk.now).held) c.args.index.now c.loop-place.place c.row_at.result.now held c.row_at.ensures)))
      c.in_ok-push.ensures.items;
}

pub returns-clause-titled : goal.returns-clause-titled
returns-clause-titled g c = nodes_all IsTitled c.args.index.now c.loop-place.place c.loop-place.nodes.items (let e = c.len-place-end.ensures in let t = c.loop-place-test.false in omega (arith, e, t)) c.loop-place.invariant.titled

pub returns-clause-nodes : goal.returns-clause-nodes
returns-clause-nodes g c told held = nodes_all IsNode c.args.index.now c.loop-place.place c.loop-place.nodes.items (let e = c.len-place-end.ensures in let t = c.loop-place-test.false in omega (arith, e, t)) (c.loop-place.invariant.nodes told held)
