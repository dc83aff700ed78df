use Rattle.std.proofs.Common.{◌≡◌, ◌∙◌, sym, subst, ℕ, ◌+◌, List, Some, slice_get, take, get_or}
use Rattle.std.specs.List.{AllZip}
use Rattle.std.proofs.lemmas.List.{get_or_default, take_all}
use Rattle.graph_walk.proofs.Finding.{found_more, places_more}
use Rattle.graph_walk.proofs.frontier.Frontier.add_all.Goals as goal

pub loop-node-preserved : goal.loop-node-preserved
loop-node-preserved c =
    let node : ℕ = get_or c.args.nodes.now c.loop-node.node-index 0 in
    let is : node ≡ get_or c.args.nodes.now c.loop-node.node-index node = get_or_default c.args.nodes.now c.loop-node.node-index 0 node c.loop-node-test.true in
    record {
      frontier = c.in_ok-place.ensures.frontier;
      found = found_more c.args.self.now.found.items c.args.nodes.now c.loop-node.node-index node c.loop-node.self.found.items c.add.new.self.found.items c.loop-node-test.true is c.loop-node.invariant.found c.in_ok-place.ensures.found;
      places = subst (λ (xs : List ℕ). AllZip (λ n p. slice_get c.add.new.self.found.items p ≡ Some n) (take (c.loop-node.node-index + 1) c.args.nodes.now) xs) (sym c.in_ok-push.ensures.items)
          (places_more c.args.nodes.now c.loop-node.node-index node c.in_ok-place.place c.loop-node.self.found.items c.add.new.self.found.items c.loop-node.places.items c.loop-node-test.true is c.in_ok-place.ensures.found c.in_ok-place.ensures.place c.loop-node.invariant.places);
      count = c.in_ok-place.ensures.count ∙ c.loop-node.invariant.count;
      room = c.in_ok-place.ensures.room ∙ c.loop-node.invariant.room;
    }

pub returns : goal.returns
returns c =
    let all : take c.loop-node.node-index c.args.nodes.now ≡ c.args.nodes.now = take_all c.loop-node.node-index c.args.nodes.now c.loop-node-test.false in
    rw all at c.loop-node.invariant
