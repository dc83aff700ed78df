use Rattle.std.proofs.Common.{◌≡◌, List, arith, length, subst}
use Rattle.tree_model.specs.declared.hash.Hash.{Hash}
use Rattle.store_clean.specs.Steps.{ArePlaces, node_names}
use Rattle.store_clean.proofs.Tabled.{edges_all, edges_first, edges_next}
use Rattle.store_clean.proofs.edges.edges_of.Goals as goal

pub loop-own-init : goal.loop-own-init
loop-own-init c = edges_first c.args.nodes.now c.in_ok-edges.edges.items c.in_ok-edges.ensures.items

pub loop-own-preserved : goal.loop-own-preserved
loop-own-preserved c =
    edges_next c.args.nodes.now c.loop-own.own c.index-nodes-own.result c.in_ok-earlier_places.field-0 c.loop-own.edges.items c.push.new.self.items c.loop-own-test.true c.index-nodes-own.is c.loop-own.invariant c.in_ok-push.ensures.items
    (subst (λ (needs : List Hash). ArePlaces (node_names c.args.nodes.now) c.loop-own.own needs c.in_ok-earlier_places.field-0) c.as_slice.ensures (c.in_ok-earlier_places.ensures (node_names c.args.nodes.now) c.requires))

pub returns : goal.returns
returns c = let all : c.loop-own.own ≡ length c.args.nodes.now = omega arith in edges_all c.args.nodes.now c.loop-own.own c.loop-own.edges.items all c.loop-own.invariant
