use Rattle.store_clean.proofs.nodes.read_node.Goals as goal

pub returns-clause-node : goal.returns-clause-node
returns-clause-node g c told held = record { known = held.known; of = c.in_ok-node_of.ensures.is held.known.stored (c.in_ok-stored.ensures.found told held.known.stored held.known.spelled held.held) }
