use Rattle.std.proofs.Common.{subst, sym}
use Rattle.store_keep.specs.Keep.{NameEarlier}
use Rattle.store_clean.proofs.Chosen.{names_earlier}
use Rattle.store_clean.proofs.deciding.choose.Goals as goal

pub keep-requires-clause-earlier : goal.keep-requires-clause-earlier
keep-requires-clause-earlier c = subst NameEarlier (sym c.deref.ensures.value) (names_earlier c.args.nodes.now c.in_ok-edges.edges.items c.in_ok-edges.ensures)
