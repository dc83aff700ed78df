use Rattle.std.proofs.Common.{arith}
use Rattle.store_clean.proofs.Tabled.{place_below, root_marked}
use Rattle.store_clean.proofs.deciding.mark_root.Goals as goal

pub index_mut-requires : goal.index_mut-requires
index_mut-requires c = let below = place_below c.args.nodes.now c.args.table.now.entries c.args.root.now c.in-Some.place c.requires.table c.in-Some.ensures in let long = c.requires.long in omega (arith, below, long)

pub returns-in-Some : goal.returns-in-Some
returns-in-Some c = root_marked c.args.nodes.now c.args.table.now.entries c.args.root.now c.in-Some.place c.args.marks.now.items c.requires.table c.in-Some.ensures c.requires.long
