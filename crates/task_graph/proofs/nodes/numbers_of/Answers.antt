use Rattle.std.proofs.Common.{◌∙◌, nat_eq}
use Rattle.std.proofs.lemmas.List.Filters.{dedup_is}
use Rattle.task_graph.proofs.Ranked.{numbers_are}
use Rattle.task_graph.proofs.nodes.numbers_of.Goals as goal

pub returns : goal.returns
returns c =
    numbers_are c.args.ranks.now c.args.places.now c.in_ok-numbers.numbers.items c.sort_unstable.new.self.items c.from_vec.result c.requires c.in_ok-numbers.ensures c.sort_unstable.ensures.permutation c.sort_unstable.ensures.sorted
    (c.from_vec.ensures ∙ dedup_is nat_eq c.sort_unstable.new.self.items c.dedup.new.self.items c.dedup.ensures.filtered)
