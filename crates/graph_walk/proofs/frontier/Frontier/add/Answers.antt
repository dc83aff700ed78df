use Rattle.std.proofs.Common.{◌∙◌}
use Rattle.graph_walk.proofs.Finding.{known, unknown, put, number_read, slice_last}
use Rattle.graph_walk.proofs.frontier.Frontier.add.Goals as goal

pub returns-in-Some-clause-found : goal.returns-in-Some-clause-found
returns-in-Some-clause-found c =
    known c.args.self.now.found.items c.args.self.now.numbers.items c.requires.frontier c.args.node c.in-Some.place (number_read c.args.self.now.numbers.items c.args.node c.index.result.now c.requires.within c.index.ensures ∙ c.in-Some.is)

pub returns-clause-frontier : goal.returns-clause-frontier
returns-clause-frontier c =
    rw (c.in_ok-push.ensures.items, c.len-place.ensures ∙ c.args.self.now.found.ok.0)
    (put c.args.self.now.found.items c.args.self.now.numbers.items c.requires.frontier c.args.node c.requires.within (number_read c.args.self.now.numbers.items c.args.node c.index.result.now c.requires.within c.index.ensures ∙ c.in_default.is))

pub returns-clause-found : goal.returns-clause-found
returns-clause-found c = c.in_ok-push.ensures.items ∙
    unknown c.args.self.now.found.items c.args.self.now.numbers.items c.requires.frontier c.args.node (number_read c.args.self.now.numbers.items c.args.node c.index.result.now c.requires.within c.index.ensures ∙ c.in_default.is)

pub returns-clause-place : goal.returns-clause-place
returns-clause-place c = rw (c.in_ok-push.ensures.items, c.len-place.ensures ∙ c.args.self.now.found.ok.0) (slice_last c.args.self.now.found.items c.args.node)
