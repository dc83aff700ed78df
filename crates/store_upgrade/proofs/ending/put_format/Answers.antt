use Rattle.std.proofs.Common.{subst, Option}
use Rattle.std.specs.Prelude.{codes}
use Rattle.tree_model.specs.declared.entry.Entry.{Entry}
use Rattle.outside_traits.specs.Passes.{Passes}
use Rattle.outside_traits.specs.Store.{Moves}
use Rattle.outside_traits.proofs.Calls.{then_same}
use Rattle.store_upgrade.proofs.ending.put_format.Goals as goal

pub returns-clause-moves : goal.returns-clause-moves
returns-clause-moves g c told =
    then_same (subst (λ (x : Option Entry). Passes (g.D.Disk.story c.args.disk.now) (g.D.Disk.story c.put_staged.new.disk) (Moves (codes "tmp/format") (codes "format") x)) (c.requires.staged told) (c.put_staged.ensures.moves told)) (c.sync.ensures.same told)
