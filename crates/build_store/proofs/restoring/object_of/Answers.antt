use Rattle.build_store.proofs.Restored.{short_matching}
use Rattle.store_model.specs.Available.{object_folder}
use Rattle.build_store.proofs.restoring.object_of.Goals as goal

pub returns-in-Some-clause-found : goal.returns-in-Some-clause-found
returns-in-Some-clause-found g c told =
    short_matching (object_folder c.args.row.now.unihash) c.args.row.now.manifest (g.D.Disk.story c.args.disk.now).held c.in-Some.tree c.short_only.result
    (rw c.in-Some.is at (c.in_ok-tree.ensures.found told)) c.requires c.short_only.ensures.some c.short_only.ensures.none
