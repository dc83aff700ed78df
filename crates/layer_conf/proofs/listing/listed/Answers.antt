use Rattle.std.proofs.Common.{subst, List, ℕ}
use Rattle.std.proofs.lemmas.Result.{IfOk-weaker}
use Rattle.layer_conf.specs.Globs.{IsFound}
use Rattle.layer_conf.proofs.Listed.{covers}
use Rattle.layer_conf.proofs.listing.listed.Goals as goal

pub returns-in-Ok-clause-paths : goal.returns-in-Ok-clause-paths
returns-in-Ok-clause-paths g c =
    let held = g.L.Layers.files c.args.layers.now in
    IfOk-weaker c.listed_by.result _ _
    (λ paths found told. covers c.args.globs.now c.in-Ok.heads.items held paths c.in-Ok.ensures
    (subst (λ (heads : List (List ℕ)). IsFound heads held paths) c.as_slice.ensures.value (found told)))
    c.listed_by.ensures.paths
