use Rattle.std.proofs.Common.{subst, false}
use Rattle.std.specs.Prelude.{codes}
use Rattle.load_model.specs.Loading.{sources_of, class_entries}
use Rattle.load_model.specs.Recipes.{with_inherit}
use Rattle.class_inherit.specs.Faults.{IsLoadFault}
use Rattle.class_inherit.proofs.Faulting.{fault_behind}
use Rattle.std.proofs.lemmas.Result.{IfErr-weaker}
use Rattle.recipe_set.proofs.loaded.with_classes.Goals as goal

pub returns-in-Ok-clause-err : goal.returns-in-Ok-clause-err
returns-in-Ok-clause-err g c =
    let sources = sources_of (g.L.Layers.files c.args.layers.now) in
    IfErr-weaker c.inherit.result _ _ (λ fault h told. fault_behind fault (class_entries sources false (codes "base") c.args.reading) (with_inherit sources) c.in-Ok.based (c.in-Ok.ensures.ok told)
    (subst (λ f. IsLoadFault fault (with_inherit (sources_of f) c.in-Ok.based)) c.in-Ok.ensures.same (h told))) c.inherit.ensures.err
