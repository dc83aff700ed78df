use Rattle.std.proofs.Common.{◌∙◌, ap, sym, subst}
use Rattle.load_model.specs.LoadRefusal.{◌>>=◌}
use Rattle.load_model.specs.Loading.{sources_of}
use Rattle.class_inherit.specs.Faults.{IsLoadFault}
use Rattle.class_inherit.proofs.Faulting.{fault_on, fault_behind, fault_same}
use Rattle.meta_model.proofs.Passing.{goes_on}
use Rattle.std.proofs.lemmas.Result.{IfErr-weaker, IfOk-weaker}
use Rattle.load_model.specs.Recipes.{classes_read, files_read}
use Rattle.recipe_set.proofs.loaded.loaded.Goals as goal

pub returns-in-Ok-with_classes-clause-ok : goal.returns-in-Ok-with_classes-clause-ok
returns-in-Ok-with_classes-clause-ok g c =
    let sources = sources_of (g.L.Layers.files c.args.layers.now) in
    let path = c.args.path.now in
    let appends = c.args.appends.now in
    IfOk-weaker c.with_files.result _ _ (λ made h told.
    ap (λ start. classes_read sources start >>= files_read sources path appends) (sym c.in-Ok.ensures)
    ∙ goes_on (classes_read sources c.in-Ok.start) c.in-Ok-with_classes.inherited (files_read sources path appends) (c.in-Ok-with_classes.ensures.ok told)
    ∙ ap (λ f. files_read (sources_of f) path appends c.in-Ok-with_classes.inherited) (sym c.in-Ok-with_classes.ensures.same) ∙ h told) c.with_files.ensures.ok

pub returns-in-Ok-with_classes-clause-err : goal.returns-in-Ok-with_classes-clause-err
returns-in-Ok-with_classes-clause-err g c =
    let sources = sources_of (g.L.Layers.files c.args.layers.now) in
    let path = c.args.path.now in
    let appends = c.args.appends.now in
    IfErr-weaker c.with_files.result _ _ (λ fault h told.
    fault_same fault _ (classes_read sources c.in-Ok.start >>= files_read sources path appends) (ap (λ start. classes_read sources start >>= files_read sources path appends) (sym c.in-Ok.ensures))
    (fault_behind fault (classes_read sources c.in-Ok.start) (files_read sources path appends) c.in-Ok-with_classes.inherited (c.in-Ok-with_classes.ensures.ok told)
    (subst (λ f. IsLoadFault fault (files_read (sources_of f) path appends c.in-Ok-with_classes.inherited)) c.in-Ok-with_classes.ensures.same (h told)))) c.with_files.ensures.err

pub returns-in-Err-with_classes-clause-err : goal.returns-in-Err-with_classes-clause-err
returns-in-Err-with_classes-clause-err g c = λ told.
    let sources = sources_of (g.L.Layers.files c.args.layers.now) in
    let path = c.args.path.now in
    let appends = c.args.appends.now in
    fault_same c.in-Err-with_classes.fault _ (classes_read sources c.in-Ok.start >>= files_read sources path appends) (ap (λ start. classes_read sources start >>= files_read sources path appends) (sym c.in-Ok.ensures))
    (fault_on c.in-Err-with_classes.fault (classes_read sources c.in-Ok.start) (files_read sources path appends) (c.in-Err-with_classes.ensures.err told))
