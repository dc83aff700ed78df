use Rattle.std.proofs.Common.{◌∙◌, ap, sym, subst}
use Rattle.outside_traits.specs.Fault.{Counts}
use Rattle.load_model.specs.Loading.{sources_of}
use Rattle.load_model.specs.Recipes.{appended}
use Rattle.class_inherit.specs.Faults.{IsLoadFault, is_read}
use Rattle.recipe_set.proofs.Loads.{one_append, appends_go_on, appends_fault}
use Rattle.recipe_set.proofs.loaded.with_appends.Goals as goal

pub returns-in-Err-clause-err : goal.returns-in-Err-clause-err
returns-in-Err-clause-err g c = λ told.
    let sources = sources_of (g.L.Layers.files c.args.layers.now) in
    let appends = c.args.appends.now in
    let append = c.append-item.result in
    let fault = c.in-Err.fault in
    appends_fault sources appends c.loop-append.append-index append c.loop-append.reading (appended sources appends c.args.first) fault c.append-item.is c.loop-append-test.true (c.loop-append.invariant.read told)
    (subst (λ f. IsLoadFault fault (one_append (sources_of f) append c.loop-append.reading)) c.loop-append.invariant.same
    (subst (λ a. IsLoadFault fault (one_append (sources_of (g.L.Layers.files c.loop-append.layers)) a c.loop-append.reading)) c.as_str.ensures (c.in-Err.ensures.err told)))

pub returns-in-Err-clause-cause : goal.returns-in-Err-clause-cause
returns-in-Err-clause-cause g c = subst (λ n. Counts n (g.L.Layers.faults c.with_append.new.layers) (is_read c.in-Err.fault.kind)) c.loop-append.invariant.faults c.in-Err.ensures.cause

pub loop-append-preserved : goal.loop-append-preserved
loop-append-preserved g c =
    let sources = sources_of (g.L.Layers.files c.args.layers.now) in
    let appends = c.args.appends.now in
    let append = c.append-item.result in
    let inv = c.loop-append.invariant in
    record {
      same = c.in-Ok.ensures.same ∙ inv.same;
      faults = c.in-Ok.ensures.cause.stayed ∙ inv.faults;
      read = λ told. appends_go_on sources appends c.loop-append.append-index append c.loop-append.reading c.in-Ok.next (appended sources appends c.args.first) c.append-item.is c.loop-append-test.true (inv.read told)
          (ap (λ f. one_append (sources_of f) append c.loop-append.reading) (sym inv.same)
          ∙ ap (λ a. one_append (sources_of (g.L.Layers.files c.loop-append.layers)) a c.loop-append.reading) (sym c.as_str.ensures) ∙ c.in-Ok.ensures.ok told);
    }
