use Rattle.std.proofs.Common.{◌≡◌, subst, sym, true, Ok}
use Rattle.outside_traits.specs.Fault.{Counts}
use Rattle.load_model.specs.Loading.{sources_of, read_first, classes_after}
use Rattle.class_inherit.specs.Faults.{IsLoadFault}
use Rattle.class_inherit.proofs.Told.{finished_ok, finished_err}
use Rattle.class_inherit.proofs.calls.read_inherited.Goals as goal

pub returns-clause-ok : goal.returns-clause-ok
returns-clause-ok g c =
    let sources = sources_of (g.L.Layers.files c.args.layers.now) in
    finished_ok c.inherit_words-done.result c.finished.result c.inherit_words-done.new.reading _ _ c.finished.ensures.ok c.inherit_words-done.ensures.ok
    (λ h told. subst (λ place. classes_after (read_first sources) sources place true c.args.names.now c.args.reading ≡ Ok c.inherit_words-done.new.reading) c.nowhere-place.ensures (h told))

pub returns-clause-err : goal.returns-clause-err
returns-clause-err g c =
    let sources = sources_of (g.L.Layers.files c.args.layers.now) in
    finished_err c.inherit_words-done.result c.finished.result _ _ c.finished.ensures.err c.inherit_words-done.ensures.err
    (λ fault h told. subst (λ place. IsLoadFault fault (classes_after (read_first sources) sources place true c.args.names.now c.args.reading)) c.nowhere-place.ensures (h told))

pub returns-clause-cause : goal.returns-clause-cause
returns-clause-cause g c = subst (Counts (g.L.Layers.faults c.args.layers.now) (g.L.Layers.faults c.inherit_words-done.new.layers)) (sym c.finished.ensures.failed) c.inherit_words-done.ensures.cause
