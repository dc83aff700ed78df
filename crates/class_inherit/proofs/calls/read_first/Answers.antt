use Rattle.std.proofs.Common.{subst, sym}
use Rattle.outside_traits.specs.Fault.{Counts}
use Rattle.class_inherit.specs.Faults.{where_is}
use Rattle.class_inherit.specs.Reading.{contents_meant, contents_for, sources_for}
use Rattle.class_inherit.proofs.Told.{finished_ok, finished_err}
use Rattle.class_inherit.proofs.Firsts.{first_reads, first_fault}
use Rattle.class_inherit.proofs.calls.read_first.Goals as goal

pub returns-clause-ok : goal.returns-clause-ok
returns-clause-ok g c =
    let sources = sources_for c.args.layer.now (g.L.Layers.files c.args.layers.now) in
    finished_ok c.read_found-done.result c.finished.result c.read_found-done.new.reading _ _ c.finished.ensures.ok c.read_found-done.ensures.ok
    (λ h told. first_reads 32 sources (where_is c.nowhere-place.result) c.args.kind c.args.path.now c.class_of.result.now (contents_for c.args.layer.now (contents_meant c.args.contents)) c.args.reading c.read_found-done.new.reading
    c.nowhere-place.ensures c.class_of.ensures (h told))

pub returns-clause-err : goal.returns-clause-err
returns-clause-err g c =
    let sources = sources_for c.args.layer.now (g.L.Layers.files c.args.layers.now) in
    finished_err c.read_found-done.result c.finished.result _ _ c.finished.ensures.err c.read_found-done.ensures.err
    (λ fault h told. first_fault 32 sources (where_is c.nowhere-place.result) c.args.kind c.args.path.now c.class_of.result.now (contents_for c.args.layer.now (contents_meant c.args.contents)) c.args.reading fault
    c.nowhere-place.ensures c.class_of.ensures (h told))

pub returns-clause-cause : goal.returns-clause-cause
returns-clause-cause g c = subst (Counts (g.L.Layers.faults c.args.layers.now) (g.L.Layers.faults c.read_found-done.new.layers)) (sym c.finished.ensures.failed) c.read_found-done.ensures.cause
