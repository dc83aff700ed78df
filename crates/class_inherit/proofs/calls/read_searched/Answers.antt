use Rattle.std.proofs.Common.{ap}
use Rattle.std.specs.Option.{option_map}
use Rattle.std.proofs.lemmas.Result.{IfOk-weaker}
use Rattle.load_model.specs.Loading.{sources_of}
use Rattle.class_inherit.specs.Reading.{contents_meant, found_meant}
use Rattle.class_inherit.proofs.Told.{if_err}
use Rattle.class_inherit.proofs.Firsts.{found_reads, found_fault}
use Rattle.class_inherit.proofs.calls.read_searched.Goals as goal

pub returns-in-Some-clause-ok : goal.returns-in-Some-clause-ok
returns-in-Some-clause-ok g c =
    IfOk-weaker c.read_first.result _ _
    (λ made h told. found_reads (sources_of (g.L.Layers.files c.args.layers.now)) c.args.kind c.args.must c.args.path.now c.in-Some.found.path c.as_str-path.result.now (contents_meant c.in-Some.found.contents) (option_map found_meant c.args.found) c.args.reading made
    (ap (option_map found_meant) c.in-Some.is) c.as_str-path.ensures (h told))
    c.read_first.ensures.ok

pub returns-in-Some-clause-err : goal.returns-in-Some-clause-err
returns-in-Some-clause-err g c =
    if_err c.read_first.result _ _
    (λ fault h told. found_fault (sources_of (g.L.Layers.files c.args.layers.now)) c.args.kind c.args.must c.args.path.now c.in-Some.found.path c.as_str-path.result.now (contents_meant c.in-Some.found.contents) (option_map found_meant c.args.found) c.args.reading fault
    (ap (option_map found_meant) c.in-Some.is) c.as_str-path.ensures (h told))
    c.read_first.ensures.err
