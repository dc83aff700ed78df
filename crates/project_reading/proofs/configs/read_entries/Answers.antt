use Rattle.std.proofs.Common.{◌∙◌}
use Rattle.load_model.specs.Loading.{sources_of}
use Rattle.project_reading.proofs.OverDefault.{named_err, named_ok}
use Rattle.project_reading.proofs.configs.read_entries.Goals as goal

pub returns-in-Ok-read_file-clause-ok : goal.returns-in-Ok-read_file-clause-ok
returns-in-Ok-read_file-clause-ok g c told =
    named_ok (sources_of (g.L.Layers.files c.args.layers.now)) c.args.name.now c.as_str.result.now c.args.store c.raw.result c.in-Ok.reading c.in-Ok-read_file.made
    (c.as_str.ensures ∙ c.in-Ok.ensures.path) c.in-Ok.ensures.reading (c.in-Ok-read_file.ensures.ok told) c.raw.ensures

pub returns-in-Ok-clause-err : goal.returns-in-Ok-clause-err
returns-in-Ok-clause-err g c told =
    named_err (sources_of (g.L.Layers.files c.args.layers.now)) c.args.name.now c.as_str.result.now c.args.store c.in-Ok.reading c.in-Err-read_file.status
    (c.as_str.ensures ∙ c.in-Ok.ensures.path) c.in-Ok.ensures.reading (c.in-Err-read_file.ensures.err told)
