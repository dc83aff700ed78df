use Rattle.load_model.specs.Loading.{sources_of}
use Rattle.layer_conf.specs.Config.{config_meant}
use Rattle.project_reading.proofs.OverDefault.{over_err, over_ok, some_of}
use Rattle.project_reading.proofs.configs.read_named.Goals as goal

pub returns-in-Ok-clause-ok : goal.returns-in-Ok-clause-ok
returns-in-Ok-clause-ok g c told =
    over_ok (sources_of (g.L.Layers.files c.args.layers.now)) c.args.name.now (config_meant c.args.config) c.in-Ok.store
    (some_of c.args.name.now c.is_empty.result c.is_empty.ensures c.if-is_empty.false) (c.in-Ok.ensures.ok told)

pub returns-in-Err-clause-err : goal.returns-in-Err-clause-err
returns-in-Err-clause-err g c told =
    over_err (sources_of (g.L.Layers.files c.args.layers.now)) c.args.name.now (config_meant c.args.config) c.in-Err.status
    (some_of c.args.name.now c.is_empty.result c.is_empty.ensures c.if-is_empty.false) (c.in-Err.ensures.err told)
