use Rattle.std.proofs.Common.{arith}
use Rattle.load_model.specs.Loading.{sources_of}
use Rattle.layer_conf.specs.Config.{config_meant}
use Rattle.std.proofs.lemmas.Result.{IfErr-weaker}
use Rattle.answer_model.specs.Modes.{environment_of, targets_over}
use Rattle.project_reading.specs.Answered.{IsRefusedAs}
use Rattle.project_reading.proofs.Told.{told_same}
use Rattle.read_modes.proofs.Reading.{with_targets}
use Rattle.read_modes.proofs.modes.environment_of.Goals as goal

pub returns-in_default-clause-err : goal.returns-in_default-clause-err
returns-in_default-clause-err g c =
    let sources = sources_of (g.L.Layers.files c.args.layers.now) in
    let made = config_meant c.args.config in
    let targets = c.args.targets.now in
    IfErr-weaker c.target_values.result (λ status. g.L.Layers.tells → IsRefusedAs status (targets_over sources made targets)) (λ status. g.L.Layers.tells → IsRefusedAs status (environment_of sources made targets))
    (λ status h told. told_same status (environment_of sources made targets) (targets_over sources made targets) (with_targets sources made targets (omega (arith, c.in_default.len_at_least))) (h told))
    c.target_values.ensures.err
