-- What a request asks for (own rule).
use Rattle.std.specs.Prelude.{Bool, true, false, ◌&&◌, ◌==◌, length, if◌then◌else◌}
use Rattle.std.specs.Option.{option_map_or}
use Rattle.answer_model.specs.declared.request.Mode.{Mode}
use Rattle.answer_model.specs.declared.request.Mode.TheVariants.{Sample, Parse, Versions, Environment, Dry, Run}
use Rattle.answer_model.specs.declared.request.Request.{Request}

-- the first of the modes that were asked for, in this order; where none was, a run
abbrev pub mode_of : Request → Mode
mode_of request = option_map_or Sample request.sample
    (if request.parse_only then Parse
    else (if request.show then Versions
    else (if request.env then Environment
    else (if request.dry then Dry
    else Run))))

-- a run and its plan say nothing without a target
abbrev pub needs_target : Mode → Bool
needs_target Dry = true
needs_target Run = true
needs_target _ = false

-- the request needs a target and has none
abbrev pub lacks_target : Request → Bool
lacks_target request = needs_target (mode_of request) && (length request.targets == 0)
