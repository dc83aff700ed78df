use Rattle.std.proofs.Common.{◌∙◌, ap}
use Rattle.std.specs.List.{list_any}
use Rattle.target_plan.proofs.OnePart.{is_slash, one_part}
use Rattle.target_plan.proofs.sound_files.is_one_part.Goals as goal

pub returns : goal.returns
returns c = one_part c.args.path.now c.contains.result c.requires (c.contains.ensures.value ∙ ap (list_any is_slash) c.as_bytes.ensures.value)
