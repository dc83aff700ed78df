use Rattle.std.proofs.Common.{◌∙◌, ap, ◌++◌}
use Rattle.task_model.specs.Scripts.{clean_lines}
use Rattle.script_gen.proofs.Texts.{flat_next}
use Rattle.script_gen.proofs.text.push_cleans.Goals as goal

pub loop-folder-preserved : goal.loop-folder-preserved
loop-folder-preserved c =
    flat_next clean_lines c.args.folders.now c.loop-folder.folder-index c.folder-item.result c.args.out.now c.loop-folder.out c.push_clean.new.out c.loop-folder-test.true c.folder-item.is c.loop-folder.invariant
    (c.in_ok-push_clean.ensures ∙ ap (λ t. c.loop-folder.out ++ clean_lines t) c.as_str.ensures)
