use Rattle.std.proofs.Common.{◌∙◌, ap, [], None, ◌++◌}
use Rattle.task_model.specs.Keys.{kept_flag, kept_flags, told_flags}
use Rattle.var_deps.specs.Known.{told_at}
use Rattle.var_deps.specs.Reading.{view_by}
use Rattle.var_deps.proofs.Loops.{flags_turn}
use Rattle.var_deps.proofs.line.task_flags.Goals as goal

pub loop-place-preserved : goal.loop-place-preserved
loop-place-preserved c =
    let get = kept_flag (view_by c.args.store.now None [] c.args.sstate c.args.task.now) c.args.valued in
    flags_turn get (told_flags get kept_flags) c.loop-place.list c.push_flag.new.list kept_flags c.loop-place.place c.kept_name-which.result.now (c.kept_name-which.ensures c.kept_name-which.result.now) c.loop-place-test.true c.loop-place.invariant
    (c.in_ok-push_flag.ensures ∙ ap (λ text. c.loop-place.list ++ told_at c.kept_name-which.result.now text) c.kept_text.ensures)
