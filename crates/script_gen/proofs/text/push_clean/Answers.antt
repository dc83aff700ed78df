use Rattle.std.proofs.Common.{codes}
use Rattle.task_model.specs.Scripts.{make_line}
use Rattle.std.proofs.lemmas.Result.{on_ok_weaker}
use Rattle.script_gen.proofs.Texts.{four}
use Rattle.script_gen.proofs.text.push_clean.Goals as goal

pub returns : goal.returns
returns c =
    on_ok_weaker c.push_make.result
    (λ e. four c.args.out.now (codes "rm -rf \"") c.args.folder.now (codes "\"\n") (make_line c.args.folder.now) c.push_str.new.self c.push_str-2.new.self c.push_str-3.new.self c.push_make.new.out c.in_ok-push_str.ensures.ok c.in_ok-push_str-2.ensures.ok c.in_ok-push_str-3.ensures.ok e) c.push_make.ensures
