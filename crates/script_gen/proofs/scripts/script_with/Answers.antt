use Rattle.std.proofs.Common.{◌≡◌, ◌∙◌, ap, sym, subst, filter, is_some, codes, IfOk, IfErr, Ok}
use Rattle.meta_model.specs.Base.{flag, names}
use Rattle.task_model.specs.Scripts.{script}
use Rattle.script_gen.specs.Faults.{IsScriptFault}
use Rattle.script_gen.specs.Given.{IsKeyOf}
use Rattle.script_gen.proofs.scripts.script_with.Goals as goal

pub script_in-requires-clause-key : goal.script_in-requires-clause-key
script_in-requires-clause-key c = subst (λ s. IsKeyOf s c.args.task.now c.args.key.now) (sym c.store.ensures) c.requires

pub script_in-requires-clause-exported : goal.script_in-requires-clause-exported
script_in-requires-clause-exported c = c.exported.ensures ∙ ap (λ s. filter (λ n. is_some (flag s n (codes "export"))) (names s)) (sym c.store.ensures)

pub returns-clause-ok : goal.returns-clause-ok
returns-clause-ok c = subst (λ s. IfOk c.script_in.result (λ made. script s c.args.task.now ≡ Ok made)) c.store.ensures c.script_in.ensures.ok

pub returns-clause-err : goal.returns-clause-err
returns-clause-err c = subst (λ s. IfErr c.script_in.result (λ fault. IsScriptFault fault (script s c.args.task.now))) c.store.ensures c.script_in.ensures.err
