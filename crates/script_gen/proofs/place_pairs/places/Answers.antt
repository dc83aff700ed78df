use Rattle.std.proofs.Common.{◌≡◌, sym, subst, IfOk, IfErr, Ok}
use Rattle.meta_model.specs.Active.{find_in}
use Rattle.task_model.specs.Views.{seen_by}
use Rattle.task_model.specs.Scripts.{store_flags}
use Rattle.script_gen.specs.Faults.{IsScriptFault}
use Rattle.script_gen.proofs.Parts.{places_steps}
use Rattle.script_gen.proofs.place_pairs.places.Goals as goal

pub returns-clause-ok : goal.returns-clause-ok
returns-clause-ok c = subst (λ m. IfOk c.placed.result (λ made. m ≡ Ok made)) (sym (places_steps (seen_by c.args.task.now (find_in c.args.store.now)) (store_flags c.args.store.now c.args.task.now))) c.placed.ensures.ok

pub returns-clause-err : goal.returns-clause-err
returns-clause-err c = subst (λ m. IfErr c.placed.result (λ fault. IsScriptFault fault m)) (sym (places_steps (seen_by c.args.task.now (find_in c.args.store.now)) (store_flags c.args.store.now c.args.task.now))) c.placed.ensures.err
