use Rattle.std.proofs.Common.{◌≡◌, sym, subst, IfOk, IfErr, Ok}
use Rattle.script_gen.specs.Faults.{IsScriptFault}
use Rattle.script_gen.proofs.Parts.{places_by}
use Rattle.script_gen.proofs.place_pairs.places_of.Goals as goal

pub returns-clause-ok : goal.returns-clause-ok
returns-clause-ok c =
    let from = c.in_ok-from.from in
    subst (λ m. IfOk c.placed.result (λ made. m ≡ Ok made)) (sym (places_by c.args.key.now from.lines.now c.args.task.now from.task.now c.in_ok-from.ensures.lines c.in_ok-from.ensures.task)) c.placed.ensures.ok

pub returns-clause-err : goal.returns-clause-err
returns-clause-err c =
    let from = c.in_ok-from.from in
    subst (λ m. IfErr c.placed.result (λ fault. IsScriptFault fault m)) (sym (places_by c.args.key.now from.lines.now c.args.task.now from.task.now c.in_ok-from.ensures.lines c.in_ok-from.ensures.task)) c.placed.ensures.err
