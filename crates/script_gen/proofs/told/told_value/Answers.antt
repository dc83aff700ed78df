use Rattle.std.proofs.Common.{sym, ◌∙◌, ap, subst, ℕ, List, Result, Ok}
use Rattle.task_model.specs.TaskRefusal.{TaskRefusal}
use Rattle.script_gen.specs.Faults.{IsScriptFault}
use Rattle.script_gen.specs.Steps.{told_value}
use Rattle.script_gen.proofs.Passing.{out}
use Rattle.script_gen.proofs.told.told_value.Goals as goal

pub returns-in_err-text-clause-err : goal.returns-in_err-text-clause-err
returns-in_err-text-clause-err g c =
    let find = g.L.Lookup.finds c.args.from.now in
    let fault = c.in_err-text.field-0.0 in
    out c.from_residual.result fault (told_value find c.args.name.now) c.from_residual.ensures.1 (subst (λ n. IsScriptFault fault (told_value find n)) c.as_str.ensures c.in_err-text.ensures.err)

pub returns-clause-ok : goal.returns-clause-ok
returns-clause-ok g c =
    let find = g.L.Lookup.finds c.args.from.now in
    let text = c.in_ok-text.text in
    let pair : List ℕ → Result (List ℕ × List ℕ) TaskRefusal = λ n. Ok (n, text) in
    ap (told_value find) (sym c.as_str.ensures) ∙ c.in_ok-text.ensures.ok ∙ ap pair (c.as_str.ensures ∙ sym c.in_ok-copy.ensures)
