use Rattle.std.proofs.Common.{◌∙◌, ap, ℕ, List, [], Option, unwrap_or, Result, Ok}
use Rattle.meta_model.specs.Expansion.{value_by}
use Rattle.task_model.specs.TaskRefusal.{TaskRefusal, asked}
use Rattle.script_gen.specs.Told.{told_by}
use Rattle.script_gen.specs.Steps.{told_value}
use Rattle.script_gen.proofs.Passing.{out, fault_on, asked_expand}
use Rattle.script_gen.proofs.Parts.{value_told}
use Rattle.script_gen.proofs.told.told_text.Goals as goal

pub returns-in_err-text-clause-err : goal.returns-in_err-text-clause-err
returns-in_err-text-clause-err g c =
    let find = g.L.Lookup.finds c.args.from.now in
    let name = c.args.name.now in
    let fault = c.in_err-text.field-0.0 in
    let told : Option (List ℕ) → Result (List ℕ × List ℕ) TaskRefusal = λ text. Ok (name, unwrap_or text []) in
    out c.from_residual.result (told_by fault) (told_value find name) c.from_residual.ensures.1
    (fault_on (told_by fault) (asked (value_by find name)) told (asked_expand fault (value_by find name) c.in_err-text.ensures.err))

pub returns-clause-ok : goal.returns-clause-ok
returns-clause-ok g c = value_told (g.L.Lookup.finds c.args.from.now) c.args.name.now c.in_ok-text.text c.unwrap_or.result c.in_ok-text.ensures.ok (c.unwrap_or.ensures ∙ ap (unwrap_or c.in_ok-text.text) c.new.ensures)
