use Rattle.std.proofs.Common.{◌≡◌, ◌∙◌, ap, sym, subst, map, option_map, codes, IfOk, IfErr, Ok}
use Rattle.task_model.specs.Views.{seen_by}
use Rattle.task_model.specs.TaskRefusal.{◌>>=◌}
use Rattle.task_model.specs.Scripts.{find_at, script_of, line_names, told_names}
use Rattle.script_gen.specs.Faults.{IsScriptFault}
use Rattle.script_gen.specs.Frames.{frame_of}
use Rattle.script_gen.specs.Steps.{begun, written}
use Rattle.script_gen.proofs.Passing.{out, fault_on, fault_same}
use Rattle.meta_model.proofs.Passing.{goes_on}
use Rattle.script_gen.proofs.Parts.{lines_flags, script_by}
use Rattle.script_gen.proofs.scripts.script_of.Goals as goal

pub returns-in_err-frame-clause-err : goal.returns-in_err-frame-clause-err
returns-in_err-frame-clause-err c =
    let from = c.in_ok-from.from in
    let task = c.args.task.now in
    let lines = from.lines.now in
    let find = seen_by from.task.now (find_at lines) in
    let flags = lines_flags lines from.task.now in
    let told = told_names (codes "export") find (line_names c.args.key.now) in
    let functions = told_names (codes "func") find (line_names c.args.key.now) in
    let fault = c.in_err-frame.field-0.0 in
    out c.from_residual-in_err-frame.result fault (script_of c.args.key.now task) c.from_residual-in_err-frame.ensures.1
    (fault_same fault (script_of c.args.key.now task) (begun find flags task >>= written find told functions task) (script_by c.args.key.now lines task from.task.now c.in_ok-from.ensures.lines c.in_ok-from.ensures.task) (fault_on fault (begun find flags task) (written find told functions task) c.in_err-frame.ensures.err))

pub returns-clause-ok : goal.returns-clause-ok
returns-clause-ok c =
    let from = c.in_ok-from.from in
    let task = c.args.task.now in
    let lines = from.lines.now in
    let find = seen_by from.task.now (find_at lines) in
    let flags = lines_flags lines from.task.now in
    let told = told_names (codes "export") find (line_names c.args.key.now) in
    let functions = told_names (codes "func") find (line_names c.args.key.now) in
    let frame = option_map frame_of c.in_ok-frame.frame in
    let given = c.as_slice-lines.result.now in
    let exports : told ≡ c.as_slice.result.now = sym (c.as_slice.ensures.value ∙ c.in_ok-exports.ensures ∙ ap (λ l. told_names (codes "export") find (map (λ line. line.name) l)) c.as_slice-lines.ensures) in
    let named : functions ≡ told_names (codes "func") find (map (λ line. line.name) given) = ap (λ l. told_names (codes "func") find (map (λ line. line.name) l)) (sym c.as_slice-lines.ensures) in
    let same : script_of c.args.key.now task ≡ written find c.as_slice.result.now (told_names (codes "func") find (map (λ line. line.name) given)) task frame =
    script_by c.args.key.now lines task from.task.now c.in_ok-from.ensures.lines c.in_ok-from.ensures.task ∙ goes_on (begun find flags task) frame (written find told functions task) c.in_ok-frame.ensures.ok
    ∙ ap (λ e. written find e functions task frame) exports ∙ ap (λ f. written find c.as_slice.result.now f task frame) named in
    subst (λ m. IfOk c.written.result (λ made. m ≡ Ok made)) (sym same) c.written.ensures.ok

pub returns-clause-err : goal.returns-clause-err
returns-clause-err c =
    let from = c.in_ok-from.from in
    let task = c.args.task.now in
    let lines = from.lines.now in
    let find = seen_by from.task.now (find_at lines) in
    let flags = lines_flags lines from.task.now in
    let told = told_names (codes "export") find (line_names c.args.key.now) in
    let functions = told_names (codes "func") find (line_names c.args.key.now) in
    let frame = option_map frame_of c.in_ok-frame.frame in
    let given = c.as_slice-lines.result.now in
    let exports : told ≡ c.as_slice.result.now = sym (c.as_slice.ensures.value ∙ c.in_ok-exports.ensures ∙ ap (λ l. told_names (codes "export") find (map (λ line. line.name) l)) c.as_slice-lines.ensures) in
    let named : functions ≡ told_names (codes "func") find (map (λ line. line.name) given) = ap (λ l. told_names (codes "func") find (map (λ line. line.name) l)) (sym c.as_slice-lines.ensures) in
    let same : script_of c.args.key.now task ≡ written find c.as_slice.result.now (told_names (codes "func") find (map (λ line. line.name) given)) task frame =
    script_by c.args.key.now lines task from.task.now c.in_ok-from.ensures.lines c.in_ok-from.ensures.task ∙ goes_on (begun find flags task) frame (written find told functions task) c.in_ok-frame.ensures.ok
    ∙ ap (λ e. written find e functions task frame) exports ∙ ap (λ f. written find c.as_slice.result.now f task frame) named in
    subst (λ m. IfErr c.written.result (λ fault. IsScriptFault fault m)) (sym same) c.written.ensures.err
