use Rattle.std.proofs.Common.{◌≡◌, ◌∙◌, ap, sym, subst, map, option_map, codes, IfOk, IfErr, Ok}
use Rattle.meta_model.specs.Base.{names}
use Rattle.meta_model.specs.Active.{find_in}
use Rattle.task_model.specs.Views.{seen_by}
use Rattle.task_model.specs.TaskRefusal.{◌>>=◌}
use Rattle.task_model.specs.Scripts.{script, store_flags, line_names, told_names}
use Rattle.script_gen.specs.Faults.{IsScriptFault}
use Rattle.script_gen.specs.Frames.{frame_of}
use Rattle.script_gen.specs.Steps.{begun, written}
use Rattle.script_gen.proofs.Passing.{out, fault_on, fault_same}
use Rattle.meta_model.proofs.Passing.{goes_on}
use Rattle.script_gen.proofs.Exports.{exports_told}
use Rattle.script_gen.proofs.Parts.{script_is}
use Rattle.script_gen.proofs.scripts.script_in.Goals as goal

pub returns-in_err-frame-clause-err : goal.returns-in_err-frame-clause-err
returns-in_err-frame-clause-err c =
    let store = c.args.store.now in
    let task = c.args.task.now in
    let find = seen_by task (find_in store) in
    let write = written find (told_names (codes "export") find (names store)) (told_names (codes "func") find (line_names c.args.key.now)) task in
    let fault = c.in_err-frame.field-0.0 in
    out c.from_residual.result fault (script store task) c.from_residual.ensures.1
    (fault_same fault (script store task) (begun find (store_flags store task) task >>= write) (script_is store task c.args.key.now c.requires.key.is) (fault_on fault (begun find (store_flags store task) task) write c.in_err-frame.ensures.err))

pub returns-clause-ok : goal.returns-clause-ok
returns-clause-ok c =
    let store = c.args.store.now in
    let task = c.args.task.now in
    let find = seen_by task (find_in store) in
    let told = told_names (codes "export") find (names store) in
    let functions = told_names (codes "func") find (line_names c.args.key.now) in
    let frame = option_map frame_of c.in_ok-frame.frame in
    let exports : told ≡ c.as_slice.result.now = sym (c.as_slice.ensures.value ∙ c.in_ok-exports.ensures ∙ ap (told_names (codes "export") find) c.requires.exported ∙ exports_told store task) in
    let lines : functions ≡ told_names (codes "func") find (map (λ line. line.name) c.as_slice-lines.result.now) = ap (λ l. told_names (codes "func") find (map (λ line. line.name) l)) (sym c.as_slice-lines.ensures) in
    let same : script store task ≡ written find c.as_slice.result.now (told_names (codes "func") find (map (λ line. line.name) c.as_slice-lines.result.now)) task frame =
    script_is store task c.args.key.now c.requires.key.is ∙ goes_on (begun find (store_flags store task) task) frame (written find told functions task) c.in_ok-frame.ensures.ok
    ∙ ap (λ e. written find e functions task frame) exports ∙ ap (λ f. written find c.as_slice.result.now f task frame) lines in
    subst (λ m. IfOk c.written.result (λ made. m ≡ Ok made)) (sym same) c.written.ensures.ok

pub returns-clause-err : goal.returns-clause-err
returns-clause-err c =
    let store = c.args.store.now in
    let task = c.args.task.now in
    let find = seen_by task (find_in store) in
    let told = told_names (codes "export") find (names store) in
    let functions = told_names (codes "func") find (line_names c.args.key.now) in
    let frame = option_map frame_of c.in_ok-frame.frame in
    let exports : told ≡ c.as_slice.result.now = sym (c.as_slice.ensures.value ∙ c.in_ok-exports.ensures ∙ ap (told_names (codes "export") find) c.requires.exported ∙ exports_told store task) in
    let lines : functions ≡ told_names (codes "func") find (map (λ line. line.name) c.as_slice-lines.result.now) = ap (λ l. told_names (codes "func") find (map (λ line. line.name) l)) (sym c.as_slice-lines.ensures) in
    let same : script store task ≡ written find c.as_slice.result.now (told_names (codes "func") find (map (λ line. line.name) c.as_slice-lines.result.now)) task frame =
    script_is store task c.args.key.now c.requires.key.is ∙ goes_on (begun find (store_flags store task) task) frame (written find told functions task) c.in_ok-frame.ensures.ok
    ∙ ap (λ e. written find e functions task frame) exports ∙ ap (λ f. written find c.as_slice.result.now f task frame) lines in
    subst (λ m. IfErr c.written.result (λ fault. IsScriptFault fault m)) (sym same) c.written.ensures.err
