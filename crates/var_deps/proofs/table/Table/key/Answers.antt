use Rattle.std.proofs.Common.{◌≡◌, ◌∙◌, ap, sym, subst, [], ◌++◌, ◌||◌, Ok}
use Rattle.std.proofs.lemmas.Result.{IfOk-weaker}
use Rattle.meta_model.specs.declared.value.Key.{Key}
use Rattle.name_walk.specs.Walk.{with_more}
use Rattle.task_model.specs.Leads.{Led, starting, without}
use Rattle.task_model.specs.Keys.{key_over, led_to, lines_of, IsLeast}
use Rattle.var_deps.specs.Kept.{key_behind, task_view}
use Rattle.var_deps.specs.Leaders.{none_other, stays_itself, stays_on, task_led_is}
use Rattle.var_deps.specs.Led.{led_of}
use Rattle.var_deps.proofs.Tabling.{stays_view}
use Rattle.var_deps.proofs.Starting.{start_whole, start_refuses}
use Rattle.var_deps.proofs.Lines.{key_is_made, key_fault}
use Rattle.var_expand.proofs.Expanding.{fault_same}
use Rattle.var_deps.proofs.Passing.{last_fault, out}
use Rattle.var_deps.proofs.table.Table.key.Goals as goal
use Rattle.var_deps.proofs.table.Table.key.Goals.{then-start, else-start}

pub returns-in_err-start-clause-err : goal.returns-in_err-start-clause-err
returns-in_err-start-clause-err c =
    let view = task_view c.args.self.now in
    let fault = c.in_err-start.field-0.0 in
    out c.from_residual.result fault (key_over view) c.from_residual.ensures.1 (start_refuses view fault c.in_err-start.ensures.err)

pub returns-clause-ok : goal.returns-clause-ok
returns-clause-ok c =
    let t = c.args.self.now in
    let view = task_view t in
    let start = led_of c.in_ok-start.start in
    let exports = led_of c.args.exports.now.start in
    let whole : Led = record { names = start.names ++ exports.names; left_out = start.left_out || exports.left_out } in
    let names = with_more c.in_ok-done.done.now c.in_ok-more.more.items in
    let left_out : c.if-start.left_out ≡ whole.left_out = elim c.if-start.branch as (λ _. c.if-start.left_out ≡ whole.left_out) [
      | then-start w ↦ w.left_out-is ∙ w.if-start.true ∙ ap (λ b. b || exports.left_out) (sym w.if-start.true)
      | else-start w ↦ w.left_out-is ∙ ap (λ b. b || exports.left_out) (sym w.if-start.false)
    ] in
    let key : Key = record { lines = []; excluded = c.if-start.left_out } in
    let starts : starting view ≡ Ok whole = start_whole view start exports c.in_ok-start.ensures.ok (c.requires.exports.start ∙ ap (without view.ignored) c.requires.exports.all) in
    let least : IsLeast (led_to view) whole.names names = subst (λ f. IsLeast f whole.names names) (task_led_is t) (c.in_ok-more.ensures.least whole.names c.in_ok-done.ensures) in
    let is : key_over view ≡ key_behind key (lines_of view names) = key_is_made view (none_other t c.requires.ready) whole names starts least ∙ ap (λ b. key_behind (let k : Key = record { lines = []; excluded = b } in k) (lines_of view names)) (sym left_out) in
    let same : key_over view ≡ key_behind key (lines_of (task_view c.reach.new.from) (with_more c.in_ok-done.done.now c.as_slice.result.now)) = is ∙ ap (λ v. key_behind key (lines_of v names)) (sym (stays_view t c.reach.new.from c.in_ok-more.ensures.stays)) ∙ ap (λ n. key_behind key (lines_of (task_view c.reach.new.from) (with_more c.in_ok-done.done.now n))) (sym c.as_slice.ensures.value) in
    IfOk-weaker c.lines.result (λ made. key_behind key (lines_of (task_view c.reach.new.from) (with_more c.in_ok-done.done.now c.as_slice.result.now)) ≡ Ok made) (λ made. key_over view ≡ Ok made) (λ made e. same ∙ e) c.lines.ensures.ok

pub returns-clause-err : goal.returns-clause-err
returns-clause-err c =
    let t = c.args.self.now in
    let view = task_view t in
    let start = led_of c.in_ok-start.start in
    let exports = led_of c.args.exports.now.start in
    let whole : Led = record { names = start.names ++ exports.names; left_out = start.left_out || exports.left_out } in
    let names = with_more c.in_ok-done.done.now c.in_ok-more.more.items in
    let key : Key = record { lines = []; excluded = whole.left_out } in
    let starts : starting view ≡ Ok whole = start_whole view start exports c.in_ok-start.ensures.ok (c.requires.exports.start ∙ ap (without view.ignored) c.requires.exports.all) in
    let least : IsLeast (led_to view) whole.names names = subst (λ f. IsLeast f whole.names names) (task_led_is t) (c.in_ok-more.ensures.least whole.names c.in_ok-done.ensures) in
    let is : key_over view ≡ key_behind key (lines_of view names) = key_is_made view (none_other t c.requires.ready) whole names starts least in
    let told = lines_of (task_view c.reach.new.from) (with_more c.in_ok-done.done.now c.as_slice.result.now) in
    let same : key_over view ≡ key_behind key told = is ∙ ap (λ v. key_behind key (lines_of v names)) (sym (stays_view t c.reach.new.from c.in_ok-more.ensures.stays)) ∙ ap (λ n. key_behind key (lines_of (task_view c.reach.new.from) (with_more c.in_ok-done.done.now n))) (sym c.as_slice.ensures.value) in
    last_fault c.lines.result told (key_over view) (λ fault h. fault_same fault (key_over view) (key_behind key told) same (key_fault fault key told h)) c.lines.ensures.err

pub returns-clause-stays : goal.returns-clause-stays
returns-clause-stays c = stays_on c.args.self.now c.reach.new.from c.lines.new.self c.in_ok-more.ensures.stays c.lines.ensures.stays

pub returns-in_err-start-clause-stays : goal.returns-in_err-start-clause-stays
returns-in_err-start-clause-stays c = stays_itself c.args.self.now

pub lines-requires-clause-done : goal.lines-requires-clause-done
lines-requires-clause-done c = c.in_ok-done.ensures.ordered
