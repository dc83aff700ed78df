use Rattle.std.proofs.Common.{◌≡◌, refl, ◌∙◌, ap, sym, false, true, bytes_eq}
use Rattle.task_model.specs.Keys.{line_of}
use Rattle.var_deps.specs.Known.{read_line}
use Rattle.var_deps.specs.Kept.{key_behind, one_line, task_view}
use Rattle.var_deps.specs.Leaders.{stays_itself}
use Rattle.var_deps.proofs.Tabling.{own_line, other_line, ready_still}
use Rattle.var_expand.proofs.Expanding.{fault_same}
use Rattle.var_deps.proofs.Passing.{last_ok, last_fault}
use Rattle.var_deps.proofs.table.Table.push_name.Goals as goal

pub returns-then-eq-clause-ok : goal.returns-then-eq-clause-ok
returns-then-eq-clause-ok c =
    let view = task_view c.args.self.now in
    let name = c.args.name.now in
    let own : bytes_eq name view.task ≡ true = ap (λ n. bytes_eq n view.task) (sym c.as_str.ensures) ∙ ap (bytes_eq c.as_str.result.now) (sym c.as_str-2.ensures) ∙ sym c.if-eq.ensures in
    c.push_line.ensures.ok (line_of view name) (own_line view name c.args.self.now.own.line own c.requires.own.line)

pub returns-then-eq-clause-err : goal.returns-then-eq-clause-err
returns-then-eq-clause-err c =
    let view = task_view c.args.self.now in
    let name = c.args.name.now in
    let own : bytes_eq name view.task ≡ true = ap (λ n. bytes_eq n view.task) (sym c.as_str.ensures) ∙ ap (bytes_eq c.as_str.result.now) (sym c.as_str-2.ensures) ∙ sym c.if-eq.ensures in
    c.push_line.ensures.err (line_of view name) (own_line view name c.args.self.now.own.line own c.requires.own.line)

pub returns-clause-ready : goal.returns-clause-ready
returns-clause-ready c = ready_still c.args.self.now c.push_name.new.self c.requires c.push_name.ensures.right c.push_name.ensures.same

pub returns-clause-ok : goal.returns-clause-ok
returns-clause-ok c =
    let view = task_view c.args.self.now in
    let name = c.args.name.now in
    let other : bytes_eq name view.task ≡ false = ap (λ n. bytes_eq n view.task) (sym c.as_str.ensures) ∙ ap (bytes_eq c.as_str.result.now) (sym c.as_str-2.ensures) ∙ sym c.if-eq.ensures in
    last_ok c.push_name.result (key_behind c.args.key.now (one_line (read_line view false name))) (key_behind c.args.key.now (one_line (line_of view name))) c.push_name.new.key
    (ap (λ m. key_behind c.args.key.now (one_line m)) (sym (other_line view name other))) c.push_name.ensures.ok

pub returns-clause-err : goal.returns-clause-err
returns-clause-err c =
    let view = task_view c.args.self.now in
    let name = c.args.name.now in
    let other : bytes_eq name view.task ≡ false = ap (λ n. bytes_eq n view.task) (sym c.as_str.ensures) ∙ ap (bytes_eq c.as_str.result.now) (sym c.as_str-2.ensures) ∙ sym c.if-eq.ensures in
    last_fault c.push_name.result (read_line view false name) (line_of view name) (λ fault h. fault_same fault (line_of view name) (read_line view false name) (sym (other_line view name other)) h) c.push_name.ensures.err

pub returns-then-eq-clause-stays : goal.returns-then-eq-clause-stays
returns-then-eq-clause-stays c = stays_itself c.args.self.now

pub returns-clause-stays : goal.returns-clause-stays
returns-clause-stays c = record { shared = c.push_name.ensures.same; task = refl; sstate = refl }
