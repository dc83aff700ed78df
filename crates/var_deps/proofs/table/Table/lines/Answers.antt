use Rattle.std.proofs.Common.{◌≡◌, ap, sym, subst, [], Ok}
use Rattle.meta_model.specs.declared.value.Key.{Key}
use Rattle.var_expand.specs.Faults.{IsFaultOf}
use Rattle.task_model.specs.Keys.{line_of, lines_of}
use Rattle.name_walk.specs.Walk.{with_more}
use Rattle.var_deps.specs.Kept.{key_behind, one_line, task_view}
use Rattle.var_deps.specs.Leaders.{stays_itself, stays_on}
use Rattle.var_deps.proofs.Tabling.{stays_view}
use Rattle.var_deps.proofs.Lines.{lines_turn, lines_fault}
use Rattle.var_deps.proofs.Passing.{out}
use Rattle.var_deps.proofs.table.Table.lines.Goals as goal

pub returns-in_err-push_name-clause-err : goal.returns-in_err-push_name-clause-err
returns-in_err-push_name-clause-err c =
    let view = task_view c.args.self.now in
    let names = with_more c.args.done.now c.args.more.now in
    let start : Key = record { lines = []; excluded = c.args.left_out } in
    let fault = c.in_err-push_name.field-0.0 in
    out c.from_residual.result fault (lines_of view names) c.from_residual.ensures.1
    (lines_fault view start c.loop-name.key names (with_more c.loop-name.one.now c.loop-name.other.now) (with_more c.in-Some.rest.now c.in-Some.others.now) c.in-Some.name.now fault c.in-Some.ensures.names c.loop-name.invariant.lines
    (subst (λ v. IsFaultOf fault (line_of v c.in-Some.name.now)) (stays_view c.args.self.now c.loop-name.self c.loop-name.invariant.stays) c.in_err-push_name.ensures.err))

pub loop-name-preserved : goal.loop-name-preserved
loop-name-preserved c =
    let view = task_view c.args.self.now in
    let names = with_more c.args.done.now c.args.more.now in
    let start : Key = record { lines = []; excluded = c.args.left_out } in
    record {
      ready = c.in_ok-push_name.ensures.ready;
      stays = stays_on c.args.self.now c.loop-name.self c.push_name.new.self c.loop-name.invariant.stays c.in_ok-push_name.ensures.stays;
      one = c.in-Some.ensures.one;
      other = c.in-Some.ensures.other;
      lines = lines_turn view (key_behind start (lines_of view names)) c.loop-name.key c.push_name.new.key (with_more c.loop-name.one.now c.loop-name.other.now) (with_more c.in-Some.rest.now c.in-Some.others.now) c.in-Some.name.now c.in-Some.ensures.names c.loop-name.invariant.lines
          (subst (λ v. key_behind c.loop-name.key (one_line (line_of v c.in-Some.name.now)) ≡ Ok c.push_name.new.key) (stays_view c.args.self.now c.loop-name.self c.loop-name.invariant.stays) c.in_ok-push_name.ensures.ok);
    }

pub loop-name-init : goal.loop-name-init
loop-name-init c = record {
  ready = c.requires.ready;
  stays = stays_itself c.args.self.now;
  one = c.requires.done;
  other = c.requires.more;
  lines = ap (λ l. key_behind (let k : Key = record { lines = l; excluded = c.args.left_out } in k) (lines_of (task_view c.args.self.now) (with_more c.args.done.now c.args.more.now))) (sym c.new.ensures);
}

pub returns-in_err-push_name-clause-stays : goal.returns-in_err-push_name-clause-stays
returns-in_err-push_name-clause-stays c = stays_on c.args.self.now c.loop-name.self c.push_name.new.self c.loop-name.invariant.stays c.in_err-push_name.ensures.stays
