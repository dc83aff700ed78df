use Rattle.std.proofs.Common.{sym, false}
use Rattle.var_deps.specs.Known.{read_line}
use Rattle.var_deps.specs.Kept.{shared_view}
use Rattle.var_deps.proofs.Tabling.{itself, line_kept}
use Rattle.var_deps.proofs.table.Shared.push_name.Goals as goal

pub returns-in-Some-clause-ok : goal.returns-in-Some-clause-ok
returns-in-Some-clause-ok c =
    let old = c.args.self.now in
    let name = c.args.name.now in
    c.push_line.ensures.ok (read_line (shared_view old) false name) (line_kept old old name c.as_str.result.now c.in-Some.known.now c.requires (itself old) (sym c.in-Some.ensures.value) c.as_str.ensures)

pub returns-in-Some-clause-err : goal.returns-in-Some-clause-err
returns-in-Some-clause-err c =
    let old = c.args.self.now in
    let name = c.args.name.now in
    c.push_line.ensures.err (read_line (shared_view old) false name) (line_kept old old name c.as_str.result.now c.in-Some.known.now c.requires (itself old) (sym c.in-Some.ensures.value) c.as_str.ensures)

pub returns-in-Some-get-clause-ok : goal.returns-in-Some-get-clause-ok
returns-in-Some-get-clause-ok c =
    let old = c.args.self.now in
    let name = c.args.name.now in
    c.push_line-in-Some-get.ensures.ok (read_line (shared_view old) false name) (line_kept old c.learn.new.self name c.as_str-3.result.now c.in-Some-get.known.now c.learn.ensures.right c.learn.ensures.same (sym c.in-Some-get.ensures.value) c.as_str-3.ensures)

pub returns-in-Some-get-clause-err : goal.returns-in-Some-get-clause-err
returns-in-Some-get-clause-err c =
    let old = c.args.self.now in
    let name = c.args.name.now in
    c.push_line-in-Some-get.ensures.err (read_line (shared_view old) false name) (line_kept old c.learn.new.self name c.as_str-3.result.now c.in-Some-get.known.now c.learn.ensures.right c.learn.ensures.same (sym c.in-Some-get.ensures.value) c.as_str-3.ensures)
