use Rattle.std.proofs.Common.{◌≡◌, ◌∙◌, sym, arith, ◌+◌, ◌-◌, length, take, drop}
use Rattle.std.proofs.lemmas.Grind.{common_steps}
use Rattle.var_deps.specs.Seen.{seen_with}
use Rattle.var_deps.proofs.Cuts.{run_first, run_last}
use Rattle.var_deps.proofs.Calling.{run_more, run_end}
use Rattle.var_deps.proofs.runs.runs.Goals as goal

pub push_run-requires : goal.push_run-requires
push_run-requires c = run_first c.loop-end.rest.now c.in-Some.end (sym c.in-Some.ensures.first)

pub overflow_add-rest : goal.overflow_add-rest
overflow_add-rest c = omega (arith, c.in-Some.ensures.room)

pub loop-end-preserved : goal.loop-end-preserved
loop-end-preserved c =
    let rest = c.loop-end.rest.now in
    let i = c.in-Some.end in
    let after : take (length rest - (i + 1)) (drop (i + 1) rest) ≡ drop (i + 1) rest = grind (arith, common_steps) in
    run_more (seen_with c.args.seen.now.store.now c.args.seen.now.task) rest (take (length rest - (i + 1)) (drop (i + 1) rest)) c.loop-end.list c.push_run.new.list i c.in-Some.ensures.first after c.in_ok-push_run.ensures ∙ c.loop-end.invariant

pub push_run-requires-2 : goal.push_run-requires-2
push_run-requires-2 c = run_last c.loop-end.rest.now (sym c.in_default.ensures.first)

pub returns : goal.returns
returns c =
    run_end (seen_with c.args.seen.now.store.now c.args.seen.now.task) c.loop-end.rest.now c.loop-end.list c.push_run-2.new.list c.in_default.ensures.first c.in_ok-push_run-2.ensures ∙ c.loop-end.invariant
