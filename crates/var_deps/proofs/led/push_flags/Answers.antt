use Rattle.std.specs.List.{filter_map}
use Rattle.meta_model.specs.Base.{flag}
use Rattle.task_model.specs.Leads.{all_looked_up, read_flags}
use Rattle.var_deps.specs.Seen.{seen_with}
use Rattle.var_deps.specs.Reading.{flag_looked_up}
use Rattle.meta_model.specs.Passing.{behind}
use Rattle.var_deps.proofs.Behind.{one_turn, one_fault, flags_in_turn}
use Rattle.var_deps.proofs.Passing.{out}
use Rattle.var_deps.proofs.led.push_flags.Goals as goal

pub returns-in_err-push_flag-clause-err : goal.returns-in_err-push_flag-clause-err
returns-in_err-push_flag-clause-err c =
    let store = c.args.seen.now.store.now in
    let find = seen_with store c.args.seen.now.task in
    let get = flag store c.args.task.now in
    let fault = c.in_err-push_flag.field-0.0 in
    out c.from_residual.result fault (all_looked_up find (filter_map get read_flags)) c.from_residual.ensures.1
    (one_fault (λ f. flag_looked_up find (get f)) (λ fs. all_looked_up find (filter_map get fs)) (flags_in_turn find get) c.args.list.now.items c.loop-place.list.items read_flags c.loop-place.place c.read_flag.result.now fault (c.read_flag.ensures c.read_flag.result.now) c.loop-place-test.true c.loop-place.invariant c.in_err-push_flag.ensures.err)

pub loop-place-preserved : goal.loop-place-preserved
loop-place-preserved c =
    let store = c.args.seen.now.store.now in
    let find = seen_with store c.args.seen.now.task in
    let get = flag store c.args.task.now in
    one_turn (λ f. flag_looked_up find (get f)) (λ fs. all_looked_up find (filter_map get fs)) (flags_in_turn find get)
    (behind c.args.list.now.items (all_looked_up find (filter_map get read_flags))) c.loop-place.list.items c.push_flag.new.list.items read_flags c.loop-place.place c.read_flag.result.now (c.read_flag.ensures c.read_flag.result.now) c.loop-place-test.true c.loop-place.invariant c.in_ok-push_flag.ensures.ok
