use Rattle.std.proofs.Common.{[], false, codes, ◌++◌, Ok}
use Rattle.meta_model.specs.Refusal.{◌>>=◌}
use Rattle.task_model.specs.Leads.{by_value, by_flags, flag_words}
use Rattle.var_deps.specs.Reading.{view_by, all_led}
use Rattle.meta_model.specs.Passing.{behind}
use Rattle.var_deps.proofs.Behind.{behind_three, fault_then}
use Rattle.var_expand.proofs.Expanding.{fault_on}
use Rattle.var_deps.proofs.Passing.{last_fault, last_ok, out}
use Rattle.var_deps.proofs.led.push_led.Goals as goal

pub returns-in_err-push_by_flags-clause-err : goal.returns-in_err-push_by_flags-clause-err
returns-in_err-push_by_flags-clause-err c =
    let view = view_by c.args.seen.now.store.now c.args.seen.now.task [] false c.args.name.now in
    let name = c.args.name.now in
    let fault = c.in_err-push_by_flags.field-0.0 in
    let value = by_value view name c.args.found.now in
    let flags = by_flags view c.args.own in
    let deps = flag_words view name (codes "vardeps") in
    out c.from_residual-in_err-push_by_flags.result fault (all_led view c.args.own name c.args.found.now) c.from_residual-in_err-push_by_flags.ensures.1
    (fault_then fault c.args.list.now.items c.push_by_value.new.list.items value (λ a. flags >>= λ b. deps >>= λ d. Ok (a ++ (b ++ d))) c.in_ok-push_by_value.ensures.ok
    (λ a. fault_on fault flags (λ b. deps >>= λ d. Ok (a ++ (b ++ d))) c.in_err-push_by_flags.ensures.err))

pub returns-clause-ok : goal.returns-clause-ok
returns-clause-ok c =
    let view = view_by c.args.seen.now.store.now c.args.seen.now.task [] false c.args.name.now in
    let name = c.args.name.now in
    let deps = flag_words view name (codes "vardeps") in
    last_ok c.push_words.result (behind c.push_by_flags.new.list.items deps) (behind c.args.list.now.items (all_led view c.args.own name c.args.found.now)) c.push_words.new.list.items
    (behind_three c.args.list.now.items c.push_by_value.new.list.items c.push_by_flags.new.list.items (by_value view name c.args.found.now) (by_flags view c.args.own) deps c.in_ok-push_by_value.ensures.ok c.in_ok-push_by_flags.ensures.ok) c.push_words.ensures.ok

pub returns-clause-err : goal.returns-clause-err
returns-clause-err c =
    let view = view_by c.args.seen.now.store.now c.args.seen.now.task [] false c.args.name.now in
    let name = c.args.name.now in
    let value = by_value view name c.args.found.now in
    let flags = by_flags view c.args.own in
    let deps = flag_words view name (codes "vardeps") in
    last_fault c.push_words.result deps (all_led view c.args.own name c.args.found.now) (λ fault h. fault_then fault c.args.list.now.items c.push_by_value.new.list.items value (λ a. flags >>= λ b. deps >>= λ d. Ok (a ++ (b ++ d))) c.in_ok-push_by_value.ensures.ok
    (λ a. fault_then fault c.push_by_value.new.list.items c.push_by_flags.new.list.items flags (λ b. deps >>= λ d. Ok (a ++ (b ++ d))) c.in_ok-push_by_flags.ensures.ok (λ b. fault_on fault deps (λ d. Ok (a ++ (b ++ d))) h))) c.push_words.ensures.err
