use Rattle.std.proofs.Common.{◌≡◌, ◌∙◌, ap}
use Rattle.meta_model.specs.Text.{is_in}
use Rattle.task_model.specs.Keys.{key, key_over}
use Rattle.var_deps.specs.OfStore.{IsOfStore}
use Rattle.var_deps.specs.Kept.{task_view}
use Rattle.var_deps.proofs.Faults.{out_told}
use Rattle.var_deps.proofs.Stores.{still_of_store, key_of_table}
use Rattle.var_deps.proofs.keys.StoreKeys.key.Goals as goal

pub invariant_of-self : goal.invariant_of-self
invariant_of-self c = still_of_store c.self.inside.table c.turn_to.new.self c.self.inside.exports c.self.inside.sstate c.self.invariant c.turn_to.ensures.right c.turn_to.ensures.store c.turn_to.ensures.ignored

pub invariant_of-self-in_err-key : goal.invariant_of-self-in_err-key
invariant_of-self-in_err-key c =
    still_of_store c.self.inside.table c.key.new.self c.self.inside.exports c.self.inside.sstate c.self.invariant c.key.ensures.ready.right (c.key.ensures.stays.shared.store ∙ c.turn_to.ensures.store) (c.key.ensures.stays.shared.ignored ∙ c.turn_to.ensures.ignored)

pub invariant_of-self-2 : goal.invariant_of-self-2
invariant_of-self-2 c =
    still_of_store c.self.inside.table c.key.new.self c.self.inside.exports c.self.inside.sstate c.self.invariant c.key.ensures.ready.right (c.key.ensures.stays.shared.store ∙ c.turn_to.ensures.store) (c.key.ensures.stays.shared.ignored ∙ c.turn_to.ensures.ignored)

pub returns-in_err-key-clause-same : goal.returns-in_err-key-clause-same
returns-in_err-key-clause-same c = c.key.ensures.stays.shared.store ∙ c.turn_to.ensures.store ∙ c.self.view_is

pub returns-clause-same : goal.returns-clause-same
returns-clause-same c = c.key.ensures.stays.shared.store ∙ c.turn_to.ensures.store ∙ c.self.view_is

pub returns-clause-ok : goal.returns-clause-ok
returns-clause-ok c =
    let t = c.turn_to.new.self in
    let is : IsOfStore t c.self.inside.exports c.self.inside.sstate = still_of_store c.self.inside.table t c.self.inside.exports c.self.inside.sstate c.self.invariant c.turn_to.ensures.right c.turn_to.ensures.store c.turn_to.ensures.ignored in
    let same : key c.args.self.now c.args.task.now ≡ key_over (task_view t) = key_of_table t c.args.self.now c.args.task.now c.self.inside.exports c.self.inside.sstate is c.in_ok-turn_to.ensures.ready (c.turn_to.ensures.store ∙ c.self.view_is) c.in_ok-turn_to.ensures.task (c.in_ok-turn_to.ensures.sstate ∙ c.is_among-sstate.ensures ∙ ap (is_in c.args.task.now) c.as_slice.ensures) in
    same ∙ c.in_ok-key.ensures.ok

pub returns-in_err-key-clause-err : goal.returns-in_err-key-clause-err
returns-in_err-key-clause-err c =
    let t = c.turn_to.new.self in
    let is : IsOfStore t c.self.inside.exports c.self.inside.sstate = still_of_store c.self.inside.table t c.self.inside.exports c.self.inside.sstate c.self.invariant c.turn_to.ensures.right c.turn_to.ensures.store c.turn_to.ensures.ignored in
    let same : key c.args.self.now c.args.task.now ≡ key_over (task_view t) = key_of_table t c.args.self.now c.args.task.now c.self.inside.exports c.self.inside.sstate is c.in_ok-turn_to.ensures.ready (c.turn_to.ensures.store ∙ c.self.view_is) c.in_ok-turn_to.ensures.task (c.in_ok-turn_to.ensures.sstate ∙ c.is_among-sstate.ensures ∙ ap (is_in c.args.task.now) c.as_slice.ensures) in
    out_told c.from_residual-in_err-key.result c.in_err-key.field-0.0 (key_over (task_view t)) (key c.args.self.now c.args.task.now) c.from_residual-in_err-key.ensures.1 same c.in_err-key.ensures.err
