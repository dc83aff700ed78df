use Rattle.std.proofs.Common.{◌≡◌, ◌∙◌, sym, ap, ℕ, List, None, length, replicate}
use Rattle.std.specs.Prelude.{Option}
use Rattle.std.proofs.lemmas.List.{length-replicate}
use Rattle.meta_model.specs.declared.event.Avail.{Avail}
use Rattle.std.proofs.Common.{vec_capacity}
use Rattle.tale_model.specs.Fates.{fates_told}
use Rattle.tale_model.specs.declared.fate.Fate.TheVariants.{Waiting}
use Rattle.run_queue.proofs.Beginning.{begins_room, begins_run, begins_state}
use Rattle.run_queue.proofs.state.RunState.begin.Goals as goal

pub invariant_of-result : goal.invariant_of-result
invariant_of-result g c =
    let tasks = c.args.plan.tasks in
    let count : c.len.result ≡ length tasks = c.len.ensures in
    let room = c.in-Ok.ensures in (
      begins_room (vec_capacity c.new-in-Ok.result) (length tasks) c.new-in-Ok.result.items c.new-in-Ok.ensures.items,
      room.0 ∙ ap (λ (n : ℕ). replicate n Waiting) count ∙ sym (ap (fates_told (length tasks)) c.new-in-Ok.ensures.items),
      tt,
      begins_state (g.D.Disk.faults c.args.store.disk) c.args.plan c.args.options c.args.store c.args.sink c.in-Ok.field-0.begun.items c.new.result.items c.new-in-Ok.result.items c.new-in-Ok.ensures.items c.new.ensures.items c.requires.sound c.requires.unharmed c.requires.faultless (ap (λ (l : List (Option Avail)). length l) room.1 ∙ length-replicate c.len.result None ∙ count),
    )

pub returns-in-Ok-clause-run : goal.returns-in-Ok-clause-run
returns-in-Ok-clause-run g c tells o opening may =
    begins_run o c.args.plan c.args.options c.in-Ok.field-0.begun.items c.new.result.items c.args.store.rows c.args.store.kept c.args.store.opened c.new-in-Ok.result.items (g.D.Disk.story c.args.store.disk) (g.W.Sink.written c.args.sink) opening (c.in-Ok.ensures.1 ∙ ap (λ (n : ℕ). replicate n None) c.len.ensures) c.new.ensures.items c.requires.kept c.requires.nothing c.new-in-Ok.ensures.items may
