use Rattle.std.proofs.Common.{subst, sym}
use Rattle.std.proofs.lemmas.Result.{on_ok_weaker}
use Rattle.outside_traits.proofs.Calls.{same_so}
use Rattle.outside_traits.proofs.Runs.{passes_again, passes_none, passes_so}
use Rattle.store_clean.specs.Steps.{SweepsAll, SweepsLeft}
use Rattle.store_clean.proofs.Swept.{left_all, sweeps_gone, sweeps_join, sweeps_keys, sweeps_objects, sweeps_same}
use Rattle.store_clean.proofs.sweeping.sweep.Goals as goal

pub returns-in_err-objects-clause-sweeps : goal.returns-in_err-objects-clause-sweeps
returns-in_err-objects-clause-sweeps g c told = passes_none (g.D.Disk.story c.args.disk.now) (SweepsAll c.args.nodes.now c.args.marks.now) (sweeps_same c.args.nodes.now c.args.marks.now)

pub returns-in_err-keys-clause-sweeps : goal.returns-in_err-keys-clause-sweeps
returns-in_err-keys-clause-sweeps g c told = passes_none (g.D.Disk.story c.args.disk.now) (SweepsAll c.args.nodes.now c.args.marks.now) (sweeps_same c.args.nodes.now c.args.marks.now)

pub returns-in_err-sweep_under-clause-sweeps : goal.returns-in_err-sweep_under-clause-sweeps
returns-in_err-sweep_under-clause-sweeps g c told = passes_so (SweepsAll c.args.nodes.now c.args.marks.now) (c.sweep_under.ensures.sweeps told) (sweeps_objects c.args.nodes.now c.args.marks.now c.in_ok-objects.objects.entries c.in_ok-objects.ensures)

pub returns-in_err-sweep_under-2-clause-sweeps : goal.returns-in_err-sweep_under-2-clause-sweeps
returns-in_err-sweep_under-2-clause-sweeps g c told =
    passes_again (sweeps_join c.args.nodes.now c.args.marks.now) (passes_so (SweepsAll c.args.nodes.now c.args.marks.now) (c.sweep_under.ensures.sweeps told) (sweeps_objects c.args.nodes.now c.args.marks.now c.in_ok-objects.objects.entries c.in_ok-objects.ensures))
    (passes_so (SweepsAll c.args.nodes.now c.args.marks.now) (c.sweep_under-2.ensures.sweeps told) (sweeps_keys c.args.nodes.now c.args.marks.now c.in_ok-keys.keys.entries c.in_ok-keys.ensures))

pub returns-in_err-remove-clause-sweeps : goal.returns-in_err-remove-clause-sweeps
returns-in_err-remove-clause-sweeps g c told =
    passes_again (sweeps_join c.args.nodes.now c.args.marks.now)
    (passes_again (sweeps_join c.args.nodes.now c.args.marks.now) (passes_so (SweepsAll c.args.nodes.now c.args.marks.now) (c.sweep_under.ensures.sweeps told) (sweeps_objects c.args.nodes.now c.args.marks.now c.in_ok-objects.objects.entries c.in_ok-objects.ensures))
    (passes_so (SweepsAll c.args.nodes.now c.args.marks.now) (c.sweep_under-2.ensures.sweeps told) (sweeps_keys c.args.nodes.now c.args.marks.now c.in_ok-keys.keys.entries c.in_ok-keys.ensures)))
    (passes_so (SweepsAll c.args.nodes.now c.args.marks.now) (c.remove.ensures.changes told) (sweeps_gone c.args.nodes.now c.args.marks.now))

pub returns-clause-sweeps : goal.returns-clause-sweeps
returns-clause-sweeps g c told =
    passes_again (sweeps_join c.args.nodes.now c.args.marks.now)
    (passes_again (sweeps_join c.args.nodes.now c.args.marks.now)
    (passes_again (sweeps_join c.args.nodes.now c.args.marks.now) (passes_so (SweepsAll c.args.nodes.now c.args.marks.now) (c.sweep_under.ensures.sweeps told) (sweeps_objects c.args.nodes.now c.args.marks.now c.in_ok-objects.objects.entries c.in_ok-objects.ensures))
    (passes_so (SweepsAll c.args.nodes.now c.args.marks.now) (c.sweep_under-2.ensures.sweeps told) (sweeps_keys c.args.nodes.now c.args.marks.now c.in_ok-keys.keys.entries c.in_ok-keys.ensures)))
    (passes_so (SweepsAll c.args.nodes.now c.args.marks.now) (c.remove.ensures.changes told) (sweeps_gone c.args.nodes.now c.args.marks.now)))
    (same_so (SweepsAll c.args.nodes.now c.args.marks.now) (sweeps_same c.args.nodes.now c.args.marks.now) (c.sync.ensures.same told))

pub returns-clause-left : goal.returns-clause-left
returns-clause-left g c told =
    let left : SweepsLeft c.args.nodes.now c.args.marks.now (g.D.Disk.story c.remove.new.disk).held =
    left_all c.args.nodes.now c.args.marks.now c.in_ok-objects.objects.entries c.in_ok-keys.keys.entries c.in_ok-objects.ensures c.in_ok-keys.ensures (g.D.Disk.story c.sweep_under.new.disk).held (g.D.Disk.story c.sweep_under-2.new.disk).held (g.D.Disk.story c.remove.new.disk).held
    (c.in_ok-sweep_under.ensures.left told) (c.sweep_under-2.ensures.sweeps told).held (c.in_ok-sweep_under-2.ensures.left told) (c.remove.ensures.changes told).held (c.in_ok-remove.ensures.gone told) in
    on_ok_weaker c.sync.result (λ durable. subst (SweepsLeft c.args.nodes.now c.args.marks.now) (sym (c.sync.ensures.same told).held) left) (c.sync.ensures.durable told)
