use Rattle.std.proofs.Common.{ap, ◌∙◌, sym, ◌++◌, ℕ, List, filter, take}
use Rattle.meta_model.specs.CleanBuild.{Entries}
use Rattle.meta_model.specs.Layout.{Needed}
use Rattle.task_worker.specs.Work.{if_wanted, is_wanted}
use Rattle.run_model.specs.Layouts.{needed_at, needed_among}
use Rattle.task_worker.proofs.Lists.{wanted_more}
use Rattle.task_worker.proofs.parts.gather.Goals as goal

pub loop-output-preserved : goal.loop-output-preserved
loop-output-preserved c =
    let here = c.output-item.result in
    let front = filter (is_wanted c.args.own c.args.pn.now) (needed_among c.args.tasks.now (take c.loop-output.output-index c.args.outputs.now)) in
    c.in_ok-put_part.ensures
    ∙ ap (λ (l : List Needed). l ++ if_wanted c.args.own c.args.pn.now (needed_at c.args.tasks.now here)) c.loop-output.invariant
    ∙ ap (λ (o : ℕ × Entries). front ++ if_wanted c.args.own c.args.pn.now (needed_at c.args.tasks.now o)) c.output-item.is
    ∙ sym (wanted_more c.args.own c.args.pn.now c.args.tasks.now c.args.outputs.now c.loop-output.output-index here c.loop-output-test.true)
