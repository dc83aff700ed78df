use Rattle.std.proofs.Common.{◌≡◌, ◌∙◌, subst, List, ℕ, Some, None}
use Rattle.outside_traits.specs.Reading.{IsReading}
use Rattle.meta_model.specs.CleanBuild.{output_limit}
use Rattle.store_model.specs.Available.{work_folder}
use Rattle.build_store.proofs.Limits.{read_none}
use Rattle.build_store.proofs.finding.output.Goals as goal

pub returns-in-Some-clause-found : goal.returns-in-Some-clause-found
returns-in-Some-clause-found g c told =
    let is : c.as_str.result.now ≡ work_folder c.args.task.now = c.as_str.ensures ∙ c.in_ok-work.ensures in
    c.short_enough.ensures.output (work_folder c.args.task.now) (g.D.Disk.story c.args.disk.now).held
    (subst (λ (p : List ℕ). IsReading p output_limit (g.D.Disk.story c.args.disk.now).held (Some c.in-Some.tree)) is (rw c.in-Some.is at (c.in_ok-tree.ensures.found told)))

pub returns-clause-found : goal.returns-clause-found
returns-clause-found g c told =
    let is : c.as_str.result.now ≡ work_folder c.args.task.now = c.as_str.ensures ∙ c.in_ok-work.ensures in
    read_none (work_folder c.args.task.now) (g.D.Disk.story c.args.disk.now).held
    (subst (λ (p : List ℕ). IsReading p output_limit (g.D.Disk.story c.args.disk.now).held None) is (rw c.in-None.is at (c.in_ok-tree.ensures.found told)))
