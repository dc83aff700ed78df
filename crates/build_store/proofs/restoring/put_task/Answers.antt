use Rattle.std.proofs.Common.{◌≡◌, ◌∙◌, sym, subst, None, List, ℕ}
use Rattle.outside_traits.specs.Passes.{EachNow, Passes}
use Rattle.build_store.specs.Phases.{put_of}
use Rattle.build_store.specs.Publication.{IsPublished, Publishes}
use Rattle.stamp_store.specs.Stamp.{IsFolder}
use Rattle.store_model.specs.Available.{task_folder}
use Rattle.outside_traits.specs.Store.{slashes}
use Rattle.store_opening.proofs.Clean.{folder_is, folder_slashes}
use Rattle.build_store.proofs.restoring.put_task.Goals as goal

pub put-requires-clause-folder : goal.put-requires-clause-folder
put-requires-clause-folder g c =
    let is : c.as_str.result.now ≡ task_folder c.args.task.now = c.as_str.ensures ∙ c.in_ok-folder.ensures in
    subst IsFolder (sym is) (folder_is c.args.task.now c.requires.place)

pub put-requires-clause-parts : goal.put-requires-clause-parts
put-requires-clause-parts g c =
    let is : c.as_str.result.now ≡ task_folder c.args.task.now = c.as_str.ensures ∙ c.in_ok-folder.ensures in
    subst (λ (l : List ℕ). slashes l ≡ 1) (sym is) (folder_slashes c.args.task.now c.requires.place)

pub returns-in-Ok-clause-published : goal.returns-in-Ok-clause-published
returns-in-Ok-clause-published g c told f at text has =
    let is : c.as_str.result.now ≡ task_folder c.args.task.now = c.as_str.ensures ∙ c.in_ok-folder.ensures in
    subst (λ (l : List ℕ). EachNow (g.D.Disk.story c.put.new.disk) (IsPublished (put_of l c.args.name.now c.args.tree.now None None f text))) is (c.in-Ok.ensures.published told f at text has)

pub returns-in-Ok-clause-others : goal.returns-in-Ok-clause-others
returns-in-Ok-clause-others g c told f at text has =
    let is : c.as_str.result.now ≡ task_folder c.args.task.now = c.as_str.ensures ∙ c.in_ok-folder.ensures in
    subst (λ (l : List ℕ). Passes (g.D.Disk.story c.args.disk.now) (g.D.Disk.story c.put.new.disk) (Publishes (put_of l c.args.name.now c.args.tree.now None None f text))) is (c.put.ensures.others told f at text has)

pub returns-in-Err-Failed-clause-others : goal.returns-in-Err-Failed-clause-others
returns-in-Err-Failed-clause-others g c told f at text has =
    let is : c.as_str.result.now ≡ task_folder c.args.task.now = c.as_str.ensures ∙ c.in_ok-folder.ensures in
    subst (λ (l : List ℕ). Passes (g.D.Disk.story c.args.disk.now) (g.D.Disk.story c.put.new.disk) (Publishes (put_of l c.args.name.now c.args.tree.now None None f text))) is (c.put.ensures.others told f at text has)

pub returns-clause-others : goal.returns-clause-others
returns-clause-others g c told f at text has =
    let is : c.as_str.result.now ≡ task_folder c.args.task.now = c.as_str.ensures ∙ c.in_ok-folder.ensures in
    subst (λ (l : List ℕ). Passes (g.D.Disk.story c.args.disk.now) (g.D.Disk.story c.put.new.disk) (Publishes (put_of l c.args.name.now c.args.tree.now None None f text))) is (c.put.ensures.others told f at text has)
