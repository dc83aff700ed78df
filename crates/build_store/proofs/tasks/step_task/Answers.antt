use Rattle.build_store.specs.OpenOnes.{items_of, progress_of}
use Rattle.build_store.specs.View.{signed_as}
use Rattle.build_store.proofs.Drafted.{File}
use Rattle.build_store.proofs.TaskRuns.{kept_still, own_done, own_entries, own_file, own_on, own_run}
use Rattle.build_store.proofs.tasks.step_task.Goals as goal

pub go_on-requires-clause-on : goal.go_on-requires-clause-on
go_on-requires-clause-on g c told =
    let s = signed_as c.args.shared c.args.task.now c.args.sig.now in
    let o = c.args.one.now in
    (File c.args.index.now s o.tree, own_on c.args.index.now s o.tree o c.requires.of (progress_of o) (g.D.Disk.story c.args.disk.now) (c.requires.on told))

pub returns-clause-on : goal.returns-clause-on
returns-clause-on g c told =
    let s = signed_as c.args.shared c.args.task.now c.args.sig.now in
    let o = c.args.one.now in
    let a = g.D.Disk.story c.args.disk.now in
    own_done c.args.index.now s o.tree o c.requires.of _ (items_of o) (g.D.Disk.story c.go_on.new.disk)
    (c.in_ok-go_on.ensures.on told (File c.args.index.now s o.tree) (own_file c.args.index.now s o.tree o c.requires.of a (g.met.D.Disk.sound c.args.disk.now told) (c.requires.keeps told) (c.requires.key told)) (own_on c.args.index.now s o.tree o c.requires.of (progress_of o) a (c.requires.on told)))

pub returns-clause-publishing : goal.returns-clause-publishing
returns-clause-publishing g c told =
    let s = signed_as c.args.shared c.args.task.now c.args.sig.now in
    let o = c.args.one.now in
    let a = g.D.Disk.story c.args.disk.now in
    own_run c.args.index.now s o.tree o c.requires.of a (g.D.Disk.story c.go_on.new.disk) (c.go_on.ensures.publishing told (File c.args.index.now s o.tree) (own_on c.args.index.now s o.tree o c.requires.of (progress_of o) a (c.requires.on told)))

pub returns-in_err-go_on-clause-publishing : goal.returns-in_err-go_on-clause-publishing
returns-in_err-go_on-clause-publishing g c told =
    let s = signed_as c.args.shared c.args.task.now c.args.sig.now in
    let o = c.args.one.now in
    let a = g.D.Disk.story c.args.disk.now in
    own_run c.args.index.now s o.tree o c.requires.of a (g.D.Disk.story c.go_on.new.disk) (c.go_on.ensures.publishing told (File c.args.index.now s o.tree) (own_on c.args.index.now s o.tree o c.requires.of (progress_of o) a (c.requires.on told)))

pub returns-clause-keeps : goal.returns-clause-keeps
returns-clause-keeps g c told =
    let s = signed_as c.args.shared c.args.task.now c.args.sig.now in
    let o = c.args.one.now in
    let a = g.D.Disk.story c.args.disk.now in
    let run = own_run c.args.index.now s o.tree o c.requires.of a (g.D.Disk.story c.go_on.new.disk) (c.go_on.ensures.publishing told (File c.args.index.now s o.tree) (own_on c.args.index.now s o.tree o c.requires.of (progress_of o) a (c.requires.on told))) in
    kept_still c.args.index.now s o.tree c.requires.rows a (g.D.Disk.story c.go_on.new.disk) (c.requires.keeps told) run (c.go_on.ensures.laid_out told)

pub returns-in_err-go_on-clause-keeps : goal.returns-in_err-go_on-clause-keeps
returns-in_err-go_on-clause-keeps g c told =
    let s = signed_as c.args.shared c.args.task.now c.args.sig.now in
    let o = c.args.one.now in
    let a = g.D.Disk.story c.args.disk.now in
    let run = own_run c.args.index.now s o.tree o c.requires.of a (g.D.Disk.story c.go_on.new.disk) (c.go_on.ensures.publishing told (File c.args.index.now s o.tree) (own_on c.args.index.now s o.tree o c.requires.of (progress_of o) a (c.requires.on told))) in
    kept_still c.args.index.now s o.tree c.requires.rows a (g.D.Disk.story c.go_on.new.disk) (c.requires.keeps told) run (c.go_on.ensures.laid_out told)

pub returns-clause-entries : goal.returns-clause-entries
returns-clause-entries g c told =
    let s = signed_as c.args.shared c.args.task.now c.args.sig.now in
    let o = c.args.one.now in
    let a = g.D.Disk.story c.args.disk.now in
    own_entries c.args.index.now s o.tree o c.requires.of a (g.D.Disk.story c.go_on.new.disk) (c.go_on.ensures.keeps told (File c.args.index.now s o.tree) (own_on c.args.index.now s o.tree o c.requires.of (progress_of o) a (c.requires.on told)))

pub returns-in_err-go_on-clause-entries : goal.returns-in_err-go_on-clause-entries
returns-in_err-go_on-clause-entries g c told =
    let s = signed_as c.args.shared c.args.task.now c.args.sig.now in
    let o = c.args.one.now in
    let a = g.D.Disk.story c.args.disk.now in
    own_entries c.args.index.now s o.tree o c.requires.of a (g.D.Disk.story c.go_on.new.disk) (c.go_on.ensures.keeps told (File c.args.index.now s o.tree) (own_on c.args.index.now s o.tree o c.requires.of (progress_of o) a (c.requires.on told)))
