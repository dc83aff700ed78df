use Rattle.std.proofs.Common.{◌∙◌, sym, subst}
use Rattle.build_store.specs.Drafts.{file_of}
use Rattle.build_store.specs.OpenOnes.{put_by}
use Rattle.build_store.specs.Phases.{AddsStaged}
use Rattle.build_store.proofs.EndingRuns.{kept_file, kept_now, staged_file, staged_now}
use Rattle.build_store.proofs.ending.stage_ending.Goals as goal

pub returns-then-is_some-clause-at : goal.returns-then-is_some-clause-at
returns-then-is_some-clause-at g c told = λ f file half.
    let o = c.args.one.now in
    staged_now (put_by o f) (file_of o.new) half (c.stage_files.ensures.others told) (c.in_ok-stage_files.ensures.stamp told) (c.take_ticket.ensures.same told) (g.met.D.Disk.sound c.args.disk.now told) c.in_ok-ticket.ticket (c.in_ok-ticket.ensures.ticket told)
    (staged_file o.name o.new o.sig (g.D.Disk.story c.args.disk.now).held (g.D.Disk.story c.stage_files.new.disk).held f (sym c.is_some.ensures ∙ c.if-is_some.true) (c.in_ok-stage_files.ensures.staged told) file) file.key

pub returns-else-is_some-clause-at : goal.returns-else-is_some-clause-at
returns-else-is_some-clause-at g c told = λ f file half.
    let o = c.args.one.now in
    kept_now (put_by o f) (file_of o.new) half (c.stage_files.ensures.others told) (c.in_ok-stage_files.ensures.stamp told) (c.take_ticket.ensures.same told) (g.met.D.Disk.sound c.args.disk.now told) c.in_ok-ticket.ticket (c.in_ok-ticket.ensures.ticket told)
    (kept_file o.name o.new o.sig (g.D.Disk.story c.args.disk.now).held f (sym c.is_some.ensures ∙ c.if-is_some.false) file) file.key

pub returns-then-is_some-clause-adds : goal.returns-then-is_some-clause-adds
returns-then-is_some-clause-adds g c told =
    subst (AddsStaged c.args.one.now.folder c.args.one.now.name (file_of c.args.one.now.new) (g.D.Disk.story c.args.disk.now).held) (sym (c.take_ticket.ensures.same told).held) (c.stage_files.ensures.others told).held

pub returns-else-is_some-clause-adds : goal.returns-else-is_some-clause-adds
returns-else-is_some-clause-adds g c told =
    subst (AddsStaged c.args.one.now.folder c.args.one.now.name (file_of c.args.one.now.new) (g.D.Disk.story c.args.disk.now).held) (sym (c.take_ticket.ensures.same told).held) (c.stage_files.ensures.others told).held
