use Rattle.std.proofs.Common.{◌≡◌, arith, drop, length}
use Rattle.std.proofs.lemmas.Result.{IfOk-weaker}
use Rattle.build_store.specs.OpenOnes.{items_of, put_by}
use Rattle.build_store.proofs.GoingRuns.{ending_keeps, finishes_publish, none_left}
use Rattle.build_store.proofs.Sweeps.{if_ok_adds, staging_sweeps, works_sweeps}
use Rattle.build_store.proofs.going.work_on.Goals as goal

pub returns-then-done-count_items-clause-on : goal.returns-then-done-count_items-clause-on
returns-then-done-count_items-clause-on g c told = λ f file. c.in_ok-step.ensures.half told f

pub returns-clause-on : goal.returns-clause-on
returns-clause-on g c told =
    let suits = c.requires.suits in
    let all : c.args.done ≡ length (items_of c.args.one.now) = omega (arith, suits) in
    IfOk-weaker c.stage_ending.result _ _ (λ next at. λ f file. at f file (none_left (put_by c.args.one.now f) (items_of c.args.one.now) c.args.done (g.D.Disk.story c.args.disk.now) all (c.requires.on told f))) (c.stage_ending.ensures.at told)

pub returns-clause-publishing : goal.returns-clause-publishing
returns-clause-publishing g c told = λ f.
    finishes_publish (put_by c.args.one.now f) (g.met.D.Disk.sound c.args.disk.now told) (c.requires.on told f).unstamped (c.stage_ending.ensures.finishes told f)

pub returns-then-done-count_items-clause-swept : goal.returns-then-done-count_items-clause-swept
returns-then-done-count_items-clause-swept g c told =
    works_sweeps c.args.one.now c.args.done c.in_ok-step.field-0 (g.D.Disk.story c.args.disk.now).held (g.D.Disk.story c.step.new.disk).held (drop c.args.done (items_of c.args.one.now)) (λ f. (c.requires.on told f).items) (c.step.ensures.works told).held

pub returns-clause-swept : goal.returns-clause-swept
returns-clause-swept g c told =
    if_ok_adds c.stage_ending.result _ _ _ c.stage_ending.ensures.suits (c.stage_ending.ensures.adds told)
    (λ next is adds. staging_sweeps c.args.one.now c.args.done next (g.D.Disk.story c.args.disk.now).held (g.D.Disk.story c.stage_ending.new.disk).held is adds)

pub returns-clause-keeps : goal.returns-clause-keeps
returns-clause-keeps g c told = λ f. ending_keeps (put_by c.args.one.now f) (c.stage_ending.ensures.finishes told f)
