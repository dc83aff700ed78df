use Rattle.std.proofs.Common.{◌≡◌, ◌∙◌, ◌≤◌, ◌<◌, ◌+◌, refl, sym, arith}
use Rattle.build_store.specs.OpenOnes.{put_by}
use Rattle.build_store.proofs.StepLoop.{step_laid, step_publishes, stepping_fails, stepping_more, stepping_start, stepping_works}
use Rattle.build_store.proofs.StepRuns.{keeps_then}
use Rattle.build_store.proofs.working.step.Goals as goal

pub loop-item-init : goal.loop-item-init
loop-item-init g c = record { faults = refl; brief = λ told. omega arith; stepping = λ told. stepping_start c.args.one.now c.args.done (g.D.Disk.story c.args.disk.now) (c.requires.half told) }

pub do_item-requires-clause-half : goal.do_item-requires-clause-half
do_item-requires-clause-half g c told = (c.loop-item.invariant.stepping told).half

pub loop-item-preserved : goal.loop-item-preserved
loop-item-preserved g c = record {
  faults = c.in_ok-do_item.ensures.cause.stayed ∙ c.loop-item.invariant.faults;
  brief = λ told. omega (arith, c.loop-item.invariant.brief told, c.do_item.ensures.brief told);
  stepping = λ told. stepping_more c.args.one.now c.args.done c.loop-item.item (g.D.Disk.story c.args.disk.now) (g.D.Disk.story c.loop-item.disk) (g.D.Disk.story c.do_item.new.disk) (c.loop-item.invariant.stepping told) (c.do_item.ensures.works told) (c.in_ok-do_item.ensures.half told) (c.do_item.ensures.keeps told);
}

pub returns-in_err-do_item-clause-works : goal.returns-in_err-do_item-clause-works
returns-in_err-do_item-clause-works g c told =
    let lt : c.loop-item.item < c.args.done + 64 = omega arith in
    stepping_fails c.args.one.now c.args.done c.loop-item.item (g.D.Disk.story c.args.disk.now) (g.D.Disk.story c.loop-item.disk) (g.D.Disk.story c.do_item.new.disk) lt (c.loop-item.invariant.stepping told) (c.do_item.ensures.works told)

pub returns-in_err-do_item-clause-keeps : goal.returns-in_err-do_item-clause-keeps
returns-in_err-do_item-clause-keeps g c told = λ f. keeps_then (put_by c.args.one.now f) ((c.loop-item.invariant.stepping told).keeps f) (c.do_item.ensures.keeps told f)

pub returns-in_err-do_item-clause-publishing : goal.returns-in_err-do_item-clause-publishing
returns-in_err-do_item-clause-publishing g c told =
    let lt : c.loop-item.item < c.args.done + 64 = omega arith in
    let works = stepping_fails c.args.one.now c.args.done c.loop-item.item (g.D.Disk.story c.args.disk.now) (g.D.Disk.story c.loop-item.disk) (g.D.Disk.story c.do_item.new.disk) lt (c.loop-item.invariant.stepping told) (c.do_item.ensures.works told) in
    step_publishes c.args.one.now c.args.done (g.D.Disk.story c.args.disk.now) (g.D.Disk.story c.do_item.new.disk) (g.met.D.Disk.sound c.args.disk.now told) (c.requires.half told) works

pub returns-in_err-do_item-clause-laid_out : goal.returns-in_err-do_item-clause-laid_out
returns-in_err-do_item-clause-laid_out g c told =
    let lt : c.loop-item.item < c.args.done + 64 = omega arith in
    let works = stepping_fails c.args.one.now c.args.done c.loop-item.item (g.D.Disk.story c.args.disk.now) (g.D.Disk.story c.loop-item.disk) (g.D.Disk.story c.do_item.new.disk) lt (c.loop-item.invariant.stepping told) (c.do_item.ensures.works told) in
    step_laid c.args.one.now c.args.done (g.D.Disk.story c.args.disk.now) (g.D.Disk.story c.do_item.new.disk) (c.requires.half told) works

pub returns-clause-half : goal.returns-clause-half
returns-clause-half g c told = λ f.
    let at : c.loop-item.item ≡ c.next_end-end.result = omega arith in
    rw (sym at) ((c.loop-item.invariant.stepping told).half f)

pub returns-clause-works : goal.returns-clause-works
returns-clause-works g c told =
    let le : c.loop-item.item ≤ c.args.done + 64 = omega arith in
    stepping_works c.args.one.now c.args.done c.loop-item.item (g.D.Disk.story c.args.disk.now) (g.D.Disk.story c.loop-item.disk) le (c.loop-item.invariant.stepping told)

pub returns-clause-keeps : goal.returns-clause-keeps
returns-clause-keeps g c told = (c.loop-item.invariant.stepping told).keeps

pub returns-clause-publishing : goal.returns-clause-publishing
returns-clause-publishing g c told =
    let le : c.loop-item.item ≤ c.args.done + 64 = omega arith in
    let works = stepping_works c.args.one.now c.args.done c.loop-item.item (g.D.Disk.story c.args.disk.now) (g.D.Disk.story c.loop-item.disk) le (c.loop-item.invariant.stepping told) in
    step_publishes c.args.one.now c.args.done (g.D.Disk.story c.args.disk.now) (g.D.Disk.story c.loop-item.disk) (g.met.D.Disk.sound c.args.disk.now told) (c.requires.half told) works

pub returns-clause-laid_out : goal.returns-clause-laid_out
returns-clause-laid_out g c told =
    let le : c.loop-item.item ≤ c.args.done + 64 = omega arith in
    let works = stepping_works c.args.one.now c.args.done c.loop-item.item (g.D.Disk.story c.args.disk.now) (g.D.Disk.story c.loop-item.disk) le (c.loop-item.invariant.stepping told) in
    step_laid c.args.one.now c.args.done (g.D.Disk.story c.args.disk.now) (g.D.Disk.story c.loop-item.disk) (c.requires.half told) works

pub returns-in_err-do_item-clause-brief : goal.returns-in_err-do_item-clause-brief
returns-in_err-do_item-clause-brief g c told = omega (arith, c.loop-item.invariant.brief told, c.do_item.ensures.brief told)

pub returns-clause-brief : goal.returns-clause-brief
returns-clause-brief g c told = omega (arith, c.loop-item.invariant.brief told)
