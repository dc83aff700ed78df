use Rattle.std.proofs.Common.{◌∙◌, refl, subst}
use Rattle.outside_traits.proofs.Calls.{then_same}
use Rattle.outside_traits.specs.Store.{Store}
use Rattle.why_text.specs.LookLaws.{same_story}
use Rattle.why_text.specs.Telling.{PutsLine, told_of}
use Rattle.why_text.proofs.TaskLines.{more_lines, no_lines}
use Rattle.why_text.proofs.telling.lines_of.Goals as goal

pub loop-place-init : goal.loop-place-init
loop-place-init g c =
    let known = c.args.known.now in
    record {
      faults = refl;
      run = λ told. same_story (g.D.Disk.story c.args.disk.now);
      so_far = λ told. no_lines (told_of (g.D.Disk.story c.args.disk.now).held c.args.rows.now known.plan.now known.avail.now known.certain.now c.args.force) c.args.need.now c.new-text.result c.new-text.ensures;
    }

pub loop-place-preserved : goal.loop-place-preserved
loop-place-preserved g c =
    let known = c.args.known.now in
    record {
      faults = c.in_ok-put_task.ensures.cause.stayed ∙ c.loop-place.invariant.faults;
      run = λ told. then_same (c.loop-place.invariant.run told) (c.put_task.ensures.same told);
      so_far = λ told. more_lines (told_of (g.D.Disk.story c.args.disk.now).held c.args.rows.now known.plan.now known.avail.now known.certain.now c.args.force) c.args.need.now c.loop-place.place c.loop-place.text c.put_task.new.text (c.loop-place.invariant.so_far told)
          (subst (λ (h : Store). PutsLine (told_of h c.args.rows.now known.plan.now known.avail.now known.certain.now c.args.force) c.args.need.now c.loop-place.place c.loop-place.text c.put_task.new.text) (c.loop-place.invariant.run told).held (c.in_ok-put_task.ensures.line told));
    }
