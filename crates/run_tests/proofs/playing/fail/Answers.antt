use Rattle.std.proofs.Common.{◌≡◌, ◌∙◌, ap, true, false, List, set}
use Rattle.meta_model.specs.declared.event.Why.TheVariants as why
use Rattle.tale_model.specs.declared.fate.Fate.{Fate}
use Rattle.tale_model.specs.declared.fate.Fate.TheVariants.{Failed, Running}
use Rattle.setscene_plan.specs.Replans.{avail_in, need_in}
use Rattle.run_tests.specs.Index.{view_of}
use Rattle.run_tests.proofs.BoardSteps.{long_twice, may_fail, may_start, nothing_changed, rests_twice, stood}
use Rattle.run_tests.proofs.playing.fail.Goals as goal

pub returns : goal.returns
returns c =
    let replan = c.args.play.now.replan in
    let tasks = c.args.index.now.plan.now.tasks in
    let fates = c.args.play.now.board in
    let task = c.args.task in
    let mid = set fates task (Running 0) in
    let stands = c.requires.stands in
    let can = c.requires.can in
    stood (view_of c.args.index.now) replan c.after-2.new.self (set mid task Failed) c.mark-2.new.self stands.sound stands.current
    (long_twice fates task (Running 0) Failed ∙ stands.long)
    (c.after-2.ensures tasks (need_in replan) (need_in replan) (avail_in replan) (avail_in replan) mid
    (c.after.ensures tasks (need_in replan) (need_in replan) (avail_in replan) (avail_in replan) fates stands.covers (may_start fates task stands.rests can) (nothing_changed (need_in replan) (avail_in replan) mid))
    (may_fail fates task (why.Status 1) can) (nothing_changed (need_in replan) (avail_in replan) (set mid task Failed)))
    (rests_twice fates task (Running 0) Failed can.within stands.rests (λ e. let f : false ≡ true = e in cc))
    (c.mark-2.ensures ∙ ap (λ (fs : List Fate). set fs task Failed) c.mark.ensures)

pub mark-requires-2 : goal.mark-requires-2
mark-requires-2 c = rw c.mark.ensures (may_fail c.args.play.now.board c.args.task (why.Status 1) c.requires.can)
