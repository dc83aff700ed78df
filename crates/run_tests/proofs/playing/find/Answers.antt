use Rattle.std.proofs.Common.{◌≡◌, ◌∙◌, true, false, set}
use Rattle.tale_model.specs.declared.fate.Fate.TheVariants.{Found}
use Rattle.setscene_plan.specs.Replans.{avail_in, need_in}
use Rattle.run_tests.specs.Index.{view_of}
use Rattle.run_tests.proofs.BoardSteps.{long_once, nothing_changed, rests_once, stood}
use Rattle.run_tests.proofs.playing.find.Goals as goal

pub returns : goal.returns
returns c =
    let replan = c.args.play.now.replan in
    let fates = c.args.play.now.board in
    let stands = c.requires.stands in
    let can = c.requires.can in
    stood (view_of c.args.index.now) replan c.after.new.self (set fates c.args.task Found) c.mark.new.self stands.sound stands.current
    (long_once fates c.args.task Found ∙ stands.long)
    (c.after.ensures c.args.index.now.plan.now.tasks (need_in replan) (need_in replan) (avail_in replan) (avail_in replan) fates stands.covers (can.within, can.waits) (nothing_changed (need_in replan) (avail_in replan) (set fates c.args.task Found)))
    (rests_once fates c.args.task Found can.within stands.rests (λ e. let f : false ≡ true = e in cc))
    c.mark.ensures
