use Rattle.std.proofs.Common.{◌≡◌, ◌∙◌, ap, sym, subst, true, false, List, set, length}
use Rattle.meta_model.specs.declared.plan.Plan.{Plan}
use Rattle.tale_model.specs.declared.fate.Fate.{Fate}
use Rattle.tale_model.specs.declared.fate.Fate.TheVariants.{Ended, Running}
use Rattle.run_core.specs.Candidates.{Covers}
use Rattle.setscene_plan.specs.Replans.{avail_in, need_in}
use Rattle.run_tests.specs.Index.{view_of}
use Rattle.run_tests.specs.Playing.{IsSound}
use Rattle.run_tests.proofs.BoardSteps.{changes_told, long_twice, may_end, may_start, nothing_changed, rests_twice, stood}
use Rattle.run_tests.proofs.playing.end.Goals as goal

pub returns : goal.returns
returns c =
    let old = c.args.play.now.replan in
    let new = c.settle.new.replan in
    let fates = c.args.play.now.board in
    let task = c.args.task in
    let mid = set fates task (Running 0) in
    let last = set mid task Ended in
    let stands = c.requires.stands in
    let can = c.requires.can in
    let plan = c.in_ok-settle.ensures.plan in
    let tasks = c.args.index.now.plan.now.tasks in
    stood (view_of c.settle.new.index) new c.after-2.new.self last c.mark-2.new.self
    (subst IsSound (sym plan) stands.sound)
    c.in_ok-settle.ensures.current
    (long_twice fates task (Running 0) Ended ∙ stands.long ∙ ap (λ (p : Plan). length p.tasks) (sym plan))
    (subst (λ (p : Plan). Covers p.tasks (need_in new) (avail_in new) last c.after-2.new.self) (sym plan)
    (c.after-2.ensures tasks (need_in old) (need_in new) (avail_in old) (avail_in new) mid
    (c.after.ensures tasks (need_in old) (need_in old) (avail_in old) (avail_in old) fates stands.covers (may_start fates task stands.rests can) (nothing_changed (need_in old) (avail_in old) mid))
    (may_end fates task can) (changes_told old new last c.told.result.now c.told.ensures c.in_ok-settle.ensures.told)))
    (rests_twice fates task (Running 0) Ended can.within stands.rests (λ e. let f : false ≡ true = e in cc))
    (c.mark-2.ensures ∙ ap (λ (fs : List Fate). set fs task Ended) c.mark.ensures)

pub mark-requires-2 : goal.mark-requires-2
mark-requires-2 c = rw c.mark.ensures (may_end c.args.play.now.board c.args.task c.requires.can)
