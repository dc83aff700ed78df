use Rattle.std.proofs.Common.{◌≡◌, ◌<◌, ◌≤◌, ◌∙◌, ℕ, sym, subst, length, arith}
use Rattle.setscene_plan.specs.View.{View}
use Rattle.setscene_plan.specs.Reworks.{IsRightAt, Renames}
use Rattle.setscene_plan.proofs.Working.{found_all, found_more, renamed_more, right_all}
use Rattle.setscene_plan.proofs.work.Names.of_plan.Goals as goal

pub rename-requires-clause-before : goal.rename-requires-clause-before
rename-requires-clause-before g c =
    subst (λ (v : View). (t : ℕ) → t < c.loop-place.place → IsRightAt v.rows c.args.plan.now.tasks c.loop-place.made t) (sym c.loop-place.invariant.same) c.loop-place.invariant.right

pub loop-place-preserved : goal.loop-place-preserved
loop-place-preserved g c =
    let rows = (g.P.Probe.view c.args.probe.now).rows in
    let tasks = c.args.plan.now.tasks in
    let same : g.P.Probe.view c.loop-place.probe ≡ g.P.Probe.view c.args.probe.now = c.loop-place.invariant.same in
    let renamed = subst (λ (v : View). Renames v.rows tasks c.loop-place.place c.loop-place.made c.rename.new.self) same c.in_ok-rename.ensures.renamed in
    record {
      long = renamed.long ∙ c.loop-place.invariant.long;
      wide = renamed.wide ∙ c.loop-place.invariant.wide;
      right = renamed_more rows tasks c.loop-place.place c.loop-place.made c.rename.new.self c.requires.ordered renamed c.loop-place.invariant.right;
      found = found_more rows tasks c.loop-place.place c.loop-place.made c.rename.new.self c.requires.ordered renamed c.loop-place.invariant.found;
      same = c.in_ok-rename.ensures.same ∙ same;
      stays = g.met.P.Probe.stays_on c.args.probe.now c.loop-place.probe c.rename.new.probe c.loop-place.invariant.stays c.rename.ensures.stays;
      asked = c.in_ok-rename.ensures.asked ∙ c.loop-place.invariant.asked;
      still = c.in_ok-rename.ensures.cause.stayed ∙ c.loop-place.invariant.still;
    }

pub returns-clause-right : goal.returns-clause-right
returns-clause-right g c =
    let past : length c.args.plan.now.tasks ≤ c.loop-place.place = omega (arith, c.loop-place-test.false, c.len-count.ensures, c.requires.few) in
    right_all (g.P.Probe.view c.args.probe.now).rows c.args.plan.now.tasks c.loop-place.made c.loop-place.place c.loop-place.invariant.long past c.loop-place.invariant.right

pub returns-clause-found : goal.returns-clause-found
returns-clause-found g c =
    let past : length c.args.plan.now.tasks ≤ c.loop-place.place = omega (arith, c.loop-place-test.false, c.len-count.ensures, c.requires.few) in
    found_all c.args.plan.now.tasks c.loop-place.made c.loop-place.place c.loop-place.invariant.long past c.loop-place.invariant.found

pub returns-clause-stays : goal.returns-clause-stays
returns-clause-stays g c = c.loop-place.invariant.stays

pub returns-in_err-rename-clause-stays : goal.returns-in_err-rename-clause-stays
returns-in_err-rename-clause-stays g c = g.met.P.Probe.stays_on c.args.probe.now c.loop-place.probe c.rename.new.probe c.loop-place.invariant.stays c.rename.ensures.stays
