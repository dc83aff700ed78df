use Rattle.std.proofs.Common.{◌≡◌, ◌≤◌, ◌∙◌, subst, List, length, length-set, slice_get, Some, arith}
use Rattle.std.specs.Prelude.{IfSome}
use Rattle.tree_model.specs.declared.hash.Hash.{Hash}
use Rattle.meta_model.specs.declared.plan.PlanTask.{PlanTask}
use Rattle.store_model.specs.Spelling.{name_of}
use Rattle.sig_gen.specs.Signing.{signature_by}
use Rattle.setscene_plan.proofs.Naming.{names_are_over}
use Rattle.setscene_plan.proofs.Renaming.{named_all, named_step}
use Rattle.setscene_plan.proofs.names.hashes.Goals as goal

pub loop-place-preserved : goal.loop-place-preserved
loop-place-preserved g c =
    let tasks = c.args.plan.now.tasks in
    let names = c.loop-place.names.items in
    let us = c.loop-place.unihashes.items in
    let name = c.in_ok-made.made.name in
    let rows = (g.P.Probe.view c.args.probe.now).rows in
    let is : (task : PlanTask) → slice_get tasks c.loop-place.place ≡ Some task → name ≡ name_of (signature_by tasks us task) = λ task at.
    subst (λ (vs : List Hash). name ≡ name_of (signature_by tasks vs task)) c.as_slice.ensures.value
    (subst (λ o. IfSome o (λ own. name ≡ name_of (signature_by tasks c.as_slice.result.now own))) at c.in_ok-made.ensures.name) in
    record {
      long = length-set names c.loop-place.place name ∙ c.loop-place.invariant.long;
      wide = length-set us c.loop-place.place c.unihash_of.result ∙ c.loop-place.invariant.wide;
      right = named_step rows tasks names us c.loop-place.place name c.unihash_of.result c.requires.ordered (omega (arith, c.loop-place-test.true, c.len-count.ensures)) c.loop-place.invariant.long c.loop-place.invariant.wide is c.unihash_of.ensures c.loop-place.invariant.right;
    }

pub returns : goal.returns
returns g c =
    let past : length c.args.plan.now.tasks ≤ c.loop-place.place = omega (arith, c.loop-place-test.false, c.len-count.ensures) in
    names_are_over (g.P.Probe.view c.args.probe.now).rows c.args.plan.now.tasks c.loop-place.names.items c.loop-place.unihashes.items c.requires.ordered
    (named_all (g.P.Probe.view c.args.probe.now).rows c.args.plan.now.tasks c.loop-place.names.items c.loop-place.unihashes.items c.loop-place.place past c.loop-place.invariant.long c.loop-place.invariant.wide c.loop-place.invariant.right)
