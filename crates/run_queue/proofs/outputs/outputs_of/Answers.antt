use Rattle.std.proofs.Common.{◌∙◌, sym, subst, ℕ, Option, All, ◌≤◌, length, get_or}
use Rattle.std.specs.Prelude.{IfSome}
use Rattle.std.proofs.lemmas.List.Elements.{All-push}
use Rattle.outside_traits.proofs.Calls.{then_same}
use Rattle.meta_model.specs.CleanBuild.{Entries}
use Rattle.store_model.specs.Available.{work_folder}
use Rattle.task_worker.specs.Layouts.{AreShort}
use Rattle.meta_model.specs.declared.plan.PlanTask.{PlanTask}
use Rattle.build_store.specs.Finding.{IsOutput}
use Rattle.run_queue.proofs.ReadBack.{numbers_more, read_next}
use Rattle.run_queue.proofs.outputs.outputs_of.Goals as goal

pub loop-number-preserved : goal.loop-number-preserved
loop-number-preserved g c = record {
  faults = c.in_ok-output.ensures.cause.stayed ∙ c.loop-number.invariant.faults;
  books = record {
    rows = c.in_ok-output.ensures.same.rows ∙ c.loop-number.invariant.books.rows;
    keys = c.in_ok-output.ensures.same.keys ∙ c.loop-number.invariant.books.keys;
    kept = c.in_ok-output.ensures.same.kept ∙ c.loop-number.invariant.books.kept;
    opened = c.in_ok-output.ensures.same.opened ∙ c.loop-number.invariant.books.opened;
    faultless = c.in_ok-output.ensures.same.faultless ∙ c.loop-number.invariant.books.faultless;
  };
  same = λ told. then_same (c.loop-number.invariant.same told) (c.in_ok-output.ensures.images told);
  numbers = numbers_more c.loop-number.outputs.items c.push.new.self.items c.args.numbers.now c.loop-number.number-index 0 c.in-Some.output c.in_ok-push-in-Some.ensures.items c.loop-number.invariant.numbers c.loop-number-test.true;
  each = λ told.
      read_next c.args.plan.now.tasks c.as_slice.result.now (g.D.Disk.story c.args.store.now.disk).held (g.D.Disk.story c.loop-number.store.disk).held c.loop-number.outputs.items c.push.new.self.items (get_or c.args.numbers.now c.loop-number.number-index 0) c.in-Some.output
      c.index-as_slice-number.result c.in_ok-output.field-0 c.as_slice.ensures (c.requires c.loop-number.number-index 0 c.loop-number-test.true) c.in_ok-push-in-Some.ensures.items (c.loop-number.invariant.same told).held c.in-Some.is
      (subst (λ (t : PlanTask). IsOutput (work_folder t) (g.D.Disk.story c.loop-number.store.disk).held c.in_ok-output.field-0) c.index-as_slice-number.is (c.in_ok-output.ensures.found told)) (c.loop-number.invariant.each told);
  short =
      let one = subst (λ (f : Option Entries). IfSome f (λ tree. All (λ e. length e.0 ≤ 3072) tree)) c.in-Some.is c.in_ok-output.ensures.short in
      subst AreShort (sym c.in_ok-push-in-Some.ensures.items) (All-push (λ (o : ℕ × Entries). All (λ e. length e.0 ≤ 3072) o.1) c.loop-number.outputs.items (get_or c.args.numbers.now c.loop-number.number-index 0, c.in-Some.output) c.loop-number.invariant.short one);
}
