use Rattle.std.proofs.Common.{◌∙◌, sym, subst, ℕ, List, take}
use Rattle.tree_model.specs.Tree.{IsTree}
use Rattle.outside_traits.specs.Bench.{Adds, IsVacant}
use Rattle.meta_model.specs.CleanBuild.{Entries}
use Rattle.task_worker.proofs.Put.{next_vacant, one_laid}
use Rattle.task_worker.proofs.running.put_all.Goals as goal

pub put-requires-clause-vacant : goal.put-requires-clause-vacant
put-requires-clause-vacant g c tells =
    let e = c.entry-item.result in
    let entries = c.entries-entries.result.now in
    let tree : IsTree entries = subst IsTree (sym c.entries-entries.ensures.value) c.entries-entries.ensures.tree in
    subst (λ (l : Entries). IsVacant l c.as_str.result.now) (sym ((c.loop-entry.invariant.laid tells).laid))
    (subst (λ (p : List ℕ). IsVacant (take c.loop-entry.entry-index entries) p) (sym c.as_str.ensures) (next_vacant entries c.loop-entry.entry-index e tree c.loop-entry-test.true c.entry-item.is))

pub loop-entry-preserved : goal.loop-entry-preserved
loop-entry-preserved g c =
    let e = c.entry-item.result in
    let entries = c.entries-entries.result.now in
    let tree : IsTree entries = subst IsTree (sym c.entries-entries.ensures.value) c.entries-entries.ensures.tree in
    record {
      laid = λ tells.
          let a = (c.in_ok-put.ensures.told tells).answers in
          record {
            laid = one_laid entries (g.B.Bench.place c.loop-entry.bench).laid (g.B.Bench.place c.put.new.self).laid c.loop-entry.entry-index e tree c.loop-entry-test.true c.entry-item.is ((c.loop-entry.invariant.laid tells).laid)
                (subst (λ (p : List ℕ). Adds p e.1 (g.B.Bench.place c.loop-entry.bench).laid (g.B.Bench.place c.put.new.self).laid) c.as_str.ensures a.0);
            cleared = a.1 ∙ (c.loop-entry.invariant.laid tells).cleared;
          };
      runs = λ tells. (c.in_ok-put.ensures.told tells).answers.3 ∙ c.loop-entry.invariant.runs tells;
      gives = c.in_ok-put.ensures.gives ∙ c.loop-entry.invariant.gives;
      faults = c.in_ok-put.ensures.cause.stayed ∙ c.loop-entry.invariant.faults;
    }
