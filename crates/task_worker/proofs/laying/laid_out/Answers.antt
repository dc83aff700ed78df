use Rattle.std.proofs.Common.{ap, ◌∙◌, filter, not, List, ℕ}
use Rattle.meta_model.specs.Layout.{by_name, is_of}
use Rattle.run_model.specs.Layouts.{needed_among}
use Rattle.task_worker.specs.Work.{parts_needed}
use Rattle.task_worker.proofs.Laid.{all_laid, files_clean, parts_layable}
use Rattle.task_worker.proofs.laying.laid_out.Goals as goal

pub lay_parts-requires : goal.lay_parts-requires
lay_parts-requires c =
    parts_layable c.args.task.now.id.pn c.args.tasks.now c.args.outputs.now c.deref.result.now c.requires.names c.requires.short
    (ap parts_needed c.deref.ensures.value ∙ c.in_ok-others.ensures ∙ ap (λ (q : List ℕ). filter (λ n. not (is_of q n)) (by_name (needed_among c.args.tasks.now c.args.outputs.now))) c.as_str.ensures)

pub lay_inside-requires-clause-clean : goal.lay_inside-requires-clause-clean
lay_inside-requires-clause-clean c = files_clean c.args.task.now.files c.requires.files c.entries-files.ensures.tree

pub returns : goal.returns
returns c =
    all_laid c.args.tasks.now c.args.task.now c.args.outputs.now c.deref.result.now c.in_ok-tree.tree c.lay_parts.new.tree c.lay_inside.new.tree
    (ap parts_needed c.deref.ensures.value ∙ c.in_ok-others.ensures ∙ ap (λ (q : List ℕ). filter (λ n. not (is_of q n)) (by_name (needed_among c.args.tasks.now c.args.outputs.now))) c.as_str.ensures)
    c.in_ok-tree.ensures c.in_ok-lay_parts.ensures c.in_ok-lay_inside.ensures
