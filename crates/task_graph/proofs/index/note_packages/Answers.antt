use Rattle.std.proofs.lemmas.List.{take_all}
use Rattle.std.proofs.Common.{◌∙◌, refl, ◌||◌, bytes_eq}
use Rattle.std.specs.HashMap.{get_by_text}
use Rattle.meta_model.specs.Text.{is_in}
use Rattle.meta_model.specs.Providers.{is_package_for}
use Rattle.task_graph.proofs.Kept.{again, noted_elements}
use Rattle.task_graph.proofs.index.note_packages.Goals as goal

pub loop-package-preserved : goal.loop-package-preserved
loop-package-preserved c = λ q.
    let both = again (bytes_eq c.as_str.result.now q) (is_in q c.as_slice.result.now) (get_by_text c.loop-package.map q) c.args.number in
    noted_elements (is_package_for q) c.args.packages.now c.loop-package.package-index c.package-item.result (bytes_eq c.as_str.result.now q || is_in q c.as_slice.result.now) (get_by_text c.args.map.now q) (get_by_text c.loop-package.map q) (get_by_text c.note_all.new.map q) c.args.number
    c.loop-package-test.true c.package-item.is (rw (c.as_str.ensures, c.as_slice.ensures) refl) (c.loop-package.invariant q) (c.in_ok-note_all.ensures q ∙ rw (c.in_ok-note.ensures q) both)

pub returns : goal.returns
returns c = rw (take_all _ _ c.loop-package-test.false) at c.loop-package.invariant
