use Rattle.std.proofs.Common.{[], get_or}
use Rattle.std.proofs.lemmas.List.{get_or_default}
use Rattle.store_clean.proofs.Tabled.{roots_all, roots_first, roots_next}
use Rattle.store_clean.proofs.deciding.root_marks.Goals as goal

pub loop-root-init : goal.loop-root-init
loop-root-init c = roots_first c.args.nodes.now c.args.roots.now c.in_ok-marks.marks.items c.in_ok-marks.ensures

pub loop-root-preserved : goal.loop-root-preserved
loop-root-preserved c =
    let root = get_or c.args.roots.now c.loop-root.root-index (record { bytes = [] }) in
    roots_next c.args.nodes.now c.args.roots.now c.loop-root.root-index root c.loop-root.marks.items c.mark_root.new.marks.items c.loop-root-test.true (get_or_default c.args.roots.now c.loop-root.root-index (record { bytes = [] }) root c.loop-root-test.true) c.loop-root.invariant c.mark_root.ensures

pub returns : goal.returns
returns c = roots_all c.args.nodes.now c.args.roots.now c.loop-root.root-index c.loop-root.marks.items c.loop-root-test.false c.loop-root.invariant
