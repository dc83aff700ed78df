use Rattle.std.proofs.Common.{◌≡◌, ◌∙◌, [], sym}
use Rattle.std.proofs.lemmas.Bool.{false≢true}
use Rattle.std.proofs.lemmas.Result.{on_ok_weaker}
use Rattle.tree_model.specs.Path.{inside}
use Rattle.outside_traits.proofs.Calls.{lists_passes}
use Rattle.build_store.proofs.StampWays.{below_clears, below_gone, below_same, none_listed}
use Rattle.build_store.proofs.freeing.clear_below.Goals as goal

pub returns-in_err-paths-clause-clears : goal.returns-in_err-paths-clause-clears
returns-in_err-paths-clause-clears g c told = below_same c.args.path.now (lists_passes (c.list.ensures.told told))

pub returns-clause-clears : goal.returns-clause-clears
returns-clause-clears g c told =
    let prefix_is : c.as_str.result.now ≡ inside c.args.path.now [] = c.as_str.ensures ∙ c.in_ok-prefix.ensures in
    below_clears c.args.path.now c.as_str.result.now c.in_ok-paths.paths (g.D.Disk.story c.args.disk.now) (g.D.Disk.story c.list.new.self) (g.D.Disk.story c.remove_all.new.disk) prefix_is (c.in_ok-paths.ensures.told told).answers.0
    (lists_passes (c.list.ensures.told told)) (rw c.as_slice.ensures at (c.remove_all.ensures.others told))

pub returns-clause-gone : goal.returns-clause-gone
returns-clause-gone g c told =
    let prefix_is : c.as_str.result.now ≡ inside c.args.path.now [] = c.as_str.ensures ∙ c.in_ok-prefix.ensures in
    on_ok_weaker c.remove_all.result (λ gone. below_gone c.args.path.now c.as_str.result.now c.in_ok-paths.paths (g.D.Disk.story c.args.disk.now) (g.D.Disk.story c.list.new.self) (g.D.Disk.story c.remove_all.new.disk) prefix_is (c.in_ok-paths.ensures.told told).answers.0
    (lists_passes (c.list.ensures.told told)) (rw c.as_slice.ensures at (c.remove_all.ensures.others told)) gone) (rw c.as_slice.ensures at (c.remove_all.ensures.gone told))

pub returns-then-is_empty-clause-clears : goal.returns-then-is_empty-clause-clears
returns-then-is_empty-clause-clears g c told = below_same c.args.path.now (lists_passes (c.list.ensures.told told))

pub returns-clause-brief : goal.returns-clause-brief
returns-clause-brief g c told none =
    let prefix_is : c.as_str.result.now ≡ inside c.args.path.now [] = c.as_str.ensures ∙ c.in_ok-prefix.ensures in
    let empty = none_listed c.args.path.now c.as_str.result.now c.in_ok-paths.paths (g.D.Disk.story c.args.disk.now).held prefix_is (c.in_ok-paths.ensures.told told).answers.0 none in
    absurd (false≢true (sym c.if-is_empty.false ∙ c.is_empty.ensures.1 empty))
