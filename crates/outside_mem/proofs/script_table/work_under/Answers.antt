use Rattle.std.proofs.Common.{◌∙◌, ap}
use Rattle.tree_model.specs.Overlay.{overlaid}
use Rattle.tree_model.proofs.OverlaidLemmas.{is_overlaid}
use Rattle.outside_mem.proofs.script_table.work_under.Goals as goal

pub returns : goal.returns
returns c =
    is_overlaid c.in_ok-tree.tree c.args.puts.now c.overlay.new.self c.entries-tree.ensures.tree c.entries-puts.ensures.tree c.in_ok-overlay.ensures.ok
    ∙ ap (λ l. overlaid l c.args.puts.now) c.in_ok-tree.ensures
