use Rattle.std.proofs.lemmas.List.{take_all}
use Rattle.std.proofs.Common.{◌∙◌}
use Rattle.tree_model.proofs.FolderLemmas.{below_more_entry}
use Rattle.tree_model.proofs.folder.entries_under.Goals as goal

pub loop-entry-preserved : goal.loop-entry-preserved
loop-entry-preserved c = below_more_entry c.args.entries.now c.loop-entry.made.items c.put_rest.new.made.items c.loop-entry.entry-index c.entry-item.result c.args.folder.now c.as_str.result.now c.loop-entry-test.true c.entry-item.is (c.as_str.ensures ∙ c.in_ok-prefix.ensures) c.loop-entry.invariant c.in_ok-put_rest.ensures

pub returns : goal.returns
returns c = rw (take_all _ _ c.loop-entry-test.false) at c.loop-entry.invariant
