use Rattle.std.proofs.Common.{◌∙◌, sym}
use Rattle.std.proofs.lemmas.Bool.{true≢false}
use Rattle.std.proofs.lemmas.List.{take_all}
use Rattle.tree_model.proofs.FolderLemmas.{inside_more, clean_inside_more, all_inside, first_unclean}
use Rattle.tree_model.proofs.folder.entries_inside.Goals as goal

pub loop-entry-preserved : goal.loop-entry-preserved
loop-entry-preserved c = record {
  made = inside_more c.args.entries.now c.loop-entry.made.items c.push.new.self.items c.loop-entry.entry-index c.entry-item.result c.args.folder.now c.as_str.result.now c.in_ok-path.path c.in_ok-copy.field-0 c.loop-entry-test.true c.entry-item.is c.as_str.ensures c.in_ok-path.ensures c.in_ok-copy.ensures c.loop-entry.invariant.made c.in_ok-push.ensures.items;
  clean = clean_inside_more c.args.entries.now c.loop-entry.entry-index c.entry-item.result c.args.folder.now c.as_str.result.now c.in_ok-path.path c.as_str-in-loop-entry.result.now c.loop-entry-test.true c.entry-item.is c.as_str.ensures c.in_ok-path.ensures c.as_str-in-loop-entry.ensures (c.is_clean.ensures.0 c.if-not-is_clean.false) c.loop-entry.invariant.clean;
}

pub returns-clause-clean : goal.returns-clause-clean
returns-clause-clean c = (all_inside c.args.entries.now c.loop-entry.made.items c.loop-entry.entry-index c.args.folder.now c.loop-entry-test.false c.loop-entry.invariant.made c.loop-entry.invariant.clean).1

pub returns-clause-ok : goal.returns-clause-ok
returns-clause-ok c = rw (take_all _ _ c.loop-entry-test.false) at c.loop-entry.invariant.made

pub returns-then-not-is_clean-clause-refused : goal.returns-then-not-is_clean-clause-refused
returns-then-not-is_clean-clause-refused c =
    first_unclean c.args.entries.now c.loop-entry.entry-index c.entry-item.result c.args.folder.now c.as_str.result.now c.in_ok-path.path c.as_str-in-loop-entry.result.now
    c.loop-entry-test.true c.entry-item.is c.as_str.ensures c.in_ok-path.ensures c.as_str-in-loop-entry.ensures
    (λ h. true≢false (sym (c.is_clean.ensures.1 h) ∙ c.if-not-is_clean.true)) c.loop-entry.invariant.clean
