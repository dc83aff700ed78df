use Rattle.bb_parser.proofs.lines_written.written.Goals as goal

pub returns-in-Export-clause-ok : goal.returns-in-Export-clause-ok
returns-in-Export-clause-ok c = rw c.in-Export.is (rw c.as_str-in-Export.ensures at c.written_name.ensures.ok)

pub returns-in-Unset-clause-ok : goal.returns-in-Unset-clause-ok
returns-in-Unset-clause-ok c = rw c.in-Unset.is (rw c.as_str-in-Unset.ensures at c.written_name-in-Unset.ensures.ok)

pub returns-in-UnsetFlag-clause-ok : goal.returns-in-UnsetFlag-clause-ok
returns-in-UnsetFlag-clause-ok c = rw c.in-UnsetFlag.is (rw (c.as_str-in-UnsetFlag.ensures, c.as_str-in-UnsetFlag-2.ensures) at c.written_unset_flag.ensures.ok)

pub returns-in-Include-clause-ok : goal.returns-in-Include-clause-ok
returns-in-Include-clause-ok c = rw c.in-Include.is (rw c.as_str-in-Include.ensures at c.written_text.ensures.ok)

pub returns-in-Require-clause-ok : goal.returns-in-Require-clause-ok
returns-in-Require-clause-ok c = rw c.in-Require.is (rw c.as_str-in-Require.ensures at c.written_text-in-Require.ensures.ok)

pub returns-in-Inherit-clause-ok : goal.returns-in-Inherit-clause-ok
returns-in-Inherit-clause-ok c = rw c.in-Inherit.is (rw c.as_str-in-Inherit.ensures at c.written_text-in-Inherit.ensures.ok)

pub returns-in-ExportFunctions-clause-ok : goal.returns-in-ExportFunctions-clause-ok
returns-in-ExportFunctions-clause-ok c = rw c.in-ExportFunctions.is (rw c.as_slice.ensures at c.written_exports.ensures.ok)

pub returns-in-AddTask-clause-ok : goal.returns-in-AddTask-clause-ok
returns-in-AddTask-clause-ok c = rw c.in-AddTask.is (rw (c.as_slice-in-AddTask.ensures, c.as_slice-in-AddTask-2.ensures, c.as_slice-in-AddTask-3.ensures) at c.written_tasks.ensures.ok)

pub returns-in-DelTask-clause-ok : goal.returns-in-DelTask-clause-ok
returns-in-DelTask-clause-ok c = rw c.in-DelTask.is (rw c.as_slice-in-DelTask.ensures at c.written_deletions.ensures.ok)
