use Rattle.std.proofs.Common.{◌≡◌, map, take}
use Rattle.meta_model.specs.declared.entry.EntryLine.TheVariants as entry
use Rattle.load_model.specs.Loading.{with_lines}
use Rattle.class_inherit.proofs.entries.add_exports.Given as goal

abbrev pub invariant-loop-name : goal.invariant-loop-name
invariant-loop-name l = l.reading ≡ with_lines (map (entry.Exported l.class) (take l.name-index l.name-items)) l.fn.reading
