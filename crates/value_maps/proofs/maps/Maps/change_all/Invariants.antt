use Rattle.std.proofs.Common.{◌≡◌, ◌++◌, List, take}
use Rattle.meta_model.specs.declared.entry.EntryLine.{EntryLine}
use Rattle.value_maps.specs.Maps.{Keeps, base_of}
use Rattle.value_maps.proofs.maps.Maps.change_all.Given as goal

abbrev pub invariant-loop-line : goal.invariant-loop-line
invariant-loop-line l = record {
  same : base_of l.self ≡ base_of l.fn.self;
  keeps : (list : List EntryLine) → Keeps list l.fn.self → Keeps (list ++ take l.line-index l.lines) l.self;
}
