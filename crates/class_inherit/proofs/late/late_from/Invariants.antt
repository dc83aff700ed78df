use denote.Text.{Utf8}
use denote.Shadow.{shadow}
use Rattle.std.proofs.Common.{◌≡◌, length}
use Rattle.std.specs.List.{slice_split}
use Rattle.meta_model.specs.Text.{is_colon}
use Rattle.meta_model.specs.Names.{late_from}
use Rattle.class_inherit.proofs.late.late_from.Given as goal

-- the name says what its parts say behind those that are passed
abbrev pub invariant-loop-part : goal.invariant-loop-part
invariant-loop-part l = record {
  text : shadow (Utf8 l.rest);
  late : late_from l.target (slice_split is_colon l.rest) ≡ late_from l.fn.front (slice_split is_colon l.behind);
}

abbrev pub decreases-loop-part : goal.decreases-loop-part
decreases-loop-part l = length l.rest
