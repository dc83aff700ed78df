-- Where stamps stand, and where they are written and put aside, are clean paths.
use Rattle.std.proofs.Common.{ℕ, List, ◌∷◌, arith, refl, lit<, lit≤, length-append}
use Rattle.std.specs.Prelude.{codes}
use Rattle.std.proofs.lemmas.List.Elements.{All-cons}
use Rattle.tree_model.specs.Path.{IsClean, IsPart, parts_of}
use Rattle.tree_model.proofs.PathLemmas.{no_zero_in}
use Rattle.stamp_store.specs.Stamp.{IsFolder, staged_path}

stamp_part : IsPart (codes "stamp")
stamp_part = record { not_empty = lit< tt; short = lit≤ tt; not_here = λ e. cc; not_above = λ e. cc; no_zero = λ has. no_zero_in (codes "stamp") refl has }

tmp_part : IsPart (codes "tmp")
tmp_part = record { not_empty = lit< tt; short = lit≤ tt; not_here = λ e. cc; not_above = λ e. cc; no_zero = λ has. no_zero_in (codes "tmp") refl has }

pub staged_clean : (folder : List ℕ) → IsFolder folder → IsClean (staged_path folder)
staged_clean folder is = record {
  short = omega (arith, is.short, length-append (codes "tmp/stamp/") folder);
  parts = All-cons IsPart (codes "tmp") (codes "stamp" ∷ parts_of folder) tmp_part (All-cons IsPart (codes "stamp") (parts_of folder) stamp_part is.clean.parts);
}
