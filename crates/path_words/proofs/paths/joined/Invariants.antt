use denote.Text.{Utf8}
use denote.Shadow.{shadow}
use Rattle.std.proofs.Common.{◌≡◌, take}
use Rattle.std.specs.List.{join_with_byte}
use Rattle.load_model.specs.Paths.{slash}
use Rattle.path_words.proofs.Slashes.{slash_before}
use Rattle.path_words.proofs.paths.joined.Given as goal

-- the parts so far, and what comes before the next one
abbrev pub invariant-loop-part : goal.invariant-loop-part
invariant-loop-part l = record {
  text : shadow (Utf8 l.before);
  between : l.before ≡ slash_before (take l.part-index l.parts);
  joined : l.made ≡ join_with_byte slash (take l.part-index l.parts);
}
