use denote.Text.{Utf8}
use denote.Shadow.{shadow}
use Rattle.std.proofs.Common.{◌≡◌, take}
use Rattle.std.specs.List.{join_with_byte}
use Rattle.meta_model.specs.Text.{colon}
use Rattle.project_reading.proofs.Joins.{sign_before}
use Rattle.project_reading.proofs.said.joined.Given as goal

-- the texts so far, and what comes before the next one
abbrev pub invariant-loop-text : goal.invariant-loop-text
invariant-loop-text l = record {
  text : shadow (Utf8 l.before);
  between : l.before ≡ sign_before colon (take l.text-index l.texts);
  joined : l.made ≡ join_with_byte colon (take l.text-index l.texts);
}
