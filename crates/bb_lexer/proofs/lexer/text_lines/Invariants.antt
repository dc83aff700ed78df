use Rattle.std.proofs.Common.{length, ◌≡◌, ◌≤◌, ◌+◌, suc}
use denote.Text.{Utf8}
use denote.Shadow.{shadow}
use Rattle.meta_model.specs.Lines.{logical_from, physical_lines, lines_of_text}
use Rattle.bb_lexer.specs.Steps.{standing_of, onto}
use Rattle.bb_lexer.proofs.lexer.text_lines.Given as goal

-- what is out, and what is found in the rest behind it, is what is found in the whole text
abbrev pub invariant-loop-rest : goal.invariant-loop-rest
invariant-loop-rest l = record {
  text : shadow (Utf8 l.rest);
  found : onto l.out (logical_from (standing_of l.stand) (suc l.number) (physical_lines l.rest)) ≡ lines_of_text l.text;
  numbered : l.number + length l.rest ≤ length l.text;
}

abbrev pub decreases-loop-rest : goal.decreases-loop-rest
decreases-loop-rest l = length l.rest
