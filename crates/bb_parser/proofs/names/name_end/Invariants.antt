use Rattle.std.proofs.Common.{length, ◌≡◌, ◌≤◌, ◌-◌, ◌&&◌, take, drop, is_some, find, true}
use Rattle.std.specs.List.{list_all}
use Rattle.std.specs.Str.{IsUtf8, IsCharBoundary}
use Rattle.meta_model.specs.Text.{cuts}
use Rattle.meta_model.specs.Names.{is_name}
use Rattle.meta_model.specs.Grammar.{operator}
use Rattle.bb_parser.proofs.NameSearch.{name_char, found_behind}
use Rattle.bb_parser.proofs.names.name_end.Given as goal

-- so far no operator followed: what is found is found behind the characters so far, all of a name
abbrev pub invariant-loop-end : goal.invariant-loop-end
invariant-loop-end l = record {
  within : l.end ≤ length l.line;
  named : list_all name_char (take l.end l.line) ≡ true;
  found : find (λ c. is_name c.0 && is_some (operator c.1)) (cuts l.line) ≡ found_behind (take l.end l.line) (drop l.end l.line);
  cut : IsUtf8 l.line → IsCharBoundary l.line l.end;
}

abbrev pub decreases-loop-end : goal.decreases-loop-end
decreases-loop-end l = length l.line - l.end
