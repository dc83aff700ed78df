use Rattle.std.proofs.Common.{◌≡◌, ◌≤◌, ◌+◌, ◌-◌, ◌∷◌, List, ℕ, length, drop}
use Rattle.load_model.specs.Patterns.{behind_character}
use Rattle.layer_conf.specs.Rows.{rows}
use Rattle.layer_conf.proofs.glob.with_byte.Given as goal

-- the row of what is gone through, and what is left of it behind one character
abbrev pub invariant-loop-left : goal.invariant-loop-left
invariant-loop-left l = record {
  long : length l.made.items ≡ l.left + 1;
  made : (pattern : List ℕ) → l.row ≡ rows pattern l.path → l.made.items ≡ rows (l.byte ∷ pattern) (drop (length l.path - l.left) l.path);
  later : l.later ≡ length (behind_character (drop (length l.path - l.left) l.path));
  within : l.later ≤ l.left;
}
