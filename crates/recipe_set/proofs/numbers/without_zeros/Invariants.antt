use Rattle.std.proofs.Common.{◌≡◌, true, length}
use Rattle.std.specs.Char.{is_ascii_digit}
use Rattle.std.specs.List.{list_all}
use Rattle.load_model.specs.Versions.{number_of}
use Rattle.recipe_set.proofs.numbers.without_zeros.Given as goal

abbrev pub invariant-loop-rest : goal.invariant-loop-rest
invariant-loop-rest l = record {
  value : number_of l.rest ≡ number_of l.digits;
  digits : list_all is_ascii_digit l.digits ≡ true → list_all is_ascii_digit l.rest ≡ true;
}

abbrev pub decreases-loop-rest : goal.decreases-loop-rest
decreases-loop-rest l = length l.rest
