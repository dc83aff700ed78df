use Rattle.std.proofs.Common.{◌≤◌, sym, subst, length}
use Rattle.recipe_set.proofs.Pieces.{length_within}
use Rattle.recipe_set.proofs.versions.piece_length.Goals as goal

pub returns-in-Digit-clause-within : goal.returns-in-Digit-clause-within
returns-in-Digit-clause-within c = subst (λ n. n ≤ length c.args.text.now) (sym c.run_length.ensures) (length_within c.args.kind c.args.text.now)
