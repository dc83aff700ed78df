use Rattle.std.proofs.Common.{◌≡◌, List, ℕ, filter, take}
use Rattle.recipe_set.specs.Stems.{is_open, is_named, named_at}
use Rattle.recipe_set.proofs.by_name.index_of.Given as goal

abbrev pub invariant-loop-append : goal.invariant-loop-append
invariant-loop-append l = record {
  named : (t : List ℕ) → named_at l.named t ≡ filter (is_named t) (take l.append-index l.appends);
  apart : l.apart ≡ filter is_open (take l.append-index l.appends);
}
