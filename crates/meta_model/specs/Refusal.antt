-- Why a value is refused.
use Rattle.std.specs.Prelude.{ℕ, List}
pub use Rattle.meta_model.specs.Passing.{◌>>=◌, require}

-- There are four causes (own rules): a name is met in its own expansion; more than 64 names would be in expansion at
-- once, or a text nests references more than 64 deep; an expanded text would have more than 1,048,576 bytes; the passes of
-- OVERRIDES don't settle. The first names the name that is met, the next two the innermost name in expansion, or the empty
-- text; the last has the lists of the last two passes.
pub data Refusal : Type 0 where
  value_cycle : (name : List ℕ) → Refusal
  too_deep : (name : List ℕ) → Refusal
  too_long : (name : List ℕ) → Refusal
  unstable : (before last : List (List ℕ)) → Refusal
