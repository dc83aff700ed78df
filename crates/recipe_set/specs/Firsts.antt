-- What is found first.
use Rattle.std.specs.Prelude.{Option, Some, None}

abbrev pub first_of : {A : Type 0} → Option A → Option A → Option A
first_of None later = later
first_of (Some found) later = Some found
