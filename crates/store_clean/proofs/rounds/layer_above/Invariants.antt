use Rattle.std.proofs.Common.{ℕ, ◌<◌, ◌≤◌, length, take}
use Rattle.std.specs.Prelude.{Contains}
use Rattle.store_clean.specs.Steps.{layer_at}
use Rattle.store_clean.proofs.rounds.layer_above.Given as goal

abbrev pub invariant-loop-place : goal.invariant-loop-place
invariant-loop-place l = record {
  over : (w : ℕ) → Contains (take l.place-index l.places) w → layer_at l.layers w < l.above;
  low : l.above ≤ length l.layers;
}
