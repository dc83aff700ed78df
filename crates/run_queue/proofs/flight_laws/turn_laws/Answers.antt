use Rattle.run_queue.proofs.Leaving.{left_after, objects_now, stand_now, stand_since}
use Rattle.run_queue.proofs.Staging.{turn_valid}
use Rattle.run_queue.proofs.flight_laws.turn_laws.Goals as goal

pub returns : goal.returns
returns c = record {
  valid = turn_valid;
  left = λ o plan tale opened w t one fl writes begun is_begun a b sound later pass with left. left_after o plan tale opened w t one fl writes begun is_begun a b sound later pass with left;
  standing = λ o plan tale opened w t one fl writes a b sound marked pass. (
    λ stands. stand_now o plan tale opened w t one fl writes a b sound pass stands,
    λ since. stand_since o plan tale opened w t one fl writes a b sound pass since marked,
    λ were. objects_now o plan tale opened w t one fl writes a b pass were,
  );
}
