use Rattle.run_queue.proofs.Landing.{flights_longer, goes_on, objects_longer, row_there, rows_longer, stand_to_longer, stands_longer, valid_longer}
use Rattle.run_queue.proofs.flight_laws.landing_laws.Goals as goal

pub returns : goal.returns
returns c = record {
  grows = λ o plan tale opened w t one fl later closes entry ends. (
    rows_longer o plan tale opened w t one fl later closes entry ends,
    row_there o plan tale opened w t one fl later closes entry ends,
  );
  others = flights_longer;
  stands = λ o plan tale opened w t one fl later closes entry ends image published. (
    λ v. valid_longer o plan tale opened w t one fl later closes entry ends image published v,
    λ stands. stands_longer o plan tale opened w t one fl later closes entry ends image published stands,
    λ were. objects_longer o plan tale opened w t one fl later closes entry ends image were,
  );
  since = stand_to_longer;
  on = goes_on;
}
