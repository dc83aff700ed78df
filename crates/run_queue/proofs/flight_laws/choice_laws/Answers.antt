use Rattle.run_queue.proofs.Flights.{all_alone, choice_valid, with_is_read}
use Rattle.run_queue.proofs.Flying.{left_by_run}
use Rattle.run_queue.proofs.Growth.{flight_stays, line_stays, publication_same}
use Rattle.run_queue.proofs.Joining.{line_stays_valid, lines_join}
use Rattle.run_queue.proofs.flight_laws.choice_laws.Goals as goal

pub returns : goal.returns
returns c = record {
  stays = line_stays_valid;
  join = lines_join;
  choice = λ o plan tale opened w ts fly once. (all_alone o plan tale opened w ts fly, choice_valid o plan tale opened w ts fly once);
  read = with_is_read;
  promised = left_by_run;
  same = λ o plan book more may t one f others. (
    flight_stays o plan book more may t one f others,
    publication_same book more one.signed one.tree others,
    line_stays o plan book more may t one f others,
  );
}
