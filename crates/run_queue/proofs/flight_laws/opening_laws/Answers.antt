use Rattle.run_queue.proofs.Boarding.{begins_under_way, ends_with_nothing, marks_keep_flights, one_more_or_less, opening_keeps_flights, opening_keeps_others}
use Rattle.run_queue.proofs.flight_laws.opening_laws.Goals as goal

pub returns : goal.returns
returns c = record { begins = begins_under_way; ends = ends_with_nothing; opening = opening_keeps_flights; beside = opening_keeps_others; values = one_more_or_less; marks = marks_keep_flights }
