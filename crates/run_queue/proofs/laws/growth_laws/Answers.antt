use Rattle.run_queue.proofs.Growing.{book_grows, course_of_front, ended_grows, ended_is_step, legal_grows}
use Rattle.run_queue.proofs.laws.growth_laws.Goals as goal

pub returns : goal.returns
returns c = record { book = book_grows; ended = ended_grows; step = ended_is_step; course = course_of_front; legal = legal_grows }
