use Rattle.store_move.proofs.Naming.{objects_are_moved}
use Rattle.store_move.proofs.laws.objects_are_moved.Goals as goal

pub returns : goal.returns
returns c = objects_are_moved
