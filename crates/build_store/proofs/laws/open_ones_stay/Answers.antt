use Rattle.build_store.proofs.OpenStaying.{open_ones_stay}
use Rattle.build_store.proofs.PutStays.{others_keep_put}
use Rattle.build_store.proofs.Staying.{halves_stay, publication_stays}
use Rattle.build_store.proofs.TaskStaying.{open_tasks_stay}
use Rattle.build_store.proofs.laws.open_ones_stay.Goals as goal

pub returns-clause-halves : goal.returns-clause-halves
returns-clause-halves c = halves_stay

pub returns-clause-put : goal.returns-clause-put
returns-clause-put c = others_keep_put

pub returns-clause-publication : goal.returns-clause-publication
returns-clause-publication c = publication_stays

pub returns-clause-any : goal.returns-clause-any
returns-clause-any c = open_ones_stay

pub returns-clause-task : goal.returns-clause-task
returns-clause-task c = open_tasks_stay
