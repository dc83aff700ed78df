use Rattle.build_store.proofs.Others as lemmas
use Rattle.build_store.proofs.laws.others_stay.Goals as goal

pub returns-clause-untouched : goal.returns-clause-untouched
returns-clause-untouched c = lemmas.others_untouched

pub returns-clause-lines : goal.returns-clause-lines
returns-clause-lines c = lemmas.others_stay

pub returns-clause-in_work : goal.returns-clause-in_work
returns-clause-in_work c = lemmas.others_in_work_stay

pub returns-clause-objects : goal.returns-clause-objects
returns-clause-objects c = lemmas.others_objects_stay
