use Rattle.load_model.proofs.Growth.{entries_grow, class_entries_grow, searched_entries_grow}
use Rattle.load_model.proofs.laws.reading_files_laws.Goals as goal

pub returns-clause-file : goal.returns-clause-file
returns-clause-file c = entries_grow

pub returns-clause-class : goal.returns-clause-class
returns-clause-class c = class_entries_grow

pub returns-clause-searched : goal.returns-clause-searched
returns-clause-searched c = searched_entries_grow
