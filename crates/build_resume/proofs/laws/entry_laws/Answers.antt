use Rattle.build_resume.proofs.Entered.{first_entry, next_entry}
use Rattle.build_resume.proofs.laws.entry_laws.Goals as goal

pub returns-clause-first : goal.returns-clause-first
returns-clause-first c = first_entry

pub returns-clause-next : goal.returns-clause-next
returns-clause-next c = next_entry
