use Rattle.book_change.proofs.Marked.{marked_is_closed}
use Rattle.book_change.proofs.laws.marked_lines.Goals as goal

pub returns : goal.returns
returns c = marked_is_closed
