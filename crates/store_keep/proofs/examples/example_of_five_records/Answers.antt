use Rattle.store_keep.proofs.Working.{all_of_five, at_most_none, at_most_three, root_part}
use Rattle.store_keep.proofs.examples.example_of_five_records.Goals as goal

pub returns : goal.returns
returns c = record { closure = root_part; three = at_most_three; none = at_most_none; all = all_of_five }
