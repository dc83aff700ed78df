use Rattle.meta_model.proofs.Winner.{winning_wins, has_one_winner}
use Rattle.meta_model.proofs.laws.winning_laws.Goals as goal

pub returns-clause-wins : goal.returns-clause-wins
returns-clause-wins c = winning_wins

pub returns-clause-alone : goal.returns-clause-alone
returns-clause-alone c = has_one_winner
