use Rattle.store_opening.proofs.judged.judge_disk.Goals as goal

pub returns-clause-judged : goal.returns-clause-judged
returns-clause-judged g c told = (c.in_ok-survey.survey.doomed.items, c.in_ok-survey.survey.bare.items, c.in_ok-survey.ensures.survey told)
