use Rattle.std.proofs.lemmas.Result.{on_ok_weaker}
use Rattle.store_opening.proofs.Doomed.{dooms_at}
use Rattle.store_opening.proofs.survey.survey_at.Goals as goal

pub returns-clause-dooms : goal.returns-clause-dooms
returns-clause-dooms g c told =
    on_ok_weaker c.doom_held.result (λ notes. dooms_at (g.D.Disk.story c.args.disk.now).held c.args.path.now c.args.doomed.now.items c.doom_held.new.doomed.items c.requires notes) (c.doom_held.ensures.notes told)
