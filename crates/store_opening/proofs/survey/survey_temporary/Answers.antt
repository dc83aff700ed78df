use Rattle.std.proofs.Common.{◌∙◌, ap, ◌++◌}
use Rattle.store_opening.proofs.Doomed.{dooms_temporary}
use Rattle.store_opening.proofs.survey.survey_temporary.Goals as goal

pub returns-clause-dooms : goal.returns-clause-dooms
returns-clause-dooms g c told =
    dooms_temporary (g.D.Disk.story c.args.disk.now).held c.in_ok-paths.paths c.args.doomed.now.items c.doom_all.new.doomed.items (c.in_ok-paths.ensures.told told).answers.0
    (c.in_ok-doom_all.ensures ∙ ap (λ l. c.args.doomed.now.items ++ l) c.as_slice.ensures)
