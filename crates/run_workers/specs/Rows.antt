-- Worked rows: what a seat marked of the one task of a plan, and what its bench ran.
use Rattle.std.specs.Prelude.{◌∷◌, [], List, codes}
use Rattle.meta_model.specs.declared.event.Cut.TheVariants as cut
use Rattle.meta_model.specs.declared.event.Event.TheVariants as events
use Rattle.meta_model.specs.declared.event.Logged.{Logged}
use Rattle.meta_model.specs.declared.plan.Plan.{Plan}
use Rattle.meta_model.specs.Worked.{planned}
use Rattle.run_model.specs.Runs.{Runs}

abbrev pub one_plan : Plan
one_plan = record { threads = 1; targets = 0 ∷ []; tasks = planned (codes "a") (codes "do_build") [] 0 (codes "gen") ∷ [] }

abbrev pub started : Logged
started = record { event = events.Started 0 1; seat = 1; moment = 0 }

-- the task ended
abbrev pub ended_tale : List Logged
ended_tale = started ∷ record { event = events.Ended 0; seat = 1; moment = 9 } ∷ []

-- or broke off
abbrev pub broken_tale : List Logged
broken_tale = started ∷ record { event = events.Broke 0 cut.Memory; seat = 1; moment = 0 } ∷ []

-- its script over its layout, which is empty
abbrev pub one_run : Runs
one_run = (codes "gen", []) ∷ []
