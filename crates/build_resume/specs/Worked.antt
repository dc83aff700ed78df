-- Worked rows: a plan of one task that fails, with the tale of its run, and what crashes left of a run of one task.
use Rattle.std.specs.Prelude.{[], ◌∷◌, Some, None, codes, List, if◌then◌else◌}
use Rattle.std.specs.Str.{bytes_eq}
use Rattle.outside_traits.specs.Store.{Store}
use Rattle.meta_model.specs.declared.event.Event.TheVariants as events
use Rattle.meta_model.specs.declared.event.Logged.{Logged}
use Rattle.meta_model.specs.declared.event.Why.TheVariants as why
use Rattle.meta_model.specs.declared.plan.Plan.{Plan}
use Rattle.meta_model.specs.Worked.{planned, shell}
use Rattle.store_model.specs.Available.{stamp_path}
use Rattle.store_model.specs.Hello.{first_line, hello_name, hello_reading, hello_task}
use Rattle.store_model.specs.Recording.{with_record}
use Rattle.store_model.specs.Publication.{stamp_file}
use Rattle.run_model.specs.Opening.{Opening}
use Rattle.run_model.specs.Headline.{nothing}

-- its script ends with 3
abbrev pub failing_plan : Plan
failing_plan = record { threads = 1; targets = 0 ∷ []; tasks = planned (codes "a") (codes "do_build") [] 0 (codes "fail") ∷ [] }

abbrev pub failing_tale : List Logged
failing_tale = record { event = events.Started 0 1; seat = 1; moment = 0 } ∷ record { event = events.Failed 0 (why.Status 3); seat = 1; moment = 0 } ∷ []

-- a run of one task that begins on an empty disk
abbrev pub hello_plan : Plan
hello_plan = record { threads = 1; targets = 0 ∷ []; tasks = hello_task ∷ [] }

abbrev pub empty_opening : Opening
empty_opening = record { gives = shell; reading = hello_reading; story = record { held = nothing; calls = [] }; book = [] }

-- its task was started
abbrev pub hello_started : List Logged
hello_started = record { event = events.Started 0 1; seat = 1; moment = 0 } ∷ []

-- the disk holds the record and its key, and no stamp
abbrev pub recorded_alone : Store
recorded_alone = with_record nothing first_line

-- the disk holds the stamp, and no record
abbrev pub stamped_alone : Store
stamped_alone path = if bytes_eq path (stamp_path hello_task) then Some (stamp_file hello_name) else None
