-- How the parts of a run, one for each configuration, become one answer (own rules).
use Rattle.std.specs.Prelude.{ℕ, suc, Bool, true, false, List, [], ◌∷◌, ◌++◌, codes, if◌then◌else◌}
use Rattle.meta_model.specs.declared.event.Status.{Status}
use Rattle.meta_model.specs.declared.event.Status.TheVariants as status
use Rattle.meta_model.specs.Text.{is_empty, newline}

-- the store of a configuration: the folder of its paths, with its slash; that of the default one is the whole disk
abbrev pub store_prefix : List ℕ → List ℕ
store_prefix mc = if is_empty mc then [] else codes "mc/" ++ mc ++ codes "/"

-- the line before all that belongs to a configuration that has a name
abbrev pub config_line : List ℕ → List ℕ
config_line mc = if is_empty mc then [] else codes "mc " ++ mc ++ newline ∷ []

-- Whether a run goes on behind a part that ended so: it was Ok, or with `-k` a task failed in it.
abbrev pub goes_on : Bool → Status → Bool
goes_on keep_going status.Ok = true
goes_on keep_going status.TaskFailed = keep_going
goes_on keep_going other = false

-- how many of the parts are reached, by what each would end with: the first behind which the run doesn't go on is the last one
abbrev pub reached_parts : Bool → List Status → ℕ
reached_parts keep_going [] = 0
reached_parts keep_going (one ∷ more) = suc (if goes_on keep_going one then reached_parts keep_going more else 0)

-- the answer where the parts behind a failed task gave that one: theirs where it isn't Ok
abbrev pub behind_failed : Status → Status
behind_failed status.Ok = status.TaskFailed
behind_failed other = other

-- The status of a run of parts, by what each would end with: that of the first behind which it doesn't go on; else that a task failed, where one did.
abbrev pub status_of : Bool → List Status → Status
status_of keep_going [] = status.Ok
status_of keep_going (status.Ok ∷ more) = status_of keep_going more
status_of keep_going (status.TaskFailed ∷ more) = if keep_going then behind_failed (status_of keep_going more) else status.TaskFailed
status_of keep_going (other ∷ more) = other
