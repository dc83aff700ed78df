-- How the runs over the sample go on, and what is answered of them.
use Rattle.std.specs.Prelude.{◌≢◌, true, false}
use Rattle.meta_model.specs.declared.event.Status.{Status}
use Rattle.meta_model.specs.declared.event.Status.TheVariants as status
use Rattle.meta_model.specs.declared.plan.Options.{Options}
use Rattle.answer_model.specs.Run.{HasCause}

-- how a run over the sample goes on: it stops at a failure, and objects of the shared state count
abbrev pub plainly : Options
plainly = record { keep_going = false; setscene = true }

-- How a run over the sample may end: no device of its own failed, and no words are refused.
pub record MayEnd (s : Status) : Type 0 where
  pub cause : HasCause ⊥ 0 ⊥ ⊥ s
  pub read : s ≢ status.Usage

-- The status that is answered, by how the line was printed: a failed sink changes just Ok and TaskFailed.
abbrev pub answered : Status → Status → Status
answered status.WriteFault status.Ok = status.WriteFault
answered status.WriteFault status.TaskFailed = status.WriteFault
answered _ s = s
