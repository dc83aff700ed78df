-- What the flags of a task say of its script, as it is kept.
use Rattle.task_model.specs.Scripts.{Frame}
use Rattle.script_gen.specs.declared.frame.Frame.{Frame as Kept}

-- what stands for the frame that is kept
abbrev pub frame_of : Kept → Frame
frame_of kept = record { cleandirs = kept.cleandirs; dirs = kept.dirs; before = kept.before; after = kept.after }
