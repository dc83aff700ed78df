use Rattle.std.proofs.Common.{◌≡◌, drop}
use Rattle.plan_model.specs.Inputs.{input_words, inputs_of}
use Rattle.task_plan.specs.Meant.{inputs_meant}
use Rattle.task_plan.proofs.inputs.take_words.Given as goal

-- the files of the words so far are taken
abbrev pub invariant-loop-word : goal.invariant-loop-word
invariant-loop-word g l = record {
  same : g.L.Layers.files l.layers ≡ g.L.Layers.files l.fn.layers;
  faults : g.L.Layers.faults l.layers ≡ g.L.Layers.faults l.fn.layers;
  taken : g.L.Layers.tells → inputs_of (g.L.Layers.files l.fn.layers) l.file (inputs_meant l.fn.inputs) (input_words l.words) ≡ inputs_of (g.L.Layers.files l.fn.layers) l.file (inputs_meant l.inputs) (input_words (drop l.word-index l.words));
}
