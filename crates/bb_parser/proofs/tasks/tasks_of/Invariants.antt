use Rattle.std.proofs.Common.{◌≡◌, map, take, true}
use Rattle.std.specs.List.{list_all}
use Rattle.meta_model.specs.Grammar.{task_of}
use Rattle.bb_parser.specs.Tasks.{is_task_name}
use Rattle.bb_parser.proofs.tasks.tasks_of.Given as goal

-- so far each word's task can be one
abbrev pub invariant-loop-word : goal.invariant-loop-word
invariant-loop-word l = record {
  made : l.names ≡ map task_of (take l.word-index l.words);
  good : list_all is_task_name (map task_of (take l.word-index l.words)) ≡ true;
}
