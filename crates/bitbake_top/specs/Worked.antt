-- Worked rows of where a run may begin.
use Rattle.std.specs.Prelude.{false, [], ◌∷◌, Some, None, codes, if◌then◌else◌}
use Rattle.std.specs.Str.{bytes_eq}
use Rattle.tree_model.specs.Path.{inside}
use Rattle.tree_model.specs.declared.entry.Entry.TheVariants.{File}
use Rattle.outside_traits.specs.Store.{Store, put}
use Rattle.meta_model.specs.declared.plan.Plan.{Plan}
use Rattle.store_model.specs.Available.{stamp_path, work_folder}
use Rattle.store_model.specs.Hello.{first_line, hello_name, hello_task, top_task}
use Rattle.store_model.specs.Origins.{Book}
use Rattle.store_model.specs.Publication.{stamp_file}
use Rattle.build_resume.specs.Worked.{recorded_alone}

abbrev pub no_plan : Plan
no_plan = record { threads = 1; targets = []; tasks = [] }

-- the disk holds one empty file, among the records
abbrev pub stray : Store
stray path = if bytes_eq path (codes "rec2/x") then Some (File false []) else None

-- the line that the run of one task records
abbrev pub hello_book : Book
hello_book = first_line ∷ []

-- what the run of one task leaves of an empty disk: the record with its key, the output in the task's work folder, and the stamp that names the record
abbrev pub hello_left : Store
hello_left = put (put recorded_alone (inside (work_folder hello_task) (codes "n")) (Some (File false (codes "1")))) (stamp_path hello_task) (Some (stamp_file hello_name))

-- two tasks, of which the second needs the first
abbrev pub chain_plan : Plan
chain_plan = record { threads = 1; targets = 1 ∷ []; tasks = hello_task ∷ top_task ∷ [] }
