-- The worked rows of a recipe with two tasks: a comment in the first one's function changes its signature and not its output.
use Rattle.std.specs.Prelude.{true, false, List, [], ◌∷◌, ◌++◌, ℕ, Option, Some, None, Ok, codes}
use Rattle.std.specs.Option.{option_map}
use Rattle.tree_model.specs.declared.hash.Hash.{Hash}
use Rattle.tree_model.specs.declared.entry.Entry.TheVariants.{File}
use Rattle.tree_model.specs.Hash.{hash_text}
use Rattle.tree_model.specs.Path.{inside}
use Rattle.outside_traits.specs.Store.{Store, put}
use Rattle.meta_model.specs.declared.plan.PlanTask.{PlanTask}
use Rattle.meta_model.specs.declared.value.KeyLine.{KeyLine}
use Rattle.meta_model.specs.declared.event.Avail.TheVariants as avail
use Rattle.meta_model.specs.CleanBuild.{Entries, Gives}
use Rattle.meta_model.specs.Worked.{file}
use Rattle.store_model.specs.Signatures.{Signed, signature}
use Rattle.store_model.specs.Origins.{Book, Line, Reading, rows_of}
use Rattle.store_model.specs.Made.{Run, gives_of}
use Rattle.store_model.specs.Recording.{recorded, with_record}
use Rattle.store_model.specs.Valid.{IsValid}
use Rattle.store_model.specs.Reuse.{MayReuse}
use Rattle.store_model.specs.Hello.{nothing_held}
use Rattle.store_model.specs.Available.{IsAvailable, stamp_path, work_folder}

-- ---- the recipe

-- the function of `do_gen`, before the edit and behind it, and that of `do_build`
abbrev pub gen_body : List ℕ
gen_body = codes "    echo 1 > n.txt" ++ (10 ∷ [])

abbrev pub noted_body : List ℕ
noted_body = codes "    # note" ++ (10 ∷ gen_body)

abbrev pub build_body : List ℕ
build_body = codes "    cat n.txt > m.txt" ++ (10 ∷ [])

-- a task of the recipe: its key has its function alone, which is its script here
abbrev pub task_of : List ℕ → List ℕ → List ℕ → ℕ → PlanTask
task_of name body deps depth = record {
  id = record { mc = []; pn = codes "c"; task = name };
  deps = deps;
  depth = depth;
  key = record { lines = record { name = name; value = Some (record { text = body; removes = []; flags = (codes "func", codes "1") ∷ [] }) } ∷ []; excluded = false };
  files = [];
  script = body;
  nostamp = false;
  sstate = false;
  places = [];
}

abbrev pub gen_task : PlanTask
gen_task = task_of (codes "do_gen") gen_body [] 0

abbrev pub noted_task : PlanTask
noted_task = task_of (codes "do_gen") noted_body [] 0

abbrev pub build_task : PlanTask
build_task = task_of (codes "do_build") build_body (0 ∷ []) 1

-- the plan before the edit, and behind it
abbrev pub plan : List PlanTask
plan = gen_task ∷ (build_task ∷ [])

abbrev pub edited_plan : List PlanTask
edited_plan = noted_task ∷ (build_task ∷ [])

-- ---- what its scripts give

-- one digit and a newline
abbrev pub one : List ℕ
one = codes "1" ++ (10 ∷ [])

abbrev pub gen_tree : Entries
gen_tree = file (codes "n.txt") one ∷ []

abbrev pub build_tree : Entries
build_tree = file (codes "m.txt") one ∷ (file (codes "n.txt") one ∷ [])

-- three runs, the last over what `do_gen` gave
abbrev pub made : List Run
made = record { script = gen_body; tree = []; outcome = Ok gen_tree }
    ∷ (record { script = noted_body; tree = []; outcome = Ok gen_tree }
    ∷ (record { script = build_body; tree = file (codes "work/n.txt") one ∷ []; outcome = Ok build_tree } ∷ []))

abbrev pub gives : Gives
gives = gives_of made

-- what a key says of a task: the text of its one line is the script
abbrev pub script_in : List KeyLine → Option (List ℕ)
script_in [] = None
script_in (line ∷ more) = option_map (λ value. value.text) line.value

abbrev pub reading : Reading
reading = record { script_of = λ lines task. script_in lines; places_of = λ lines task. Some []; sstate_of = λ lines task. false }

-- ---- the names of the three records: the digests of their signatures' short texts

abbrev pub gen_name : Hash
gen_name = record { bytes = 230 ∷ 22 ∷ 18 ∷ 138 ∷ 247 ∷ 194 ∷ 18 ∷ 105 ∷ 162 ∷ 6 ∷ 178 ∷ 135 ∷ 209 ∷ 43 ∷ 117 ∷ 166 ∷ 4 ∷ 176 ∷ 231 ∷ 0 ∷ 107 ∷ 59 ∷ 171 ∷ 137 ∷ 167 ∷ 69 ∷ 27 ∷ 115 ∷ 48 ∷ 7 ∷ 46 ∷ 203 ∷ [] }

abbrev pub noted_name : Hash
noted_name = record { bytes = 11 ∷ 234 ∷ 245 ∷ 36 ∷ 112 ∷ 12 ∷ 17 ∷ 233 ∷ 170 ∷ 100 ∷ 247 ∷ 238 ∷ 203 ∷ 40 ∷ 104 ∷ 111 ∷ 2 ∷ 82 ∷ 165 ∷ 29 ∷ 144 ∷ 25 ∷ 100 ∷ 21 ∷ 89 ∷ 81 ∷ 233 ∷ 73 ∷ 204 ∷ 102 ∷ 248 ∷ 216 ∷ [] }

abbrev pub build_name : Hash
build_name = record { bytes = 160 ∷ 73 ∷ 93 ∷ 231 ∷ 77 ∷ 100 ∷ 162 ∷ 77 ∷ 181 ∷ 203 ∷ 221 ∷ 49 ∷ 248 ∷ 13 ∷ 190 ∷ 228 ∷ 2 ∷ 40 ∷ 26 ∷ 28 ∷ 153 ∷ 99 ∷ 22 ∷ 88 ∷ 82 ∷ 144 ∷ 160 ∷ 254 ∷ 8 ∷ 224 ∷ 89 ∷ 172 ∷ [] }

-- ---- what the runs record

-- the first run: both tasks
abbrev pub gen_signed : Signed
gen_signed = record { task = gen_task; sig = signature [] [] gen_task }

abbrev pub gen_line : Line
gen_line = recorded [] gen_signed gen_tree

abbrev pub build_signed : Signed
build_signed = record { task = build_task; sig = signature (rows_of (gen_line ∷ [])) (gen_signed ∷ []) build_task }

abbrev pub build_line : Line
build_line = recorded (rows_of (gen_line ∷ [])) build_signed build_tree

abbrev pub first_book : Book
first_book = gen_line ∷ (build_line ∷ [])

-- the run behind the edit: `do_gen` alone
abbrev pub noted_signed : Signed
noted_signed = record { task = noted_task; sig = signature (rows_of first_book) [] noted_task }

abbrev pub noted_line : Line
noted_line = recorded (rows_of first_book) noted_signed gen_tree

abbrev pub second_book : Book
second_book = gen_line ∷ (build_line ∷ (noted_line ∷ []))

-- ---- what is held

-- the store behind the first run, and that behind the edit
abbrev pub first_store : Store
first_store = with_record (with_record nothing_held gen_line) build_line

abbrev pub second_store : Store
second_store = with_record first_store noted_line

-- Before each run its plan may reuse the book, and the stores that the runs leave are valid with their books.
pub record CommentIsRecorded : Type 0 where
  pub before : MayReuse gives reading nothing_held [] plan
  pub first : IsValid gives reading first_store first_book
  pub between : MayReuse gives reading first_store first_book edited_plan
  pub after : IsValid gives reading second_store second_book

-- ---- what is available

-- `do_build` above the edited task, before this has a record and behind it
abbrev pub waiting : Signed
waiting = record { task = build_task; sig = signature (rows_of first_book) (noted_signed ∷ []) build_task }

abbrev pub again : Signed
again = record { task = build_task; sig = signature (rows_of second_book) (noted_signed ∷ []) build_task }

-- the last store, with what the first run left of `do_build`: its work folder, and the stamp that names its record
abbrev pub found_store : Store
found_store = put (put (put second_store (inside (work_folder build_task) (codes "n.txt")) (Some (File false one)))
    (inside (work_folder build_task) (codes "m.txt")) (Some (File false one)))
    (stamp_path build_task) (Some (File false (hash_text build_name ++ 10 ∷ [])))

-- Behind the edit neither task is available, whatever is held; when `do_gen` has run again `do_build` is.
pub record WhatIsAvailable : Type 0 where
  pub edited : (held : Store) → IsAvailable held (rows_of first_book) true noted_signed avail.Missing
  pub above : (held : Store) → IsAvailable held (rows_of first_book) true waiting avail.Missing
  pub found : IsAvailable found_store (rows_of second_book) true again avail.Work
