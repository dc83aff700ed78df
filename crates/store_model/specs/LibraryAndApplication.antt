-- The worked rows of a library and an application that needs it, with parts that both publish as shared state objects.
use Rattle.std.specs.Prelude.{◌≡◌, ◌⊎◌, ◌<◌, ℕ, Bool, true, false, if◌then◌else◌, nat_eq, List, [], ◌∷◌, ◌++◌, Option, Some, None, Ok, codes, unwrap_or}
use Rattle.std.specs.List.{list_any, slice_get}
use Rattle.std.specs.Str.{bytes_eq}
use Rattle.tree_model.specs.declared.entry.Entry.{Entry}
use Rattle.tree_model.specs.declared.entry.Entry.TheVariants.{File, Link}
use Rattle.tree_model.specs.Path.{inside}
use Rattle.outside_traits.specs.Store.{Store, put}
use Rattle.meta_model.specs.declared.event.Avail.{Avail}
use Rattle.meta_model.specs.declared.event.Avail.TheVariants as avail
use Rattle.meta_model.specs.declared.plan.Plan.{Plan}
use Rattle.meta_model.specs.declared.plan.PlanTask.{PlanTask}
use Rattle.meta_model.specs.declared.value.KeyLine.{KeyLine}
use Rattle.meta_model.specs.declared.value.Resolved.{Resolved}
use Rattle.meta_model.specs.CleanBuild.{Entries, Gives}
use Rattle.meta_model.specs.Layout.{put_inside}
use Rattle.meta_model.specs.Worked.{file}
use Rattle.store_model.specs.Hello.{nothing_held}
use Rattle.store_model.specs.Available.{IsAvailable, IsNeeded}
use Rattle.store_model.specs.Signatures.{Signed, signature, signatures}
use Rattle.store_model.specs.Origins.{Book, Reading, rows_of}
use Rattle.store_model.specs.Made.{Run, gives_of}
use Rattle.store_model.specs.Recording.{recorded}

-- ---- the functions, with the folders `build`, `image` and `sysroot` of the work folder

-- a task without a function has no script, and `do_build` isn't run: what it gives is what it is given
abbrev pub nothing : List ℕ
nothing = []

abbrev pub greet_compile : List ℕ
greet_compile = codes "    echo \"hello world\" > libgreet.txt" ++ (10 ∷ [])

abbrev pub greet_install : List ℕ
greet_install = codes "    mkdir -p \"${WORKDIR}/image/usr/lib\"" ++ (10
    ∷ (codes "    cp \"${WORKDIR}/build/libgreet.txt\" \"${WORKDIR}/image/usr/lib/libgreet.txt.1\"" ++ (10
    ∷ (codes "    ln -s libgreet.txt.1 \"${WORKDIR}/image/usr/lib/libgreet.txt\"" ++ (10 ∷ [])))))

abbrev pub app_compile : List ℕ
app_compile = codes "    cat \"${DEPSDIR}/greet/do_populate_sysroot/usr/lib/libgreet.txt\" > out.txt" ++ (10 ∷ [])

abbrev pub app_install : List ℕ
app_install = codes "    mkdir -p \"${WORKDIR}/image/usr/share\"" ++ (10
    ∷ (codes "    cp \"${WORKDIR}/build/out.txt\" \"${WORKDIR}/image/usr/share/out.txt\"" ++ (10 ∷ [])))

abbrev pub publish : List ℕ
publish = codes "    mkdir -p \"${WORKDIR}/sysroot\"" ++ (10
    ∷ (codes "    cp -RP \"${WORKDIR}/image/usr\" \"${WORKDIR}/sysroot/usr\"" ++ (10 ∷ [])))

-- ---- the plan

-- a task, whose key has its function alone
abbrev pub task_of : List ℕ → List ℕ → List ℕ → List ℕ → ℕ → PlanTask
task_of pn name body deps depth = record {
  id = record { mc = []; pn = pn; task = name };
  deps = deps;
  depth = depth;
  key = record { lines = record { name = name; value = Some (record { text = body; removes = []; flags = (codes "func", codes "1") ∷ [] }) } ∷ []; excluded = false };
  files = [];
  script = body;
  nostamp = false;
  sstate = false;
  places = [];
}

-- the pair of folders of what is published: all of `sysroot`
abbrev pub sysroot : List (List ℕ × List ℕ)
sysroot = (codes "sysroot", codes ".") ∷ []

abbrev pub published_flags : List (List ℕ × List ℕ)
published_flags = (codes "func", codes "1") ∷ ((codes "sstate", codes "1") ∷ ((codes "sstate-inputdirs", codes "${WORKDIR}/sysroot") ∷ ((codes "sstate-outputdirs", codes ".") ∷ [])))

-- the task that publishes, as a shared state object
abbrev pub publishing : List ℕ → List ℕ → ℕ → PlanTask
publishing pn deps depth = record (task_of pn (codes "do_populate_sysroot") publish deps depth) {
  key = record { lines = record { name = codes "do_populate_sysroot"; value = Some (record { text = publish; removes = []; flags = published_flags }) } ∷ []; excluded = false };
  sstate = true;
  places = sysroot;
}

abbrev pub tasks : List PlanTask
tasks = task_of (codes "app") (codes "do_configure") nothing [] 0
    ∷ (task_of (codes "greet") (codes "do_configure") nothing [] 0
    ∷ (task_of (codes "greet") (codes "do_compile") greet_compile (1 ∷ []) 1
    ∷ (task_of (codes "greet") (codes "do_install") greet_install (2 ∷ []) 2
    ∷ (publishing (codes "greet") (3 ∷ []) 3
    ∷ (task_of (codes "app") (codes "do_compile") app_compile (0 ∷ (4 ∷ [])) 4
    ∷ (task_of (codes "app") (codes "do_install") app_install (5 ∷ []) 5
    ∷ (publishing (codes "app") (6 ∷ []) 6
    ∷ (task_of (codes "app") (codes "do_build") nothing (7 ∷ []) 7 ∷ []))))))))

-- the plan of the target `app`
abbrev pub plan : Plan
plan = record { tasks = tasks; targets = 8 ∷ []; threads = 1 }

-- ---- what a key says of a task

abbrev pub value_in : List KeyLine → Option Resolved
value_in [] = None
value_in (line ∷ more) = line.value

-- the text of the key's one line
abbrev pub text_in : Option Resolved → List ℕ
text_in None = []
text_in (Some value) = value.text

-- whether the line has the flag of tasks that are kept as shared state objects
abbrev pub is_published : Option Resolved → Bool
is_published None = false
is_published (Some value) = list_any (λ flag. bytes_eq flag.0 (codes "sstate")) value.flags

abbrev pub reading : Reading
reading = record {
  script_of = λ lines task. Some (text_in (value_in lines));
  places_of = λ lines task. Some (if is_published (value_in lines) then sysroot else []);
  sstate_of = λ lines task. is_published (value_in lines);
}

-- ---- what the scripts give

-- the greeting and a newline
abbrev pub greeting : List ℕ
greeting = codes "hello world" ++ (10 ∷ [])

abbrev pub link : List ℕ → List ℕ → List ℕ × Entry
link path target = (path, Link target)

-- what each task gives, by its number
abbrev pub nothing_given : Entries
nothing_given = []

abbrev pub greet_compiled : Entries
greet_compiled = file (codes "build/libgreet.txt") greeting ∷ []

abbrev pub greet_installed : Entries
greet_installed = file (codes "build/libgreet.txt") greeting
    ∷ (link (codes "image/usr/lib/libgreet.txt") (codes "libgreet.txt.1")
    ∷ (file (codes "image/usr/lib/libgreet.txt.1") greeting ∷ []))

abbrev pub greet_published : Entries
greet_published = link (codes "usr/lib/libgreet.txt") (codes "libgreet.txt.1")
    ∷ (file (codes "usr/lib/libgreet.txt.1") greeting ∷ [])

abbrev pub app_compiled : Entries
app_compiled = file (codes "build/out.txt") greeting ∷ []

abbrev pub app_installed : Entries
app_installed = file (codes "build/out.txt") greeting ∷ (file (codes "image/usr/share/out.txt") greeting ∷ [])

abbrev pub app_published : Entries
app_published = file (codes "usr/share/out.txt") greeting ∷ []

abbrev pub outputs : List Entries
outputs = nothing_given ∷ (nothing_given ∷ (greet_compiled ∷ (greet_installed ∷ (greet_published ∷ (app_compiled ∷ (app_installed ∷ (app_published ∷ (app_published ∷ []))))))))

-- the runs of the scripts, each over its layout; of the tasks that publish the whole work folder
abbrev pub made : List Run
made = record { script = nothing; tree = []; outcome = Ok [] }
    ∷ (record { script = greet_compile; tree = []; outcome = Ok greet_compiled }
    ∷ (record { script = greet_install; tree = put_inside (codes "work") greet_compiled; outcome = Ok greet_installed }
    ∷ (record { script = publish; tree = put_inside (codes "work") greet_installed; outcome = Ok (greet_installed ++ put_inside (codes "sysroot") greet_published) }
    ∷ (record { script = app_compile; tree = put_inside (codes "deps/greet/do_populate_sysroot") greet_published; outcome = Ok app_compiled }
    ∷ (record { script = app_install; tree = put_inside (codes "work") app_compiled; outcome = Ok app_installed }
    ∷ (record { script = publish; tree = put_inside (codes "work") app_installed; outcome = Ok (app_installed ++ put_inside (codes "sysroot") app_published) }
    ∷ (record { script = nothing; tree = put_inside (codes "work") app_published; outcome = Ok app_published } ∷ [])))))))

abbrev pub gives : Gives
gives = gives_of made

-- ---- what the first run records

-- the lines of tasks, with the signatures of those before them, each recorded behind the others
abbrev pub recorded_from : Book → List Signed → List PlanTask → List Entries → Book
recorded_from book before (task ∷ tasks) (tree ∷ trees) =
    let s : Signed = record { task = task; sig = signature (rows_of book) before task } in
    recorded_from (book ++ recorded (rows_of book) s tree ∷ []) (before ++ s ∷ []) tasks trees
recorded_from book before _ _ = book

abbrev pub book : Book
book = recorded_from [] [] tasks outputs

-- ---- what a later run needs

-- how the tasks are there when the work folders and the stamps are gone: the published part of the application by its
-- object; that of the library isn't asked
abbrev pub by_objects : ℕ → Avail
by_objects n = if nat_eq n 7 then avail.Object else avail.Missing

-- how they are there where objects don't count
abbrev pub not_at_all : ℕ → Avail
not_at_all n = avail.Missing

-- Such a run needs `do_build` of the application and what it publishes, and nothing else; where objects don't count every task.
pub record WhatIsNeeded : Type 0 where
  pub two : (n : ℕ) → IsNeeded plan by_objects n → (n ≡ 8) ⊎ (n ≡ 7)
  pub both : IsNeeded plan by_objects 8 × IsNeeded plan by_objects 7
  pub all : (n : ℕ) → n < 9 → IsNeeded plan not_at_all n

-- ---- what is available when the work folders and the stamps are gone

-- the task that publishes the application, with its signature
abbrev pub published : Signed
published =
    let task = publishing (codes "app") (6 ∷ []) 6 in
    unwrap_or (slice_get (signatures (rows_of book) tasks) 7) (record { task = task; sig = signature [] [] task })

-- the folder of its object, whose name is the unihash: the digest of its own signature
abbrev pub object : List ℕ
object = codes "obj/6f2134ea13b1d55bd1b8c6cd73952e8cf725c01411ce324685300e2c47fa2b55"

-- a store that has this object alone
abbrev pub object_store : Store
object_store = put nothing_held (inside object (codes "usr/share/out.txt")) (Some (File false greeting))

-- Where objects count the task is there by its object, and where they don't it is missing.
pub record WhatIsRestored : Type 0 where
  pub by_object : IsAvailable object_store (rows_of book) true published avail.Object
  pub without : IsAvailable object_store (rows_of book) false published avail.Missing
