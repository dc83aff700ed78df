-- Worked signatures and tasks.
use Rattle.std.specs.Prelude.{ℕ, false, List, [], ◌∷◌, Some, codes}
use Rattle.tree_model.specs.declared.hash.Hash.{Hash}
use Rattle.meta_model.specs.declared.plan.PlanTask.{PlanTask}
use Rattle.meta_model.specs.declared.value.KeyLine.{KeyLine}
use Rattle.store_model.specs.declared.signature.EquivRow.{EquivRow}
use Rattle.store_model.specs.declared.signature.SigRecord.{SigRecord}
use Rattle.store_model.specs.Hello.{first_line, hello_task, top_task}
use Rattle.store_model.specs.Origins.{rows_of}

abbrev pub line : List ℕ → List ℕ → KeyLine
line name text = record { name = name; value = Some (record { text = text; removes = []; flags = [] }) }

abbrev pub digest : ℕ → Hash
digest n = record { bytes = n ∷ [] }

-- an earlier signature of a task
abbrev pub earlier : SigRecord
earlier = record {
  pn = codes "app";
  task = codes "do_compile";
  key = record { lines = line (codes "A") (codes "1") ∷ line (codes "B") (codes "2") ∷ line (codes "CFLAGS") (codes "-O2") ∷ []; excluded = false };
  files = (codes "a.c", digest 1) ∷ (codes "b.c", digest 2) ∷ [];
  deps = record { pn = codes "lib"; task = codes "do_build"; name = digest 3 } ∷ record { pn = codes "zlib"; task = codes "do_install"; name = digest 4 } ∷ [];
}

-- Its signature now: a line has gone, one has another text and one has come; so it is with the files; and a needed task gives something else.
abbrev pub later : SigRecord
later = record earlier {
  key = record { lines = line (codes "A") (codes "1") ∷ line (codes "CFLAGS") (codes "-O3") ∷ line (codes "D") (codes "4") ∷ []; excluded = false };
  files = (codes "a.c", digest 9) ∷ (codes "c.c", digest 2) ∷ [];
  deps = record { pn = codes "lib"; task = codes "do_build"; name = digest 3 } ∷ record { pn = codes "zlib"; task = codes "do_install"; name = digest 5 } ∷ [];
}

-- two tasks, of which the second needs the first
abbrev pub chain : List PlanTask
chain = hello_task ∷ top_task ∷ []

-- the row of the first one's record
abbrev pub first_row : List EquivRow
first_row = rows_of (first_line ∷ [])
