-- The book of a run after the events of a tale: each task that ended puts its line behind, where its name had no row.
use Rattle.std.specs.Prelude.{ℕ, List, [], ◌∷◌, ◌++◌, Option, Some, None, Result, Ok, Err, fold}
use Rattle.std.specs.List.{slice_get}
use Rattle.meta_model.specs.declared.event.Event.{Event}
use Rattle.meta_model.specs.declared.event.Event.TheVariants as events
use Rattle.meta_model.specs.declared.event.Logged.{Logged}
use Rattle.meta_model.specs.declared.plan.Plan.{Plan}
use Rattle.meta_model.specs.CleanBuild.{Built, Entries, Gives, Lack, clean_build}
use Rattle.store_model.specs.declared.signature.EquivRow.{EquivRow}
use Rattle.store_model.specs.Origins.{Book, Line, rows_of}
use Rattle.store_model.specs.Recording.{recorded}
use Rattle.store_model.specs.Rows.{row_at}
use Rattle.store_model.specs.Signatures.{Signed, signatures}
use Rattle.store_model.specs.Spelling.{name_of}
use Rattle.run_model.specs.Opening.{Opening}

-- the line that a task with this signature puts behind these rows, if its name has none
abbrev pub line_if_new : List EquivRow → Signed → Entries → Option EquivRow → List Line
line_if_new rows s tree None = recorded rows s tree ∷ []
line_if_new rows s tree (Some row) = []

-- the same, for what the clean build has of the task
abbrev pub line_by : List EquivRow → Signed → Result Entries Lack → List Line
line_by rows s (Ok tree) = line_if_new rows s tree (row_at rows (name_of s.sig))
line_by rows s (Err lack) = []

abbrev pub line_found : List EquivRow → Option Signed → Option Built → List Line
line_found rows None built = []
line_found rows (Some s) None = []
line_found rows (Some s) (Some built) = line_by rows s built.outcome

-- the line of the task of a number that ended, if one is put behind the book
abbrev pub line_of_ended : Gives → Plan → Book → ℕ → List Line
line_of_ended gives plan book t = line_found (rows_of book) (slice_get (signatures (rows_of book) plan.tasks) t) (slice_get (clean_build gives plan.tasks) t)

-- the book after one more event
abbrev pub book_by : Gives → Plan → Book → Event → Book
book_by gives plan book (events.Found t) = book
book_by gives plan book (events.Restored t) = book
book_by gives plan book (events.Started t seat) = book
book_by gives plan book (events.Ended t) = book ++ line_of_ended gives plan book t
book_by gives plan book (events.Failed t why) = book
book_by gives plan book (events.Broke t cut) = book

-- The book after the events of a tale (own rule).
abbrev pub book_after : Gives → Plan → Book → List Logged → Book
book_after gives plan book tale = fold (λ b l. book_by gives plan b l.event) book tale

-- the rows after the events of a tale
abbrev pub rows_after : Opening → Plan → List Logged → List EquivRow
rows_after o plan tale = rows_of (book_after o.gives plan o.book tale)

-- a task of the plan with its signature, after the events of a tale
abbrev pub signed_after : Opening → Plan → List Logged → ℕ → Option Signed
signed_after o plan tale t = slice_get (signatures (rows_after o plan tale) plan.tasks) t
