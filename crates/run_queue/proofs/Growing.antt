-- A tale that grows by one entry.
use Rattle.std.proofs.Common.{◌≡◌, ◌∙◌, sym, ap, subst, refl, ℕ, ◌≤◌, zero, suc, arith, List, [], ◌∷◌, ◌++◌, length, take, Some, None, length-append, append-nil, Ok}
use Rattle.std.specs.Prelude.{Option}
use Rattle.std.specs.List.{slice_get}
use Rattle.meta_model.specs.declared.event.Logged.{Logged}
use Rattle.meta_model.specs.declared.plan.Plan.{Plan}
use Rattle.meta_model.specs.CleanBuild.{Built, Entries, Gives, clean_build}
use Rattle.tale_model.specs.History.{MayCome}
use Rattle.run_core.proofs.Agreeing.{each_push}
use Rattle.store_model.specs.declared.signature.EquivRow.{EquivRow}
use Rattle.store_model.specs.Lasting.{IsGrown, grown}
use Rattle.store_model.specs.Origins.{Book, Line, rows_of}
use Rattle.store_model.specs.Premises.{HasNoCollision}
use Rattle.store_model.specs.Recording.{recorded, with_record}
use Rattle.store_model.specs.Rows.{row_at}
use Rattle.store_model.specs.Signatures.{Signed, signatures}
use Rattle.store_model.specs.Spelling.{name_of}
use Rattle.run_model.specs.Books.{book_by, line_by, line_found, line_if_new, line_of_ended}
use Rattle.run_model.specs.Courses.{IsThere}
use Rattle.run_queue.specs.Laws.{BookGrows, CourseOfFront, EndedGrows, EndedIsStep, LegalGrows}

pub book_grows : BookGrows
book_grows gives plan book [] e = refl
book_grows gives plan book (l ∷ tale) e = book_grows gives plan (book_by gives plan book l.event) tale e

take_front : {A : Type 0} (k : ℕ) (xs ys : List A) → k ≤ length xs → take k (xs ++ ys) ≡ take k xs
take_front zero xs ys le = refl
take_front (suc k) [] ys le = absurd (omega arith)
take_front (suc k) (x ∷ xs) ys le = ap (λ l. x ∷ l) (take_front k xs ys (omega arith))

longer : (tale : List Logged) (e : Logged) (k : ℕ) → k ≤ length tale → k ≤ length (tale ++ e ∷ [])
longer tale e k le = omega (arith, le, length-append tale (e ∷ []))

pub course_of_front : CourseOfFront
course_of_front o options tale e course is = record {
  options_are = is.options_are;
  there = λ k le. subst (λ (l : List Logged). IsThere o course.plan options l (course.avail k)) (take_front k tale (e ∷ []) le) (is.there k (longer tale e k le));
  needed = λ k le. is.needed k (longer tale e k le);
  clean = is.clean;
}

pub legal_grows : LegalGrows
legal_grows o plan options tale e legal may course same is = each_push (MayCome course) tale e (legal course same (course_of_front o options tale e course is)) (may course same is)

-- ---- a task that ended

line_if : (rows : List EquivRow) (s : Signed) (tree : Entries) (lines : Option EquivRow) → row_at rows (name_of s.sig) ≡ lines → (built : Built) → built.outcome ≡ Ok tree → line_by rows s built.outcome ≡ line_if_new rows s tree lines
line_if rows s tree lines is built clean = ap (line_by rows s) clean ∙ ap (line_if_new rows s tree) is

line_is : (gives : Gives) (plan : Plan) (book : Book) (t : ℕ) (s : Signed) (built : Built) → slice_get (signatures (rows_of book) plan.tasks) t ≡ Some s → slice_get (clean_build gives plan.tasks) t ≡ Some built → line_of_ended gives plan book t ≡ line_by (rows_of book) s built.outcome
line_is gives plan book t s built signed is_built =
    ap (λ (x : Option Signed). line_found (rows_of book) x (slice_get (clean_build gives plan.tasks) t)) signed ∙ ap (line_found (rows_of book) (Some s)) is_built

-- the line of a task whose clean output is a tree: what is recorded of it, or none, where its name has a row
pub ended_line : (gives : Gives) (plan : Plan) (book : Book) (t : ℕ) (s : Signed) (built : Built) (tree : Entries) → slice_get (signatures (rows_of book) plan.tasks) t ≡ Some s → slice_get (clean_build gives plan.tasks) t ≡ Some built → built.outcome ≡ Ok tree
    → (row_at (rows_of book) (name_of s.sig) ≡ None → line_of_ended gives plan book t ≡ recorded (rows_of book) s tree ∷ [])
    × ((row : EquivRow) → row_at (rows_of book) (name_of s.sig) ≡ Some row → line_of_ended gives plan book t ≡ [])
ended_line gives plan book t s built tree signed is_built clean = (
  λ none. line_is gives plan book t s built signed is_built ∙ line_if (rows_of book) s tree None none built clean,
  λ row some. line_is gives plan book t s built signed is_built ∙ line_if (rows_of book) s tree (Some row) some built clean,
)

pub ended_grows : EndedGrows
ended_grows gives plan book t s built tree signed is_built clean =
    let line = ended_line gives plan book t s built tree signed is_built clean in
    (λ none. ap (λ (l : List Line). book ++ l) (line.0 none), λ row some. ap (λ (l : List Line). book ++ l) (line.1 row some) ∙ append-nil book)

pub ended_is_step : EndedIsStep
ended_is_step gives reading plan start now first book is_grown t s built tree signed is_built clean needs none one_key no_collision =
    let is = (ended_grows gives plan book t s built tree signed is_built clean).0 none in
    subst (λ (b : Book). IsGrown gives reading plan.tasks start first (with_record now (recorded (rows_of book) s tree)) b) (sym is)
    (grown now book t s built tree is_grown signed is_built needs clean none one_key (subst (λ (b : Book). HasNoCollision b (rows_of b) plan.tasks) is no_collision))
