-- The lines of rows, and the trees that have their manifests.
use Rattle.std.proofs.Common.{◌≡◌, ◌∙◌, sym, ap, refl, ℕ, inr, List, Some, Ok}
use Rattle.std.specs.Prelude.{Contains}
use Rattle.std.specs.List.{slice_get}
use Rattle.std.proofs.lemmas.List.Elements.{All-contains_itself, recursion_from_All}
use Rattle.tree_model.specs.Manifest.{content_of, manifest_lines}
use Rattle.tree_model.specs.Path.{inside}
use Rattle.tree_model.specs.Tree.{IsTree}
use Rattle.outside_traits.specs.Store.{HoldsTree, Store}
use Rattle.meta_model.specs.declared.plan.PlanTask.{PlanTask}
use Rattle.meta_model.specs.CleanBuild.{Built, Entries, Gives, clean_build}
use Rattle.plan_model.proofs.Reached.{all_at}
use Rattle.store_model.specs.declared.signature.EquivRow.{EquivRow}
use Rattle.store_model.specs.Origins.{Book, Line, Reading, row_of, rows_of}
use Rattle.store_model.specs.Premises.{HasOneSignature, IsContent}
use Rattle.store_model.specs.Premises as of
use Rattle.store_model.specs.Reuse.{MayReuse}
use Rattle.store_model.specs.Rows.{row_at}
use Rattle.store_model.specs.Signatures.{Signed, signatures}
use Rattle.store_model.specs.Spelling.{name_of}
use Rattle.store_model.specs.Valid.{StandsIn}
use Rattle.store_model.proofs.Contents.{tree_same}
use Rattle.store_model.proofs.Ordered.{each_weaker}
use Rattle.store_model.proofs.Reusing.{known, reuse_is_clean}
use Rattle.store_model.proofs.Standing.{row_found}
use Rattle.run_queue.proofs.OwnNames.{entry_held, has_own_name}

-- ---- the line of a row, and the trees that have its manifest

-- A line that stands in the book, of a task's own signature, with this row.
pub record HasRow (book : Book) (s : Signed) (row : EquivRow) : Type 0 where
  pub before : Book
  pub line : Line
  pub stands : StandsIn book before line
  pub is_row : row_of line ≡ row
  pub name : name_of line.sig ≡ name_of s.sig
  pub sig : line.sig ≡ s.sig
  pub pn : line.sig.pn ≡ s.task.id.pn
  pub task : line.sig.task ≡ s.task.id.task

pub has_row : (gives : Gives) (reading : Reading) (held : Store) (book : Book) (tasks : List PlanTask) → MayReuse gives reading held book tasks → (t : ℕ) (s : Signed) → slice_get (signatures (rows_of book) tasks) t ≡ Some s → (row : EquivRow) → row_at (rows_of book) (name_of s.sig) ≡ Some row → HasRow book s row
has_row gives reading held book tasks may t s is_s row is =
    let f = row_found book (name_of s.sig) row is in
    let sig : f.1.sig ≡ s.sig = all_at (HasOneSignature book) (signatures (rows_of book) tasks) may.no_collision t s is_s f.0 f.1 f.2 f.4 in
    let own = has_own_name (rows_of book) tasks t s is_s in
    record { before = f.0; line = f.1; stands = f.2; is_row = f.3; name = f.4; sig = sig; pn = ap (λ g. g.pn) sig ∙ own.0; task = ap (λ g. g.task) sig ∙ own.1 }

-- A tree that is held and has the manifest of a task's row is the task's clean output.
pub clean_by_row : (gives : Gives) (reading : Reading) (held : Store) (book : Book) (tasks : List PlanTask) → MayReuse gives reading held book tasks → (t : ℕ) (s : Signed) (built : Built) → slice_get (signatures (rows_of book) tasks) t ≡ Some s → slice_get (clean_build gives tasks) t ≡ Some built
    → (row : EquivRow) → HasRow book s row → (folder : List ℕ) (tree : Entries) → IsTree tree → HoldsTree folder tree held → row.manifest ≡ manifest_lines tree → built.outcome ≡ Ok tree
clean_by_row gives reading held book tasks may t s built is_s is_b row r folder tree is_tree holds manifest =
    let reused = reuse_is_clean gives reading held book tasks may t s built is_s is_b r.before r.line r.stands r.name in
    let held_known = each_weaker (Contains tree) (λ e. IsContent gives reading held book tasks (content_of e.1))
    (λ e c. inr (inside folder e.0, e.1, holds.entries e.0 ∙ entry_held tree e is_tree c, refl))
    tree (recursion_from_All (Contains tree) tree (All-contains_itself tree)) in
    let one : reused.tree ≡ tree = sym (tree_same (IsContent gives reading held book tasks) may.no_clash tree reused.tree held_known
    (known gives reading held book tasks may.valid may.no_clash reused.tree (of.output r.before r.line reused.tree r.stands reused.origin))
    (sym manifest ∙ ap (λ (x : EquivRow). x.manifest) (sym r.is_row) ∙ reused.manifest)) in
    reused.clean ∙ ap (λ (x : Entries). Ok x) one
