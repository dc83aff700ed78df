-- The tasks of signatures, and clean outputs that are held.
use Rattle.std.proofs.Common.{◌≡◌, ◌∙◌, sym, ap, subst, refl, ℕ, zero, suc, List, [], ◌∷◌, ◌++◌, map, get_or, append_assoc, Some, None, inl, inr}
use Rattle.std.specs.Prelude.{Contains}
use Rattle.std.specs.List.{AllByRecursion, slice_get}
use Rattle.std.specs.Option.{option_map}
use Rattle.std.proofs.lemmas.List.{append-nil, map-append}
use Rattle.std.proofs.lemmas.List.Elements.{All-contains_itself, recursion_from_All}
use Rattle.std.proofs.lemmas.Option.{same_Some, slice_get-get_or, slice_get-map}
use Rattle.tree_model.specs.declared.entry.Entry.{Entry}
use Rattle.tree_model.specs.Manifest.{content_of}
use Rattle.tree_model.specs.Path.{IsAtOrBelow, IsBelow, inside}
use Rattle.tree_model.specs.Tree.{IsTree, StandsAt, entry_at}
use Rattle.tree_model.proofs.EditLemmas.{removed_is}
use Rattle.outside_traits.specs.Store.{HoldsTree, Store}
use Rattle.meta_model.specs.declared.plan.PlanTask.{PlanTask}
use Rattle.meta_model.specs.CleanBuild.{Built, Entries, Gives, clean_build}
use Rattle.store_model.specs.declared.signature.EquivRow.{EquivRow}
use Rattle.store_model.specs.Available.{HoldsClean, IsInWork, work_folder}
use Rattle.store_model.specs.Origins.{Book, Reading, rows_of}
use Rattle.store_model.specs.Premises.{IsContent}
use Rattle.store_model.specs.Premises as of
use Rattle.store_model.specs.Reuse.{MayReuse}
use Rattle.store_model.specs.Signatures.{Signed, signature, signatures, signed_from}
use Rattle.store_model.specs.Spelling.{name_of}
use Rattle.store_model.proofs.Contents.{tree_same}
use Rattle.store_model.proofs.Ordered.{each_weaker}
use Rattle.store_model.proofs.Reusing.{known, reuse_is_clean}
use Rattle.store_model.proofs.Standing.{row_found}

-- ---- the tasks of signatures, and their names

tasks_from : (rows : List EquivRow) (before : List Signed) (tasks : List PlanTask) → map (λ (s : Signed). s.task) (signed_from rows before tasks) ≡ map (λ (s : Signed). s.task) before ++ tasks
tasks_from rows before [] = sym (append-nil (map (λ (s : Signed). s.task) before))
tasks_from rows before (task ∷ tasks) =
    let s : Signed = record { task = task; sig = signature rows before task } in
    tasks_from rows (before ++ s ∷ []) tasks
    ∙ ap (λ l. l ++ tasks) (map-append (λ (x : Signed). x.task) before (s ∷ []))
    ∙ append_assoc (map (λ (x : Signed). x.task) before) (task ∷ []) tasks

pub signed_task_at : (rows : List EquivRow) (tasks : List PlanTask) (t : ℕ) (s : Signed) → slice_get (signatures rows tasks) t ≡ Some s → slice_get tasks t ≡ Some s.task
signed_task_at rows tasks t s is = sym (ap (λ (l : List PlanTask). slice_get l t) (tasks_from rows [] tasks)) ∙ slice_get-map (λ (x : Signed). x.task) (signatures rows tasks) t ∙ ap (option_map (λ (x : Signed). x.task)) is

abbrev HasOwnName : Signed → Type 0
HasOwnName s = (s.sig.pn ≡ s.task.id.pn) × (s.sig.task ≡ s.task.id.task)

each_pushed : {X : Type 0} (P : X → Type 0) (xs : List X) (x : X) → AllByRecursion P xs → P x → AllByRecursion P (xs ++ x ∷ [])
each_pushed P [] x all p = (p, tt)
each_pushed P (y ∷ xs) x all p = (all.0, each_pushed P xs x all.1 p)

named_from : (rows : List EquivRow) (before : List Signed) (tasks : List PlanTask) → AllByRecursion HasOwnName before → AllByRecursion HasOwnName (signed_from rows before tasks)
named_from rows before [] all = all
named_from rows before (task ∷ tasks) all = named_from rows (before ++ record { task = task; sig = signature rows before task } ∷ []) tasks (each_pushed HasOwnName before (record { task = task; sig = signature rows before task }) all (refl, refl))

each_at : {X : Type 0} (P : X → Type 0) (xs : List X) (t : ℕ) (x : X) → AllByRecursion P xs → slice_get xs t ≡ Some x → P x
each_at P [] t x all is = absurd (let n : None ≡ Some x = is in cc)
each_at P (y ∷ xs) zero x all is = subst P (same_Some y x is) all.0
each_at P (y ∷ xs) (suc t) x all is = each_at P xs t x all.1 is

pub has_own_name : (rows : List EquivRow) (tasks : List PlanTask) (t : ℕ) (s : Signed) → slice_get (signatures rows tasks) t ≡ Some s → (s.sig.pn ≡ s.task.id.pn) × (s.sig.task ≡ s.task.id.task)
has_own_name rows tasks t s is = each_at HasOwnName (signatures rows tasks) t s (named_from rows [] tasks tt) is

-- ---- the clean output of a task that is in its work folder, and that it is a tree

pub entry_held : (tree : Entries) (e : List ℕ × Entry) → IsTree tree → Contains tree e → entry_at tree e.0 ≡ Some e.1
entry_held tree e is c =
    let at : slice_get tree c.0 ≡ Some e = slice_get-get_or tree c.0 e c.1 ∙ ap (λ x. Some x) c.2 in
    let stands : StandsAt tree e.0 c.0 = (c.1, λ d. let same : Some (get_or tree c.0 d) ≡ Some e = sym (slice_get-get_or tree c.0 d c.1) ∙ at in let one : get_or tree c.0 d ≡ e = cc in ap (λ x. x.0) one) in
    sym (removed_is tree c.0 e.0 e is stands (sym c.2))

pub record CleanTree (held : Store) (folder : List ℕ) (built : Built) : Type 0 where
  pub clean : HoldsClean held folder built
  pub tree : IsTree clean.tree

pub clean_tree : (gives : Gives) (reading : Reading) (held : Store) (book : Book) (tasks : List PlanTask) → MayReuse gives reading held book tasks → (n : ℕ) (s : Signed) (built : Built) → slice_get (signatures (rows_of book) tasks) n ≡ Some s → slice_get (clean_build gives tasks) n ≡ Some built
    → IsInWork held (rows_of book) s → CleanTree held (work_folder s.task) built
clean_tree gives reading held book tasks may n s built is_s is_b w =
    let f = row_found book (name_of s.sig) w.row w.stored.is_row in
    let reused = reuse_is_clean gives reading held book tasks may n s built is_s is_b f.0 f.1 f.2 f.4 in
    let m = w.folder in
    let held_known = each_weaker (Contains m.tree) (λ e. IsContent gives reading held book tasks (content_of e.1))
    (λ e c. inr (inside (work_folder s.task) e.0, e.1, m.holds.entries e.0 ∙ entry_held m.tree e m.is_tree c, refl))
    m.tree (recursion_from_All (Contains m.tree) m.tree (All-contains_itself m.tree)) in
    let one : m.tree ≡ reused.tree = tree_same (IsContent gives reading held book tasks) may.no_clash m.tree reused.tree held_known
    (known gives reading held book tasks may.valid may.no_clash reused.tree (of.output f.0 f.1 reused.tree f.2 reused.origin))
    (sym m.manifest ∙ ap (λ (r : EquivRow). r.manifest) (sym f.3) ∙ reused.manifest) in
    record {
      clean = record { tree = reused.tree; clean = reused.clean; holds = subst (λ t. HoldsTree (work_folder s.task) t held) one m.holds };
      tree = subst IsTree one m.is_tree;
    }

pub holds_on : (one other : Store) (folder : List ℕ) (tree : Entries) → ((q : List ℕ) → IsAtOrBelow folder q → one q ≡ other q) → ((q : List ℕ) → IsBelow q folder → one q ≡ other q) → HoldsTree folder tree one → HoldsTree folder tree other
holds_on one other folder tree same above h = record {
  entries = λ path. sym (same (inside folder path) (inr (path, refl))) ∙ h.entries path;
  outside = record {
    at = sym (same folder (inl refl)) ∙ h.outside.at;
    above = λ q below. sym (above q below) ∙ h.outside.above q below;
  };
}
