-- Restoring puts back the object of the task's record.
use Rattle.std.proofs.Common.{◌≡◌, ◌∙◌, sym, ap, subst, refl, ℕ, ◌≤◌, Bool, true, false, List, [], ◌∷◌, inl, inr, Option, Some, None, Result, Ok, Err, length, OnOk}
use Rattle.std.specs.Prelude.{IfNone, IfOk, IfSome, MatchBool}
use Rattle.std.specs.List.{AllByRecursion}
use Rattle.std.specs.Str.{bytes_eq}
use Rattle.std.proofs.lemmas.Bool.{false≢true}
use Rattle.std.proofs.lemmas.List.Elements.{All-from_recursion, recursion_from_All}
use Rattle.tree_model.specs.declared.entry.Entry.{Entry}
use Rattle.tree_model.specs.declared.hash.Hash.{Hash}
use Rattle.tree_model.specs.declared.manifest.ManifestLine.{ManifestLine}
use Rattle.tree_model.specs.Manifest.{line_of, manifest_lines}
use Rattle.outside_traits.specs.Store.{HoldsTree, Store}
use Rattle.outside_traits.specs.Story.{IsSound, Story}
use Rattle.outside_traits.specs.Passes.{EachNow, Passes, Same}
use Rattle.outside_traits.proofs.Calls.{same_so, same_then}
use Rattle.outside_traits.proofs.Images.{held-image}
use Rattle.outside_traits.proofs.Runs.{each_now, passes_so}
use Rattle.meta_model.proofs.Bools.{either_way, same_text, text_itself}
use Rattle.meta_model.specs.CleanBuild.{Entries}
use Rattle.meta_model.specs.declared.plan.PlanTask.{PlanTask}
use Rattle.sstate_objects.specs.Matching.{IsMatching}
use Rattle.store_model.specs.declared.signature.EquivRow.{EquivRow}
use Rattle.store_model.specs.Available.{Matches, object_folder, task_folder}
use Rattle.store_model.specs.Rows.{row_at}
use Rattle.store_model.specs.Signatures.{Signed}
use Rattle.store_model.specs.Spelling.{key_name, name_of, signature_bytes}
use Rattle.store_model.specs.Valid.{key_file}
use Rattle.store_model.proofs.Ordered.{each_map}
use Rattle.build_store.specs.declared.fault.StoreFault.{StoreFault}
use Rattle.store_opening.specs.Paths.{IsLaidOut}
use Rattle.store_model.specs.Paths.{record_path}
use Rattle.build_store.specs.Keys.{HoldsKeyOf, text_key, text_key_file}
use Rattle.build_store.specs.Phases.{put_of}
use Rattle.build_store.specs.Publication.{AreShort, HasNoObject, IsObjectOf, IsPublished, IsRestored, Publishes, Restores, restoration, stored_for}
use Rattle.store_model.specs.Publication.{record_file}
use Rattle.build_store.specs.Restoring.{IsObject, IsPutBack, PutsBack, PutsBackBy, back_of}
use Rattle.store_model.specs.Readable.{HasShortPaths, IsHeld, IsRow}
use Rattle.store_opening.specs.Sound.{IsKept}
use Rattle.build_store.proofs.Rows.{row_has, row_named}
use Rattle.build_store.proofs.Stays.{IsOther, held_stays}
use Rattle.build_store.proofs.Texts.{file_same, held_key, text_file_is, text_key_is}

-- ---- short paths

short_tree : (tree : Entries) → HasShortPaths (manifest_lines tree) → AreShort tree
short_tree tree short = All-from_recursion (λ e. length e.0 ≤ 3072) tree (each_map line_of (λ l. length l.path ≤ 3072) tree (recursion_from_All (λ l. length l.path ≤ 3072) (manifest_lines tree) short))

pub short_matching : (folder : List ℕ) (lines : List ManifestLine) (held : Store) (tree : Entries) (kept : Option Entries) → IsMatching folder lines held (Some tree) → HasShortPaths lines → IfSome kept (λ k. (k ≡ tree) × AreShort tree) → IfNone kept (AreShort tree → ⊥) → IsMatching folder lines held kept
short_matching folder lines held tree (Some k) m short some none = subst (λ (t : Entries). IsMatching folder lines held (Some t)) (sym some.0) m
short_matching folder lines held tree None m short some none = absurd (none (short_tree tree (subst HasShortPaths m.1.1 short)))

-- ---- one row

pub object_is : (row : EquivRow) (held : Store) (tree : Entries) → IsMatching (object_folder row.unihash) row.manifest held (Some tree) → IsObject row held tree
object_is row held tree m = record { is_tree = m.0; holds = m.1.0; manifest = m.1.1 }

module _ (task : PlanTask) (row : EquivRow) (a b c : Story) (f : Entry) (at : a.held (record_path row.name) ≡ Some f) (has : HoldsKeyOf row.sig a.held) (looked : Passes a b Same) where
  at_b : b.held (record_path row.name) ≡ Some f
  at_b = ap (λ (h : Store). h (record_path row.name)) looked.held ∙ at

  has_b : HoldsKeyOf row.sig b.held
  has_b = subst (λ (h : Store). HoldsKeyOf row.sig h) (sym looked.held) has

  pub back_run : (tree : Entries) → IsObject row a.held tree → ((g : Entry) → b.held (record_path row.name) ≡ Some g → (text : List ℕ) → HoldsKeyOf text b.held → Passes b c (Publishes (put_of (task_folder task) row.name tree None None g text))) → Passes a c (PutsBackBy task row a.held f)
  back_run tree object run = same_then (λ i. inl refl) looked (passes_so (PutsBackBy task row a.held f) (run f at_b row.sig has_b) (λ i j p. inr (tree, object, p)))

  pub back_published : (tree : Entries) → IsObject row a.held tree → ((g : Entry) → b.held (record_path row.name) ≡ Some g → (text : List ℕ) → HoldsKeyOf text b.held → EachNow c (IsPublished (put_of (task_folder task) row.name tree None None g text))) → (t : Entries) × IsObject row a.held t × EachNow c (IsPublished (back_of task row t f))
  back_published tree object all = (tree, object, all f at_b row.sig has_b)

pub back_same : (task : PlanTask) (row : EquivRow) (a b : Story) (f : Entry) → Passes a b Same → Passes a b (PutsBackBy task row a.held f)
back_same task row a b f looked = same_so (PutsBackBy task row a.held f) (λ i. inl refl) looked

-- ---- the row of the task's name

module _ (rows : List EquivRow) (s : Signed) (row : EquivRow) (a b : Story) (all : AllByRecursion IsRow rows) (is : row_at rows (name_of s.sig) ≡ Some row) (sound : IsSound a) (kept : IsKept rows a) where
  there : IsHeld a.held row
  there = row_has (IsHeld a.held) rows (name_of s.sig) row (kept.stored a.held (held-image a sound)) is

  file_at : row.sig ≡ signature_bytes s.sig → a.held (record_path row.name) ≡ Some (record_file (stored_for s.sig row))
  file_at sig = there.held ∙ ap (λ f. Some f) (file_same row there.known (stored_for s.sig row) sig refl refl)

  key_at : HoldsKeyOf row.sig a.held
  key_at = held_key a.held row there

  name_is : row.name ≡ name_of s.sig
  name_is = row_named rows (name_of s.sig) row is

  object_of : (sig : row.sig ≡ signature_bytes s.sig) (tree : Entries) → IsObject row a.held tree → IsObjectOf a.held rows s row tree
  object_of sig tree o = record { stored = record { is_row = is; sig = sig }; is_tree = o.is_tree; holds = o.holds; manifest = o.manifest }

  same_put : (sig : row.sig ≡ signature_bytes s.sig) (tree : Entries) → back_of s.task row tree (record_file (stored_for s.sig row)) ≡ restoration s row tree
  same_put sig tree =
      let key : text_key row.sig ≡ key_name s.sig.key = ap text_key sig ∙ text_key_is s.sig in
      let key_entry : text_key_file row.sig ≡ key_file s.sig.key = ap text_key_file sig ∙ text_file_is s.sig in
      λ i. record { folder = task_folder s.task; name = name_is i; file = record_file (stored_for s.sig row); is_new = false; tree = tree; object = None; key = key i; key_file = key_entry i; writes_key = false }

  by_back : (sig : row.sig ≡ signature_bytes s.sig) (i j : Store) → PutsBackBy s.task row a.held (record_file (stored_for s.sig row)) i j → Restores a.held rows s i j
  by_back sig i j (inl same) = inl same
  by_back sig i j (inr w) = inr (record { row = row; tree = w.0; object = object_of sig w.0 w.1; publishes = subst (λ p. Publishes p i j) (same_put sig w.0) w.2 })

  pub restores_run : PutsBack s.task row a b → ((row.sig ≡ signature_bytes s.sig → ⊥) → Passes a b Same) → Passes a b (Restores a.held rows s)
  restores_run back other = elim (either_way (bytes_eq row.sig (signature_bytes s.sig))) [
    | inl t ↦
        let sig : row.sig ≡ signature_bytes s.sig = same_text row.sig (signature_bytes s.sig) t in
        passes_so (Restores a.held rows s) (back (record_file (stored_for s.sig row)) (file_at sig) key_at) (by_back sig)
    | inr f ↦
        same_so (Restores a.held rows s) (λ i. inl refl) (other (λ sig. false≢true (sym f ∙ ap (λ l. bytes_eq l (signature_bytes s.sig)) sig ∙ text_itself (signature_bytes s.sig))))
  ]

  restored_at : row.sig ≡ signature_bytes s.sig → IsPutBack s.task row a b → EachNow b (IsRestored a.held rows s)
  restored_at sig back image img =
      let w = back (record_file (stored_for s.sig row)) (file_at sig) key_at in
      record { row = row; tree = w.0; object = object_of sig w.0 w.1; published = subst (λ p. IsPublished p image) (same_put sig w.0) (w.2 image img) }

  no_object : (Matches a.held (object_folder row.unihash) row.manifest → ⊥) → HasNoObject a.held rows s
  no_object never other tree o =
      let same : other ≡ row = some_same in
      never (record {
        tree = tree;
        is_tree = o.is_tree;
        holds = subst (λ r. HoldsTree (object_folder r.unihash) tree a.held) same o.holds;
        manifest = ap (λ r. r.manifest) (sym same) ∙ o.manifest;
      })
    where
      some_same : other ≡ row
      some_same = let p = o.stored.is_row in let q = is in cc

  pub restored_by : (r : Result Bool StoreFault) → OnOk r (row.sig ≡ signature_bytes s.sig) → IfOk r (λ found. MatchBool found (IsPutBack s.task row a b) (Matches a.held (object_folder row.unihash) row.manifest → ⊥)) → IfOk r (λ found. MatchBool found (EachNow b (IsRestored a.held rows s)) (HasNoObject a.held rows s))
  restored_by (Ok true) sig back = restored_at sig back
  restored_by (Ok false) sig never = no_object never
  restored_by (Err e) sig back = tt

-- ---- the rows stay

old_rows : (name : Hash) (xs : List EquivRow) → AllByRecursion (IsOther false name) xs
old_rows name [] = tt
old_rows name (x ∷ xs) = (λ new. absurd (false≢true new), old_rows name xs)

pub kept_restored : (rows : List EquivRow) (s : Signed) (a b : Story) → IsKept rows a → Passes a b (Restores a.held rows s) → IsLaidOut b.held → IsKept rows b
kept_restored rows s a b was run laid = record {
  laid_out = laid;
  stored = each_now (λ i. AllByRecursion (IsHeld i) rows) (λ k. AllByRecursion (IsHeld k) rows) was.stored run by;
}
  where
    by : (i k : Store) → AllByRecursion (IsHeld i) rows → Restores a.held rows s i k → AllByRecursion (IsHeld k) rows
    by i k held (inl same) = subst (λ (h : Store). AllByRecursion (IsHeld h) rows) (sym same) held
    by i k held (inr w) = held_stays (restoration s w.row w.tree) rows i k refl (old_rows (name_of s.sig) rows) w.publishes held
