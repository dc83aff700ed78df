-- An open publication of a task stays that, while rows of other tasks come.
use Rattle.std.proofs.Common.{◌≡◌, ◌∙◌, sym, ap, subst, refl, false, if◌then◌else◌, List, [], ◌∷◌, ◌++◌, Option, Some, None}
use Rattle.std.specs.Prelude.{find}
use Rattle.tree_model.specs.declared.hash.Hash.{Hash}
use Rattle.tree_model.specs.Manifest.{manifest_lines}
use Rattle.meta_model.specs.CleanBuild.{Entries}
use Rattle.store_model.specs.declared.signature.EquivRow.{EquivRow}
use Rattle.store_model.specs.Rows.{hash_eq, is_row_for, row_at}
use Rattle.store_model.specs.Signatures.{Signed}
use Rattle.store_model.specs.Spelling.{name_of}
use Rattle.build_store.specs.declared.drafting.NewRecord.{NewRecord}
use Rattle.build_store.specs.Drafts.{IsNew, IsNewFor, new_stored}
use Rattle.build_store.specs.OpenTasks.{OpenTasksStay}
use Rattle.build_store.specs.Publication.{IsAgreed, unihash_for}
use Rattle.build_store.proofs.Staying.{find_last, not_for}

module _ (rows : List EquivRow) (row : EquivRow) (s : Signed) (tree : Entries) (other : hash_eq row.name (name_of s.sig) ≡ false) (apart : row.pn ≡ s.sig.pn → row.task ≡ s.sig.task → ⊥) where
  abbrev more : List EquivRow
  more = rows ++ row ∷ []

  at_name : row_at more (name_of s.sig) ≡ row_at rows (name_of s.sig)
  at_name = find_last (λ r. hash_eq r.name (name_of s.sig)) rows row other

  first_for : find (is_row_for s.sig.pn s.sig.task (manifest_lines tree)) more ≡ find (is_row_for s.sig.pn s.sig.task (manifest_lines tree)) rows
  first_for = find_last (is_row_for s.sig.pn s.sig.task (manifest_lines tree)) rows row (not_for s (manifest_lines tree) row apart)

  unihash_stays : unihash_for more s tree ≡ unihash_for rows s tree
  unihash_stays = by at_name first_for
    where
      by : row_at more (name_of s.sig) ≡ row_at rows (name_of s.sig) → find (is_row_for s.sig.pn s.sig.task (manifest_lines tree)) more ≡ find (is_row_for s.sig.pn s.sig.task (manifest_lines tree)) rows → unihash_for more s tree ≡ unihash_for rows s tree
      by a f = simp a (simp f refl)

  stored_stays : new_stored more s.sig (manifest_lines tree) ≡ new_stored rows s.sig (manifest_lines tree)
  stored_stays = by first_for
    where
      by : find (is_row_for s.sig.pn s.sig.task (manifest_lines tree)) more ≡ find (is_row_for s.sig.pn s.sig.task (manifest_lines tree)) rows → new_stored more s.sig (manifest_lines tree) ≡ new_stored rows s.sig (manifest_lines tree)
      by f = simp f refl

  new_stays : (new : Option NewRecord) → IsNewFor rows s tree new → IsNewFor more s tree new
  new_stays None w = (w.0, at_name ∙ w.1)
  new_stays (Some made) w = (at_name ∙ w.0, subst (IsNew (Some made)) (sym stored_stays) w.1)

  agrees_stays : IsAgreed rows s tree → IsAgreed more s tree
  agrees_stays agrees one is = agrees one (sym at_name ∙ is)

pub open_tasks_stay : OpenTasksStay
open_tasks_stay rows row s tree o other apart is = record {
  folder = is.folder;
  name = is.name;
  sig = is.sig;
  gave = is.gave;
  unihash = is.unihash ∙ sym (unihash_stays rows row s tree other apart);
  object = is.object ∙ ap (λ (u : Hash). if s.task.sstate then Some u else None) (sym (unihash_stays rows row s tree other apart));
  new = new_stays rows row s tree other apart o.new is.new;
  spells = is.spells;
  agrees = agrees_stays rows row s tree other apart is.agrees;
  fit = is.fit;
  suits = is.suits;
}
