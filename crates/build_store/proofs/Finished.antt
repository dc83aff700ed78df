-- The rows behind a publication that is done.
use Rattle.std.proofs.Common.{◌≡◌, ◌∙◌, ap, List, [], ◌∷◌, Option, Some, None}
use Rattle.std.specs.List.{AllByRecursion}
use Rattle.tree_model.specs.Tree.{IsTree}
use Rattle.outside_traits.specs.Story.{Story}
use Rattle.outside_traits.specs.Passes.{EachNow}
use Rattle.meta_model.specs.CleanBuild.{Entries}
use Rattle.store_model.specs.declared.signature.EquivRow.{EquivRow}
use Rattle.store_model.specs.Signatures.{Signed}
use Rattle.store_model.specs.Spelled.{IsSpelled}
use Rattle.store_model.proofs.Ordered.{each_append}
use Rattle.build_store.specs.declared.drafting.NewRecord.{NewRecord}
use Rattle.build_store.specs.Drafts.{IsNewFor, new_stored, row_of_new, rows_behind}
use Rattle.store_model.specs.Paths.{record_path}
use Rattle.build_store.specs.Publication.{AreShort, IsPublished, publication}
use Rattle.store_model.specs.Publication.{record_file, short_file}
use Rattle.store_model.specs.Spelling.{record_bytes, short_stored_of}
use Rattle.store_model.specs.declared.signature.StoredSig.{StoredSig}
use Rattle.tree_model.specs.Manifest.{manifest_lines}
use Rattle.store_opening.specs.Sound.{IsKept}
use Rattle.store_model.specs.Readable.{IsRow}
use Rattle.build_store.proofs.Drafted.{line_new, row_is}
use Rattle.build_store.proofs.Stays.{kept_more}

new_file : (stored : StoredSig) → Some (record_file stored) ≡ Some (short_file (short_stored_of stored))
unfolding record_bytes
new_file stored i = Some (short_file (short_stored_of stored))

-- ---- the rows behind it

module _ (rows : List EquivRow) (s : Signed) (tree : Entries) (all : AllByRecursion IsRow rows) (spelled : IsSpelled s.sig) (is_tree : IsTree tree) (short : AreShort tree) where
  pub sound_behind : (new : Option NewRecord) → IsNewFor rows s tree new → AllByRecursion IsRow (rows_behind rows (row_of_new new))
  sound_behind None w = all
  sound_behind (Some made) w = each_append IsRow rows (made.row ∷ []) all (row_is rows s tree made.row spelled is_tree short w.1.1 w.1.2, tt)

  pub keeps_behind : (new : Option NewRecord) → IsNewFor rows s tree new → (b : Story) → IsKept rows b → EachNow b (IsPublished (publication rows s tree)) → IsKept (rows_behind rows (row_of_new new)) b
  keeps_behind None w b kept published = kept
  keeps_behind (Some made) w b kept published = kept_more rows made.row b kept (λ image img. record {
    known = row_is rows s tree made.row spelled is_tree short w.1.1 w.1.2;
    held = ap (λ r. image (record_path r.name)) w.1.1 ∙ (published image img).stored ∙ ap (λ st. Some (record_file st)) (line_new rows s tree w.0) ∙ new_file (new_stored rows s.sig (manifest_lines tree));
    key_held = (published image img).key;
  })
