-- What is available once a store is opened.
use Rattle.std.proofs.Common.{◌≡◌, ◌≢◌, ◌∙◌, sym, ap, refl, ℕ, Bool, false, List, [], ◌∷◌, ◌++◌, inl, inr, None, Some}
use Rattle.std.specs.Prelude.{codes}
use Rattle.tree_model.specs.declared.entry.Entry.TheVariants.{File}
use Rattle.tree_model.specs.declared.manifest.ManifestLine.{ManifestLine}
use Rattle.tree_model.specs.Hash.{IsHash, hash_text}
use Rattle.outside_traits.specs.Store.{Store}
use Rattle.outside_traits.proofs.Puts.{path_cases}
use Rattle.store_model.specs.declared.signature.EquivRow.{EquivRow}
use Rattle.store_model.specs.declared.signature.SigRecord.{SigRecord}
use Rattle.store_model.specs.Available.{IsInObject, IsInWork, Matches, stamp_path, task_folder}
use Rattle.store_model.specs.Signatures.{Signed}
use Rattle.store_model.specs.Spelling.{name_of}
use Rattle.store_model.specs.Opened.{IsElsewhere, IsOpened}
use Rattle.store_opening.specs.Paths.{HasPlace}
use Rattle.store_opening.specs.Reopened.{OpenedStays}
use Rattle.store_opening.proofs.Areas.{differ, heads_differ, tree_stays}
use Rattle.store_opening.proofs.Clean.{folder_slashes, name_is_name}
use Rattle.store_opening.proofs.Hexed.{are_bytes}
use Rattle.store_opening.proofs.Reopened.{opened_holds_no_more}

pub name_is_hash : (sig : SigRecord) → IsHash (name_of sig)
name_is_hash sig = let n = name_is_name sig in record { size = n.size; bytes = are_bytes (name_of sig).bytes n.bytes }

-- ---- stores that agree on what begins with a byte

pub matches_there : (one other : Store) (c : ℕ) (ps : List ℕ) (lines : List ManifestLine) → c ≢ 47 → ((rest : List ℕ) → other (c ∷ rest) ≡ one (c ∷ rest)) → Matches one (c ∷ ps) lines → Matches other (c ∷ ps) lines
matches_there one other c ps lines no_slash same m = record { tree = m.tree; is_tree = m.is_tree; holds = tree_stays c ps m.tree one other no_slash same m.holds; manifest = m.manifest }

-- ---- two stores that agree on work folders, or on objects

work_there : (one other : Store) (rows : List EquivRow) (s : Signed) → ((rest : List ℕ) → other (119 ∷ rest) ≡ one (119 ∷ rest)) → other (stamp_path s.task) ≡ Some (File false (hash_text (name_of s.sig) ++ 10 ∷ [])) → IsInWork one rows s → IsInWork other rows s
work_there one other rows s same stamp w = record {
  kept = w.kept;
  row = w.row;
  stored = w.stored;
  stamp = stamp;
  folder = matches_there one other 119 (111 ∷ 114 ∷ 107 ∷ 47 ∷ task_folder s.task) w.row.manifest (differ 119 47 refl) same w.folder;
}

object_there : (one other : Store) (rows : List EquivRow) (setscene : Bool) (s : Signed) → ((rest : List ℕ) → other (111 ∷ rest) ≡ one (111 ∷ rest)) → IsInObject one rows setscene s → IsInObject other rows setscene s
object_there one other rows setscene s same o = record {
  kept = o.kept;
  sstate = o.sstate;
  counts = o.counts;
  row = o.row;
  stored = o.stored;
  object = matches_there one other 111 (98 ∷ 106 ∷ 47 ∷ hash_text o.row.unihash) o.row.manifest (differ 111 47 refl) same o.object;
}

-- ---- opening

module _ (before after : Store) (rows : List EquivRow) (opened : IsOpened before after rows) where
  elsewhere : (c : ℕ) (ps : List ℕ) → c ≢ 114 → c ≢ 107 → c ≢ 115 → c ≢ 116 → (c ∷ ps) ≢ codes "obj" → IsElsewhere (c ∷ ps)
  elsewhere c ps nr nk ns nt other = record {
    records = λ at. elim at [ inl same ↦ heads_differ nr same | inr below ↦ heads_differ nr below.1 ];
    keys = λ at. elim at [ inl same ↦ heads_differ nk same | inr below ↦ heads_differ nk below.1 ];
    stamps = λ at. elim at [ inl same ↦ heads_differ ns same | inr below ↦ heads_differ ns below.1 ];
    temporary = λ at. elim at [ inl same ↦ heads_differ nt same | inr below ↦ heads_differ nt below.1 ];
    objects = other;
  }

  work_same : (rest : List ℕ) → after (119 ∷ rest) ≡ before (119 ∷ rest)
  work_same rest = opened.left (119 ∷ rest) (inl (elsewhere 119 rest (differ 119 114 refl) (differ 119 107 refl) (differ 119 115 refl) (differ 119 116 refl) (heads_differ (differ 119 111 refl))))

  -- objects stay, where a folder can be at `obj`
  shared_same : before (codes "obj") ≡ None → (rest : List ℕ) → after (111 ∷ rest) ≡ before (111 ∷ rest)
  shared_same none rest = elim (path_cases (111 ∷ rest) (codes "obj")) [
    | inl same ↦ ap after same ∙ opened.left (codes "obj") (inr (inr (inr (inr none)))) ∙ ap before (sym same)
    | inr other ↦ opened.left (111 ∷ rest) (inl (elsewhere 111 rest (differ 111 114 refl) (differ 111 107 refl) (differ 111 115 refl) (differ 111 116 refl) other))
  ]

  -- the stamp of a task that is available by its work folder is one: nothing is held above that
  stamp_stays : (others : List EquivRow) (s : Signed) → HasPlace s.task → IsInWork before others s → after (stamp_path s.task) ≡ Some (File false (hash_text (name_of s.sig) ++ 10 ∷ []))
  stamp_stays others s place w =
      opened.left (stamp_path s.task) (inr (inr (inr (inl (task_folder s.task, record { name = name_of s.sig; is_hash = name_is_hash s.sig; two = folder_slashes s.task place; file = w.stamp; way = w.folder.holds.outside.above }, refl))))) ∙ w.stamp

  stamp_was : (s : Signed) → after (stamp_path s.task) ≡ Some (File false (hash_text (name_of s.sig) ++ 10 ∷ [])) → before (stamp_path s.task) ≡ Some (File false (hash_text (name_of s.sig) ++ 10 ∷ []))
  stamp_was s is = opened_holds_no_more before after rows opened (stamp_path s.task) (File false (hash_text (name_of s.sig) ++ 10 ∷ [])) is

pub opened_stays : OpenedStays
opened_stays before after rows opened others setscene s place = record {
  work = λ w. work_there before after others s (work_same before after rows opened) (stamp_stays before after rows opened others s place w) w;
  no_more_work = λ w. work_there after before others s (λ rest. sym (work_same before after rows opened rest)) (stamp_was before after rows opened s w.stamp) w;
  object = λ o. object_there before after others setscene s (shared_same before after rows opened (o.object.holds.outside.above (codes "obj") (hash_text o.row.unihash, refl))) o;
  no_more_objects = λ none o. object_there after before others setscene s (λ rest. sym (shared_same before after rows opened none rest)) o;
}
