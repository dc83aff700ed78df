-- What is written stands at clean paths, short enough.
use Rattle.std.proofs.Common.{refl, ℕ, ◌≤◌, List, ◌∷◌, All, arith, length, length-append, lit<, lit≤}
use Rattle.std.specs.Prelude.{codes, slice_index_or}
use Rattle.tree_model.specs.declared.entry.Entry.{Entry}
use Rattle.tree_model.specs.declared.hash.Hash.{Hash}
use Rattle.tree_model.specs.Hash.{hash_text}
use Rattle.tree_model.specs.Path.{IsClean, inside}
use Rattle.tree_model.specs.Tree.{IsTree}
use Rattle.tree_model.proofs.PathLemmas.{no_zero_in}
use Rattle.stamp_store.specs.Stamp.{IsFolder}
use Rattle.store_model.specs.Available.{object_folder}
use Rattle.store_model.specs.Paths.{key_path, record_path}
use Rattle.store_model.specs.Publication.{work_at}
use Rattle.store_opening.specs.Named.{IsName}
use Rattle.store_opening.specs.Paths.{staged_record_path}
use Rattle.build_store.specs.Publication.{AreShort}
use Rattle.store_opening.proofs.Clean.{clean_inside, name_clean, name_text_length, one_clean}

-- ---- literal parts

work_clean : IsClean (codes "work")
work_clean = one_clean (codes "work") (record { not_empty = lit< tt; short = lit≤ tt; not_here = λ e. cc; not_above = λ e. cc; no_zero = λ has. no_zero_in (codes "work") refl has }) refl

obj_clean : IsClean (codes "obj")
obj_clean = one_clean (codes "obj") (record { not_empty = lit< tt; short = lit≤ tt; not_here = λ e. cc; not_above = λ e. cc; no_zero = λ has. no_zero_in (codes "obj") refl has }) refl

rec_clean : IsClean (codes "rec2")
rec_clean = one_clean (codes "rec2") (record { not_empty = lit< tt; short = lit≤ tt; not_here = λ e. cc; not_above = λ e. cc; no_zero = λ has. no_zero_in (codes "rec2") refl has }) refl

keys_clean : IsClean (codes "key")
keys_clean = one_clean (codes "key") (record { not_empty = lit< tt; short = lit≤ tt; not_here = λ e. cc; not_above = λ e. cc; no_zero = λ has. no_zero_in (codes "key") refl has }) refl

tmp_clean : IsClean (codes "tmp")
tmp_clean = one_clean (codes "tmp") (record { not_empty = lit< tt; short = lit≤ tt; not_here = λ e. cc; not_above = λ e. cc; no_zero = λ has. no_zero_in (codes "tmp") refl has }) refl

-- ---- what is written

pub record_clean : (name : Hash) → IsName name → IsClean (record_path name)
record_clean name is = let len = name_text_length name is in clean_inside (codes "rec2") (hash_text name) rec_clean (name_clean name is) (omega (arith, len, length-append (codes "rec2") (47 ∷ hash_text name)))

pub record_short : (name : Hash) → IsName name → length (record_path name) ≤ 3600
record_short name is = let len = name_text_length name is in omega (arith, len, length-append (codes "rec2") (47 ∷ hash_text name))

pub key_clean : (name : Hash) → IsName name → IsClean (key_path name)
key_clean name is = let len = name_text_length name is in clean_inside (codes "key") (hash_text name) keys_clean (name_clean name is) (omega (arith, len, length-append (codes "key") (47 ∷ hash_text name)))

pub key_short : (name : Hash) → IsName name → length (key_path name) ≤ 3600
key_short name is = let len = name_text_length name is in omega (arith, len, length-append (codes "key") (47 ∷ hash_text name))

pub staged_clean : (name : Hash) → IsName name → IsClean (staged_record_path name)
staged_clean name is =
    let len = name_text_length name is in
    clean_inside (codes "tmp") (inside (codes "rec2") (hash_text name)) tmp_clean (record_clean name is) (omega (arith, len, length-append (codes "tmp/rec2") (47 ∷ hash_text name)))

pub staged_short : (name : Hash) → IsName name → length (staged_record_path name) ≤ 3600
staged_short name is = let len = name_text_length name is in omega (arith, len, length-append (codes "tmp/rec2") (47 ∷ hash_text name))

-- paths of trees in work folders and in those of objects
module _ (tree : List (List ℕ × Entry)) (is_tree : IsTree tree) (short : AreShort tree) where
  pub work_paths_clean : (folder : List ℕ) → IsFolder folder → All (λ e. IsClean (inside (work_at folder) e.0)) tree
  work_paths_clean folder is k d lt =
      let path = (slice_index_or tree k d).0 in
      let s = short k d lt in
      let f = is.short in
      clean_inside (work_at folder) path (clean_inside (codes "work") folder work_clean is.clean (omega (arith, f, length-append (codes "work") (47 ∷ folder)))) (is_tree.clean k d lt)
      (omega (arith, s, f, length-append (work_at folder) (47 ∷ path), length-append (codes "work") (47 ∷ folder)))

  pub work_paths_short : (folder : List ℕ) → IsFolder folder → All (λ e. length (inside (work_at folder) e.0) ≤ 3600) tree
  work_paths_short folder is k d lt =
      let path = (slice_index_or tree k d).0 in
      let s = short k d lt in
      let f = is.short in
      omega (arith, s, f, length-append (work_at folder) (47 ∷ path), length-append (codes "work") (47 ∷ folder))

  pub object_paths_clean : (name : Hash) → IsName name → All (λ e. IsClean (inside (object_folder name) e.0)) tree
  object_paths_clean name is k d lt =
      let path = (slice_index_or tree k d).0 in
      let s = short k d lt in
      let len = name_text_length name is in
      clean_inside (object_folder name) path (clean_inside (codes "obj") (hash_text name) obj_clean (name_clean name is) (omega (arith, len, length-append (codes "obj") (47 ∷ hash_text name)))) (is_tree.clean k d lt)
      (omega (arith, s, len, length-append (object_folder name) (47 ∷ path), length-append (codes "obj") (47 ∷ hash_text name)))

  pub object_paths_short : (name : Hash) → IsName name → All (λ e. length (inside (object_folder name) e.0) ≤ 3600) tree
  object_paths_short name is k d lt =
      let path = (slice_index_or tree k d).0 in
      let s = short k d lt in
      let len = name_text_length name is in
      omega (arith, s, len, length-append (object_folder name) (47 ∷ path), length-append (codes "obj") (47 ∷ hash_text name))
