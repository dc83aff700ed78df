-- What a publication is to put.
use Rattle.std.proofs.Common.{◌≡◌, ◌∙◌, sym, ap, subst, refl, ◌≤◌, inl, ℕ, true, false, List, [], ◌∷◌, ◌++◌, Option, Some, None, length}
use Rattle.std.specs.Prelude.{is_none}
use Rattle.std.specs.List.{AllByRecursion}
use Rattle.std.proofs.lemmas.List.Elements.{All-from_recursion, recursion_from_All}
use Rattle.tree_model.specs.declared.entry.Entry.{Entry}
use Rattle.tree_model.specs.declared.manifest.ManifestLine.{ManifestLine}
use Rattle.tree_model.specs.Manifest.{line_of, manifest_lines}
use Rattle.tree_model.specs.declared.hash.Hash.{Hash}
use Rattle.tree_model.specs.Hash.{IsHash}
use Rattle.tree_model.specs.Tree.{IsTree}
use Rattle.outside_traits.specs.Store.{Store}
use Rattle.meta_model.specs.CleanBuild.{Entries}
use Rattle.store_model.specs.declared.signature.EquivRow.{EquivRow}
use Rattle.store_model.specs.Available.{task_folder}
use Rattle.store_model.specs.Rows.{row_at, unihash_or}
use Rattle.store_model.specs.Signatures.{Signed}
use Rattle.store_model.specs.Spelled.{Ascends, IsSpelled}
use Rattle.store_model.specs.OneSpelling.{AllFit, Fits}
use Rattle.store_model.specs.Spelling.{key_bytes, name_of, record_bytes, short_stored_of, signature_bytes}
use Rattle.store_model.specs.Recording.{recorded}
use Rattle.store_model.specs.Valid.{stored_of}
use Rattle.store_model.proofs.Ordered.{map_each}
use Rattle.sig_gen.specs.Sound.{Spells}
use Rattle.sig_gen.specs.Stored.{IsInOrder}
use Rattle.store_model.specs.Stored.{ArePaths, IsManifestLine, SpellsStored, path_cmp}
use Rattle.sig_gen.proofs.Trees.{tree_paths}
use Rattle.build_store.specs.declared.drafting.Draft.{Draft}
use Rattle.build_store.specs.declared.drafting.NewRecord.{NewRecord}
use Rattle.build_store.specs.declared.fault.StoreFault.{StoreFault}
use Rattle.build_store.specs.declared.fault.StoreFault.TheVariants as fault
use Rattle.build_store.specs.Drafts.{IsDraft, IsKnownFault, IsNewFor, file_of, new_stored}
use Rattle.build_store.specs.Faults.{IsRefusal}
use Rattle.store_model.specs.Paths.{record_path}
use Rattle.build_store.specs.Phases.{IsFileOf, put_of}
use Rattle.build_store.specs.Keys.{HoldsKeyOf}
use Rattle.build_store.specs.Publication.{AreShort, IsAgreed, line_for, object_for, publication, rows_with, unihash_for}
use Rattle.store_model.specs.Publication.{record_file, short_file}
use Rattle.store_model.specs.Readable.{HasShortPaths, IsHeld, IsReadable, IsRow, row_of_stored}
use Rattle.build_store.proofs.Rows.{clash, row_has, row_named}
use Rattle.build_store.proofs.Texts.{file_same, key_digest, record_row, short_same, short_spelled, text_file_is, text_key_is}

-- a fault of a row is a refusal of a tree with the manifest
pub known_refusal : (rows : List EquivRow) (keys : List (List ℕ)) (s : Signed) (tree : Entries) (row : EquivRow) (f : StoreFault) → row_at rows (name_of s.sig) ≡ Some row → IsKnownFault s.task row (signature_bytes s.sig) (manifest_lines tree) f → IsRefusal rows keys s tree f
known_refusal rows keys s tree row fault.Disk is known = absurd known
known_refusal rows keys s tree row fault.Memory is known = tt
known_refusal rows keys s tree row (fault.Collision n held given) is known = inl (clash rows (name_of s.sig) (signature_bytes s.sig) row (fault.Collision n held given) is known)
known_refusal rows keys s tree row (fault.Unsteady pn task held given) is known = record { row = row; is_row = is; same = known.0; differ = known.1; is = known.2 }

-- ---- the file that is written

module _ (rows : List EquivRow) (s : Signed) (tree : Entries) where
  abbrev pub File : Entry
  File = record_file (stored_of (line_for rows s tree))

  -- where no row has the name, the record is the new one
  pub line_new : row_at rows (name_of s.sig) ≡ None → stored_of (line_for rows s tree) ≡ new_stored rows s.sig (manifest_lines tree)
  line_new none i = record { sig = s.sig; manifest = manifest_lines tree; unihash = unihash_or (recorded rows s tree).unihash (none i) }

  none_is : row_at rows (name_of s.sig) ≡ None → is_none (row_at rows (name_of s.sig)) ≡ true
  none_is none = ap is_none none

  some_is : (row : EquivRow) → row_at rows (name_of s.sig) ≡ Some row → is_none (row_at rows (name_of s.sig)) ≡ false
  some_is row is = ap is_none is

  -- what is put is the publication
  pub put_is : (new : Option NewRecord) → IsNewFor rows s tree new → put_of (task_folder s.task) (name_of s.sig) tree (object_for rows s tree) (file_of new) File (signature_bytes s.sig) ≡ publication rows s tree
  put_is None w = let e = some_is w.0 w.1 in λ i. record { folder = task_folder s.task; name = name_of s.sig; file = File; is_new = (sym e) i; tree = tree; object = object_for rows s tree; key = text_key_is s.sig i; key_file = text_file_is s.sig i; writes_key = false }
  put_is (Some made) w = let e = none_is w.0 in λ i. record { folder = task_folder s.task; name = name_of s.sig; file = File; is_new = (sym e) i; tree = tree; object = object_for rows s tree; key = text_key_is s.sig i; key_file = text_file_is s.sig i; writes_key = false }

  -- a row with the signature and the manifest has the file of the record that the line says
  row_unihash : (row : EquivRow) → row_at rows (name_of s.sig) ≡ Some row → row.unihash ≡ unihash_or (recorded rows s tree).unihash (row_at rows (name_of s.sig))
  row_unihash row is = ap (unihash_or (recorded rows s tree).unihash) (sym is)

  row_file : (row : EquivRow) → row_at rows (name_of s.sig) ≡ Some row → row.sig ≡ signature_bytes s.sig → row.manifest ≡ manifest_lines tree → (known : IsRow row) → short_file known.stored ≡ File
  row_file row is sig manifest known = file_same row known (stored_of (line_for rows s tree)) sig manifest (row_unihash row is)

  pub file_is : (held : Store) (new : Option NewRecord) → IsNewFor rows s tree new → IsAgreed rows s tree → AllByRecursion (IsHeld held) rows → HoldsKeyOf (signature_bytes s.sig) held → IsFileOf (name_of s.sig) (file_of new) (signature_bytes s.sig) held File
  file_is held None w agrees all has =
      let h = row_has (IsHeld held) rows (name_of s.sig) w.0 all w.1 in
      let a = agrees w.0 w.1 in
      record {
        new = λ e is. let k : None ≡ Some e = is in cc;
        old = λ none. ap (λ n. held (record_path n)) (sym (row_named rows (name_of s.sig) w.0 w.1)) ∙ h.held ∙ ap (λ f. Some f) (row_file w.0 w.1 a.0 a.1 h.known);
        key = has;
      }
  file_is held (Some made) w agrees all has = record {
    new = λ e is. let k : Some made.file ≡ Some e = is in let same : made.file ≡ e = cc in sym same ∙ w.1.0 ∙ ap record_file (sym (line_new w.0));
    old = λ none. let k : Some made.file ≡ None = none in cc;
    key = has;
  }

  -- the record of the line of a task whose record is stored has a spelling
  pub known_readable : (row : EquivRow) → row_at rows (name_of s.sig) ≡ Some row → Spells (signature_bytes s.sig) s.sig → row.sig ≡ signature_bytes s.sig → row.manifest ≡ manifest_lines tree → IsRow row → IsReadable (line_for rows s tree)
  known_readable row is spells sig manifest known =
      let lines : known.stored.manifest ≡ manifest_lines tree = ap (λ (r : EquivRow). r.manifest) (sym known.is) ∙ manifest in
      let unihash : known.stored.unihash ≡ unihash_for rows s tree = ap (λ (r : EquivRow). r.unihash) (sym known.is) ∙ row_unihash row is in
      record {
        spelled = record {
          sound = record {
            sig = spells.sound;
            few = subst (λ (l : List ℕ). Fits l) (short_same row known s.sig sig) known.spelled.few;
            lines = subst (λ (l : List ManifestLine). AllFit IsManifestLine l) lines known.spelled.lines;
            ascends = subst (λ (l : List ManifestLine). Ascends path_cmp l) lines known.spelled.ascends;
            unihash = subst (λ (h : Hash). IsHash h) unihash known.spelled.unihash;
          };
          paths = subst (λ (l : List ManifestLine). ArePaths l) lines known.spelled.paths;
          is = refl;
        };
        short = subst (λ (l : List ManifestLine). HasShortPaths l) lines known.short;
      }

  -- the rows behind it
  pub rows_new : row_at rows (name_of s.sig) ≡ None → (row : EquivRow) → row ≡ row_of_stored (new_stored rows s.sig (manifest_lines tree)) → rows_with rows s tree ≡ rows ++ row ∷ []
  rows_new none row is = rw (none_is none) (ap (λ r. rows ++ r ∷ []) (ap row_of_stored (line_new none) ∙ sym is))

  pub rows_old : (row : EquivRow) → row_at rows (name_of s.sig) ≡ Some row → rows_with rows s tree ≡ rows
  rows_old row is = rw (some_is row is) refl

  -- ---- what is drafted

  -- what is drafted by a row of the name, for a tree with its manifest
  pub known_is_draft : (lines : List ManifestLine) (row : EquivRow) (draft : Draft) → row_at rows (name_of s.sig) ≡ Some row → Spells (signature_bytes s.sig) s.sig → draft.name ≡ name_of s.sig → draft.unihash ≡ row.unihash → draft.new ≡ None
      → row.sig ≡ signature_bytes s.sig → row.manifest ≡ lines → lines ≡ manifest_lines tree → IsDraft rows s tree draft
  known_is_draft lines row draft is spells name unihash new sig manifest e = record {
    name = name;
    unihash = unihash ∙ ap (unihash_or (recorded rows s tree).unihash) (sym is);
    new = subst (IsNewFor rows s tree) (sym new) (row, is);
    spells = spells;
    agrees = λ other at. let same : row ≡ other = cc in subst (λ r. (r.sig ≡ signature_bytes s.sig) × (r.manifest ≡ manifest_lines tree)) same (sig, manifest ∙ e);
  }

-- ---- the new row

pub short_lines : (tree : Entries) → AreShort tree → HasShortPaths (manifest_lines tree)
short_lines tree short = All-from_recursion (λ l. length l.path ≤ 3072) (manifest_lines tree) (map_each line_of (λ l. length l.path ≤ 3072) tree (recursion_from_All (λ e. length e.0 ≤ 3072) tree short))

abbrev pub row_is : (rows : List EquivRow) (s : Signed) (tree : Entries) (row : EquivRow) → IsSpelled s.sig → IsTree tree → AreShort tree → row ≡ row_of_stored (new_stored rows s.sig (manifest_lines tree)) → (IsInOrder (new_stored rows s.sig (manifest_lines tree)) → SpellsStored (record_bytes (new_stored rows s.sig (manifest_lines tree))) (new_stored rows s.sig (manifest_lines tree))) → IsRow row
row_is rows s tree row spelled is_tree short is spells =
    let order = tree_paths tree is_tree in
    record {
      stored = short_stored_of (new_stored rows s.sig (manifest_lines tree));
      key = key_bytes s.sig.key;
      is = is ∙ record_row (new_stored rows s.sig (manifest_lines tree));
      spelled = short_spelled (new_stored rows s.sig (manifest_lines tree)) (spells (record { sig = spelled; ascends = order.0; paths = order.1 }));
      short = short_lines tree short;
      digest = key_digest s.sig;
    }

-- what is drafted has a record that can be read
pub line_readable : (rows : List EquivRow) (s : Signed) (tree : Entries) (new : Option NewRecord) → AllByRecursion IsRow rows → IsSpelled s.sig → IsTree tree → AreShort tree → IsAgreed rows s tree → Spells (signature_bytes s.sig) s.sig → IsNewFor rows s tree new → IsReadable (line_for rows s tree)
line_readable rows s tree None all spelled is_tree short agrees spells w =
    let a = agrees w.0 w.1 in
    known_readable rows s tree w.0 w.1 spells a.0 a.1 (row_has IsRow rows (name_of s.sig) w.0 all w.1)
line_readable rows s tree (Some made) all spelled is_tree short agrees spells w =
    let order = tree_paths tree is_tree in
    let own = w.1.2 (record { sig = spelled; ascends = order.0; paths = order.1 }) in
    record { spelled = subst (λ st. SpellsStored (record_bytes st) st) (sym (line_new rows s tree w.0)) own; short = short_lines tree short }
