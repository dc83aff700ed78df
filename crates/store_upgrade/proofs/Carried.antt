-- What plans had is there once a move is written: work folders, stamps and objects.
use Rattle.std.proofs.Common.{◌≡◌, ◌≢◌, ◌∙◌, sym, ap, subst, refl, ℕ, inl, inr, List, [], ◌∷◌, ◌++◌, None, Some, false}
use Rattle.std.specs.Prelude.{codes, Contains, find}
use Rattle.std.specs.List.{AllByRecursion}
use Rattle.tree_model.specs.declared.entry.Entry.TheVariants.{File}
use Rattle.tree_model.specs.declared.hash.Hash.{Hash}
use Rattle.tree_model.specs.declared.manifest.ManifestLine.{ManifestLine}
use Rattle.tree_model.specs.Hash.{hash_text}
use Rattle.tree_model.specs.Path.{IsBelow}
use Rattle.outside_traits.specs.Store.{Store}
use Rattle.outside_traits.proofs.Puts.{path_cases}
use Rattle.meta_model.specs.CleanBuild.{Gives}
use Rattle.meta_model.specs.declared.plan.PlanTask.{PlanTask}
use Rattle.store_model.specs.Available.{Matches, object_folder, stamp_path, task_folder, work_folder}
use Rattle.store_model.specs.Opened.{IsElsewhere, IsOpened}
use Rattle.store_model.specs.Origins.{Book, Reading}
use Rattle.store_model.specs.declared.signature.EquivRow.{EquivRow}
use Rattle.store_model.specs.Readable.{HasShortPaths}
use Rattle.store_model.specs.Spelling.{name_of}
use Rattle.store_move.specs.First.{first, first_name}
use Rattle.store_move.specs.Formats.{row_of}
use Rattle.store_move.specs.Moves.{MayMove, Pair, is_named, present}
use Rattle.store_opening.proofs.Areas.{differ}
use Rattle.store_opening.proofs.StillThere.{matches_there}
use Rattle.store_opening.proofs.Surveyed.{each_of}
use Rattle.record_move.specs.declared.moving.Moved.{Moved}
use Rattle.record_move.specs.declared.records.MovedRecord.{MovedRecord}
use Rattle.record_move.specs.Moved.{IsMoveOf, IsPairOf}
use Rattle.store_upgrade.specs.Halfway.{IsOldReadable, whole_move}
use Rattle.store_upgrade.specs.Upgraded.{AreUnihashesApart, HasStampPlace, IsBrought}
use Rattle.store_upgrade.specs.Writes.{IsWritten}
use Rattle.store_upgrade.proofs.Made.{not_at, work_beside, work_elsewhere}
use Rattle.store_upgrade.proofs.Paired.{IsPlaced, first_name_is_hash, found_placed, none_in_the_way, placed_row, record_of, renewed_is}
use Rattle.store_upgrade.proofs.Zipped.{among_stands}

-- ---- what opening leaves

module _ (entry held : Store) (rows : List EquivRow) (opened : IsOpened entry held rows) where
  object_elsewhere : (rest : List ℕ) → (111 ∷ rest) ≢ codes "obj" → IsElsewhere (111 ∷ rest)
  object_elsewhere rest other = record {
    records = not_at 114 111 (101 ∷ 99 ∷ 50 ∷ []) rest (differ 111 114 refl);
    keys = not_at 107 111 (101 ∷ 121 ∷ []) rest (differ 111 107 refl);
    stamps = not_at 115 111 (116 ∷ 97 ∷ 109 ∷ 112 ∷ []) rest (differ 111 115 refl);
    temporary = not_at 116 111 (109 ∷ 112 ∷ []) rest (differ 111 116 refl);
    objects = other;
  }

  -- objects stay, where a folder can be at `obj`
  objects_stay : entry (codes "obj") ≡ None → (rest : List ℕ) → held (111 ∷ rest) ≡ entry (111 ∷ rest)
  objects_stay none rest = elim (path_cases (111 ∷ rest) (codes "obj")) [
    | inl same ↦ ap held same ∙ opened.left (codes "obj") (inr (inr (inr (inr none)))) ∙ ap entry (sym same)
    | inr other ↦ opened.left (111 ∷ rest) (inl (object_elsewhere rest other))
  ]

  pub object_stays : (unihash : Hash) (lines : List ManifestLine) → Matches entry (object_folder unihash) lines → Matches held (object_folder unihash) lines
  object_stays unihash lines m =
      matches_there entry held 111 (98 ∷ 106 ∷ 47 ∷ hash_text unihash) lines (differ 111 47 refl) (objects_stay (m.holds.outside.above (codes "obj") (hash_text unihash, refl))) m

  -- a stamp of an old name stays, where nothing is held above its work folder
  pub stamp_stays : (pair : Pair) (task : PlanTask) → HasStampPlace task → ((q : List ℕ) → IsBelow q (work_folder task) → entry q ≡ None)
      → entry (stamp_path task) ≡ Some (File false (hash_text (first_name pair.old.sig) ++ 10 ∷ [])) → held (stamp_path task) ≡ entry (stamp_path task)
  stamp_stays pair task place way here =
      opened.left (stamp_path task) (inr (inr (inr (inl (
        task_folder task,
        record { name = first_name pair.old.sig; is_hash = first_name_is_hash pair.old.sig; two = place.two; file = here; way = way },
        refl,
      )))))

-- ---- what the move brings

module _ (gives : Gives) (reading : Reading) (entry held now : Store) (rows : List EquivRow) (opened : IsOpened entry held rows) (olds again : Book)
    (may : MayMove first present gives reading olds again)
    (readable : AllByRecursion IsOldReadable olds) (moved : Moved) (told : IsMoveOf first again (whole_move olds again) moved.rows moved.records.items moved.added.items) (w : IsWritten moved held now) where
  work_brought : (task : PlanTask) (lines : List ManifestLine) → Matches entry (work_folder task) lines → Matches now (work_folder task) lines
  work_brought task lines m =
      matches_there entry now 119 (111 ∷ 114 ∷ 107 ∷ 47 ∷ task_folder task) lines (differ 119 47 refl)
      (λ rest. w.writes.beside (119 ∷ rest) (work_beside rest) ∙ opened.left (119 ∷ rest) (inl (work_elsewhere rest))) m

  stamp_brought : (pair : Pair) → find (is_named first (first_name pair.old.sig)) (whole_move olds again).pairs ≡ Some pair → (task : PlanTask) → HasStampPlace task
      → ((q : List ℕ) → IsBelow q (work_folder task) → entry q ≡ None) → entry (stamp_path task) ≡ Some (File false (hash_text (first_name pair.old.sig) ++ 10 ∷ []))
      → now (stamp_path task) ≡ Some (File false (hash_text (name_of pair.new.sig) ++ 10 ∷ []))
  stamp_brought pair found task place way here =
      w.stamps (task_folder task) (name_of pair.new.sig) (record {
        is_folder = place.folder;
        two = place.two;
        old = first_name pair.old.sig;
        is_hash = first_name_is_hash pair.old.sig;
        file = stamp_stays entry held rows opened pair task place way here ∙ here;
        renewed = renewed_is (whole_move olds again).pairs moved.records.items (first_name pair.old.sig) pair told.each found;
      })

  -- the object of a record is copied
  copied : AreUnihashesApart (whole_move olds again) → (pair : Pair) (placed : IsPlaced gives reading olds again may moved told pair) (m : MovedRecord) → Contains moved.records.items m
      → IsPairOf first pair m
      → Matches held (object_folder pair.old.unihash) pair.old.manifest → Matches now (object_folder pair.new.unihash) pair.old.manifest
  copied apart pair placed m has is match =
      let short : HasShortPaths pair.new.manifest = subst HasShortPaths (sym placed.manifest) (let r = each_of IsOldReadable olds pair.old readable (among_stands olds placed.old_before pair.old placed.old_stands) in r.short) in
      let old : Matches held (object_folder m.old_unihash) pair.new.manifest =
      subst (λ (u : Hash). Matches held (object_folder u) pair.new.manifest) (sym is.old_unihash) (subst (Matches held (object_folder pair.old.unihash)) (sym placed.manifest) match) in
      let new : Matches now (object_folder m.unihash) pair.new.manifest =
      w.objects (none_in_the_way gives reading olds again may moved told apart) m has (row_of present pair.new) (record { is_row = placed_row gives reading olds again may moved told pair m placed is; short = short }) old in
      subst (λ (u : Hash). Matches now (object_folder u) pair.old.manifest) is.unihash (subst (Matches now (object_folder m.unihash)) placed.manifest new)

  object_brought : AreUnihashesApart (whole_move olds again) → (pair : Pair) → find (is_named first (first_name pair.old.sig)) (whole_move olds again).pairs ≡ Some pair
      → Matches entry (object_folder pair.old.unihash) pair.old.manifest → Matches now (object_folder pair.new.unihash) pair.old.manifest
  object_brought apart pair found match =
      let r = record_of gives reading olds again may moved told pair found in
      copied apart pair (found_placed gives reading olds again may moved told pair found) r.0 r.1 r.2 (object_stays entry held rows opened pair.old.unihash pair.old.manifest match)

  pub is_brought : IsBrought (whole_move olds again) entry now
  is_brought = record { work = work_brought; stamps = stamp_brought; objects = object_brought }
