-- What is available while a store is cleared.
use Rattle.std.proofs.Common.{◌≡◌, ◌∙◌, sym, ap, subst, refl, arith, ℕ, ◌⊎◌, inl, inr, Bool, false, List, [], ◌∷◌, ◌++◌, Option, None, Some}
use Rattle.std.specs.Prelude.{codes, Contains}
use Rattle.std.specs.List.{slice_get}
use Rattle.std.proofs.lemmas.Bool.{false≢true}
use Rattle.std.proofs.lemmas.List.{append_cancel_right}
use Rattle.tree_model.specs.declared.entry.Entry.{Entry}
use Rattle.tree_model.specs.declared.entry.Entry.TheVariants.{File}
use Rattle.tree_model.specs.declared.hash.Hash.{Hash}
use Rattle.tree_model.specs.declared.manifest.ManifestLine.{ManifestLine}
use Rattle.tree_model.specs.Hash.{IsHash, hash_text}
use Rattle.tree_model.specs.Path.{IsBelow, inside}
use Rattle.outside_traits.specs.Store.{IsAround, Store, slashes}
use Rattle.meta_model.specs.declared.event.Avail.{Avail}
use Rattle.meta_model.specs.declared.event.Avail.TheVariants as avail
use Rattle.meta_model.specs.declared.plan.PlanTask.{PlanTask}
use Rattle.store_model.specs.declared.signature.EquivRow.{EquivRow}
use Rattle.store_model.specs.Available.{IsAvailable, IsInObject, IsInWork, Matches, object_folder, stamp_path, task_folder, work_folder}
use Rattle.store_model.specs.Opened.{IsOpened}
use Rattle.store_model.specs.Origins.{Book, row_of, rows_of}
use Rattle.store_model.specs.Rows.{row_at}
use Rattle.store_model.specs.Signatures.{Signed, signatures}
use Rattle.store_model.specs.Spelling.{name_of, short_name}
use Rattle.store_model.proofs.Standing.{row_found}
use Rattle.outside_traits.proofs.Folders.{under_same}
use Rattle.store_opening.proofs.Areas.{differ, heads, heads_differ}
use Rattle.store_opening.proofs.Clean.{hash_is_name, name_is_name, name_slashes, same_digest, short_is_name}
use Rattle.store_opening.proofs.Slashes.{slashes_inside}
use Rattle.book_change.specs.Going.{KeepsPlan, SameAt, kept_of}
use Rattle.book_change.proofs.Keeping.{same_row}
use Rattle.store_clean.specs.Cleared.{IsBeside, IsClearing, IsKeptObject, NamesGone, Stays, is_there}
use Rattle.store_clean.specs.Laws.{ClearingIsAvailable}
use Rattle.store_clean.proofs.Moments.{text_of_row}
use Rattle.store_clean.proofs.Valid.{row_held, row_in, stays_there}

turned : (folder : List ℕ) (held later : Store) → SameAt folder held later → SameAt folder later held
turned folder held later same q at = sym (same q at)

matches_same : (folder : List ℕ) (held later : Store) (lines : List ManifestLine) → SameAt folder held later → Matches held folder lines → Matches later folder lines
matches_same folder held later lines same m = record {
  tree = m.tree;
  is_tree = m.is_tree;
  holds = record {
    entries = λ path. same (inside folder path) (inr (path, refl)) ∙ m.holds.entries path;
    outside = record {
      at = same folder (inl (inl refl)) ∙ m.holds.outside.at;
      above = λ q b. same q (inl (inr b)) ∙ m.holds.outside.above q b;
    };
  };
  manifest = m.manifest;
}

-- what is at a folder, above it or below it begins as the folder does
first_byte : (c : ℕ) (rest q : List ℕ) → (47 ≡ c → ⊥) → IsAround (c ∷ rest) q ⊎ IsBelow (c ∷ rest) q → (more : List ℕ) × (q ≡ c ∷ more)
first_byte c rest q slash (inl (inl same)) = (rest, same)
first_byte c rest [] slash (inl (inr above)) = absurd (slash (sym (heads above.1)))
first_byte c rest (x ∷ q) slash (inl (inr above)) = (q, λ i. sym (heads above.1) i ∷ q)
first_byte c rest q slash (inr below) = (rest ++ 47 ∷ below.0, below.1)

-- a path that begins with another byte than records, stamps, objects, keys and what went do isn't touched
module _ (rows : List EquivRow) (keep : Hash → Bool) (held : Store) where
  beside_work : (more : List ℕ) → IsBeside rows keep held (119 ∷ more)
  beside_work more = record {
    records = λ row goes e. heads_differ (differ 119 114 refl) e;
    stamps = λ b named. heads_differ (differ 119 115 refl) b.1;
    objects = λ b. absurd (heads_differ (differ 119 111 refl) b.1);
    keys = λ b. absurd (heads_differ (differ 119 107 refl) b.1);
    temporary = heads_differ (differ 119 116 refl);
  }

module _ (before held image : Store) (rows : List EquivRow) (keep : Hash → Bool) (o : IsOpened before held rows) (cl : IsClearing rows keep held image) where
  same_work : (task : PlanTask) → SameAt (work_folder task) held image
  same_work task q at =
      let w = first_byte 119 (111 ∷ (114 ∷ (107 ∷ 47 ∷ task_folder task))) q (differ 47 119 refl) at in
      ap image w.1 ∙ cl.beside (119 ∷ w.0) (beside_work rows keep held w.0) ∙ ap held (sym w.1)

  -- the object of a record that stays
  same_object : (row : EquivRow) → Stays rows keep row → SameAt (object_folder row.unihash) held image
  same_object row stays q at = cl.beside q (record {
    records = λ other goes e. heads_differ (differ 111 114 refl) (sym w.1 ∙ e);
    stamps = λ b named. heads_differ (differ 111 115 refl) (sym w.1 ∙ b.1);
    objects = λ b. by at b;
    keys = λ b. absurd (heads_differ (differ 111 107 refl) (sym w.1 ∙ b.1));
    temporary = λ e. heads_differ (differ 111 116 refl) (sym w.1 ∙ e);
  })
    where
      w : (more : List ℕ) × (q ≡ 111 ∷ more)
      w = first_byte 111 (98 ∷ (106 ∷ 47 ∷ hash_text row.unihash)) q (differ 47 111 refl) at

      -- above an object's folder there is nothing that is below `obj`
      no_above : IsBelow q (object_folder row.unihash) → IsBelow (codes "obj") q → ⊥
      no_above above b =
          let known = (row_held before held image rows keep o cl row stays.among).known in
          let hash : IsHash row.unihash = subst IsHash (sym (ap (λ (r : EquivRow). r.unihash) known.is)) known.spelled.unihash in
          let none = name_slashes row.unihash (hash_is_name row.unihash hash) in
          let text : hash_text row.unihash ≡ inside b.0 above.0 = under_same (codes "obj") (hash_text row.unihash) (inside b.0 above.0) (above.1 ∙ ap (λ (p : List ℕ). inside p above.0) b.1) in
          let more = slashes_inside b.0 above.0 in
          let same = ap slashes text in
          omega (arith, none, more, same)

      by : IsAround (object_folder row.unihash) q ⊎ IsBelow (object_folder row.unihash) q → IsBelow (codes "obj") q → IsKeptObject rows keep q
      by (inl (inl same)) b = record { row = row; stays = stays; at = inl same }
      by (inl (inr above)) b = absurd (no_above above b)
      by (inr below) b = record { row = row; stays = stays; at = inr below }

  -- a stamp that names a record that stays is as it was, and none came
  module _ (book : Book) (are : rows ≡ rows_of book) (tasks : List PlanTask) (plan : KeepsPlan keep book tasks) (n : ℕ) (s : Signed) (at : slice_get (signatures (rows_of book) tasks) n ≡ Some s) where
    abbrev there : Hash → Bool
    there = is_there image

    row_stays : (row : EquivRow) (m : ℕ) (t : Signed) → slice_get (signatures (rows_of book) tasks) m ≡ Some t → row_at (rows_of book) (name_of t.sig) ≡ Some row → Stays rows keep row × (row.name ≡ name_of t.sig)
    row_stays row m t t_at is =
        let l = row_found book (name_of t.sig) row is in
        let name : row.name ≡ name_of t.sig = sym (ap (λ (r : EquivRow). r.name) l.3) ∙ l.4 in (
          record {
            among = subst (λ (r : EquivRow). Contains rows r) l.3 (subst (λ (rs : List EquivRow). Contains rs (row_of l.1)) (sym are) (row_in book l.0 l.1 l.2));
            kept = ap keep name ∙ plan m t row t_at is;
          },
          name,
        )

    plan_there : KeepsPlan there book tasks
    plan_there m t row t_at is =
        let r = row_stays row m t t_at is in
        ap there (sym r.1) ∙ stays_there before held image rows keep o cl row r.0

    rows_same : row_at (rows_of (kept_of there book)) (name_of s.sig) ≡ row_at (rows_of book) (name_of s.sig)
    rows_same = same_row book there tasks plan_there n s at

    below_stamp : IsBelow (codes "stamp") (stamp_path s.task)
    below_stamp = (task_folder s.task, refl)

    -- no stamp of the task's record names another that goes
    not_gone : (row : EquivRow) → row_at (rows_of book) (name_of s.sig) ≡ Some row → held (stamp_path s.task) ≡ Some (File false (hash_text (name_of s.sig) ++ 10 ∷ [])) → NamesGone rows keep (held (stamp_path s.task)) → ⊥
    not_gone row is stamp g =
        let r = row_stays row n s at is in
        let known = (row_held before held image rows keep o cl g.row g.goes.among).known in
        let files : ◌≡◌ {A = Option Entry} (Some (File false (hash_text g.row.name ++ 10 ∷ []))) (Some (File false (hash_text (name_of s.sig) ++ 10 ∷ []))) = sym g.is ∙ stamp in
        let bytes : hash_text g.row.name ++ 10 ∷ [] ≡ hash_text (name_of s.sig) ++ 10 ∷ [] = cc in
        let text : hash_text g.row.name ≡ hash_text (name_of s.sig) = append_cancel_right (hash_text g.row.name) (hash_text (name_of s.sig)) (10 ∷ []) bytes in
        let short : g.row.name ≡ short_name known.stored.sig = text_of_row g.row known in
        let name : short_name known.stored.sig ≡ name_of s.sig = same_digest (short_name known.stored.sig) (name_of s.sig) (short_is_name known.stored.sig) (name_is_name s.sig) (ap hash_text (sym short) ∙ text) in
        false≢true (sym g.goes.gone ∙ ap keep (short ∙ name ∙ sym r.1) ∙ r.0.kept)

    to_work : IsInWork held (rows_of book) s → IsInWork image (rows_of (kept_of there book)) s
    to_work w = record {
      kept = w.kept;
      row = w.row;
      stored = record { is_row = rows_same ∙ w.stored.is_row; sig = w.stored.sig };
      stamp = elim (cl.stamps (stamp_path s.task) below_stamp) [ inl same ↦ same ∙ w.stamp | inr g ↦ absurd (not_gone w.row w.stored.is_row w.stamp g.0) ];
      folder = matches_same (work_folder s.task) held image w.row.manifest (same_work s.task) w.folder;
    }

    none_some : (x : Option Entry) (e : Entry) → x ≡ None → x ≡ Some e → ⊥
    none_some x e p q = absurd cc

    back_work : IsInWork image (rows_of (kept_of there book)) s → IsInWork held (rows_of book) s
    back_work w = record {
      kept = w.kept;
      row = w.row;
      stored = record { is_row = sym rows_same ∙ w.stored.is_row; sig = w.stored.sig };
      stamp = elim (cl.stamps (stamp_path s.task) below_stamp) [ inl same ↦ sym same ∙ w.stamp | inr g ↦ absurd (none_some (image (stamp_path s.task)) (File false (hash_text (name_of s.sig) ++ 10 ∷ [])) g.1 w.stamp) ];
      folder = matches_same (work_folder s.task) image held w.row.manifest (turned (work_folder s.task) held image (same_work s.task)) w.folder;
    }

    to_object : (setscene : Bool) → IsInObject held (rows_of book) setscene s → IsInObject image (rows_of (kept_of there book)) setscene s
    to_object setscene x = record {
      kept = x.kept;
      sstate = x.sstate;
      counts = x.counts;
      row = x.row;
      stored = record { is_row = rows_same ∙ x.stored.is_row; sig = x.stored.sig };
      object = matches_same (object_folder x.row.unihash) held image x.row.manifest (same_object x.row (row_stays x.row n s at x.stored.is_row).0) x.object;
    }

    back_object : (setscene : Bool) → IsInObject image (rows_of (kept_of there book)) setscene s → IsInObject held (rows_of book) setscene s
    back_object setscene x =
        let is : row_at (rows_of book) (name_of s.sig) ≡ Some x.row = sym rows_same ∙ x.stored.is_row in
        record {
          kept = x.kept;
          sstate = x.sstate;
          counts = x.counts;
          row = x.row;
          stored = record { is_row = is; sig = x.stored.sig };
          object = matches_same (object_folder x.row.unihash) image held x.row.manifest (turned (object_folder x.row.unihash) held image (same_object x.row (row_stays x.row n s at is).0)) x.object;
        }

    available : (setscene : Bool) (a : Avail) → IsAvailable held (rows_of book) setscene s a → IsAvailable image (rows_of (kept_of there book)) setscene s a
    available setscene avail.Work w = to_work w
    available setscene avail.Object x = (λ w. x.0 (back_work w), to_object setscene x.1)
    available setscene avail.Missing m = (λ w. m.0 (back_work w), λ x. m.1 (back_object setscene x))

pub clearing_is_available : ClearingIsAvailable
clearing_is_available before held image rows keep o cl book are tasks plan setscene n s a at is = available before held image rows keep o cl book are tasks plan n s at setscene a is
