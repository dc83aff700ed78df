-- The tasks of a plan whose names are the roots.
use Rattle.std.proofs.Common.{◌≡◌, ◌≢◌, ◌∙◌, sym, ap, refl, arith, ℕ, ◌<◌, Bool, List, ◌∷◌, inl, inr, length, None, Some}
use Rattle.std.specs.Prelude.{codes, Contains}
use Rattle.std.specs.List.{slice_get}
use Rattle.std.proofs.lemmas.List.{get_or-map, length-map}
use Rattle.std.proofs.lemmas.Option.{get_or_from_slice_get, none-some, slice_get_within}
use Rattle.tree_model.specs.declared.hash.Hash.{Hash}
use Rattle.tree_model.specs.Hash.{hash_text}
use Rattle.outside_traits.specs.Store.{Store}
use Rattle.outside_traits.proofs.Puts.{path_cases}
use Rattle.meta_model.specs.CleanBuild.{Gives}
use Rattle.meta_model.specs.declared.event.Avail.TheVariants as avail
use Rattle.meta_model.specs.declared.plan.PlanTask.{PlanTask}
use Rattle.store_model.specs.declared.signature.EquivRow.{EquivRow}
use Rattle.store_model.specs.Available.{IsAvailable, IsInObject, IsInWork, stamp_path, task_folder}
use Rattle.store_model.specs.Lines.{HaveSameLines}
use Rattle.store_model.specs.Opened.{IsElsewhere, IsOpened}
use Rattle.store_model.specs.Origins.{Book, Reading, rows_of}
use Rattle.store_model.specs.Recording.{HasRow}
use Rattle.store_model.specs.Rows.{row_at}
use Rattle.store_model.specs.Signatures.{Signed, signatures}
use Rattle.store_model.specs.Spelling.{name_of}
use Rattle.store_model.specs.Valid.{IsValidBook}
use Rattle.setscene_plan.specs.Names.{names_over}
use Rattle.store_opening.specs.Opening.{Clears}
use Rattle.store_opening.specs.Paths.{HasPlace}
use Rattle.store_opening.proofs.Areas.{differ, heads_differ}
use Rattle.store_opening.proofs.Clean.{folder_slashes}
use Rattle.store_opening.proofs.Reused.{signatures_same}
use Rattle.store_opening.proofs.SameLines.{same_rows}
use Rattle.store_opening.proofs.StillThere.{matches_there, name_is_hash, opened_stays}
use Rattle.book_change.specs.Going.{KeepsPlan, kept_of}
use Rattle.book_change.proofs.Keeping.{kept_signatures}
use Rattle.store_clean.specs.Cleared.{IsClearing, is_there}
use Rattle.store_clean.specs.Deciding.{IsDecided, keeps}
use Rattle.store_clean.specs.Laws.{IsPartThere}
use Rattle.store_clean.proofs.Offered.{clearing_is_available}
use Rattle.store_clean.proofs.Rooted.{roots_stay}
use Rattle.plan_clean.specs.Laws.{IsTaskKept}

-- ---- while the store is opened: what opening leaves alone stays

module _ (held image : Store) (left : Clears held held image) where
  elsewhere : (c : ℕ) (ps : List ℕ) → c ≢ 114 → c ≢ 107 → c ≢ 115 → c ≢ 116 → (c ∷ ps) ≢ codes "obj" → IsElsewhere (c ∷ ps)
  elsewhere c ps nr nk ns nt other = record {
    records = λ at. elim at [ inl same ↦ heads_differ nr same | inr below ↦ heads_differ nr below.1 ];
    keys = λ at. elim at [ inl same ↦ heads_differ nk same | inr below ↦ heads_differ nk below.1 ];
    stamps = λ at. elim at [ inl same ↦ heads_differ ns same | inr below ↦ heads_differ ns below.1 ];
    temporary = λ at. elim at [ inl same ↦ heads_differ nt same | inr below ↦ heads_differ nt below.1 ];
    objects = other;
  }

  work_same : (rest : List ℕ) → image (119 ∷ rest) ≡ held (119 ∷ rest)
  work_same rest = left.left (119 ∷ rest) (inl (elsewhere 119 rest (differ 119 114 refl) (differ 119 107 refl) (differ 119 115 refl) (differ 119 116 refl) (heads_differ (differ 119 111 refl))))

  -- objects stay, where a folder can be at `obj`
  shared_same : held (codes "obj") ≡ None → (rest : List ℕ) → image (111 ∷ rest) ≡ held (111 ∷ rest)
  shared_same none rest = elim (path_cases (111 ∷ rest) (codes "obj")) [
    | inl same ↦ ap image same ∙ left.left (codes "obj") (inr (inr (inr (inr none)))) ∙ ap held (sym same)
    | inr other ↦ left.left (111 ∷ rest) (inl (elsewhere 111 rest (differ 111 114 refl) (differ 111 107 refl) (differ 111 115 refl) (differ 111 116 refl) other))
  ]

  module _ (rows : List EquivRow) (s : Signed) (place : HasPlace s.task) where
    -- the stamp of a task that is available by its work folder is one: nothing is held above that
    stamp_stays : IsInWork held rows s → image (stamp_path s.task) ≡ held (stamp_path s.task)
    stamp_stays w =
        left.left (stamp_path s.task) (inr (inr (inr (inl (task_folder s.task, record { name = name_of s.sig; is_hash = name_is_hash s.sig; two = folder_slashes s.task place; file = w.stamp; way = w.folder.holds.outside.above }, refl)))))

    pub work_left : IsInWork held rows s → IsInWork image rows s
    work_left w = record {
      kept = w.kept;
      row = w.row;
      stored = w.stored;
      stamp = stamp_stays w ∙ w.stamp;
      folder = matches_there held image 119 (111 ∷ 114 ∷ 107 ∷ 47 ∷ task_folder s.task) w.row.manifest (differ 119 47 refl) work_same w.folder;
    }

    pub object_left : (setscene : Bool) → IsInObject held rows setscene s → IsInObject image rows setscene s
    object_left setscene o = record {
      kept = o.kept;
      sstate = o.sstate;
      counts = o.counts;
      row = o.row;
      stored = o.stored;
      object = matches_there held image 111 (98 ∷ 106 ∷ 47 ∷ hash_text o.row.unihash) o.row.manifest (differ 111 47 refl) (shared_same (o.object.holds.outside.above (codes "obj") (hash_text o.row.unihash, refl))) o.object;
    }

pub kept_while_opening : (held image : Store) → Clears held held image → (book : Book) (tasks : List PlanTask) (setscene : Bool) (n : ℕ) (s : Signed) → slice_get (signatures (rows_of book) tasks) n ≡ Some s → HasPlace s.task → IsTaskKept held image book book tasks setscene n s
kept_while_opening held image left book tasks setscene n s at place = record {
  signed = at;
  work = work_left held image left (rows_of book) s place;
  object = λ o. object_left held image left (rows_of book) s place setscene o.1;
}

-- ---- once it is opened: with a book of the same lines

-- a task is there over rows in which its name has the same row
over_work : (held : Store) (rows others : List EquivRow) (s : Signed) → row_at others (name_of s.sig) ≡ row_at rows (name_of s.sig) → IsInWork held rows s → IsInWork held others s
over_work held rows others s same w = record { kept = w.kept; row = w.row; stored = record { is_row = same ∙ w.stored.is_row; sig = w.stored.sig }; stamp = w.stamp; folder = w.folder }

over_object : (held : Store) (rows others : List EquivRow) (setscene : Bool) (s : Signed) → row_at others (name_of s.sig) ≡ row_at rows (name_of s.sig) → IsInObject held rows setscene s → IsInObject held others setscene s
over_object held rows others setscene s same o = record { kept = o.kept; sstate = o.sstate; counts = o.counts; row = o.row; stored = record { is_row = same ∙ o.stored.is_row; sig = o.stored.sig }; object = o.object }

-- a task that is kept, and available by its object just as it was
pub record IsWhole (held image : Store) (book part : Book) (tasks : List PlanTask) (setscene : Bool) (n : ℕ) (s : Signed) : Type 0 where
  pub signed : slice_get (signatures (rows_of part) tasks) n ≡ Some s
  pub work : IsAvailable held (rows_of book) setscene s avail.Work → IsAvailable image (rows_of part) setscene s avail.Work
  pub object : IsAvailable held (rows_of book) setscene s avail.Object → IsAvailable image (rows_of part) setscene s avail.Object

pub kept_of_whole : (held image : Store) (book part : Book) (tasks : List PlanTask) (setscene : Bool) (n : ℕ) (s : Signed) → IsWhole held image book part tasks setscene n s → IsTaskKept held image book part tasks setscene n s
kept_of_whole held image book part tasks setscene n s w = record { signed = w.signed; work = w.work; object = λ o. (w.object o).1 }

pub whole_then : (a b c : Store) (book again part : Book) (tasks : List PlanTask) (setscene : Bool) (n : ℕ) (s : Signed) → IsWhole a b book again tasks setscene n s → IsWhole b c again part tasks setscene n s → IsWhole a c book part tasks setscene n s
whole_then a b c book again part tasks setscene n s first second = record { signed = second.signed; work = λ w. second.work (first.work w); object = λ o. second.object (first.object o) }

pub whole_opened : (gives : Gives) (reading : Reading) (held opened : Store) (rows : List EquivRow) (book again : Book) → IsOpened held opened rows → IsValidBook gives reading book → IsValidBook gives reading again → HaveSameLines book again
    → (tasks : List PlanTask) (setscene : Bool) (n : ℕ) (s : Signed) → slice_get (signatures (rows_of book) tasks) n ≡ Some s → HasPlace s.task → IsWhole held opened book again tasks setscene n s
whole_opened gives reading held opened rows book again o valid valid' same tasks setscene n s at place =
    let row = same_rows gives reading book again valid valid' same in
    let still = opened_stays held opened rows o (rows_of book) setscene s place in
    let name = name_of s.sig in
    record {
      signed = ap (λ (l : List Signed). slice_get l n) (signatures_same (rows_of book) (rows_of again) row tasks) ∙ at;
      work = λ w. over_work opened (rows_of book) (rows_of again) s (row name) (still.work w);
      object = λ x. (
        λ w. x.0 (still.no_more_work (over_work opened (rows_of again) (rows_of book) s (sym (row name)) w)),
        over_object opened (rows_of book) (rows_of again) setscene s (row name) (still.object x.1),
      );
    }

-- ---- while it is cleared

-- a task's name is among the names of the plan
name_among : (rows : List EquivRow) (tasks : List PlanTask) (n : ℕ) (s : Signed) → slice_get (signatures rows tasks) n ≡ Some s → Contains (names_over rows tasks) (name_of s.sig)
name_among rows tasks n s at =
    let name : Signed → Hash = λ x. name_of x.sig in
    let within : n < length (signatures rows tasks) = slice_get_within (signatures rows tasks) n s at in
    (n, omega (arith, within, length-map (signatures rows tasks) name), get_or-map name (signatures rows tasks) n s (name s) within ∙ ap name (get_or_from_slice_get (signatures rows tasks) n s s at))

module _ (held opened image : Store) (rows : List EquivRow) (o : IsOpened held opened rows) (tasks : List PlanTask) (limit : ℕ) (marks : List Bool) (decided : IsDecided rows (names_over rows tasks) limit marks) (again : Book) (are : rows ≡ rows_of again) (cl : IsClearing rows (keeps rows marks) opened image) where
  has_row : (name : Hash) (row : EquivRow) (others : List EquivRow) → row_at others name ≡ Some row → HasRow others name
  has_row name row others is none = none-some row (sym none ∙ is)

  -- the records of the plan's tasks stay
  plan_stays : KeepsPlan (keeps rows marks) again tasks
  plan_stays n s row at is =
      roots_stay rows (names_over rows tasks) limit marks decided (name_of s.sig)
      (name_among rows tasks n s (ap (λ (r : List EquivRow). slice_get (signatures r tasks) n) are ∙ at))
      (has_row (name_of s.sig) row rows (ap (λ (r : List EquivRow). row_at r (name_of s.sig)) are ∙ is))

  module _ (gives : Gives) (reading : Reading) (part : IsPartThere gives reading (keeps rows marks) again image) where
    plan_there : KeepsPlan (is_there image) again tasks
    plan_there n s row at is = part.kept (name_of s.sig) (plan_stays n s row at is) (has_row (name_of s.sig) row (rows_of again) is)

    pub whole_cleared : (setscene : Bool) (n : ℕ) (s : Signed) → slice_get (signatures (rows_of again) tasks) n ≡ Some s → IsWhole opened image again (kept_of (is_there image) again) tasks setscene n s
    whole_cleared setscene n s at = record {
      signed = ap (λ (l : List Signed). slice_get l n) (kept_signatures again (is_there image) tasks plan_there) ∙ at;
      work = λ w. clearing_is_available held opened image rows (keeps rows marks) o cl again are tasks plan_stays setscene n s avail.Work at w;
      object = λ x. clearing_is_available held opened image rows (keeps rows marks) o cl again are tasks plan_stays setscene n s avail.Object at x;
    }
