-- What was available as a run began is available in whatever a crash leaves.
use Rattle.std.proofs.Common.{◌≡◌, ◌≢◌, ◌∙◌, ◌⊎◌, sym, ap, subst, refl, ℕ, ◌+◌, arith, List, [], ◌∷◌, ◌++◌, take, Some, None, inl, inr}
use Rattle.std.specs.Prelude.{Option, codes, slice_index_or}
use Rattle.std.specs.List.{slice_get}
use Rattle.std.specs.Option.{option_or}
use Rattle.std.proofs.lemmas.Bool.{cases_eq}
use Rattle.std.proofs.lemmas.List.Folds.{find-append}
use Rattle.std.proofs.lemmas.Option.{same_Some, slice_get-get_or, slice_get_within}
use Rattle.std.proofs.lemmas.List.{map-append}
use Rattle.tree_model.specs.declared.hash.Hash.{Hash}
use Rattle.tree_model.specs.Hash.{hash_text}
use Rattle.tree_model.specs.Path.{IsAtOrBelow, IsBelow, inside}
use Rattle.outside_traits.specs.Store.{Store}
use Rattle.outside_traits.specs.Story.{IsImageSince, Story}
use Rattle.outside_traits.proofs.Folders.{above_under}
use Rattle.meta_model.specs.declared.event.Avail.TheVariants as avail
use Rattle.meta_model.specs.declared.event.Logged.{Logged}
use Rattle.meta_model.specs.declared.event.Status.{Status}
use Rattle.meta_model.specs.declared.plan.Options.{Options}
use Rattle.meta_model.specs.declared.plan.Plan.{Plan}
use Rattle.meta_model.specs.declared.plan.PlanTask.{PlanTask}
use Rattle.meta_model.specs.CleanBuild.{Gives}
use Rattle.store_model.specs.declared.signature.EquivRow.{EquivRow}
use Rattle.store_model.specs.Available.{IsInObject, IsInWork, object_folder, stamp_path, task_folder, work_folder}
use Rattle.store_model.specs.Lines.{HaveSameLines}
use Rattle.store_model.specs.Opened.{IsLeft}
use Rattle.store_model.specs.Origins.{Book, Line, Reading, row_of, rows_of}
use Rattle.outside_traits.specs.Store.{slashes}
use Rattle.store_model.specs.Premises.{HasOneSignature}
use Rattle.store_model.specs.Reuse.{MayReuse}
use Rattle.store_model.specs.Rows.{hash_eq, row_at}
use Rattle.store_model.specs.Signatures.{Signed, signatures}
use Rattle.store_model.specs.Spelling.{name_of}
use Rattle.store_model.specs.Valid.{StandsIn}
use Rattle.store_model.proofs.Standing.{AllNew, one_place, row_found, row_none}
use Rattle.store_model.proofs.Staying.{kept_with_row, row_stays}
use Rattle.plan_model.specs.Sound.{IsSound}
use Rattle.store_opening.specs.Named.{IsName}
use Rattle.store_opening.specs.Paths.{HasPlace}
use Rattle.store_opening.specs.Reopened.{StaysThere}
use Rattle.store_opening.proofs.Reused.{signatures_same}
use Rattle.store_opening.proofs.StillThere.{name_is_hash, opened_stays}
use Rattle.store_opening.proofs.Areas.{differ, heads_differ}
use Rattle.store_opening.proofs.Clean.{folder_slashes, name_slashes}
use Rattle.store_opening.proofs.Slashes.{slashes_inside}
use Rattle.run_model.specs.Books.{book_after, rows_after, signed_after}
use Rattle.run_model.specs.Build.{HasRun, IsLeftAlone, LeavesOthers, MayPublish, MayTouch}
use Rattle.run_model.specs.Headline.{Keeps}
use Rattle.run_model.specs.Lasts.{AvailableLasts}
use Rattle.run_model.specs.Own.{IsObjectOfNone}
use Rattle.run_model.specs.Runs.{Runs}
use Rattle.run_model.specs.Stands.{HasBroken, HasFinished, HasRestored, HasStarted, there_by}
use Rattle.run_queue.proofs.Enduring.{differ_at, front_book, signed_at}
use Rattle.run_queue.proofs.FoldersAbove.{unihash_is_name}
use Rattle.run_queue.proofs.OwnNames.{has_own_name, signed_task_at}
use Rattle.run_queue.proofs.Placing.{has_place}

-- ---- paths by their first bytes

-- what stands above a path begins as it does
begins : (c : ℕ) (ps q : List ℕ) → c ≢ 47 → IsBelow q (c ∷ ps) → (rest : List ℕ) × (q ≡ c ∷ rest)
begins c ps [] no_slash below = absurd (heads_differ no_slash below.1)
begins c ps (x ∷ q) no_slash below = (q, ap (λ (b : ℕ). b ∷ q) (sym (ap (λ (l : List ℕ). slice_index_or l 0 0) below.1)))

-- a path that begins so isn't at or below one that begins otherwise
not_under : (c d : ℕ) (ps qs q : List ℕ) → c ≢ d → q ≡ c ∷ qs → IsAtOrBelow (d ∷ ps) q → ⊥
not_under c d ps qs q ne is at = elim at [ inl same ↦ heads_differ ne (sym is ∙ same) | inr below ↦ heads_differ ne (sym is ∙ below.1) ]

-- a path above a task's work folder isn't at or below another task's
too_high : (one other : PlanTask) (q : List ℕ) → HasPlace one → HasPlace other → IsBelow q (work_folder one) → IsAtOrBelow (work_folder other) q → ⊥
too_high one other q place other_place up at =
    let mine : slashes (work_folder one) ≡ slashes q + 1 + slashes up.0 = ap slashes up.1 ∙ slashes_inside q up.0 in
    let own : slashes (work_folder one) ≡ 0 + 1 + slashes (task_folder one) = slashes_inside (codes "work") (task_folder one) in
    let its : slashes (work_folder other) ≡ 0 + 1 + slashes (task_folder other) = slashes_inside (codes "work") (task_folder other) in
    elim at [
      | inl same ↦ let s : slashes q ≡ slashes (work_folder other) = ap slashes same in absurd (omega (arith, mine, own, its, s, folder_slashes one place, folder_slashes other other_place))
      | inr below ↦
          let s : slashes q ≡ slashes (work_folder other) + 1 + slashes below.0 = ap slashes below.1 ∙ slashes_inside (work_folder other) below.0 in
          absurd (omega (arith, mine, own, its, s, folder_slashes one place, folder_slashes other other_place))
    ]

-- ---- rows of books with the same lines

-- each name has the same row; the lines of the one book have different names
module _ (book base : Book) (new : AllNew book) (same : HaveSameLines book base) where
  same_row : (name : Hash) → row_at (rows_of base) name ≡ row_at (rows_of book) name
  same_row name = by (row_at (rows_of base) name) (row_at (rows_of book) name) refl refl
    where
      by : (o p : Option EquivRow) → row_at (rows_of base) name ≡ o → row_at (rows_of book) name ≡ p → row_at (rows_of base) name ≡ row_at (rows_of book) name
      by None None e f = e ∙ sym f
      by (Some r) None e f =
          let l = row_found base name r e in
          let b = same.only l.0 l.1 l.2 in
          absurd (row_none book name f b.0 l.1 b.1 l.4)
      by None (Some r) e f =
          let l = row_found book name r f in
          let b = same.whole l.0 l.1 l.2 in
          absurd (row_none base name e b.0 l.1 b.1 l.4)
      by (Some r) (Some p) e f =
          let l = row_found base name r e in
          let m = row_found book name p f in
          let b = same.only l.0 l.1 l.2 in
          let one : l.1 ≡ m.1 = (one_place book b.0 m.0 l.1 m.1 new b.1 m.2 (l.4 ∙ sym m.4)).1 in
          e ∙ ap Some (sym l.3 ∙ ap row_of one ∙ m.3) ∙ sym f

  -- also with more behind them
  same_behind : (more : Book) (name : Hash) → row_at (rows_of base ++ rows_of more) name ≡ row_at (rows_of book ++ rows_of more) name
  same_behind more name =
      find-append (λ r. hash_eq r.name name) (rows_of base) (rows_of more)
      ∙ ap (λ (o : Option EquivRow). option_or o (row_at (rows_of more) name)) (same_row name)
      ∙ sym (find-append (λ r. hash_eq r.name name) (rows_of book) (rows_of more))

-- ---- one task that is there

module _ (gives : Gives) (reading : Reading) (book : Book) (held : Store) (plan : Plan) (options : Options) (tale : List Logged) (s : Status) (story : Story) (before now : List Runs)
    (sound : IsSound plan) (may : MayReuse gives reading held book plan.tasks) (keeps : Keeps gives reading book held plan options (tale ∷ []) s story before now)
    (t : ℕ) (sg : Signed) (is_sg : slice_get (signatures (rows_of book) plan.tasks) t ≡ Some sg) where
  abbrev Rows : List EquivRow
  Rows = rows_of book

  new : AllNew book
  new before line stands behind earlier at = let v = may.valid before line stands in v.new behind earlier at

  at_task : slice_get plan.tasks t ≡ Some sg.task
  at_task = signed_task_at Rows plan.tasks t sg is_sg

  place : HasPlace sg.task
  place = has_place plan t sg.task sound at_task

  leaves : LeavesOthers gives book held plan options tale s story
  leaves = keeps.others 0 tale (omega arith)

  legal : (tale ≡ []) ⊎ HasRun gives reading book held plan options tale s story
  legal = keeps.legal 0 tale (omega arith)

  -- its signature and its row are the same over any book of the same lines, with more behind it
  record IsSameOver (base more : Book) (later : Signed) : Type 0 where
    signed : sg ≡ later
    row : row_at (rows_of (base ++ more)) (name_of sg.sig) ≡ row_at Rows (name_of sg.sig)

  same_over : (base more : Book) (later : Signed) → HaveSameLines book base → row_at Rows (name_of sg.sig) ≢ None → slice_get (signatures (rows_of (base ++ more)) plan.tasks) t ≡ Some later → IsSameOver base more later
  same_over base more later same has is_later =
      let split : rows_of (base ++ more) ≡ rows_of base ++ rows_of more = map-append row_of base more in
      let signed : signatures (rows_of base ++ rows_of more) plan.tasks ≡ signatures (Rows ++ rows_of more) plan.tasks = signatures_same (Rows ++ rows_of more) (rows_of base ++ rows_of more) (same_behind book base new same more) plan.tasks in
      let is : slice_get (signatures (Rows ++ rows_of more) plan.tasks) t ≡ Some later = ap (λ l. slice_get l t) (sym signed) ∙ ap (λ (r : List EquivRow). slice_get (signatures r plan.tasks) t) (sym split) ∙ is_later in
      record {
        signed = kept_with_row gives reading book plan.tasks may.valid (rows_of more) t sg later may.no_collision is_sg is has;
        row = ap (λ (r : List EquivRow). row_at r (name_of sg.sig)) split ∙ same_behind book base new same more (name_of sg.sig) ∙ row_stays Rows (rows_of more) (name_of sg.sig) has;
      }

  has_row : (row : EquivRow) → row_at Rows (name_of sg.sig) ≡ Some row → row_at Rows (name_of sg.sig) ≢ None
  has_row row is none = let e : ◌≡◌ {A = Option EquivRow} (Some row) None = sym is ∙ none in cc

  work_over : (image : Store) (base more : Book) (later : Signed) → HaveSameLines book base → slice_get (signatures (rows_of (base ++ more)) plan.tasks) t ≡ Some later → IsInWork image Rows sg → IsInWork image (rows_of (base ++ more)) later
  work_over image base more later same is_later w =
      let o = same_over base more later same (has_row w.row w.stored.is_row) is_later in
      subst (IsInWork image (rows_of (base ++ more))) o.signed (record { kept = w.kept; row = w.row; stored = record { is_row = o.row ∙ w.stored.is_row; sig = w.stored.sig }; stamp = w.stamp; folder = w.folder })

  object_over : (image : Store) (base more : Book) (later : Signed) → HaveSameLines book base → slice_get (signatures (rows_of (base ++ more)) plan.tasks) t ≡ Some later → IsInObject image Rows options.setscene sg → IsInObject image (rows_of (base ++ more)) options.setscene later
  object_over image base more later same is_later b =
      let o = same_over base more later same (has_row b.row b.stored.is_row) is_later in
      subst (IsInObject image (rows_of (base ++ more)) options.setscene) o.signed
      (record { kept = b.kept; sstate = b.sstate; counts = b.counts; row = b.row; stored = record { is_row = o.row ∙ b.stored.is_row; sig = b.stored.sig }; object = b.object })

  -- ---- so the run didn't start it

  -- the book after a front of the tale has the opening's lines, and more
  module _ (run : HasRun gives reading book held plan options tale s story) (k : ℕ) where
    behind : (more : Book) × (book_after run.opening.gives plan run.opening.book (take k tale) ≡ run.opening.book ++ more)
    behind = front_book run.opening.gives plan run.opening.book (take k tale) 0

    later : (x : Signed) × (signed_after run.opening plan (take k tale) t ≡ Some x)
    later = signed_at Rows (rows_after run.opening plan (take k tale)) plan.tasks t sg is_sg

    is_later : slice_get (signatures (rows_of (run.opening.book ++ behind.0)) plan.tasks) t ≡ Some later.0
    is_later = ap (λ (b : Book). slice_get (signatures (rows_of b) plan.tasks) t) (sym behind.1) ∙ later.1

    still : StaysThere held run.opening.story.held Rows options.setscene sg
    still = opened_stays held run.opening.story.held (rows_of run.opening.book) run.opened Rows options.setscene sg place

    work_then : IsInWork held Rows sg → IsInWork run.opening.story.held (rows_after run.opening plan (take k tale)) later.0
    work_then w =
        subst (λ (b : Book). IsInWork run.opening.story.held (rows_of b) later.0) (sym behind.1)
        (work_over run.opening.story.held run.opening.book behind.0 later.0 run.same_lines is_later (still.work w))

    object_then : IsInObject held Rows options.setscene sg → IsInObject run.opening.story.held (rows_after run.opening plan (take k tale)) options.setscene later.0
    object_then o =
        subst (λ (b : Book). IsInObject run.opening.story.held (rows_of b) options.setscene later.0) (sym behind.1)
        (object_over run.opening.story.held run.opening.book behind.0 later.0 run.same_lines is_later (still.object o))

  none_at : (k : ℕ) (entry : Logged) → slice_get tale k ≡ Some entry → tale ≡ [] → ⊥
  none_at k entry is none = let e : None ≡ Some entry = ap (λ (l : List Logged). slice_get l k) (sym none) ∙ is in cc

  not_started : IsInWork held Rows sg ⊎ IsInObject held Rows options.setscene sg → HasStarted tale t → ⊥
  not_started there started = elim legal [
    | inl none ↦ none_at started.place started.entry started.is_entry none
    | inr run ↦
        let x = later run started.place in
        let missing = run.there started.place t avail.Missing started.entry started.is_entry (ap there_by started.starts) x.0 x.1 in
        elim there [ inl w ↦ missing.0 (work_then run started.place w) | inr o ↦ missing.1 (object_then run started.place o) ]
  ]

  not_restored : IsInWork held Rows sg → HasRestored tale t → ⊥
  not_restored w restored = elim legal [
    | inl none ↦ none_at restored.place restored.entry restored.is_entry none
    | inr run ↦
        let x = later run restored.place in
        (run.there restored.place t avail.Object restored.entry restored.is_entry (ap there_by restored.restores) x.0 x.1).0 (work_then run restored.place w)
  ]

  not_ended : IsInWork held Rows sg → HasFinished tale t ⊎ HasBroken tale t → ⊥
  not_ended w over = elim legal [
    | inl none ↦ elim over [ inl f ↦ none_at f.place f.entry f.is_entry none | inr b ↦ none_at b.place b.entry b.is_entry none ]
    | inr run ↦ not_started (inl w) (run.started t over)
  ]

  -- nor did it touch it, where it was in its work folder
  untouched : IsInWork held Rows sg → MayTouch gives leaves.again held plan options tale s leaves.restored t → ⊥
  untouched w (inl (inl finished)) = not_ended w (inl finished)
  untouched w (inl (inr restored)) = not_restored w restored
  untouched w (inr halted) = elim halted.begun [
    | inl off ↦ not_ended w (inr off.broken)
    | inr had ↦
        let more = front_book gives plan leaves.again tale 0 in
        let x = signed_at Rows (rows_of (book_after gives plan leaves.again tale)) plan.tasks t sg is_sg in
        let is : slice_get (signatures (rows_of (leaves.again ++ more.0)) plan.tasks) t ≡ Some x.0 = ap (λ (b : Book). slice_get (signatures (rows_of b) plan.tasks) t) (sym more.1) ∙ x.1 in
        (had.1 x.0 x.1).0 (subst (λ (b : Book). IsInWork held (rows_of b) x.0) (sym more.1) (work_over held leaves.again more.0 x.0 leaves.same is w))
  ]

  -- ---- and it is there in each image

  module _ (image : Store) (since : IsImageSince story 0 image) where
    work_above : IsInWork held Rows sg → (q : List ℕ) → IsBelow q (work_folder sg.task) → image q ≡ None
    work_above w q up =
        let none : held q ≡ None = w.folder.holds.outside.above q up in
        let head = begins 119 (111 ∷ 114 ∷ 107 ∷ 47 ∷ task_folder sg.task) q (differ 119 47 refl) up in
        leaves.paths image since q (inr (inr (inr (inr none)))) (record {
          temporary = λ below. not_under 119 116 (109 ∷ 112 ∷ []) head.0 q (differ 119 116 refl) head.1 (inr below);
          folder = λ u task at touched own. elim own [
            | inl at_or_below ↦ too_high sg.task task q place (has_place plan u task sound at) up at_or_below
            | inr stamp ↦ heads_differ (differ 119 115 refl) (sym head.1 ∙ stamp)
          ];
          above = λ u task at touched below. none;
          output = λ u published shared. absurd (elim shared [
            | inl records ↦ not_under 119 114 (101 ∷ 99 ∷ 50 ∷ []) head.0 q (differ 119 114 refl) head.1 records
            | inr others ↦ elim others [
              | inl keys ↦ not_under 119 107 (101 ∷ 121 ∷ []) head.0 q (differ 119 107 refl) head.1 keys
              | inr objects ↦ not_under 119 111 (98 ∷ 106 ∷ []) head.0 q (differ 119 111 refl) head.1 objects
            ]
          ]);
        }) ∙ none

    alone : IsInWork held Rows sg → IsLeftAlone book held image sg.task
    alone w = leaves.others image since t sg.task at_task (untouched w)

    is_left_stamp : IsInWork held Rows sg → IsLeft held (stamp_path sg.task)
    is_left_stamp w = inr (inr (inr (inl (task_folder sg.task, record { name = name_of sg.sig; is_hash = name_is_hash sg.sig; two = folder_slashes sg.task place; file = w.stamp; way = w.folder.holds.outside.above }, refl))))

    work_in_image : IsInWork held Rows sg → IsInWork image Rows sg
    work_in_image w = record {
      kept = w.kept;
      row = w.row;
      stored = w.stored;
      stamp = (alone w).stamp (is_left_stamp w) ∙ w.stamp;
      folder = record {
        tree = w.folder.tree;
        is_tree = w.folder.is_tree;
        holds = record {
          entries = λ path. (alone w).work (inside (work_folder sg.task) path) (inr (path, refl)) ∙ w.folder.holds.entries path;
          outside = record { at = (alone w).work (work_folder sg.task) (inl refl) ∙ w.folder.holds.outside.at; above = work_above w };
        };
        manifest = w.folder.manifest;
      };
    }

    -- the line of an object that is there
    module _ (o : IsInObject held Rows options.setscene sg) where
      line : (behind : Book) × (l : Line) × StandsIn book behind l × (row_of l ≡ o.row) × (name_of l.sig ≡ name_of sg.sig)
      line = row_found book (name_of sg.sig) o.row o.stored.is_row

      own_sig : line.1.sig ≡ sg.sig
      own_sig =
          let lt = slice_get_within (signatures Rows plan.tasks) t sg is_sg in
          let one : HasOneSignature book sg = subst (HasOneSignature book) (same_Some (slice_index_or (signatures Rows plan.tasks) t sg) sg (sym (slice_get-get_or (signatures Rows plan.tasks) t sg lt) ∙ is_sg)) (may.no_collision t sg lt) in
          one line.0 line.1 line.2 line.4

      unihash : line.1.unihash ≡ o.row.unihash
      unihash = ap (λ (r : EquivRow). r.unihash) line.3

      is_name : IsName o.row.unihash
      is_name = subst IsName unihash (unihash_is_name gives reading book line.0 line.1 may.valid line.2)

      none_put : IsObjectOfNone gives plan leaves.again tale (MayPublish gives leaves.again held plan options tale s leaves.restored) line.1
      none_put u task at published pn name k is = elim (cases_eq u t) [
        | inl same ↦ not_started (inr o) (subst (HasStarted tale) same published.1)
        | inr ne ↦
            let own = has_own_name Rows plan.tasks t sg is_sg in
            differ_at plan sound u t task sg.task at at_task ne
            (sym pn ∙ ap (λ x. x.pn) own_sig ∙ own.0) (sym name ∙ ap (λ x. x.task) own_sig ∙ own.1)
      ]

      object_same : (q : List ℕ) → IsAtOrBelow (object_folder o.row.unihash) q → image q ≡ held q
      object_same q below = leaves.objects image since line.1 (line.0, line.2) none_put q (subst (λ (h : Hash). IsAtOrBelow (object_folder h) q) (sym unihash) below)

      -- what stands above it is `obj`
      above_is : (q : List ℕ) → IsBelow q (object_folder o.row.unihash) → q ≡ codes "obj"
      above_is q up = elim (above_under (codes "obj") (hash_text o.row.unihash) q up) [
        | inl higher ↦ let n : 0 ≡ slashes q + 1 + slashes higher.0 = ap slashes higher.1 ∙ slashes_inside q higher.0 in absurd (omega (arith, n))
        | inr rest ↦ elim rest [
          | inl same ↦ same
          | inr under ↦
              let n : slashes (hash_text o.row.unihash) ≡ slashes under.0 + 1 + slashes under.2.0 = ap slashes under.2.1 ∙ slashes_inside under.0 under.2.0 in
              absurd (omega (arith, n, name_slashes o.row.unihash is_name))
        ]
      ]

      object_above : (q : List ℕ) → IsBelow q (object_folder o.row.unihash) → image q ≡ None
      object_above q up =
          let none : held q ≡ None = o.object.holds.outside.above q up in
          let top = above_is q up in
          leaves.paths image since q (inr (inr (inr (inr none)))) (record {
            temporary = λ below. not_under 111 116 (109 ∷ 112 ∷ []) (98 ∷ 106 ∷ []) q (differ 111 116 refl) top (inr below);
            folder = λ u task at touched own. elim own [
              | inl at_or_below ↦ not_under 111 119 (111 ∷ 114 ∷ 107 ∷ 47 ∷ task_folder task) (98 ∷ 106 ∷ []) q (differ 111 119 refl) top at_or_below
              | inr stamp ↦ heads_differ (differ 111 115 refl) (sym top ∙ stamp)
            ];
            above = λ u task at touched below. none;
            output = λ u published shared. (top, none);
          }) ∙ none

      object_in_image : IsInObject image Rows options.setscene sg
      object_in_image = record {
        kept = o.kept;
        sstate = o.sstate;
        counts = o.counts;
        row = o.row;
        stored = o.stored;
        object = record {
          tree = o.object.tree;
          is_tree = o.object.is_tree;
          holds = record {
            entries = λ path. object_same (inside (object_folder o.row.unihash) path) (inr (path, refl)) ∙ o.object.holds.entries path;
            outside = record { at = object_same (object_folder o.row.unihash) (inl refl) ∙ o.object.holds.outside.at; above = object_above };
          };
          manifest = o.object.manifest;
        };
      }

pub available_lasts : AvailableLasts
available_lasts gives reading book held plan options tale s story before now sound may keeps t there image since crash later is_later =
    let was = signed_at (rows_of (crash.again ++ crash.lines)) (rows_of book) plan.tasks t later is_later in
    elim (there was.0 was.1) [
      | inl w ↦ inl (work_over gives reading book held plan options tale s story before now sound may keeps t was.0 was.1 image crash.again crash.lines later crash.same is_later
          (work_in_image gives reading book held plan options tale s story before now sound may keeps t was.0 was.1 image since w))
      | inr o ↦ inr (object_over gives reading book held plan options tale s story before now sound may keeps t was.0 was.1 image crash.again crash.lines later crash.same is_later
          (object_in_image gives reading book held plan options tale s story before now sound may keeps t was.0 was.1 image since o))
    ]
