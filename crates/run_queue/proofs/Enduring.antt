-- Settled tasks stand through a publication of another task, and behind it.
use Rattle.std.proofs.Common.{◌≡◌, ◌≢◌, ◌∙◌, sym, ap, subst, refl, ℕ, ◌<◌, ◌⊎◌, inl, inr, zero, suc, arith, false, List, [], ◌∷◌, ◌++◌, length, take, Some, None, append_assoc, append-nil}
use Rattle.std.specs.List.{slice_get}
use Rattle.std.proofs.lemmas.List.{map-append}
use Rattle.std.proofs.lemmas.Option.{same_Some}
use Rattle.tree_model.specs.declared.hash.Hash.{Hash}
use Rattle.tree_model.specs.Hash.{hash_text}
use Rattle.outside_traits.specs.Store.{HoldsTree, IsOpen, Store}
use Rattle.meta_model.specs.declared.event.Event.{Event}
use Rattle.meta_model.specs.declared.event.Event.TheVariants as events
use Rattle.meta_model.specs.declared.event.Logged.{Logged}
use Rattle.meta_model.specs.declared.plan.Plan.{Plan}
use Rattle.meta_model.specs.declared.plan.PlanTask.{PlanTask}
use Rattle.meta_model.specs.CleanBuild.{Entries, Gives}
use Rattle.plan_model.specs.Sound.{IsSound}
use Rattle.plan_model.proofs.Reached.{pair_at}
use Rattle.store_model.specs.declared.signature.EquivRow.{EquivRow}
use Rattle.store_model.specs.Available.{HoldsClean, IsInWork, object_folder, stamp_path, task_folder, work_folder}
use Rattle.store_model.specs.Origins.{Book, Line, Reading, row_of, rows_of}
use Rattle.store_model.specs.Premises.{Differ}
use Rattle.store_model.specs.Reuse.{MayReuse}
use Rattle.store_model.specs.Rows.{row_at, uni, unihash_or}
use Rattle.store_model.specs.Signatures.{Signed, signatures}
use Rattle.store_model.specs.Spelling.{name_of}
use Rattle.store_model.specs.Valid.{IsValidBook, IsValidLine}
use Rattle.store_model.proofs.Standing.{row_found, stands_further}
use Rattle.store_model.proofs.Staying.{kept_with_row, row_stays}
use Rattle.store_model.specs.Lines.{HasLine}
use Rattle.build_store.specs.Laws.{IsOfTask, KeepsObject}
use Rattle.store_opening.specs.Paths.{HasPlace, IsOnePart}
use Rattle.outside_traits.specs.Store.{slashes}
use Rattle.build_store.specs.Publication.{KeepsOthers, Publishes}
use Rattle.store_model.specs.Publication.{Publication}
use Rattle.store_opening.proofs.Clean.{hash_is_name, name_slashes}
use Rattle.build_store.proofs.Others.{others_stay, others_untouched}
use Rattle.setscene_plan.proofs.Naming.{signed_count}
use Rattle.run_model.specs.Opening.{Opening}
use Rattle.run_model.specs.Books.{book_after, book_by, rows_after, signed_after}
use Rattle.run_model.specs.Stands.{HasEnded, HasOwnRow, IsStanding}
use Rattle.run_queue.proofs.Aside.{object_on, work_on}
use Rattle.run_queue.proofs.Clearing.{unihash_is}
use Rattle.run_queue.proofs.OwnNames.{signed_task_at}
use Rattle.run_queue.proofs.Placing.{has_place}

-- ---- numbers and signatures of tasks

apart_numbers : (a b : ℕ) → (a ≡ b → ⊥) → (a < b) ⊎ (b < a)
apart_numbers zero zero ne = absurd (ne refl)
apart_numbers zero (suc b) ne = inl (omega arith)
apart_numbers (suc a) zero ne = inr (omega arith)
apart_numbers (suc a) (suc b) ne = elim (apart_numbers a b (λ e. ne (ap suc e))) [ inl lt ↦ inl (omega (arith, lt)) | inr gt ↦ inr (omega (arith, gt)) ]

-- tasks of different numbers differ
pub differ_at : (plan : Plan) → IsSound plan → (u t : ℕ) (other task : PlanTask) → slice_get plan.tasks u ≡ Some other → slice_get plan.tasks t ≡ Some task → (u ≡ t → ⊥) → Differ other task
differ_at plan sound u t other task at_u at_t ne pn name = elim (apart_numbers u t ne) [
  | inl lt ↦ pair_at Differ plan.tasks sound.differ u t other task lt at_u at_t pn name
  | inr gt ↦ pair_at Differ plan.tasks sound.differ t u task other gt at_t at_u (sym pn) (sym name)
]

-- a task's signature is with the task
pub signed_task : (rows : List EquivRow) (tasks : List PlanTask) (t : ℕ) (s : Signed) (task : PlanTask) → slice_get (signatures rows tasks) t ≡ Some s → slice_get tasks t ≡ Some task → s.task ≡ task
signed_task rows tasks t s task is at = same_Some s.task task (sym (signed_task_at rows tasks t s is) ∙ at)

-- each task that has a signature over some rows has one over others
pub signed_at : (rows others : List EquivRow) (tasks : List PlanTask) (t : ℕ) (s : Signed) → slice_get (signatures rows tasks) t ≡ Some s → (x : Signed) × (slice_get (signatures others tasks) t ≡ Some x)
signed_at rows others tasks t s is = found (signatures rows tasks) (signatures others tasks) t s is (signed_count others tasks ∙ sym (signed_count rows tasks))
  where
    found : (xs ys : List Signed) (n : ℕ) (x : Signed) → slice_get xs n ≡ Some x → length ys ≡ length xs → (y : Signed) × (slice_get ys n ≡ Some y)
    found [] ys n x e long = absurd (let no : None ≡ Some x = e in cc)
    found (a ∷ xs) [] n x e long = absurd (omega (arith, long))
    found (a ∷ xs) (b ∷ ys) zero x e long = (b, refl)
    found (a ∷ xs) (b ∷ ys) (suc n) x e long = found xs ys n x e (omega (arith, long))

-- ---- the book of a front

step_behind : (gives : Gives) (plan : Plan) (book : Book) (event : Event) → (more : Book) × (book_by gives plan book event ≡ book ++ more)
step_behind gives plan book (events.Found t) = ([], sym (append-nil book))
step_behind gives plan book (events.Restored t) = ([], sym (append-nil book))
step_behind gives plan book (events.Started t seat) = ([], sym (append-nil book))
step_behind gives plan book (events.Ended t) = (Rattle.run_model.specs.Books.line_of_ended gives plan book t, refl)
step_behind gives plan book (events.Failed t why) = ([], sym (append-nil book))
step_behind gives plan book (events.Broke t cut) = ([], sym (append-nil book))

book_behind : (gives : Gives) (plan : Plan) (book : Book) (tale : List Logged) → (more : Book) × (book_after gives plan book tale ≡ book ++ more)
book_behind gives plan book [] = ([], sym (append-nil book))
book_behind gives plan book (e ∷ tale) =
    let one = step_behind gives plan book e.event in
    let rest = book_behind gives plan (book_by gives plan book e.event) tale in
    (one.0 ++ rest.0, rest.1 ∙ ap (λ (b : Book). b ++ rest.0) one.1 ∙ append_assoc book one.0 rest.0)

-- the book of a tale has that of a front as its front
pub front_book : (gives : Gives) (plan : Plan) (book : Book) (tale : List Logged) (k : ℕ) → (more : Book) × (book_after gives plan book tale ≡ book_after gives plan book (take k tale) ++ more)
front_book gives plan book tale zero = book_behind gives plan book tale
front_book gives plan book [] (suc k) = ([], sym (append-nil book))
front_book gives plan book (e ∷ tale) (suc k) = front_book gives plan (book_by gives plan book e.event) tale k

-- ---- through a publication of another task

module _ (o : Opening) (plan : Plan) (sound : IsSound plan) (book : Book) (valid : IsValidBook o.gives o.reading book) (p : Publication) (line : Line) (t : ℕ) (task : PlanTask) (at : slice_get plan.tasks t ≡ Some task)
    (folder : p.folder ≡ task_folder task) (of_task : IsOfTask p line) (line_pn : line.sig.pn ≡ task.id.pn) (line_task : line.sig.task ≡ task.id.task) (which : HasLine book line ⊎ IsValidLine o.gives o.reading book line) where
  -- the object of another task's line stays
  pub keeps_object : (u : ℕ) (other : PlanTask) → slice_get plan.tasks u ≡ Some other → (u ≡ t → ⊥) → (l : Line) → HasLine book l → l.sig.pn ≡ other.id.pn → l.sig.task ≡ other.id.task → (old new : Store) → Publishes p old new → KeepsObject l.unihash old new
  keeps_object u other at_u ne l has pn name old new publishes =
      let place = has_place plan t task sound at in
      let place' = has_place plan u other sound at_u in
      (others_stay p line l old new of_task publishes o.gives o.reading book valid which has
      (record { pn = subst IsOnePart (sym line_pn) place.pn; task = subst IsOnePart (sym line_task) place.task })
      (record { pn = subst IsOnePart (sym pn) place'.pn; task = subst IsOnePart (sym name) place'.task })
      (λ a b. differ_at plan sound u t other task at_u at ne (sym pn ∙ a ∙ line_pn) (sym name ∙ b ∙ line_task))).shared

  -- A settled task of a front of the tale stands in a changed store, where it stands in what was held and in the images of which that is
  -- told.
  pub standing_on : (front : List Logged) (more : Book) → book ≡ book_after o.gives plan o.book front ++ more → (u : ℕ) (other : PlanTask) → slice_get plan.tasks u ≡ Some other → (u ≡ t → ⊥) → (held old earlier new : Store) → Publishes p old new → KeepsOthers p.folder p.object held earlier new
      → IsStanding o plan front u other held → IsStanding o plan front u other old → IsStanding o plan front u other earlier → IsStanding o plan front u other new
  standing_on front more grown u other at_u ne held old earlier new publishes keeps h st e = record {
    built = st.built;
    is_built = st.is_built;
    stored = st.stored;
    work = record { tree = st.work.tree; clean = st.work.clean; holds = work_kept st.work.tree st.work.holds };
    tree = st.tree;
    stays = λ kept s is. in_work s is (st.stays kept s is);
    shared = λ sstate ended s is. in_object s (st.stored s is) (same_task s is) (h.shared sstate ended s is) (st.shared sstate ended s is) (e.shared sstate ended s is);
  }
    where
      place : HasPlace task
      place = has_place plan t task sound at

      place' : HasPlace other
      place' = has_place plan u other sound at_u

      apart : Differ other task
      apart = differ_at plan sound u t other task at_u at ne

      Rows : List EquivRow
      Rows = rows_after o plan front

      same_task : (s : Signed) → signed_after o plan front u ≡ Some s → s.task ≡ other
      same_task s is = signed_task (rows_after o plan front) plan.tasks u s other is at_u

      work_kept : (tree : Entries) → HoldsTree (work_folder other) tree old → HoldsTree (work_folder other) tree new
      work_kept tree holds = work_on p held old earlier new task other tree place place' folder apart publishes keeps h.work.holds.outside e.work.holds.outside holds

      in_work : (s : Signed) → signed_after o plan front u ≡ Some s → IsInWork old (rows_after o plan front) s → IsInWork new (rows_after o plan front) s
      in_work s is w =
          let same = same_task s is in
          let stays = others_untouched p task other old new place place' apart folder publishes in
          record {
            kept = w.kept;
            row = w.row;
            stored = w.stored;
            stamp = ap (λ (x : PlanTask). new (stamp_path x)) same ∙ stays.stamp ∙ sym (ap (λ (x : PlanTask). old (stamp_path x)) same) ∙ w.stamp;
            folder = record {
              tree = w.folder.tree;
              is_tree = w.folder.is_tree;
              holds = subst (λ (x : PlanTask). HoldsTree (work_folder x) w.folder.tree new) (sym same) (work_kept w.folder.tree (subst (λ (x : PlanTask). HoldsTree (work_folder x) w.folder.tree old) same w.folder.holds));
              manifest = w.folder.manifest;
            };
          }

      in_object : (s : Signed) → HasOwnRow (rows_after o plan front) s → s.task ≡ other → HoldsClean held (object_folder (uni (rows_after o plan front) (name_of s.sig))) h.built → HoldsClean old (object_folder (uni (rows_after o plan front) (name_of s.sig))) st.built → HoldsClean earlier (object_folder (uni (rows_after o plan front) (name_of s.sig))) e.built
          → HoldsClean new (object_folder (uni (rows_after o plan front) (name_of s.sig))) st.built
      in_object s own same at_held c at_earlier =
          let f = row_found (book_after o.gives plan o.book front) (name_of s.sig) own.row own.is_row in
          let l : Line = f.1 in
          let stands = stands_further book (book_after o.gives plan o.book front) more f.0 l grown f.2 in
          let unihash : uni (rows_after o plan front) (name_of s.sig) ≡ l.unihash = ap (unihash_or (name_of s.sig)) own.is_row ∙ ap (λ (r : EquivRow). r.unihash) (sym f.3) in
          let pn : l.sig.pn ≡ other.id.pn = ap (λ (r : EquivRow). r.pn) f.3 ∙ own.pn ∙ ap (λ (x : PlanTask). x.id.pn) same in
          let name : l.sig.task ≡ other.id.task = ap (λ (r : EquivRow). r.task) f.3 ∙ own.task ∙ ap (λ (x : PlanTask). x.id.task) same in
          let plain : slashes (hash_text l.unihash) ≡ 0 = name_slashes l.unihash (hash_is_name l.unihash (unihash_is o.gives o.reading book f.0 l valid stands)) in
          let object = keeps_object u other at_u ne l (f.0, stands) pn name old new publishes in
          record {
            tree = c.tree;
            clean = c.clean;
            holds = subst (λ (x : Hash). HoldsTree (object_folder x) c.tree new) (sym unihash)
                (object_on p held old earlier new l.unihash c.tree plain object publishes keeps
                (subst (λ (x : Hash). IsOpen (object_folder x) held) unihash at_held.holds.outside)
                (subst (λ (x : Hash). IsOpen (object_folder x) earlier) unihash at_earlier.holds.outside)
                (subst (λ (x : Hash). HoldsTree (object_folder x) c.tree old) unihash c.holds));
          }

-- ---- behind a publication

-- the row of a task stays where lines come behind
pub own_row_on : (book more : Book) (s : Signed) → HasOwnRow (rows_of book) s → HasOwnRow (rows_of (book ++ more)) s
own_row_on book more s own = record {
  row = own.row;
  is_row = ap (λ (r : List EquivRow). row_at r (name_of s.sig)) (map-append row_of book more) ∙ row_stays (rows_of book) (rows_of more) (name_of s.sig) (λ none. let n : None ≡ Some own.row = sym none ∙ own.is_row in cc) ∙ own.is_row;
  pn = own.pn;
  task = own.task;
}

module _ (gives : Gives) (reading : Reading) (held : Store) (book more : Book) (tasks : List PlanTask) (may : MayReuse gives reading held book tasks) where
  -- a task whose name has a row has the same signature where lines come behind
  pub same_signed : (u : ℕ) (s later : Signed) → slice_get (signatures (rows_of book) tasks) u ≡ Some s → slice_get (signatures (rows_of (book ++ more)) tasks) u ≡ Some later → row_at (rows_of book) (name_of s.sig) ≢ None → s ≡ later
  same_signed u s later is is_later has =
      kept_with_row gives reading book tasks may.valid (rows_of more) u s later may.no_collision is (subst (λ (r : List EquivRow). slice_get (signatures r tasks) u ≡ Some later) (map-append row_of book more) is_later) has

  pub row_on : (name : Hash) → row_at (rows_of book) name ≢ None → row_at (rows_of (book ++ more)) name ≡ row_at (rows_of book) name
  row_on name has = ap (λ (r : List EquivRow). row_at r name) (map-append row_of book more) ∙ row_stays (rows_of book) (rows_of more) name has

module _ (o : Opening) (plan : Plan) (tale longer : List Logged) (more : Book) (may : MayReuse o.gives o.reading o.story.held (book_after o.gives plan o.book tale) plan.tasks) (grown : book_after o.gives plan o.book longer ≡ book_after o.gives plan o.book tale ++ more) where
  rows_grown : rows_after o plan longer ≡ rows_of (book_after o.gives plan o.book tale ++ more)
  rows_grown = ap rows_of grown

  -- what a longer tale has of a task, a shorter one had, if its name had a row
  has_row : (s : Signed) → HasOwnRow (rows_of (book_after o.gives plan o.book tale)) s → row_at (rows_of (book_after o.gives plan o.book tale)) (name_of s.sig) ≢ None
  has_row s own none = let n : None ≡ Some own.row = sym none ∙ own.is_row in cc

  -- the signature that a task had, whose name had a row
  record Before (u : ℕ) (s : Signed) : Type 0 where
    was : Signed
    is_was : signed_after o plan tale u ≡ Some was
    own : HasOwnRow (rows_of (book_after o.gives plan o.book tale)) was
    same : was ≡ s
    row' : HasOwnRow (rows_after o plan longer) s

  -- a settled task stands over more rows
  pub standing_grown : (u : ℕ) (other : PlanTask) (image : Store) → (HasEnded plan longer u → HasEnded plan tale u) → IsStanding o plan tale u other image → IsStanding o plan longer u other image
  standing_grown u other image ended_back st = record {
    built = st.built;
    is_built = st.is_built;
    stored = λ s is. (before s is).row';
    work = st.work;
    tree = st.tree;
    stays = λ kept s is. in_work s (before s is) (st.stays kept (before s is).was (before s is).is_was);
    shared = λ sstate ended s is. subst (λ (h : Hash). HoldsClean image (object_folder h) st.built) (unihash s (before s is)) (st.shared sstate (ended_back ended) (before s is).was (before s is).is_was);
  }
    where
      before : (s : Signed) → signed_after o plan longer u ≡ Some s → Before u s
      before s is =
          let x = signed_at (rows_after o plan longer) (rows_after o plan tale) plan.tasks u s is in
          let own = st.stored x.0 x.1 in
          let is' = subst (λ (r : List EquivRow). slice_get (signatures r plan.tasks) u ≡ Some s) rows_grown is in
          let same = same_signed o.gives o.reading o.story.held (book_after o.gives plan o.book tale) more plan.tasks may u x.0 s x.1 is' (has_row x.0 own) in
          record {
            was = x.0;
            is_was = x.1;
            own = own;
            same = same;
            row' = subst (λ (r : List EquivRow). HasOwnRow r s) (sym rows_grown) (subst (λ (y : Signed). HasOwnRow (rows_of (book_after o.gives plan o.book tale ++ more)) y) same (own_row_on (book_after o.gives plan o.book tale) more x.0 own));
          }

      row_same : (s : Signed) (b : Before u s) → row_at (rows_after o plan longer) (name_of s.sig) ≡ row_at (rows_after o plan tale) (name_of b.was.sig)
      row_same s b =
          ap (λ (r : List EquivRow). row_at r (name_of s.sig)) rows_grown ∙ ap (λ (y : Signed). row_at (rows_of (book_after o.gives plan o.book tale ++ more)) (name_of y.sig)) (sym b.same)
          ∙ row_on o.gives o.reading o.story.held (book_after o.gives plan o.book tale) more plan.tasks may (name_of b.was.sig) (has_row b.was b.own)

      unihash : (s : Signed) (b : Before u s) → uni (rows_after o plan tale) (name_of b.was.sig) ≡ uni (rows_after o plan longer) (name_of s.sig)
      unihash s b = ap (unihash_or (name_of b.was.sig)) (sym (row_same s b)) ∙ ap (λ (y : Signed). unihash_or (name_of y.sig) (row_at (rows_after o plan longer) (name_of s.sig))) b.same

      in_work : (s : Signed) (b : Before u s) → IsInWork image (rows_after o plan tale) b.was → IsInWork image (rows_after o plan longer) s
      in_work s b w =
          let same : b.was ≡ s = b.same in
          record {
            kept = ap (λ (y : Signed). y.task.nostamp) (sym same) ∙ w.kept;
            row = w.row;
            stored = record { is_row = row_same s b ∙ w.stored.is_row; sig = w.stored.sig ∙ ap (λ (y : Signed). Rattle.store_model.specs.Spelling.signature_bytes y.sig) same };
            stamp = subst (λ (y : Signed). image (stamp_path y.task) ≡ Some (Rattle.tree_model.specs.declared.entry.Entry.TheVariants.File false (hash_text (name_of y.sig) ++ 10 ∷ []))) same w.stamp;
            folder = subst (λ (y : Signed). Rattle.store_model.specs.Available.Matches image (work_folder y.task) w.row.manifest) same w.folder;
          }
