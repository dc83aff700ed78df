-- What a store answers now of the tasks of a plan is what was so when the run began.
use Rattle.std.proofs.Common.{◌≡◌, ◌≢◌, ◌∙◌, sym, ap, subst, refl, ℕ, Bool, List, [], ◌∷◌, ◌++◌, get_or, Option, Some, None, slice_get, inl, inr}
use Rattle.std.specs.Prelude.{◌⊎◌, All, IsSome, codes}
use Rattle.std.specs.Option.{is_some}
use Rattle.std.proofs.lemmas.Option.{none-some, same_Some, slice_get-get_or, slice_get_within}
use Rattle.tree_model.specs.declared.entry.Entry.{Entry}
use Rattle.tree_model.specs.declared.hash.Hash.{Hash}
use Rattle.tree_model.specs.Manifest.{manifest_lines}
use Rattle.tree_model.specs.Tree.{entry_at}
use Rattle.tree_model.specs.Path.{IsAtOrBelow, IsBelow, inside}
use Rattle.outside_traits.specs.Store.{Store}
use Rattle.outside_traits.specs.Story.{IsSound, moment}
use Rattle.outside_traits.proofs.Held.{none_unless}
use Rattle.outside_traits.proofs.Images.{held-image, now-since}
use Rattle.meta_model.proofs.Bools.{text_itself}
use Rattle.meta_model.specs.CleanBuild.{Entries}
use Rattle.meta_model.specs.declared.plan.Plan.{Plan}
use Rattle.meta_model.specs.declared.event.Avail.{Avail}
use Rattle.meta_model.specs.declared.event.Avail.TheVariants as avail
use Rattle.meta_model.specs.declared.plan.PlanTask.{PlanTask}
use Rattle.tree_model.specs.declared.manifest.ManifestLine.{ManifestLine}
use Rattle.run_core.specs.Need.{AreOrdered}
use Rattle.tale_model.specs.Need.{IsIn}
use Rattle.store_model.specs.declared.signature.EquivRow.{EquivRow}
use Rattle.store_model.specs.declared.signature.SigRecord.{SigRecord}
use Rattle.store_model.specs.Available.{IsAvailable, IsInObject, IsInWork, Matches, object_folder, stamp_path, task_folder, work_folder}
use Rattle.store_model.specs.Origins.{Book, Line, rows_of}
use Rattle.store_model.specs.Premises.{HasNoCollision, HasOneSignature}
use Rattle.store_model.specs.Rows.{row_at, IsClear}
use Rattle.store_model.specs.Signatures.{Signed, signatures}
use Rattle.store_model.specs.Spelling.{name_of, signature_bytes}
use Rattle.store_model.specs.OneSpelling.{SignatureFits}
use Rattle.store_model.specs.Publication.{stamp_at, work_at}
use Rattle.store_model.specs.Valid.{IsValidBook, StandsIn}
use Rattle.store_opening.proofs.Reopened.{candidate_of, line_file}
use Rattle.build_store.proofs.Apart.{below_again}
use Rattle.store_model.proofs.Standing.{row_found, stands_behind}
use Rattle.store_model.specs.Lines.{HasLine}
use Rattle.store_opening.specs.Named.{IsName}
use Rattle.store_opening.specs.Paths.{HasPlace}
use Rattle.sig_gen.specs.Signing.{signature_by}
use Rattle.setscene_plan.specs.declared.replan.Replan.{Replan}
use Rattle.setscene_plan.specs.View.{Says, View}
use Rattle.setscene_plan.specs.Replans.{IsCurrent, avail_in, names_in, need_in, unihashes_in}
use Rattle.run_queue.specs.Asking.{Means, answered_of, flat, if_row, meant}
use Rattle.run_model.specs.Opening.{Opening}
use Rattle.run_queue.specs.Opening.{MayRun}
use Rattle.run_queue.proofs.Aside.{above_parts, above_top}
use Rattle.run_queue.specs.Keeps.{IsRun, IsUpToDate, WasThere}
use Rattle.run_queue.specs.Seen.{IsBegun, Known, Seen, known_in}
use Rattle.run_model.specs.Stands.{HasEnded}
use Rattle.run_queue.specs.Stands.{IsAsBegun, IsLeft}
use Rattle.run_queue.proofs.Clearing.{clear_is_no_collision, unihashes_are}
use Rattle.run_queue.proofs.Known.{own_signature, own_task, sound_ordered, up_to_date}
use Rattle.run_queue.proofs.FoldersAbove.{above_object, above_work, unihash_is_name}
use Rattle.run_queue.proofs.Passed.{left_since}
use Rattle.run_queue.proofs.Meanwhile.{told_by}
use Rattle.run_queue.proofs.Placing.{has_place}

-- ---- a task of which nothing changed

-- The stores agree on all that a task's availability depends on: what is above its work folder counts where it has a stamp and the folder matches.
pub record AgreesOn (one other : Store) (rows : List EquivRow) (s : Signed) : Type 0 where
  pub stamp : one (stamp_path s.task) ≡ other (stamp_path s.task)
  pub work : (q : List ℕ) → IsAtOrBelow (work_folder s.task) q → one q ≡ other q
  pub above : (row : EquivRow) → row_at rows (name_of s.sig) ≡ Some row → IsSome (one (stamp_path s.task)) → Matches one (work_folder s.task) row.manifest → (q : List ℕ) → IsBelow q (work_folder s.task) → other q ≡ None
  pub back : (row : EquivRow) → row_at rows (name_of s.sig) ≡ Some row → IsSome (other (stamp_path s.task)) → Matches other (work_folder s.task) row.manifest → (q : List ℕ) → IsBelow q (work_folder s.task) → one q ≡ None
  pub object : (row : EquivRow) → row_at rows (name_of s.sig) ≡ Some row → (q : List ℕ) → IsAtOrBelow (object_folder row.unihash) q → one q ≡ other q
  pub above_object : (row : EquivRow) → row_at rows (name_of s.sig) ≡ Some row → (q : List ℕ) → IsBelow q (object_folder row.unihash) → one q ≡ other q

pub agrees_back : (one other : Store) (rows : List EquivRow) (s : Signed) → AgreesOn one other rows s → AgreesOn other one rows s
agrees_back one other rows s a = record {
  stamp = sym a.stamp;
  work = λ q below. sym (a.work q below);
  above = a.back;
  back = a.above;
  object = λ row at q below. sym (a.object row at q below);
  above_object = λ row at q below. sym (a.above_object row at q below);
}

matches_on : (one other : Store) (folder : List ℕ) (lines : List ManifestLine) → ((q : List ℕ) → IsAtOrBelow folder q → one q ≡ other q) → ((q : List ℕ) → IsBelow q folder → one q ≡ other q) → Matches one folder lines → Matches other folder lines
matches_on one other folder lines same above m = record {
  tree = m.tree;
  is_tree = m.is_tree;
  holds = record {
    entries = λ path. sym (same (inside folder path) (inr (path, refl))) ∙ m.holds.entries path;
    outside = record {
      at = sym (same folder (inl refl)) ∙ m.holds.outside.at;
      above = λ q below. sym (above q below) ∙ m.holds.outside.above q below;
    };
  };
  manifest = m.manifest;
}

pub work_on : (one other : Store) (rows : List EquivRow) (s : Signed) → AgreesOn one other rows s → IsInWork one rows s → IsInWork other rows s
work_on one other rows s a is = record {
  kept = is.kept;
  row = is.row;
  stored = is.stored;
  stamp = sym a.stamp ∙ is.stamp;
  folder = matches_on one other (work_folder s.task) is.row.manifest a.work (λ q below. is.folder.holds.outside.above q below ∙ sym (a.above is.row is.stored.is_row (subst IsSome (sym is.stamp) refl) is.folder q below)) is.folder;
}

object_on : (one other : Store) (rows : List EquivRow) (setscene : Bool) (s : Signed) → AgreesOn one other rows s → IsInObject one rows setscene s → IsInObject other rows setscene s
object_on one other rows setscene s a is = record {
  kept = is.kept;
  sstate = is.sstate;
  counts = is.counts;
  row = is.row;
  stored = is.stored;
  object = matches_on one other (object_folder is.row.unihash) is.row.manifest (a.object is.row is.stored.is_row) (a.above_object is.row is.stored.is_row) is.object;
}

available_on : (one other : Store) (rows : List EquivRow) (setscene : Bool) (s : Signed) (there : Avail) → AgreesOn one other rows s → IsAvailable one rows setscene s there → IsAvailable other rows setscene s there
available_on one other rows setscene s avail.Work a is = work_on one other rows s a is
available_on one other rows setscene s avail.Object a is = ((λ w. is.0 (work_on other one rows s (agrees_back one other rows s a) w)), object_on one other rows setscene s a is.1)
available_on one other rows setscene s avail.Missing a is = ((λ w. is.0 (work_on other one rows s (agrees_back one other rows s a) w)), (λ w. is.1 (object_on other one rows setscene s (agrees_back one other rows s a) w)))

-- what is available has a row
pub available_stored : (held : Store) (rows : List EquivRow) (setscene : Bool) (s : Signed) (there : Avail) → there ≢ avail.Missing → IsAvailable held rows setscene s there → (row : EquivRow) × (row_at rows (name_of s.sig) ≡ Some row)
available_stored held rows setscene s avail.Work ne is = (is.row, is.stored.is_row)
available_stored held rows setscene s avail.Object ne is = (is.1.row, is.1.stored.is_row)
available_stored held rows setscene s avail.Missing ne is = absurd (ne refl)

-- ---- lines

has_either : (xs ys before : Book) (line : Line) → StandsIn (xs ++ ys) before line → HasLine xs line ⊎ HasLine ys line
has_either [] ys before line stands = inr (before, stands)
has_either (x ∷ xs) ys [] line stands = inl ([], record { rest = xs; is = let e : x ∷ (xs ++ ys) ≡ line ∷ stands.rest = stands.is in let h : x ≡ line = cc in ap (λ (y : Line). y ∷ xs) h })
has_either (x ∷ xs) ys (b ∷ bs) line stands =
    let e : x ∷ (xs ++ ys) ≡ b ∷ (bs ++ line ∷ stands.rest) = stands.is in
    let tail : xs ++ ys ≡ bs ++ line ∷ stands.rest = cc in
    by (has_either xs ys bs line (record { rest = stands.rest; is = tail }))
  where
    by : HasLine xs line ⊎ HasLine ys line → HasLine (x ∷ xs) line ⊎ HasLine ys line
    by (inl h) = inl (x ∷ h.0, stands_behind x xs h.0 line h.1)
    by (inr h) = inr h

-- ---- small things

all_at : {X : Type 0} (P : X → Type 0) (xs : List X) (t : ℕ) (x : X) → All P xs → slice_get xs t ≡ Some x → P x
all_at P xs t x all at =
    let lt = slice_get_within xs t x at in
    subst P (same_Some (get_or xs t x) x (sym (slice_get-get_or xs t x lt) ∙ at)) (all t x lt)

flat_some : (x : Option (Option Avail)) (w : Avail) → flat x ≡ Some w → x ≡ Some (Some w)
flat_some None w e = absurd (none-some w e)
flat_some (Some y) w e = ap Some e

-- what was missing is so, be there a row or not
never_there : (r : Option EquivRow) → if_row r avail.Missing ≡ avail.Missing
never_there None = refl
never_there (Some row) = refl

pub own_pn : (tasks : List PlanTask) (us : List Hash) (task : PlanTask) → (signature_by tasks us task).pn ≡ task.id.pn
unfolding signature_by
own_pn tasks us task = refl

pub own_name : (tasks : List PlanTask) (us : List Hash) (task : PlanTask) → (signature_by tasks us task).task ≡ task.id.task
unfolding signature_by
own_name tasks us task = refl

-- ---- a task that gave nothing

-- the first entry of a list is found at its path
first_there : (x : List ℕ × Entry) (more : Entries) → entry_at (x ∷ more) x.0 ≡ Some x.1
first_there x more = let t = text_itself x.0 in rw t refl

-- opening has made way for the folder of a line that has no output, where its task has a stamp
way_of : (o : Opening) (plan : Plan) → MayRun o plan → (line : Line) → HasLine o.book line → line.manifest ≡ [] → IsSome (o.story.held (stamp_at (inside line.sig.pn line.sig.task))) → (o.story.held (codes "work") ≡ None) × (o.story.held (work_at line.sig.pn) ≡ None)
way_of o plan may line has empty stamped =
    may.way.stamps (candidate_of line) (line_file o.gives o.reading o.story.held o.book may.valid may.readable has.0 line has.1) empty stamped

-- nothing is held above the work folder of a task
above_open : (held : Store) (task : PlanTask) → HasPlace task → held (codes "work") ≡ None → held (inside (codes "work") task.id.pn) ≡ None → (q : List ℕ) → IsBelow q (work_folder task) → held q ≡ None
above_open held task place top recipe q below = elim (above_top (codes "work") (task_folder task) q refl below) [
  | inl same ↦ ap held same ∙ top
  | inr in_it ↦ ap held (in_it.1 ∙ ap (inside (codes "work")) (above_parts task.id.pn task.id.task in_it.0 place.pn.alone place.task.alone in_it.2)) ∙ recipe
]

-- ---- a run

module _ (o : Opening) (s : Seen) (run : IsRun o s) (sound : IsSound s.story) where
  held_left : IsLeft o s.plan s.begun s.tale s.story.held
  held_left = left_since o s run s.story.held (now-since s.story (moment o.story) s.story.held run.later (held-image s.story sound))

  rows_are : s.rows ≡ rows_of (o.book ++ run.lines)
  rows_are = run.rows ∙ ap rows_of run.grown

  -- of a task that wasn't begun what is held now is what was held when the run began, as far as its availability asks
  pub unbegun : (image : Store) → IsLeft o s.plan s.begun s.tale image → (t : ℕ) (sg : Signed) → s.fault ≡ None → slice_get s.plan.tasks t ≡ Some sg.task → (IsBegun s t → ⊥) → sg.sig.pn ≡ sg.task.id.pn → sg.sig.task ≡ sg.task.id.task → HasOneSignature (o.book ++ run.lines) sg → AgreesOn image o.story.held s.rows sg
  unbegun image left t sg none at fresh pn name one = record {
    stamp = kept.stamp;
    work = kept.work;
    above = λ row is stamped m q below. was_open row is (subst IsSome kept.stamp stamped) m q below;
    back = λ row is stamped m q below. above_work o.story.held image sg.task q left.folders place below (m.holds.outside.above q below);
    object = λ row is q below. let l = line_of row is in kept.objects l.0 l.1 l.2 l.3 q (subst (λ (h : _). IsAtOrBelow (object_folder h) q) (sym l.4) below);
    above_object = λ row is q below. let name = unihash_name row is in above_object image row.unihash q (left.folders.objects run.may.way.objects) name below ∙ sym (above_object o.story.held row.unihash q run.may.way.objects name below);
  }
    where
      place : HasPlace sg.task
      place = has_place s.plan t sg.task run.may.sound at

      unihash_name : (row : EquivRow) → row_at s.rows (name_of sg.sig) ≡ Some row → IsName row.unihash
      unihash_name row is =
          let f = row_found (o.book ++ run.lines) (name_of sg.sig) row (ap (λ (r : List EquivRow). row_at r (name_of sg.sig)) (sym rows_are) ∙ is) in
          subst (λ (r : EquivRow). IsName r.unihash) f.3 (unihash_is_name o.gives o.reading (o.book ++ run.lines) f.0 f.1 (run.book none) f.2)

      kept : IsAsBegun o.book o.story.held image sg.task
      kept = left.others t sg.task at fresh

      line_of : (row : EquivRow) → row_at s.rows (name_of sg.sig) ≡ Some row → (line : Line) × HasLine o.book line × (line.sig.pn ≡ sg.task.id.pn) × (line.sig.task ≡ sg.task.id.task) × (line.unihash ≡ row.unihash) × (line.manifest ≡ row.manifest)
      line_of row is =
          let f = row_found (o.book ++ run.lines) (name_of sg.sig) row (ap (λ (r : List EquivRow). row_at r (name_of sg.sig)) (sym rows_are) ∙ is) in
          let same : f.1.sig ≡ sg.sig = one f.0 f.1 f.2 f.4 in
          let own_pn : f.1.sig.pn ≡ sg.task.id.pn = ap (λ (g : SigRecord). g.pn) same ∙ pn in
          let own_name : f.1.sig.task ≡ sg.task.id.task = ap (λ (g : SigRecord). g.task) same ∙ name in
          elim (has_either o.book run.lines f.0 f.1 f.2) [
            | inl h ↦ (f.1, h, own_pn, own_name, ap (λ (r : EquivRow). r.unihash) f.3, ap (λ (r : EquivRow). r.manifest) f.3)
            | inr h ↦ absurd (fresh (run.own f.1 h t sg.task at own_pn own_name))
          ]

      -- what is above the work folder of a task with a stamp, where its folder matches: an entry in it has nothing above, and opening has made way for one
      -- that gave nothing
      was_open : (row : EquivRow) → row_at s.rows (name_of sg.sig) ≡ Some row → IsSome (o.story.held (stamp_path sg.task)) → Matches image (work_folder sg.task) row.manifest → (q : List ℕ) → IsBelow q (work_folder sg.task) → o.story.held q ≡ None
      was_open row is stamped m = by m.tree refl
        where
          by : (tree : Entries) → m.tree ≡ tree → (q : List ℕ) → IsBelow q (work_folder sg.task) → o.story.held q ≡ None
          by [] e q below =
              let l = line_of row is in
              let folder : inside l.0.sig.pn l.0.sig.task ≡ task_folder sg.task = (λ i. inside (l.2 i) (l.3 i)) in
              let empty : l.0.manifest ≡ [] = l.5 ∙ m.manifest ∙ ap manifest_lines e in
              let way = way_of o s.plan run.may l.0 l.1 empty (subst (λ (f : List ℕ). IsSome (o.story.held (stamp_at f))) (sym folder) stamped) in
              above_open o.story.held sg.task place way.0 (subst (λ (pn : List ℕ). o.story.held (inside (codes "work") pn) ≡ None) l.2 way.1) q below
          by (x ∷ more) e q below = none_unless (o.story.held q) (λ some.
              let at : o.story.held (inside (work_folder sg.task) x.0) ≡ entry_at m.tree x.0 = sym (kept.work (inside (work_folder sg.task) x.0) (inr (x.0, refl))) ∙ m.holds.entries x.0 in
              let there : entry_at m.tree x.0 ≡ Some x.1 = ap (λ (t : Entries). entry_at t x.0) e ∙ first_there x more in
              run.may.treelike q (inside (work_folder sg.task) x.0) (below_again q (work_folder sg.task) (inside (work_folder sg.task) x.0) below (x.0, refl)) some (ap is_some (at ∙ there)))

  -- what the store answers now of such a task
  pub was_there : (t : ℕ) (sg : Signed) (there : Avail) → s.fault ≡ None → slice_get s.plan.tasks t ≡ Some sg.task → (IsBegun s t → ⊥) → sg.sig.pn ≡ sg.task.id.pn → sg.sig.task ≡ sg.task.id.task → HasOneSignature (o.book ++ run.lines) sg
      → IsAvailable s.story.held s.rows s.options.setscene sg there → IsAvailable o.story.held s.rows s.options.setscene sg there
  was_there t sg there none at fresh pn name one is = available_on s.story.held o.story.held s.rows s.options.setscene sg there (unbegun s.story.held held_left t sg none at fresh pn name one) is

  -- no line has the name of a task and another signature
  pub no_collision : (names : List Hash) (need : List Bool) (avails : List Avail) → s.fault ≡ None → IsUpToDate s.plan s.rows (record { names = names; need = need; avail = avails }) → HasNoCollision (o.book ++ run.lines) (rows_of (o.book ++ run.lines)) s.plan.tasks
  no_collision names need avails none now =
      let valid : IsValidBook o.gives o.reading (o.book ++ run.lines) = run.book none in
      let hashes = unihashes_are o.gives o.reading (o.book ++ run.lines) valid in
      let fits : (u : ℕ) (x : Signed) → slice_get (signatures (rows_of (o.book ++ run.lines)) s.plan.tasks) u ≡ Some x → SignatureFits x.sig = λ u x is. run.may.spellings (rows_of (o.book ++ run.lines)) hashes u x is in
      let clear = subst (λ (r : List EquivRow). (u : ℕ) (x : Signed) → slice_get (signatures r s.plan.tasks) u ≡ Some x → IsClear r (name_of x.sig) (signature_bytes x.sig)) rows_are now.clear in
      clear_is_no_collision o.gives o.reading (o.book ++ run.lines) valid run.readable s.plan.tasks fits clear

  pub one_signature : (names : List Hash) (need : List Bool) (avails : List Avail) → s.fault ≡ None → IsUpToDate s.plan s.rows (record { names = names; need = need; avail = avails }) → (t : ℕ) (sg : Signed) → slice_get (signatures s.rows s.plan.tasks) t ≡ Some sg → HasOneSignature (o.book ++ run.lines) sg
  one_signature names need avails none now t sg at =
      all_at (HasOneSignature (o.book ++ run.lines)) (signatures (rows_of (o.book ++ run.lines)) s.plan.tasks) t sg (no_collision names need avails none now) (ap (λ (r : List EquivRow). slice_get (signatures r s.plan.tasks) t) (sym rows_are) ∙ at)

  -- What an answer of the store means, by a signature over what is known, was so when the run began, of a task that hasn't ended.
  pub means_there : (says : Says) (tells : Type 0) → tells → s.fault ≡ None → (kept : Replan) → IsCurrent says (record { plan = s.plan; rows = s.rows }) kept
      → (t : ℕ) (a : Avail) → (HasEnded s.plan s.tale t → ⊥) → (sg : Signed) → slice_get (signatures s.rows s.plan.tasks) t ≡ Some sg
      → Means tells s.story.held s.rows s.options.setscene sg.task sg.sig (answered_of s.begun t) a → IsAvailable o.story.held s.rows s.options.setscene sg a
  means_there says tells tell none kept is t a not_yet sg at = by (answered_of s.begun t) refl
    where
      ordered : AreOrdered s.plan.tasks
      ordered = sound_ordered s.plan run.may.sound

      task : slice_get s.plan.tasks t ≡ Some sg.task
      task = own_task says (record { plan = s.plan; rows = s.rows }) kept ordered is t sg at

      sig : signature_by s.plan.tasks (unihashes_in kept) sg.task ≡ sg.sig
      sig = own_signature says (record { plan = s.plan; rows = s.rows }) kept ordered is t sg at

      now : IsUpToDate s.plan s.rows (known_in kept)
      now = up_to_date says (record { plan = s.plan; rows = s.rows }) kept ordered is

      by : (before : Option Avail) → answered_of s.begun t ≡ before → Means tells s.story.held s.rows s.options.setscene sg.task sg.sig before a → IsAvailable o.story.held s.rows s.options.setscene sg a
      by None e m =
          was_there t sg a none task (λ b. none-some b.0 (sym e ∙ ap flat b.1)) (sym (ap (λ (g : SigRecord). g.pn) sig) ∙ own_pn s.plan.tasks (unihashes_in kept) sg.task) (sym (ap (λ (g : SigRecord). g.task) sig) ∙ own_name s.plan.tasks (unihashes_in kept) sg.task)
          (one_signature (names_in kept) (need_in kept) (avail_in kept) none now t sg at) (m tell)
      by (Some w) e m =
          let answered = run.answered none t w (flat_some (slice_get s.begun t) w e) not_yet in
          let has = answered.0 sg at in
          elim answered.1 [
            | inl same ↦
                let there : w ≢ avail.Missing = λ missing. (let n : avail.Object ≡ avail.Missing = sym same ∙ missing in cc) in
                let row = available_stored o.story.held s.rows s.options.setscene sg w there has in
                subst (IsAvailable o.story.held s.rows s.options.setscene sg) (sym (m ∙ ap (λ (r : Option EquivRow). if_row r w) row.1)) has
            | inr gone ↦
                subst (IsAvailable o.story.held s.rows s.options.setscene sg) (sym (m ∙ ap (if_row (row_at s.rows (name_of sg.sig))) gone.0 ∙ never_there (row_at s.rows (name_of sg.sig))))
                (subst (IsAvailable o.story.held s.rows s.options.setscene sg) gone.0 has)
          ]

  -- What is known by what the store answers now was so when the run began, of needed tasks that haven't ended.
  pub known_there : (tells : Type 0) → tells → s.fault ≡ None → (kept : Replan) → IsCurrent (meant tells s.story.held s.rows s.options.setscene s.plan.tasks s.begun) (record { plan = s.plan; rows = s.rows }) kept
      → (t : ℕ) (a : Avail) → IsIn (need_in kept) t → (HasEnded s.plan s.tale t → ⊥) → slice_get (avail_in kept) t ≡ Some a → WasThere o s t a
  known_there tells tell none kept is t a member not_yet there sg at =
      let says = meant tells s.story.held s.rows s.options.setscene s.plan.tasks s.begun in
      let view : View = record { plan = s.plan; rows = s.rows } in
      let ordered = sound_ordered s.plan run.may.sound in
      let task = own_task says view kept ordered is t sg at in
      let sig = own_signature says view kept ordered is t sg at in
      means_there says tells tell none kept is t a not_yet sg at
      (subst (λ (g : SigRecord). Means tells s.story.held s.rows s.options.setscene sg.task g (answered_of s.begun t) a) sig ((is.needs.known t member).told sg.task a task there sg.task task))

-- a run that knows more
pub known_run : (o : Opening) (s : Seen) (k : Known) → IsRun o s → ((t : ℕ) (a : Avail) → IsIn k.need t → (HasEnded s.plan s.tale t → ⊥) → slice_get k.avail t ≡ Some a → WasThere o s t a) → IsRun o (record s { known = Some k })
known_run o s k run there = record {
  may = run.may;
  rows = run.rows;
  lines = run.lines;
  grown = run.grown;
  own = run.own;
  readable = run.readable;
  opened = run.opened;
  mends = run.mends;
  book = run.book;
  open_are = run.open_are;
  mending = run.mending;
  flights = run.flights;
  touched = run.touched;
  flying = run.flying;
  durable = run.durable;
  objects = run.objects;
  later = run.later;
  marked = run.marked;
  reusable = run.reusable;
  legal = run.legal;
  were_there = run.were_there;
  real = run.real;
  stored = run.stored;
  missing = run.missing;
  there = there;
  answered = run.answered;
  met = run.met;
  told = λ u b. told_by o s (record s { known = Some k }) u refl refl (λ is. is) (λ hand was. (hand, λ x here. was x here)) (run.told u b);
  images = run.images;
  stands = run.stands;
  settled = run.settled;
}
