-- Open publications while others land, and while something else is done that leaves them alone.
use Rattle.std.proofs.Common.{◌≡◌, ◌≢◌, ◌∙◌, sym, ap, subst, refl, ℕ, Bool, true, false, inl, List, [], ◌∷◌, ◌++◌, Some, None, if◌then◌else◌, arith}
use Rattle.std.specs.Prelude.{codes, is_none}
use Rattle.std.specs.List.{AllByRecursion}
use Rattle.std.specs.Str.{bytes_eq}
use Rattle.std.proofs.lemmas.Bool.{false≢true}
use Rattle.tree_model.specs.declared.hash.Hash.{Hash}
use Rattle.tree_model.specs.Hash.{hash_text}
use Rattle.tree_model.specs.Path.{inside}
use Rattle.outside_traits.specs.Passes.{Passes, Same}
use Rattle.outside_traits.specs.Store.{IsApart, Store, slashes}
use Rattle.outside_traits.specs.Story.{IsSound, Story}
use Rattle.outside_traits.proofs.Folders.{under_same}
use Rattle.meta_model.proofs.Bools.{text_itself}
use Rattle.outside_traits.proofs.Runs.{each_now, passes_so}
use Rattle.stamp_store.specs.Stamp.{old_path, staged_path}
use Rattle.store_model.specs.declared.signature.EquivRow.{EquivRow}
use Rattle.store_model.specs.Available.{object_folder}
use Rattle.store_model.specs.Origins.{row_of}
use Rattle.store_model.specs.Paths.{key_path, record_path}
use Rattle.store_model.specs.Publication.{stamp_at, work_at, Publication}
use Rattle.store_model.specs.Rows.{hash_eq, row_at}
use Rattle.store_model.specs.Signatures.{Signed}
use Rattle.store_model.specs.Spelling.{name_of}
use Rattle.store_model.proofs.Listing.{hash_other}
use Rattle.store_opening.specs.Paths.{staged_record_path}
use Rattle.store_opening.proofs.Areas.{differ}
use Rattle.build_store.specs.declared.pieces.OpenPublication.{OpenPublication}
use Rattle.build_store.specs.Calls.{KeepsAround, KeepsTemporary}
use Rattle.build_store.specs.Ending.{HasFolders, KeepsPut}
use Rattle.build_store.specs.Halves.{IsOn, ending, taking, working, Progress}
use Rattle.build_store.specs.Items.{IsLaidBut}
use Rattle.build_store.specs.Noting.{AreNoted}
use Rattle.build_store.specs.OpenOnes.{progress_of}
use Rattle.build_store.specs.OpenTasks.{IsOpenOf}
use Rattle.build_store.specs.Publication.{KeepsOthers, line_for, publication, rows_with}
use Rattle.build_store.specs.Standing.{IsBeside, IsOpenTask, IsOther, Stands}
use Rattle.build_store.specs.View.{IsSignatureOf}
use Rattle.build_store.proofs.Apart.{apart_by_count}
use Rattle.build_store.proofs.FoldersStay.{tree_far, tree_in}
use Rattle.build_store.proofs.Several.{each_two}
use Rattle.build_store.proofs.OpenStaying.{folders_at}
use Rattle.build_store.proofs.PhaseSteps.{phases_stay}
use Rattle.build_store.proofs.PutStays.{areas}
use Rattle.build_store.proofs.Quieting.{staged_differ}
use Rattle.build_store.proofs.Staying.{aside_stays, halves_stay, publication_stays}
use Rattle.build_store.proofs.TaskStaying.{open_tasks_stay}

-- ---- one lands

module _ (rows : List EquivRow) (one : OpenPublication) (s : Signed) (of : IsOpenOf rows s one.tree one) (named : IsSignatureOf s.task s.sig) where
  abbrev row : EquivRow
  row = row_of (line_for rows s one.tree)

  module _ (other : OpenPublication) (beside : IsBeside one other) (task : IsOpenTask rows other) where
    other_name : hash_eq row.name (name_of task.signed.sig) ≡ false
    other_name = hash_other (name_of s.sig) (name_of task.signed.sig) (λ e. beside.1 (task.of.name ∙ sym e ∙ sym of.name))

    other_task : row.pn ≡ task.signed.sig.pn → row.task ≡ task.signed.sig.task → ⊥
    other_task pn name =
        let p : s.task.id.pn ≡ task.signed.task.id.pn = sym named.pn ∙ pn ∙ task.named.pn in
        let n : s.task.id.task ≡ task.signed.task.id.task = sym named.task ∙ name ∙ task.named.task in
        beside.0 (task.of.folder ∙ sym (λ i. inside (p i) (n i)) ∙ sym of.folder)

    task_by : (b : Bool) → IsOpenTask (if b then rows ++ row ∷ [] else rows) other
    task_by true = record { signed = task.signed; of = open_tasks_stay rows row task.signed other.tree other other_name other_task task.of; named = task.named }
    task_by false = task

    stands_by : (b : Bool) (story : Story) → IsOn (publication rows task.signed other.tree) (progress_of other) story → Stands (if b then rows ++ row ∷ [] else rows) story other
    stands_by true story on = record {
      task = record { signed = task.signed; of = open_tasks_stay rows row task.signed other.tree other other_name other_task task.of; named = task.named };
      on = subst (λ (p : Publication). IsOn p (progress_of other) story) (sym (publication_stays rows row task.signed other.tree other_name other_task)) on;
    }
    stands_by false story on = record { task = task; on = on }

  pub tasks_behind : (xs : List OpenPublication) → AllByRecursion (IsBeside one) xs → AllByRecursion (IsOpenTask rows) xs → AllByRecursion (IsOpenTask (rows_with rows s one.tree)) xs
  tasks_behind xs beside all = each_two (IsBeside one) (IsOpenTask rows) (IsOpenTask (rows_with rows s one.tree)) xs beside all (λ other near task. task_by other near task (is_none (row_at rows (name_of s.sig))))

  pub stand_behind : (story : Story) (xs : List OpenPublication) → AllByRecursion (IsBeside one) xs → AllByRecursion (Stands rows story) xs → AllByRecursion (Stands (rows_with rows s one.tree) story) xs
  stand_behind story xs beside all = each_two (IsBeside one) (Stands rows story) (Stands (rows_with rows s one.tree) story) xs beside all (λ other near stands. stands_by other near stands.task (is_none (row_at rows (name_of s.sig))) story stands.on)

-- ---- a restoring of another folder

module _ (p : Publication) (folder : List ℕ) (held old new : Store) (apart : IsApart folder p.folder) (first : HasFolders p held) (others : KeepsOthers folder None held old new) (own : KeepsTemporary folder old new) where
  no_object : (unihash : Hash) → None ≡ Some unihash → ⊥
  no_object unihash e = absurd (cc)

  pub restored_keeps_put : KeepsPut p old new
  restored_keeps_put = record {
    folders = λ was. record {
      work = tree_far (codes "work") folder p.folder refl apart held old new others.work others.above_work p.tree first.work.outside was.work;
      shared = λ unihash is. tree_in (codes "obj") (hash_text unihash) refl old new (λ q at. others.objects q at (λ u some. absurd (no_object u some))) p.tree (was.shared unihash is);
    };
    staged_record = own.temporary (staged_record_path p.name) (114 ∷ 101 ∷ 99 ∷ 50 ∷ 47 ∷ hash_text p.name, refl)
        (areas 4 114 111 (staged_record_path p.name) (old_path folder) refl refl (differ 114 111 refl))
        (λ same. staged_differ folder p.name (sym same));
    record_at = own.records (record_path p.name) (hash_text p.name, refl);
    key = own.keys (key_path p.key) (hash_text p.key, refl);
    staged_stamp = own.temporary (staged_path p.folder) (115 ∷ 116 ∷ 97 ∷ 109 ∷ 112 ∷ 47 ∷ p.folder, refl)
        (areas 4 115 111 (staged_path p.folder) (old_path folder) refl refl (differ 115 111 refl))
        (λ same. apart.not_folder (under_same (codes "tmp/stamp") p.folder folder same));
    stamp = others.stamps p.folder (inl apart);
  }

none_meet : (p : Publication) (one other : Hash) → None ≡ Some one → p.object ≡ Some other → IsApart (hash_text one) (hash_text other)
none_meet p one other e is = absurd (cc)

restored_on : (p : Publication) (folder : List ℕ) (progress : Progress) (a b : Story) → IsSound a → IsApart folder p.folder → Passes a b (KeepsAround folder a.held) → IsOn p progress a → IsOn p progress b
restored_on p folder (taking k items) a b sound apart run on = aside_stays p k items folder None a b apart (none_meet p) (passes_so (KeepsOthers folder None a.held) run (λ i j w. w.others)) on
restored_on p folder (working left) a b sound apart run on = halves_stay p left folder None a b apart (none_meet p) (passes_so (KeepsOthers folder None a.held) run (λ i j w. w.others)) on
restored_on p folder (ending phase) a b sound apart run on =
    phases_stay p phase a b on (passes_so (KeepsPut p) run (λ i j w. restored_keeps_put p folder a.held i j apart (folders_at p phase a sound on) w.others w.own))

pub restored_stand : (rows : List EquivRow) (folder : List ℕ) (a b : Story) → IsSound a → slashes folder ≡ 1 → Passes a b (KeepsAround folder a.held) →
    (xs : List OpenPublication) → AllByRecursion (IsOther folder) xs → AllByRecursion (Stands rows a) xs → AllByRecursion (Stands rows b) xs
restored_stand rows folder a b sound two run xs other all = each_two (IsOther folder) (Stands rows a) (Stands rows b) xs other all (λ one no stands.
    let of = stands.task.of in
    let ne : one.folder ≢ folder = λ same. false≢true (sym no ∙ ap (λ l. bytes_eq l folder) same ∙ text_itself folder) in
    let apart : IsApart folder one.folder = apart_by_count folder one.folder (two ∙ sym of.fit.parts) ne in
    record {
      task = stands.task;
      on = restored_on (publication rows stands.task.signed one.tree) folder (progress_of one) a b sound (subst (IsApart folder) of.folder apart) run stands.on;
    })

-- ---- what only looks

same_put : (p : Publication) (old new : Store) → new ≡ old → KeepsPut p old new
same_put p old new same = record {
  folders = λ was. subst (HasFolders p) (sym same) was;
  staged_record = ap (λ h. h (staged_record_path p.name)) same;
  record_at = ap (λ h. h (record_path p.name)) same;
  key = ap (λ h. h (key_path p.key)) same;
  staged_stamp = ap (λ h. h (staged_path p.folder)) same;
  stamp = ap (λ h. h (stamp_at p.folder)) same;
}

same_on : (p : Publication) (progress : Progress) (a b : Story) → Passes a b Same → IsOn p progress a → IsOn p progress b
same_on p (taking k items) a b run on = record {
  past = omega (arith, on.past, run.later);
  gone = λ i left. let w = run.above k i on.past left in ap (λ h. h (stamp_at p.folder)) w.2 ∙ on.gone w.0 w.1;
  noted = subst (AreNoted p items) (sym run.held) on.noted;
}
same_on p (working left) a b run on = record {
  unstamped = each_now (λ i. i (stamp_at p.folder) ≡ None) (λ i. i (stamp_at p.folder) ≡ None) on.unstamped run (λ i j none same. ap (λ h. h (stamp_at p.folder)) same ∙ none);
  items = on.items;
  order = on.order;
  work = subst (IsLaidBut (work_at p.folder) p.tree left) (sym run.held) on.work;
  shared = λ unihash is. subst (IsLaidBut (object_folder unihash) p.tree left) (sym run.held) (on.shared unihash is);
}
same_on p (ending phase) a b run on = phases_stay p phase a b on (passes_so (KeepsPut p) run (λ i j same. same_put p i j same))

pub same_stand : (rows : List EquivRow) (a b : Story) → Passes a b Same → (xs : List OpenPublication) → AllByRecursion (Stands rows a) xs → AllByRecursion (Stands rows b) xs
same_stand rows a b run [] all = tt
same_stand rows a b run (one ∷ others) all = (record { task = all.0.task; on = same_on (publication rows all.0.task.signed one.tree) (progress_of one) a b run all.0.on }, same_stand rows a b run others all.1)
