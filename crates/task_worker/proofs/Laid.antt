-- What is laid in folders, and that it can be.
use Rattle.std.proofs.Common.{◌≡◌, ◌<◌, ◌≤◌, ◌∙◌, sym, ap, subst, refl, ℕ, List, [], ◌∷◌, ◌++◌, length, get_or, All, Bool, true, false, not, map, filter, Option, Some, None}
use Rattle.std.specs.Prelude.{codes}
use Rattle.std.specs.Str.{bytes_eq}
use Rattle.std.specs.List.{AllByRecursion, slice_get}
use Rattle.std.proofs.lemmas.Option.{slice_get_read}
use Rattle.std.proofs.lemmas.List.Elements.{All-from_recursion, recursion_from_All}
use Rattle.tree_model.specs.declared.entry.Entry.{Entry}
use Rattle.tree_model.specs.Path.{IsClean, inside}
use Rattle.tree_model.specs.Folder.{IsFirstUnclean, placed}
use Rattle.tree_model.proofs.FolderLemmas.{inside_placed}
use Rattle.std.specs.Ordering.{nat_cmp, is_lt}
use Rattle.std.specs.Cmp.Lexicographic.{slice_cmp}
use Rattle.tree_model.specs.Overlay.{all_in_place, in_place, is_free, overlaid}
use Rattle.plan_model.proofs.Reached.{all_at, all_from}
use Rattle.meta_model.specs.declared.plan.PlanTask.{PlanTask}
use Rattle.meta_model.specs.CleanBuild.{Entries}
use Rattle.meta_model.specs.Layout.{Needed, by_depth, by_name, dependency_part, files_part, in_laid_order, is_of, layout, layout_in_order, overlaid_all, overlaid_onto, put_inside}
use Rattle.store_model.proofs.Ordered.{each_ordered}
use Rattle.tree_model.specs.Tree.{IsTree}
use Rattle.meta_model.specs.declared.plan.Plan.{Plan}
use Rattle.plan_model.specs.Sound.{IsOnePart}
use Rattle.task_worker.specs.Runnable.{IsRunnable}
use Rattle.task_worker.specs.declared.parts.Part.{Part}
use Rattle.task_worker.specs.Layouts.{AreShort, IsWithinLayout}
use Rattle.run_model.specs.Layouts.{layout_over, needed_among}
use Rattle.task_worker.specs.Work.{HasNames, IsLayable, part_needed, parts_needed}
use Rattle.task_worker.proofs.Lists.{each_part, first_kept, last_kept, outputs_map, overlaid_last}
use Rattle.task_worker.proofs.Names.{clean_files, clean_work, has_names}

-- where all paths stay clean, none is the first that doesn't
pub never_unclean : (folder : List ℕ) (tree : Entries) (path : List ℕ) → bytes_eq folder (codes ".") ≡ false → ((k : ℕ) (d : List ℕ × Entry) → k < length tree → IsClean (inside folder (get_or tree k d).0)) → IsFirstUnclean (placed folder) tree path → ⊥
never_unclean folder tree path other clean first =
    let d : List ℕ × Entry = get_or tree first.place (path, some_entry) in
    first.unclean (subst IsClean (sym (first.is d ∙ ap (λ f. f (get_or tree first.place d).0) (inside_placed folder (sym other)))) (clean first.place d first.within))
  where
    some_entry : Entry
    some_entry = Rattle.tree_model.specs.declared.entry.Entry.TheVariants.Link []

-- what can be laid of a list, of what passes a test, and in an order
each_filter : {A : Type 0} (P : A → Type 0) (p : A → Bool) (xs : List A) → AllByRecursion P xs → AllByRecursion P (filter p xs)
each_filter P p [] all = tt
each_filter P p (x ∷ xs) all = by (p x) refl (each_filter P p xs all.1)
  where
    by : (b : Bool) → p x ≡ b → AllByRecursion P (filter p xs) → AllByRecursion P (filter p (x ∷ xs))
    by true e more = rw e (all.0, more)
    by false e more = rw e more

-- the layout in the parts in which it is laid
pub layout_is : (pn : List ℕ) (files : Entries) (needed : List Needed) → layout pn files needed ≡ overlaid_onto (overlaid_all (put_inside (codes "work") (overlaid_all (map (λ n. n.output) (filter (is_of pn) (by_depth needed)))) ∷ [])) (map dependency_part (filter (λ n. not (is_of pn n)) (by_name needed)) ++ files_part files ∷ [])
unfolding layout_in_order
layout_is pn files needed =
    ap (λ l. overlaid_all (put_inside (codes "work") (overlaid_all (map (λ n. n.output) l)) ∷ (map dependency_part (filter (λ n. not (is_of pn n)) (in_laid_order pn needed)) ++ files_part files ∷ []))) (first_kept (is_of pn) (by_depth needed) (by_name needed))
    ∙ ap (λ l. overlaid_all (put_inside (codes "work") (overlaid_all (map (λ n. n.output) (filter (is_of pn) (by_depth needed)))) ∷ (map dependency_part l ++ files_part files ∷ []))) (last_kept (is_of pn) (by_depth needed) (by_name needed))

-- ---- what holds of each entry of trees that are laid over each other

module _ (P : List ℕ × Entry → Type 0) where
  placed_each : (e : List ℕ × Entry) (xs : Entries) → P e → AllByRecursion P xs → AllByRecursion P (in_place e xs)
  placed_each e [] here all = (here, tt)
  placed_each e (x ∷ xs) here all = by (is_lt (slice_cmp nat_cmp e.0 x.0)) refl (placed_each e xs here all.1)
    where
      by : (b : Bool) → is_lt (slice_cmp nat_cmp e.0 x.0) ≡ b → AllByRecursion P (in_place e xs) → AllByRecursion P (in_place e (x ∷ xs))
      by true f more = rw f (here, all)
      by false f more = rw f (all.0, more)

  all_placed_each : (es xs : Entries) → AllByRecursion P es → AllByRecursion P xs → AllByRecursion P (all_in_place es xs)
  all_placed_each [] xs first all = all
  all_placed_each (e ∷ es) xs first all = placed_each e (all_in_place es xs) first.0 (all_placed_each es xs first.1 all)

  pub overlaid_each : (earlier later : Entries) → AllByRecursion P earlier → AllByRecursion P later → AllByRecursion P (overlaid earlier later)
  unfolding overlaid
  overlaid_each earlier later a b = all_placed_each (filter (λ e. is_free later e.0) earlier) later (each_filter P (λ e. is_free later e.0) earlier a) b

  pub onto_each : (tree : Entries) (trees : List Entries) → AllByRecursion P tree → AllByRecursion (AllByRecursion P) trees → AllByRecursion P (overlaid_onto tree trees)
  onto_each tree [] a all = a
  onto_each tree (t ∷ trees) a all = onto_each (overlaid tree t) trees (overlaid_each tree t a all.0) all.1

abbrev pub IsShortPath : List ℕ × Entry → Type 0
IsShortPath e = length e.0 ≤ 3072

-- the outputs of needed tasks have short paths
needed_short : (tasks : List PlanTask) (outputs : List (ℕ × Entries)) → AllByRecursion (λ o. AllByRecursion IsShortPath o.1) outputs → AllByRecursion (λ n. AllByRecursion IsShortPath n.output) (needed_among tasks outputs)
needed_short tasks [] all = tt
needed_short tasks (o ∷ outputs) all = by (slice_get tasks o.0) refl (needed_short tasks outputs all.1)
  where
    by : (t : Option PlanTask) → slice_get tasks o.0 ≡ t → AllByRecursion (λ n. AllByRecursion IsShortPath n.output) (needed_among tasks outputs) → AllByRecursion (λ n. AllByRecursion IsShortPath n.output) (needed_among tasks (o ∷ outputs))
    by None e more = simp e more
    by (Some t) e more = simp e (all.0, more)

short_each : (outputs : List (ℕ × Entries)) → AreShort outputs → AllByRecursion (λ o. AllByRecursion IsShortPath o.1) outputs
short_each outputs short = recursion_from_All (λ o. AllByRecursion IsShortPath o.1) outputs (λ k d lt. recursion_from_All IsShortPath (get_or outputs k d).1 (short k d lt))

each_output : (ns : List Needed) → AllByRecursion (λ n. AllByRecursion IsShortPath n.output) ns → AllByRecursion (AllByRecursion IsShortPath) (map (λ n. n.output) ns)
each_output [] all = tt
each_output (n ∷ ns) all = (all.0, each_output ns all.1)

pub own_short : (pn : List ℕ) (tasks : List PlanTask) (outputs : List (ℕ × Entries)) → AreShort outputs → All IsShortPath (overlaid_all (map (λ n. n.output) (filter (is_of pn) (by_depth (needed_among tasks outputs)))))
own_short pn tasks outputs short =
    let ns = filter (is_of pn) (by_depth (needed_among tasks outputs)) in
    let each : AllByRecursion (λ n. AllByRecursion IsShortPath n.output) ns = each_filter (λ n. AllByRecursion IsShortPath n.output) (is_of pn) (by_depth (needed_among tasks outputs)) (each_ordered (λ n. AllByRecursion IsShortPath n.output) _ (needed_among tasks outputs) (needed_short tasks outputs (short_each outputs short))) in
    All-from_recursion IsShortPath (overlaid_all (map (λ n. n.output) ns)) (onto_each IsShortPath [] (map (λ n. n.output) ns) tt (each_output ns each))

-- needed tasks of a plan whose names are parts of paths can be laid
pub all_layable : (tasks : List PlanTask) (outputs : List (ℕ × Entries)) → All HasNames tasks → AreShort outputs → AllByRecursion IsLayable (needed_among tasks outputs)
all_layable tasks outputs names short = by outputs (recursion_from_All (λ o. All IsShortPath o.1) outputs short)
  where
    at : (n : ℕ) (t : PlanTask) → slice_get tasks n ≡ Some t → HasNames t
    at n t e = all_at HasNames tasks names n t e

    by : (os : List (ℕ × Entries)) → AllByRecursion (λ o. All IsShortPath o.1) os → AllByRecursion IsLayable (needed_among tasks os)
    by [] all = tt
    by (o ∷ os) all = step (slice_get tasks o.0) refl (by os all.1)
      where
        step : (t : Option PlanTask) → slice_get tasks o.0 ≡ t → AllByRecursion IsLayable (needed_among tasks os) → AllByRecursion IsLayable (needed_among tasks (o ∷ os))
        step None e more = simp e more
        step (Some t) e more = let h = at o.0 t e in simp e (record { pn = h.pn; task = h.task; short = all.0 }, more)

-- what is laid of the own recipe's parts
pub own_laid : (pn : List ℕ) (parts : List Part) (needed : List Needed) → parts_needed parts ≡ filter (is_of pn) (by_depth needed) → overlaid_all (map (λ p. (part_needed p).output) parts) ≡ overlaid_all (map (λ n. n.output) (filter (is_of pn) (by_depth needed)))
own_laid pn parts needed is = ap overlaid_all (outputs_map parts ∙ ap (map (λ (n : Needed). n.output)) is)

-- each path of the own recipe's parts leaves room for `work`
pub own_clean : (pn : List ℕ) (tasks : List PlanTask) (outputs : List (ℕ × Entries)) (parts : List Part) (own : Entries) → AreShort outputs → parts_needed parts ≡ filter (is_of pn) (by_depth (needed_among tasks outputs)) → own ≡ overlaid_all (map (λ p. (part_needed p).output) parts) → IsTree own → All (λ e. IsClean (inside (codes "work") e.0)) own
own_clean pn tasks outputs parts own short is laid tree k d lt =
    clean_work (get_or own k d).0 (tree.clean k d lt) (all_short k d lt)
  where
    all_short : All IsShortPath own
    all_short = subst (All IsShortPath) (sym (laid ∙ own_laid pn parts (needed_among tasks outputs) is)) (own_short pn tasks outputs short)

-- the parts of other recipes can be laid
pub parts_layable : (pn : List ℕ) (tasks : List PlanTask) (outputs : List (ℕ × Entries)) (parts : List Part) → All HasNames tasks → AreShort outputs → parts_needed parts ≡ filter (λ n. not (is_of pn n)) (by_name (needed_among tasks outputs)) → All (λ p. IsLayable (part_needed p)) parts
parts_layable pn tasks outputs parts names short is =
    All-from_recursion (λ p. IsLayable (part_needed p)) parts
    (each_part IsLayable parts (filter (λ n. not (is_of pn n)) (by_name (needed_among tasks outputs))) is
    (each_filter IsLayable (λ n. not (is_of pn n)) (by_name (needed_among tasks outputs)) (each_ordered IsLayable _ (needed_among tasks outputs) (all_layable tasks outputs names short))))

-- the files of a task can be laid
pub files_clean : (files : Entries) → All (λ e. IsOnePart e.0) files → IsTree files → All (λ e. IsClean (inside (codes "files") e.0)) files
files_clean files parts tree k d lt = clean_files (get_or files k d).0 (tree.clean k d lt) (parts k d lt).part.short

first_is : (own : Entries) → own ≡ overlaid_onto [] (own ∷ [])
unfolding overlaid
first_is own = refl

-- the whole, as it is laid
pub all_laid : (tasks : List PlanTask) (task : PlanTask) (outputs : List (ℕ × Entries)) (parts : List Part) (work most tree : Entries)
    → parts_needed parts ≡ filter (λ n. not (is_of task.id.pn n)) (by_name (needed_among tasks outputs))
    → work ≡ put_inside (codes "work") (overlaid_all (map (λ n. n.output) (filter (is_of task.id.pn) (by_depth (needed_among tasks outputs)))))
    → most ≡ overlaid_onto work (map dependency_part (parts_needed parts))
    → tree ≡ overlaid most (files_part task.files)
    → tree ≡ layout_over tasks task outputs
all_laid tasks task outputs parts work most tree is work_is most_is tree_is =
    let needed = needed_among tasks outputs in
    let own = put_inside (codes "work") (overlaid_all (map (λ (n : Needed). n.output) (filter (is_of task.id.pn) (by_depth needed)))) in
    let others = map dependency_part (filter (λ n. not (is_of task.id.pn n)) (by_name needed)) in
    tree_is ∙ ap (λ t. overlaid t (files_part task.files)) (most_is ∙ ap (λ l. overlaid_onto work (map dependency_part l)) is ∙ ap (λ w. overlaid_onto w others) (work_is ∙ first_is own))
    ∙ sym (overlaid_last (overlaid_onto [] (own ∷ [])) others (files_part task.files))
    ∙ sym (layout_is task.id.pn task.files needed)

-- the names of the tasks of a plan that can be run
pub names_of : (plan : Plan) → IsRunnable plan → All HasNames plan.tasks
names_of plan runnable = all_from HasNames plan.tasks (λ n task at. has_names n task (runnable.tasks n task at))

-- the task of a number that was read
pub task_read : (plan : Plan) (tasks : List PlanTask) (n : ℕ) (task : PlanTask) → tasks ≡ plan.tasks → n < length plan.tasks → task ≡ get_or tasks n task → slice_get plan.tasks n ≡ Some task
task_read plan tasks n task is lt read = slice_get_read plan.tasks (length plan.tasks) n task refl lt (read ∙ ap (λ (l : List PlanTask). get_or l n task) is)

pub one_task : (tasks : List PlanTask) (n : ℕ) (one other : PlanTask) → slice_get tasks n ≡ Some one → slice_get tasks n ≡ Some other → one ≡ other
one_task tasks n one other a b = let e : Some one ≡ Some other = sym a ∙ b in cc

pub layout_within : (tasks seen : List PlanTask) (n : ℕ) (read task : PlanTask) (outputs : List (ℕ × Entries)) (tree : Entries) (made : Option Entries) → seen ≡ tasks → slice_get tasks n ≡ Some read → tree ≡ layout_over seen read outputs → IsWithinLayout tree made → slice_get tasks n ≡ Some task → IsWithinLayout (layout_over tasks task outputs) made
layout_within tasks seen n read task outputs tree made is at laid within here =
    subst (λ (t : Entries). IsWithinLayout t made) (laid ∙ ap (λ (l : List PlanTask). layout_over l read outputs) is ∙ ap (λ (t : PlanTask). layout_over tasks t outputs) (one_task tasks n read task at here)) within
