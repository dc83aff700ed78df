use Rattle.std.proofs.Common.{◌≡◌, ◌∙◌, sym, refl, subst, ap, ℕ, zero, suc, List, [], ◌∷◌, ◌++◌, Some, None, Ok, inl, inr}
use Rattle.std.specs.Prelude.{Option, codes}
use Rattle.std.specs.List.{AllByRecursion, slice_get}
use Rattle.std.proofs.Math.Seq.{take-nil}
use Rattle.std.proofs.lemmas.Option.{none-some, same_Some}
use Rattle.tree_model.specs.declared.entry.Entry.{Entry}
use Rattle.tree_model.specs.Hash.{hash_text}
use Rattle.tree_model.specs.Path.{inside}
use Rattle.outside_traits.specs.Store.{put}
use Rattle.outside_traits.proofs.Puts.{put-same}
use Rattle.meta_model.specs.declared.event.Logged.{Logged}
use Rattle.meta_model.specs.declared.plan.PlanTask.{PlanTask}
use Rattle.meta_model.specs.CleanBuild.{Built, clean_build, is_beyond, is_beyond_layout}
use Rattle.meta_model.specs.Layout.{layout_in_order}
use Rattle.meta_model.specs.Worked.{shell}
use Rattle.tree_model.specs.Folder.{picked}
use Rattle.tree_model.specs.Overlay.{overlaid}
use Rattle.store_model.specs.Available.{stamp_path}
use Rattle.store_model.specs.Hello.{first_line, hello_reading, hello_signed, hello_task, hello_tree}
use Rattle.store_model.specs.Origins.{Book}
use Rattle.store_model.specs.Paths.{key_path}
use Rattle.store_model.specs.Spelling.{key_name, name_of}
use Rattle.store_model.specs.Valid.{IsValid, IsValidLine, key_file, record_entry}
use Rattle.store_model.proofs.Hello.{hello_is_recorded}
use Rattle.run_model.specs.Books.{line_of_ended}
use Rattle.run_model.specs.Headline.{nothing}
use Rattle.run_model.specs.InFlight.{AreInFlight, IsValidAfter, RunsAfter, book_with}
use Rattle.run_queue.proofs.Growing.{ended_line}
use Rattle.run_queue.proofs.Touched.{none_runs}
use Rattle.build_resume.specs.Worked.{empty_opening, hello_plan, hello_started, recorded_alone}
use Rattle.build_resume.proofs.examples.example_of_crashes.Goals as goal

no_stamp : (t : ℕ) (task : PlanTask) → slice_get (hello_task ∷ []) t ≡ Some task → recorded_alone (stamp_path task) ≡ None
no_stamp zero task at = subst (λ (x : PlanTask). recorded_alone (stamp_path x) ≡ None) (same_Some hello_task task at) refl
no_stamp (suc t) task at = absurd (none-some task at)

abbrev hello_built : Built
hello_built = record { task = hello_task; outcome = Ok hello_tree }

is_built : slice_get (clean_build shell hello_plan.tasks) 0 ≡ Some hello_built
unfolding is_beyond is_beyond_layout layout_in_order overlaid picked
is_built = refl

-- the line that the task puts behind an empty book
hello_recorded : line_of_ended shell hello_plan [] 0 ≡ first_line ∷ []
hello_recorded = (ended_line shell hello_plan [] 0 hello_signed hello_built hello_tree refl is_built refl).0 refl

first_alone : IsValidLine shell hello_reading [] first_line
first_alone = hello_is_recorded.after.lines [] first_line (record { rest = []; is = refl })

-- the task runs, and is in flight alone
place_alone : (k u : ℕ) → slice_get (0 ∷ []) k ≡ Some u → (k ≡ 0) × (0 ≡ u)
place_alone zero u here = (refl, same_Some 0 u here)
place_alone (suc k) u here = absurd (none-some u here)

flies_alone : AreInFlight hello_plan hello_started (0 ∷ [])
flies_alone = record {
  runs = λ k u here. (1, subst (λ (n : ℕ). RunsAfter hello_plan hello_started n 1) (place_alone k u here).1 refl);
  apart = λ j k u v other one two a b. (place_alone j u one).0 ∙ sym (place_alone k v two).0;
}

pub returns-clause-recorded : goal.returns-clause-recorded
returns-clause-recorded c = record {
  count = 1;
  after = record {
    in_flight = 0 ∷ [];
    flies = flies_alone;
    valid = subst (λ (l : Book). IsValid shell hello_reading recorded_alone (l ++ [])) (sym hello_recorded) hello_is_recorded.after;
    alone = subst (λ (l : Book). AllByRecursion (IsValidLine shell hello_reading []) (l ++ [])) (sym hello_recorded) (first_alone, tt);
  };
  honest = λ t task at. inr (inl (no_stamp t task at));
}

some_none : (entry : Entry) (held : Option Entry) → held ≡ Some entry → held ≡ None → ⊥
some_none entry (Some e) is none = let n : Some e ≡ None = none in cc
some_none entry None is none = none-some entry is

-- where the record is held
abbrev first_path : List ℕ
first_path = inside (codes "rec2") (hash_text (name_of first_line.sig))

-- before the first event nothing is in flight, so no record is held
none_left : IsValidAfter empty_opening hello_plan [] recorded_alone → ⊥
none_left after = by after.in_flight refl
  where
    by : (ts : List ℕ) → after.in_flight ≡ ts → ⊥
    by [] none =
        let v = subst (λ (l : List ℕ). IsValid shell hello_reading recorded_alone (book_with empty_opening hello_plan [] l)) none after.valid in
        some_none (record_entry first_line).1 (recorded_alone first_path) (put-same (put nothing (key_path (key_name first_line.sig.key)) (Some (key_file first_line.sig.key))) first_path first_path (Some (record_entry first_line).1) refl) (v.records (hash_text (name_of first_line.sig)))
    by (t ∷ ts) some =
        let r = after.flies.runs 0 t (ap (λ (l : List ℕ). slice_get l 0) some) in
        none_runs 1 t r.0 r.1

pub returns-clause-unstarted : goal.returns-clause-unstarted
returns-clause-unstarted c left = none_left (subst (λ (l : List Logged). IsValidAfter empty_opening hello_plan l recorded_alone) (take-nil left.count) left.after)

pub returns-clause-stamped : goal.returns-clause-stamped
returns-clause-stamped c left = elim (left.honest 0 hello_task refl) [
  | inl kept ↦ some_none _ _ refl kept.stamp
  | inr rest ↦ elim rest [
    | inl none ↦ some_none _ _ refl none
    | inr told ↦ some_none told.0.file _ told.2.stored refl
  ]
]
