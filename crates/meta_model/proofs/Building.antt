-- What holds of every clean build.
use Rattle.std.proofs.Common.{◌≡◌, ◌∙◌, sym, ap, refl, ℕ, List, [], ◌∷◌, ◌++◌, map, Bool, true, false, Result, Ok, Err, append_assoc}
use Rattle.std.specs.Prelude.{if◌then◌else◌}
use Rattle.std.proofs.lemmas.List.{append-nil, map-append}
use Rattle.meta_model.specs.declared.event.Why.{Why}
use Rattle.meta_model.specs.declared.event.Why.TheVariants as why
use Rattle.meta_model.specs.declared.plan.PlanTask.{PlanTask}
use Rattle.meta_model.specs.CleanBuild.{Built, Entries, Gives, clean_build, clean_from, clean_output, clean_task, given, has_long_part, is_beyond, is_beyond_layout, limited, output_of, task_output}

from_tasks : (run : Gives) (before : List Built) (tasks : List PlanTask) → map (λ b. b.task) (clean_from run before tasks) ≡ map (λ b. b.task) before ++ tasks
from_tasks run before [] = sym (append-nil (map (λ b. b.task) before))
from_tasks run before (task ∷ more) =
    from_tasks run (before ++ record { task = task; outcome = clean_task run before task } ∷ []) more
    ∙ ap (λ l. l ++ more) (map-append (λ b. b.task) before (record { task = task; outcome = clean_task run before task } ∷ []))
    ∙ append_assoc (map (λ b. b.task) before) (task ∷ []) more

pub all_tasks : (run : Gives) (tasks : List PlanTask) → map (λ b. b.task) (clean_build run tasks) ≡ tasks
all_tasks run tasks = from_tasks run [] tasks

from_step : (run : Gives) (before : List Built) (tasks : List PlanTask) (task : PlanTask) → clean_from run before (tasks ++ task ∷ []) ≡ clean_from run before tasks ++ record { task = task; outcome = clean_task run (clean_from run before tasks) task } ∷ []
from_step run before [] task = refl
from_step run before (t ∷ more) task = from_step run (before ++ record { task = t; outcome = clean_task run before t } ∷ []) more task

pub one_more : (run : Gives) (tasks : List PlanTask) (task : PlanTask) → clean_build run (tasks ++ task ∷ []) ≡ clean_build run tasks ++ record { task = task; outcome = clean_task run (clean_build run tasks) task } ∷ []
one_more run tasks task = from_step run [] tasks task

-- a tree that is within the limits stays so
limited_again : (r : Result Entries ℕ) → output_of true [] (limited r) ≡ limited r
limited_again (Err code) = refl
limited_again (Ok tree) = by (is_beyond tree) refl
  where
    by : (t : Bool) → is_beyond tree ≡ t → output_of true [] (limited (Ok tree)) ≡ limited (Ok tree)
    by true e = simp e
    by false e = simp e

no_pairs : (sstate : Bool) (r : Result Entries Why) → output_of sstate [] r ≡ output_of true [] r
no_pairs sstate (Err cause) = refl
no_pairs sstate (Ok tree) = refl

pub alone : (run : Gives) (script : List ℕ) (sstate : Bool) → task_output run script sstate [] [] ≡ clean_output run script []
unfolding is_beyond_layout
alone run script sstate = no_pairs sstate (clean_output run script []) ∙ limited_again (run script [])

limited_fits : (tree out : Entries) → limited (Ok tree) ≡ Ok out → is_beyond out ≡ false
limited_fits tree out h = by (is_beyond tree) refl
  where
    by : (t : Bool) → is_beyond tree ≡ t → is_beyond out ≡ false
    by true e = let g : ◌≡◌ {A = Result Entries Why} (Err why.TooLarge) (Ok out) = sym (simp e) ∙ h in absurd (cc)
    by false e = let g : ◌≡◌ {A = Result Entries Why} (Ok tree) (Ok out) = sym (simp e) ∙ h in let s : tree ≡ out = cc in sym (ap is_beyond s) ∙ e

output_fits : (sstate : Bool) (places : List (List ℕ × List ℕ)) (r : Result Entries Why) (out : Entries) → output_of sstate places r ≡ Ok out → is_beyond out ≡ false
output_fits sstate places (Err cause) out h = absurd (cc)
output_fits sstate places (Ok tree) out h = by (has_long_part sstate places tree) h
  where
    by : (long : Bool) → (if long then Err why.TooLarge else limited (Ok (given sstate places tree))) ≡ Ok out → is_beyond out ≡ false
    by true e = absurd (cc)
    by false e = limited_fits (given sstate places tree) out e

pub within : (run : Gives) (script : List ℕ) (sstate : Bool) (places : List (List ℕ × List ℕ)) (layout tree : Entries) → task_output run script sstate places layout ≡ Ok tree → is_beyond tree ≡ false
within run script sstate places layout tree h = by (is_beyond_layout layout) refl
  where
    by : (t : Bool) → is_beyond_layout layout ≡ t → is_beyond tree ≡ false
    by true e = let g : ◌≡◌ {A = Result Entries Why} (Err why.TooLarge) (Ok tree) = sym (simp e) ∙ h in absurd (cc)
    by false e = output_fits sstate places (clean_output run script layout) tree (let g : output_of sstate places (clean_output run script layout) ≡ Ok tree = sym (simp e) ∙ h in g)
