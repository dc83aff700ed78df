-- What is proved of plans of words.
use Rattle.std.specs.Prelude.{◌≡◌, ℕ, Bool, List, [], Option, All}
use Rattle.outside_traits.specs.Store.{IsListing}
use Rattle.meta_model.specs.declared.event.Status.{Status}
use Rattle.meta_model.specs.declared.plan.Plan.{Plan}
use Rattle.meta_model.specs.CleanBuild.{Gives}
use Rattle.store_model.specs.Premises.{IsBlind, HasNoClash}
use Rattle.plan_model.specs.Blind.{IsWhole, key_reading}
use Rattle.plan_model.specs.Inputs.{Files}
use Rattle.plan_model.specs.Sound.{AreClean, AreWanted, IsSound}
use Rattle.run_model.specs.Headline.{MayBegin, nothing}
use Rattle.answer_model.specs.Plans.{HasPlan, IsPlanRefused}

-- Words that have a plan aren't refused.
abbrev pub PlansAreNotRefused : Type 0
PlansAreNotRefused =
    (files : Files) (paths others words : List (List ℕ)) (task : Option (List ℕ)) (force : Bool) (plan : Plan) (status : Status) → IsListing [] files paths → IsListing [] files others
    → HasPlan files paths words task force plan → IsPlanRefused files others words task force status → ⊥

-- Words have one plan.
abbrev pub PlansAreOne : Type 0
PlansAreOne =
    (files : Files) (paths others words : List (List ℕ)) (task : Option (List ℕ)) (force : Bool) (one other : Plan) → IsListing [] files paths → IsListing [] files others
    → HasPlan files paths words task force one → HasPlan files others words task force other → one ≡ other

-- The plan of words is sound, where all files stand at clean paths.
abbrev pub PlansAreSound : Type 0
PlansAreSound =
    (files : Files) (paths words : List (List ℕ)) (task : Option (List ℕ)) (force : Bool) (plan : Plan) → AreClean files → IsListing [] files paths → HasPlan files paths words task force plan → IsSound plan

-- Each task of the plan of words is a target, or one that another task needs directly.
abbrev pub PlansAreWanted : Type 0
PlansAreWanted = (files : Files) (paths words : List (List ℕ)) (task : Option (List ℕ)) (force : Bool) (plan : Plan) → HasPlan files paths words task force plan → AreWanted plan

-- The plan of words is blind by the reading of its keys, where no task of it has anything left out of its key: where a dry run prints no
-- `excluded`. So it is whatever scripts give.
abbrev pub PlansAreBlind : Type 0
PlansAreBlind =
    (gives : Gives) (files : Files) (paths words : List (List ℕ)) (task : Option (List ℕ)) (force : Bool) (plan : Plan) → HasPlan files paths words task force plan → IsWhole plan
    → All (IsBlind gives key_reading) plan.tasks

-- Words may have their first run, on an empty disk, where no task of their plan has anything left out of its key, and no two contents of the
-- clean build have one digest.
abbrev pub WordsBeginFirst : Type 0
WordsBeginFirst =
    (gives : Gives) (files : Files) (paths words : List (List ℕ)) (task : Option (List ℕ)) (force : Bool) (plan : Plan) → AreClean files → IsListing [] files paths → HasPlan files paths words task force plan
    → IsWhole plan → HasNoClash gives key_reading nothing [] plan.tasks → MayBegin gives key_reading [] nothing plan
