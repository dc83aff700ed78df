-- What is proved of plans of parts.
use Rattle.std.specs.Prelude.{◌≡◌, ℕ, Bool, List, []}
use Rattle.outside_traits.specs.Store.{IsListing}
use Rattle.meta_model.specs.declared.event.Status.{Status}
use Rattle.meta_model.specs.declared.plan.Plan.{Plan}
use Rattle.plan_model.specs.Inputs.{Files}
use Rattle.plan_model.specs.Sound.{AreClean, AreWanted, IsSound}
use Rattle.multi_config.specs.declared.parts.ConfigTargets.{ConfigTargets}
use Rattle.multi_config.specs.Plans.{HasPartPlan, IsPartRefused}

-- A part has one plan.
abbrev pub PartPlansAreOne : Type 0
PartPlansAreOne =
    (files : Files) (paths others : List (List ℕ)) (part : ConfigTargets) (force : Bool) (one other : Plan) → IsListing [] files paths → IsListing [] files others
    → HasPartPlan files paths part force one → HasPartPlan files others part force other → one ≡ other

-- The plan of a part is sound, where all files stand at clean paths.
abbrev pub PartPlansAreSound : Type 0
PartPlansAreSound = (files : Files) (paths : List (List ℕ)) (part : ConfigTargets) (force : Bool) (plan : Plan) → AreClean files → HasPartPlan files paths part force plan → IsSound plan

-- Each task of the plan of a part is a target, or one that another task needs directly.
abbrev pub PartPlansAreWanted : Type 0
PartPlansAreWanted = (files : Files) (paths : List (List ℕ)) (part : ConfigTargets) (force : Bool) (plan : Plan) → HasPartPlan files paths part force plan → AreWanted plan

-- A part that has a plan isn't refused.
abbrev pub PartPlansAreNotRefused : Type 0
PartPlansAreNotRefused =
    (files : Files) (paths others : List (List ℕ)) (part : ConfigTargets) (force : Bool) (plan : Plan) (status : Status) → IsListing [] files paths → IsListing [] files others
    → HasPartPlan files paths part force plan → IsPartRefused files others part force status → ⊥
