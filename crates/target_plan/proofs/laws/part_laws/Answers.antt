use Rattle.target_plan.proofs.Parts.{part_plan_not_refused, part_plans_are_one, plan_of_part_is_sound, plan_of_part_is_wanted}
use Rattle.target_plan.proofs.laws.part_laws.Goals as goal

pub returns-clause-one : goal.returns-clause-one
returns-clause-one c = λ files paths others part force p q l k. part_plans_are_one files paths others part l k force p q

pub returns-clause-sound : goal.returns-clause-sound
returns-clause-sound c = λ files paths part force. plan_of_part_is_sound files paths part force

pub returns-clause-wanted : goal.returns-clause-wanted
returns-clause-wanted c = λ files paths part force. plan_of_part_is_wanted files paths part force

pub returns-clause-told : goal.returns-clause-told
returns-clause-told c = λ files paths others part force p status l k. part_plan_not_refused files paths others part l k force p status
