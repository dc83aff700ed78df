use Rattle.target_plan.proofs.OnePlan.{plan_of_words_is_blind, plans_are_one, plan_of_words_is_sound, plan_of_words_is_wanted, plan_not_refused}
use Rattle.target_plan.proofs.laws.plan_laws.Goals as goal

pub returns-clause-one : goal.returns-clause-one
returns-clause-one c = λ files paths others words task force p q l k. plans_are_one files paths others words task force l k p q

pub returns-clause-sound : goal.returns-clause-sound
returns-clause-sound c = plan_of_words_is_sound

pub returns-clause-wanted : goal.returns-clause-wanted
returns-clause-wanted c = plan_of_words_is_wanted

pub returns-clause-told : goal.returns-clause-told
returns-clause-told c = λ files paths others words task force p status l k. plan_not_refused files paths others words task force l k p status

pub returns-clause-blind : goal.returns-clause-blind
returns-clause-blind c = plan_of_words_is_blind
