-- Words of which nothing is left out may have their first run.
use Rattle.run_model.specs.Headline.{nothing}
use Rattle.plan_model.specs.Blind.{key_reading}
use Rattle.plan_model.proofs.Blinded.{first_may_reuse}
use Rattle.target_plan.proofs.OnePlan.{plan_of_words_is_blind, plan_of_words_is_sound}
use Rattle.answer_model.specs.PlanLaws.{WordsBeginFirst}
use Rattle.bitbake_top.proofs.Kept.{begins_first}

pub words_begin_first : WordsBeginFirst
words_begin_first gives files paths words task force plan clean listing has whole clash =
    let sound = plan_of_words_is_sound files paths words task force plan clean listing has in
    let blind = plan_of_words_is_blind gives files paths words task force plan has whole in
    begins_first gives key_reading plan (λ none. first_may_reuse gives key_reading nothing plan sound blind clash)
