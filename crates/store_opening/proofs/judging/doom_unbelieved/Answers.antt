use Rattle.std.proofs.Common.{subst, List, Bool, length}
use Rattle.std.proofs.lemmas.Result.{on_ok_weaker}
use Rattle.store_opening.specs.Survey.{DoomsUnmarked}
use Rattle.store_opening.proofs.Opened.{unbelieved_is}
use Rattle.store_opening.proofs.judging.doom_unbelieved.Goals as goal

pub returns : goal.returns
returns c =
    on_ok_weaker c.doom_unmarked.result (λ dooms. unbelieved_is c.args.candidates.now c.args.places.now c.in_ok-marks.marks.items c.args.doomed.now.items c.doom_unmarked.new.doomed.items c.in_ok-marks.ensures
    (subst (λ (l : List Bool). DoomsUnmarked c.args.candidates.now l (length c.args.candidates.now) c.args.doomed.now.items c.doom_unmarked.new.doomed.items) c.as_slice.ensures.value dooms)) c.doom_unmarked.ensures
