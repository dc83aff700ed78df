-- In each era a run may begin, and one that answers Ok is exact.
use Rattle.std.proofs.Common.{[], ◌++◌}
use Rattle.outside_traits.specs.Store.{Store}
use Rattle.meta_model.specs.CleanBuild.{Gives}
use Rattle.store_model.specs.Origins.{Reading}
use Rattle.store_model.proofs.Lasting.{empty_is_valid}
use Rattle.run_model.specs.Headline.{Keeps}
use Rattle.run_model.specs.Era.{Call, ErasAreExact, ErasGoOn, HasBook, IsPromised, MayTakeAny, begins, goes_on}
use Rattle.bitbake_top.proofs.Kept.{begins_again, begins_first}

-- a call that may reuse what is valid keeps what it promised, by the book that is there
kept_by : (gives : Gives) (reading : Reading) (held : Store) (call : Call) (there : HasBook gives reading held) → MayTakeAny gives reading held call.plan → IsPromised gives reading held call
    → Keeps gives reading there.book held call.plan call.options call.tales call.status call.story call.before call.now
kept_by gives reading held call there may promised = promised there.book (there.begins call.plan (may there.book there.valid))

pub eras_go_on : ErasGoOn
eras_go_on gives reading held begins = record { book = []; valid = empty_is_valid gives reading; begins = begins_first gives reading }
eras_go_on gives reading held (goes_on before call image era may promised since) =
    let there = eras_go_on gives reading before era in
    let crash = (kept_by gives reading before call there may promised).crashes image since in
    record { book = crash.again ++ crash.lines; valid = crash.valid; begins = begins_again gives reading there.book image crash }

pub eras_are_exact : ErasAreExact
eras_are_exact gives reading held call era may promised ok =
    (kept_by gives reading held call (eras_go_on gives reading held era) may promised).exact ok
