-- In each era with clearings a run may begin, and one that answers Ok is exact.
use Rattle.std.proofs.Common.{sym, subst, ◌++◌, []}
use Rattle.std.specs.List.{AllByRecursion}
use Rattle.outside_traits.specs.Store.{Store}
use Rattle.meta_model.specs.CleanBuild.{Gives}
use Rattle.store_model.specs.Origins.{Book, Reading}
use Rattle.store_model.specs.Readable.{IsReadable}
use Rattle.store_model.specs.Valid.{IsValid}
use Rattle.store_model.proofs.Lasting.{empty_is_valid}
use Rattle.run_model.specs.Era.{Call, IsPromised, MayTakeAny}
use Rattle.run_model.specs.Headline.{Keeps}
use Rattle.plan_clean.specs.Era.{IsOfLongEra, LongErasAreExact, LongErasGoOn, begins, goes_on, is_cleared}
use Rattle.plan_clean.proofs.Left.{begins_with, clearing_leaves}

-- a book of readable lines with which what is held is valid
record HasReadable (gives : Gives) (reading : Reading) (held : Store) : Type 0 where
  book : Book
  valid : IsValid gives reading held book
  readable : AllByRecursion IsReadable book

-- a call that may reuse what is valid keeps what it promised, by the book that is there
kept_by : (gives : Gives) (reading : Reading) (held : Store) (call : Call) (there : HasReadable gives reading held) → MayTakeAny gives reading held call.plan → IsPromised gives reading held call
    → Keeps gives reading there.book held call.plan call.options call.tales call.status call.story call.before call.now
kept_by gives reading held call there may promised = promised there.book (begins_with gives reading held there.book there.valid there.readable call.plan (may there.book there.valid))

long_book : (gives : Gives) (reading : Reading) (held : Store) → IsOfLongEra gives reading held → HasReadable gives reading held
long_book gives reading held begins = record { book = []; valid = empty_is_valid gives reading; readable = tt }
long_book gives reading held (goes_on before call image era may promised since) =
    let crash = (kept_by gives reading before call (long_book gives reading before era) may promised).crashes image since in
    record { book = crash.again ++ crash.lines; valid = crash.valid; readable = crash.readable }
long_book gives reading held (is_cleared before old new image era c stands) =
    let there = long_book gives reading before era in
    let left = clearing_leaves c.plan c.limit old new c.durable c.along gives reading there.book (subst (λ (h : Store). IsValid gives reading h there.book) (sym c.at) there.valid) there.readable image stands in
    record { book = left.part; valid = left.valid; readable = left.readable }

pub long_eras_go_on : LongErasGoOn
long_eras_go_on gives reading held era =
    let there = long_book gives reading held era in
    record { book = there.book; valid = there.valid; begins = begins_with gives reading held there.book there.valid there.readable }

pub long_eras_are_exact : LongErasAreExact
long_eras_are_exact gives reading held call era may promised ok = (kept_by gives reading held call (long_book gives reading held era) may promised).exact ok
