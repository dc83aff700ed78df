-- What a crash leaves is valid with what had ended, and with lines of tasks that ran.
use Rattle.std.proofs.Common.{sym, subst, arith, List, [], length, take, append-nil}
use Rattle.std.specs.Prelude.{Option}
use Rattle.std.specs.List.{AllByRecursion}
use Rattle.std.proofs.lemmas.List.{take_all}
use Rattle.std.proofs.lemmas.Option.{none-some}
use Rattle.outside_traits.specs.Store.{Store}
use Rattle.meta_model.specs.declared.event.Avail.{Avail}
use Rattle.meta_model.specs.declared.event.Logged.{Logged}
use Rattle.meta_model.specs.declared.plan.Plan.{Plan}
use Rattle.store_model.specs.Origins.{Book}
use Rattle.store_model.specs.Readable.{IsReadable}
use Rattle.store_model.specs.Valid.{IsValid}
use Rattle.run_model.specs.Books.{book_after}
use Rattle.run_model.specs.Build.{IsLeftByRun}
use Rattle.run_model.specs.InFlight.{AreInFlight, IsValidAfter}
use Rattle.run_model.specs.Opening.{Opening}
use Rattle.run_queue.specs.Stands.{IsLeft, IsReadAfter}

-- ---- which tasks are in flight

none_flies : (plan : Plan) (told : List Logged) → AreInFlight plan told []
none_flies plan told = record {
  runs = λ k t here. absurd (none-some t here);
  apart = λ j k t u seat one other a b. absurd (none-some t one);
}

-- ---- what is valid after all events of a tale

module _ (o : Opening) (plan : Plan) (told : List Logged) (image : Store) where
  abbrev Book_now : Book
  Book_now = book_after o.gives plan o.book told

  -- with what has ended alone
  valid_alone : IsValid o.gives o.reading image (book_after o.gives plan o.book told) → IsValidAfter o plan told image
  valid_alone valid = record { in_flight = []; flies = none_flies plan told; valid = subst (IsValid o.gives o.reading image) (sym (append-nil Book_now)) valid; alone = tt }

  pub ended_alone : IsValid o.gives o.reading image (book_after o.gives plan o.book told) → AllByRecursion IsReadable (book_after o.gives plan o.book told) → IsReadAfter o plan told image
  unfolding valid_alone
  ended_alone valid readable = record { after = valid_alone valid; readable = subst (AllByRecursion IsReadable) (sym (append-nil Book_now)) readable }

  -- the whole tale is a front of itself
  pub after_all : IsReadAfter o plan told image → IsReadAfter o plan (take (length told) told) image
  after_all after = subst (λ (l : List Logged). IsReadAfter o plan l image) (sym (take_all (length told) told (omega arith))) after

-- What a crash left, as it is promised.
pub left_by_run : (o : Opening) (plan : Plan) (begun : List (Option Avail)) (tale : List Logged) (image : Store) → IsLeft o plan begun tale image → IsLeftByRun o plan tale image
left_by_run o plan begun tale image left = record { count = left.count; after = left.after.after; honest = left.honest }
