-- What is left at each moment of a clearing.
use Rattle.std.proofs.Common.{sym, subst, refl, ℕ, inl, inr, Bool, List, Option, None, Some}
use Rattle.std.specs.Prelude.{IfSome}
use Rattle.std.specs.List.{AllByRecursion}
use Rattle.outside_traits.specs.Store.{Store}
use Rattle.outside_traits.proofs.Runs.{each_since}
use Rattle.meta_model.specs.CleanBuild.{Gives}
use Rattle.meta_model.specs.declared.plan.Plan.{Plan}
use Rattle.store_model.specs.declared.signature.EquivRow.{EquivRow}
use Rattle.store_model.specs.Lines.{HasLine}
use Rattle.store_model.specs.Opened.{IsOpened}
use Rattle.store_model.specs.Origins.{Book, Line, Reading}
use Rattle.store_model.specs.Readable.{IsReadable}
use Rattle.store_model.specs.Valid.{IsValid, StandsIn}
use Rattle.run_model.specs.Headline.{MayBegin}
use Rattle.run_model.specs.Opening.{MayTake}
use Rattle.store_opening.specs.Opening.{Clears}
use Rattle.store_opening.specs.Reopened.{IsBookAgain}
use Rattle.store_opening.proofs.Reopened.{cleared_is_valid, opened_is_valid}
use Rattle.book_change.specs.Going.{kept_of, stays}
use Rattle.store_clean.specs.Cleared.{IsClearing, is_there}
use Rattle.store_clean.specs.Deciding.{IsDecided, keeps}
use Rattle.store_clean.specs.Laws.{IsPartThere}
use Rattle.store_clean.proofs.Valid.{clearing_is_valid}
use Rattle.store_clean.proofs.Whence.{was_in}
use Rattle.plan_clean.specs.Along.{IsAlong, clears, opens, roots_over}
use Rattle.plan_clean.specs.Laws.{AreTasksKept, ClearingLeaves, IsLeftPart}
use Rattle.plan_clean.proofs.Kept.{kept_of_whole, kept_while_opening, whole_cleared, whole_opened, whole_then}

-- a run that may take of a valid book with readable lines may begin
pub begins_with : (gives : Gives) (reading : Reading) (image : Store) (part : Book) → IsValid gives reading image part → AllByRecursion IsReadable part → (other : Plan) → MayTake gives reading image part other.tasks → MayBegin gives reading part image other
begins_with gives reading image part valid readable other may = record { valid = valid; readable = readable; may = may }

module _ (gives : Gives) (reading : Reading) (book : Book) (held : Store) (valid : IsValid gives reading held book) (readable : AllByRecursion IsReadable book) where
  -- ---- while the store is opened

  tasks_opening : (image : Store) → Clears held held image → (plan : Option Plan) → IfSome plan (AreTasksKept held image book book)
  tasks_opening image left None = tt
  tasks_opening image left (Some plan) = λ setscene n s at place. kept_while_opening held image left book plan.tasks setscene n s at place

  left_opening : (plan : Option Plan) (image : Store) → Clears held held image → IsLeftPart gives reading book plan held image
  left_opening plan image left =
      let there = cleared_is_valid held held image left gives reading book valid readable book valid in
      record {
        part = book;
        among = λ before line s. (before, s);
        valid = there;
        readable = readable;
        begins = begins_with gives reading image book there readable;
        tasks = tasks_opening image left plan;
      }

  -- ---- once it is opened

  module _ (opened : Store) (rows : List EquivRow) (o : IsOpened held opened rows) where
    again : IsBookAgain gives reading book opened rows
    again = opened_is_valid held opened rows o gives reading book valid readable

    tasks_opened : (plan : Option Plan) → IfSome plan (AreTasksKept held opened book again.again)
    tasks_opened None = tt
    tasks_opened (Some plan) = λ setscene n s at place.
        kept_of_whole held opened book again.again plan.tasks setscene n s (whole_opened gives reading held opened rows book again.again o valid.lines again.valid.lines again.same plan.tasks setscene n s at place)

    left_opened : (plan : Option Plan) → IsLeftPart gives reading book plan held opened
    left_opened plan = record {
      part = again.again;
      among = again.same.only;
      valid = again.valid;
      readable = again.readable;
      begins = begins_with gives reading opened again.again again.valid again.readable;
      tasks = tasks_opened plan;
    }

    -- ---- while it is cleared

    module _ (limit : ℕ) (image : Store) (marks : List Bool) (cl : IsClearing rows (keeps rows marks) opened image) where
      there : IsPartThere gives reading (keeps rows marks) again.again image
      there = clearing_is_valid held opened image rows (keeps rows marks) o cl gives reading again.again again.valid again.readable again.rows_are

      abbrev Part : Book
      Part = kept_of (is_there image) again.again

      tasks_cleared : (plan : Option Plan) → IsDecided rows (roots_over plan rows) limit marks → IfSome plan (AreTasksKept held image book Part)
      tasks_cleared None decided = tt
      tasks_cleared (Some plan) decided = λ setscene n s at place.
          let first = whole_opened gives reading held opened rows book again.again o valid.lines again.valid.lines again.same plan.tasks setscene n s at place in
          let second = whole_cleared held opened image rows o plan.tasks limit marks decided again.again again.rows_are cl gives reading there setscene n s first.signed in
          kept_of_whole held image book Part plan.tasks setscene n s (whole_then held opened image book again.again Part plan.tasks setscene n s first second)

      among_book : (before : Book) (line : Line) → StandsIn Part before line → HasLine book line
      among_book before line s = let w = was_in (stays (is_there image)) again.again before line s in again.same.only w.was line w.at

      left_clearing : (plan : Option Plan) → IsDecided rows (roots_over plan rows) limit marks → IsLeftPart gives reading book plan held image
      left_clearing plan decided = record {
        part = Part;
        among = among_book;
        valid = there.valid;
        readable = there.readable;
        begins = begins_with gives reading image Part there.valid there.readable;
        tasks = tasks_cleared plan decided;
      }

  left_along : (plan : Option Plan) (limit : ℕ) (image : Store) → IsAlong plan limit held held image → IsLeftPart gives reading book plan held image
  left_along plan limit image (opens left) = left_opening plan image left
  left_along plan limit image (clears opened rows o (inl same)) = subst (IsLeftPart gives reading book plan held) (sym same) (left_opened opened rows o plan)
  left_along plan limit image (clears opened rows o (inr w)) = left_clearing opened rows o limit image w.0 w.2 plan w.1

pub clearing_leaves : ClearingLeaves
clearing_leaves plan limit old new durable run gives reading book valid readable image (inl since) =
    let w = each_since (λ i. opens (record { left = λ q is. refl })) run image since in
    left_along gives reading book old.held valid readable plan limit image (subst (λ (e : Store). IsAlong plan limit old.held e image) (durable w.0 w.1) w.2)
clearing_leaves plan limit old new durable run gives reading book valid readable image (inr now) =
    subst (IsLeftPart gives reading book plan old.held) (sym now) (left_along gives reading book old.held valid readable plan limit new.held run.held)
