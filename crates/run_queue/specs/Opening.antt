-- What is asked of a run where it begins.
use Rattle.std.specs.Prelude.{◌≡◌}
use Rattle.std.specs.List.{AllByRecursion}
use Rattle.outside_traits.specs.Passes.{EachNow}
use Rattle.outside_traits.specs.Store.{IsTreelike}
use Rattle.meta_model.specs.declared.plan.Plan.{Plan}
use Rattle.store_model.specs.Opened.{HasNoLitter, HasWay}
use Rattle.store_model.specs.Readable.{IsReadable}
use Rattle.store_model.specs.Valid.{IsValid}
use Rattle.plan_model.specs.Sound.{IsSound}
use Rattle.plan_model.specs.Spellings.{HasSpellings}
use Rattle.run_model.specs.Opening.{MayTake, Opening}

-- The premises of a run over an opening: what was held is valid with the book, and durable, and nothing of it stands above another; opening has made
-- way for folders, and left no litter; where no line has the name of one of the plan's tasks and another signature, the plan may reuse the book, so it is
-- blind, and no contents clash; the book's lines can be read again; and a program can hold the signatures of the plan's tasks.
pub record MayRun (o : Opening) (plan : Plan) : Type 0 where
  pub sound : IsSound plan
  pub valid : IsValid o.gives o.reading o.story.held o.book
  pub may : MayTake o.gives o.reading o.story.held o.book plan.tasks
  pub durable : EachNow o.story (λ image. image ≡ o.story.held)
  pub way : HasWay o.story.held
  pub swept : HasNoLitter o.story.held
  pub treelike : IsTreelike o.story.held
  pub readable : AllByRecursion IsReadable o.book
  pub spellings : HasSpellings plan
