use Rattle.std.proofs.Common.{refl, sym, ◌∙◌, ap}
use Rattle.std.specs.Option.{is_some}
use Rattle.std.proofs.lemmas.Bool.{false≢true}
use Rattle.outside_traits.specs.Passes.{Same}
use Rattle.outside_traits.proofs.Runs.{passes_none}
use Rattle.outside_traits.proofs.Steps.{puts_held, puts_written}
use Rattle.outside_traits.proofs.filling.put_entry.Goals as goal
use Rattle.outside_traits.proofs.filling.put_entry.Goals.{else-may_be_held-via-then-may_be_held+in_ok-holds+else-branch, else-may_be_held-via-else-may_be_held}

pub returns-clause-puts : goal.returns-clause-puts
returns-clause-puts g c told = elim c.else-may_be_held.branch [
  | else-may_be_held-via-then-may_be_held+in_ok-holds+else-branch w ↦
      puts_written (rw w.if-branch.false at (w.in_ok-holds.ensures.found told)) (w.in_ok-holds.ensures.others told) (rw w.disk-is at (c.write.ensures.told told))
  | else-may_be_held-via-else-may_be_held w ↦
      puts_written (λ is. false≢true (sym w.if-may_be_held.false ∙ c.requires.told told (ap is_some is)))
      (passes_none (g.D.Disk.story c.args.disk.now) Same (λ i. refl)) (rw w.disk-is at (c.write.ensures.told told))
]

pub returns-in_err-holds-clause-puts : goal.returns-in_err-holds-clause-puts
returns-in_err-holds-clause-puts g c told = puts_held (c.holds.ensures.others told)
