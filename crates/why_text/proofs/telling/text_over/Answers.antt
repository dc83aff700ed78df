use Rattle.std.proofs.Common.{◌∙◌, ap, sym, subst, List}
use Rattle.outside_traits.specs.Store.{Store}
use Rattle.store_model.specs.declared.signature.EquivRow.{EquivRow}
use Rattle.setscene_plan.specs.Names.{unihashes_over}
use Rattle.setscene_plan.specs.Replans.{avail_in, need_in}
use Rattle.why_text.specs.Telling.{AreTold}
use Rattle.why_text.proofs.WholeText.{over, whole}
use Rattle.why_text.proofs.telling.text_over.Goals as goal

pub told-requires-clause-over : goal.told-requires-clause-over
told-requires-clause-over g c =
    over g.D.Disk.tells (g.D.Disk.story c.args.disk).held c.args.rows c.args.setscene c.args.plan.now c.in-Ok.replan c.requires.ordered c.in-Ok.ensures.current
    ∙ ap (λ (rs : List EquivRow). unihashes_over rs c.args.plan.now.tasks) (sym c.in-Ok.ensures.rows)

pub returns-in-Ok-told-clause-text : goal.returns-in-Ok-told-clause-text
returns-in-Ok-told-clause-text g c told judged =
    let held = (g.D.Disk.story c.args.disk).held in
    let known = c.in-Ok.replan in
    let lines : AreTold held c.known_of-known.new.judged.rows c.args.plan.now (avail_in known) (need_in known) c.args.force c.in-Ok-told.text =
    subst (λ (h : Store). AreTold h c.known_of-known.new.judged.rows c.args.plan.now (avail_in known) (need_in known) c.args.force c.in-Ok-told.text) (c.in-Ok.ensures.same told).held (c.in-Ok-told.ensures.told told) in
    whole g.D.Disk.tells held c.args.rows c.args.setscene c.args.plan.now known c.requires.ordered c.in-Ok.ensures.current c.args.force c.in-Ok-told.text told judged
    (subst (λ (rs : List EquivRow). AreTold held rs c.args.plan.now (avail_in known) (need_in known) c.args.force c.in-Ok-told.text) c.in-Ok.ensures.rows lines)
