use Rattle.std.proofs.Common.{◌∙◌, sym, subst, refl, List}
use Rattle.meta_model.specs.CleanBuild.{Gives}
use Rattle.outside_traits.specs.Store.{Store}
use Rattle.outside_traits.proofs.Runs.{passes_so}
use Rattle.store_model.specs.declared.signature.EquivRow.{EquivRow}
use Rattle.store_model.specs.Origins.{Book, Reading}
use Rattle.store_upgrade.proofs.Called.{passes_start}
use Rattle.sstate_mirror.specs.Brought.{Brings, HoldBoth, StaysBeside}
use Rattle.sstate_mirror.specs.Steps.{IsWritten}
use Rattle.sstate_mirror.proofs.Done.{is_done, no_items}
use Rattle.sstate_mirror.proofs.Moments.{brings, brings_start}
use Rattle.store_opening.specs.Survey.{AreJudged}
use Rattle.sstate_mirror.specs.declared.fault.BringFault.{BringFault}
use Rattle.sstate_mirror.specs.Faults.{IsCauseOf, IsDifference}
use Rattle.sstate_mirror.proofs.Refused.{err_of, find_cause, find_difference, none_cause, none_difference}
use Rattle.sstate_mirror.proofs.bringing.bring.Goals as goal

pub returns-in_err-moved-clause-images : goal.returns-in_err-moved-clause-images
returns-in_err-moved-clause-images g c told tells =
    passes_start (g.D.Disk.story c.args.disk.now) (Brings c.args.wanted.now c.args.own (g.M.Disk.story c.args.mirror.now).held (g.D.Disk.story c.args.disk.now).held) (g.met.D.Disk.sound c.args.disk.now told) (c.requires.ready told).durable
    (brings_start c.args.wanted.now c.args.own (g.M.Disk.story c.args.mirror.now).held (g.D.Disk.story c.args.disk.now).held)

pub returns-in_err-moved-clause-beside : goal.returns-in_err-moved-clause-beside
returns-in_err-moved-clause-beside g c told =
    passes_start (g.D.Disk.story c.args.disk.now) (StaysBeside (g.D.Disk.story c.args.disk.now).held) (g.met.D.Disk.sound c.args.disk.now told) (c.requires.ready told).durable (λ q b. refl)

pub returns-in_err-objects-clause-images : goal.returns-in_err-objects-clause-images
returns-in_err-objects-clause-images g c told tells =
    passes_so (λ i k. Brings c.args.wanted.now c.args.own (g.M.Disk.story c.args.mirror.now).held (g.D.Disk.story c.args.disk.now).held k) (c.in_err-objects.ensures.images told)
    (λ i k w. brings c.args.wanted.now c.args.own (g.M.Disk.story c.args.mirror.now).held (g.D.Disk.story c.args.disk.now).held k c.in_ok-moved.moved (c.in_ok-moved.ensures.found tells) w)

pub returns-clause-images : goal.returns-clause-images
returns-clause-images g c told tells =
    passes_so (λ i k. Brings c.args.wanted.now c.args.own (g.M.Disk.story c.args.mirror.now).held (g.D.Disk.story c.args.disk.now).held k) (c.in_ok-objects.ensures.images told)
    (λ i k w. brings c.args.wanted.now c.args.own (g.M.Disk.story c.args.mirror.now).held (g.D.Disk.story c.args.disk.now).held k c.in_ok-moved.moved (c.in_ok-moved.ensures.found tells) w)

pub returns-in_err-objects-clause-beside : goal.returns-in_err-objects-clause-beside
returns-in_err-objects-clause-beside g c told = passes_so (λ i k. StaysBeside (g.D.Disk.story c.args.disk.now).held k) (c.in_err-objects.ensures.images told) (λ i k w. w.beside)

pub returns-clause-beside : goal.returns-clause-beside
returns-clause-beside g c told = passes_so (λ i k. StaysBeside (g.D.Disk.story c.args.disk.now).held k) (c.in_ok-objects.ensures.images told) (λ i k w. w.beside)

pub returns-clause-done : goal.returns-clause-done
returns-clause-done g c told tells =
    is_done c.args.wanted.now c.args.own (g.M.Disk.story c.args.mirror.now).held (g.D.Disk.story c.args.disk.now).held (g.D.Disk.story c.write_moved.new.disk).held c.in_ok-moved.moved c.in_ok-objects.objects c.brought_of.result
    (c.in_ok-moved.ensures.found tells)
    (subst (λ (h : Store). IsWritten c.in_ok-moved.moved h (g.D.Disk.story c.args.disk.now).held (g.D.Disk.story c.write_moved.new.disk).held c.in_ok-objects.objects) (c.in_ok-moved.ensures.same tells).held (c.in_ok-objects.ensures.written told tells))
    c.in_ok-objects.ensures.spells c.brought_of.ensures.rows c.brought_of.ensures.records c.brought_of.ensures.objects

pub returns-in_err-moved-clause-clash : goal.returns-in_err-moved-clause-clash
returns-in_err-moved-clause-clash g c told tells =
    err_of (λ (fault : BringFault). (gives : Gives) (reading : Reading) (start theirs : Book) → HoldBoth gives reading c.args.own (g.D.Disk.story c.args.disk.now).held (g.M.Disk.story c.args.mirror.now).held start theirs → IsCauseOf fault)
    c.from_residual.result c.in_err-moved.field-0.0 c.from_residual.ensures.1
    (find_cause c.args.wanted.now c.args.own (g.M.Disk.story c.args.mirror.now).held (g.D.Disk.story c.args.disk.now).held c.in_err-moved.field-0.0 (c.in_err-moved.ensures.refused tells))

pub returns-in_err-moved-clause-differs : goal.returns-in_err-moved-clause-differs
returns-in_err-moved-clause-differs g c tells =
    err_of (λ (fault : BringFault). (theirs : List EquivRow) → AreJudged (g.M.Disk.story c.args.mirror.now).held theirs → IsDifference theirs fault)
    c.from_residual.result c.in_err-moved.field-0.0 c.from_residual.ensures.1
    (find_difference c.args.wanted.now c.args.own (g.M.Disk.story c.args.mirror.now).held c.in_err-moved.field-0.0 (c.in_err-moved.ensures.refused tells))

pub returns-in_err-objects-clause-clash : goal.returns-in_err-objects-clause-clash
returns-in_err-objects-clause-clash g c told tells =
    err_of (λ (fault : BringFault). (gives : Gives) (reading : Reading) (start theirs : Book) → HoldBoth gives reading c.args.own (g.D.Disk.story c.args.disk.now).held (g.M.Disk.story c.args.mirror.now).held start theirs → IsCauseOf fault)
    c.from_residual-in_err-objects.result c.in_err-objects.field-0.0 c.from_residual-in_err-objects.ensures.1
    (λ gives reading start theirs both. none_cause c.in_err-objects.field-0.0 c.in_err-objects.ensures.none)

pub returns-in_err-objects-clause-differs : goal.returns-in_err-objects-clause-differs
returns-in_err-objects-clause-differs g c tells =
    err_of (λ (fault : BringFault). (theirs : List EquivRow) → AreJudged (g.M.Disk.story c.args.mirror.now).held theirs → IsDifference theirs fault)
    c.from_residual-in_err-objects.result c.in_err-objects.field-0.0 c.from_residual-in_err-objects.ensures.1
    (λ theirs are. none_difference theirs c.in_err-objects.field-0.0 c.in_err-objects.ensures.none)

pub returns-clause-idle : goal.returns-clause-idle
returns-clause-idle g c told records objects =
    c.in_ok-objects.ensures.idle told (sym c.brought_of.ensures.objects ∙ objects) (no_items c.in_ok-moved.moved.added.items (sym c.brought_of.ensures.records ∙ records))
