use Rattle.std.proofs.Common.{refl}
use Rattle.std.proofs.lemmas.Result.{IfErr-weaker}
use Rattle.sstate_mirror.specs.Refusals.{IsNoFinding}
use Rattle.sstate_mirror.proofs.Refused.{disk_none, none_cause, none_difference}
use Rattle.outside_traits.specs.Passes.{Same}
use Rattle.outside_traits.proofs.Runs.{passes_none}
use Rattle.store_opening.proofs.Opened.{has_way}
use Rattle.sstate_mirror.proofs.Coming.{HasCause, all_came, cause_so, way_cleared, way_opened}
use Rattle.sstate_mirror.proofs.opening.bring_store.Goals as goal

pub returns-in_err-own-clause-clash : goal.returns-in_err-own-clause-clash
returns-in_err-own-clause-clash g c told tells =
    IfErr-weaker c.from_residual.result IsNoFinding (HasCause (g.M.Disk.story c.args.mirror.now).held (g.D.Disk.story c.args.disk.now).held) (λ fault none gives reading start theirs both. none_cause fault none)
    (disk_none c.from_residual.result c.in_err-own.field-0.0 c.from_residual.ensures.1)

pub returns-in_err-own-clause-differs : goal.returns-in_err-own-clause-differs
returns-in_err-own-clause-differs g c tells =
    IfErr-weaker c.from_residual.result IsNoFinding _ (λ fault none theirs are. none_difference theirs fault none)
    (disk_none c.from_residual.result c.in_err-own.field-0.0 c.from_residual.ensures.1)

pub returns-in_err-own-clause-way : goal.returns-in_err-own-clause-way
returns-in_err-own-clause-way g c told =
    way_cleared g.M.Disk.tells c.args.wanted.now (g.M.Disk.story c.args.mirror.now).held (g.D.Disk.story c.args.disk.now) (g.D.Disk.story c.open_disk.new.disk) (g.met.D.Disk.sound c.args.disk.now told) (c.requires.fresh told) (c.in_err-own.ensures.images told)

pub returns-in_err-own-clause-same : goal.returns-in_err-own-clause-same
returns-in_err-own-clause-same g c tells = passes_none (g.M.Disk.story c.args.mirror.now) Same (λ i. refl)

pub returns-clause-done : goal.returns-clause-done
returns-clause-done g c told tells =
    all_came c.args.wanted.now (g.M.Disk.story c.args.mirror.now).held (g.D.Disk.story c.args.disk.now).held (g.D.Disk.story c.open_disk.new.disk).held (g.D.Disk.story c.bring.new.disk).held c.in_ok-own.own
    (c.in_ok-own.ensures.opened told) c.bring.result (c.bring.ensures.done told tells)

pub returns-clause-clash : goal.returns-clause-clash
returns-clause-clash g c told tells =
    cause_so c.args.wanted.now (g.M.Disk.story c.args.mirror.now).held (g.D.Disk.story c.args.disk.now).held (g.D.Disk.story c.open_disk.new.disk).held (g.D.Disk.story c.bring.new.disk).held c.in_ok-own.own
    (c.in_ok-own.ensures.opened told) c.bring.result (c.bring.ensures.clash told tells)

pub returns-clause-way : goal.returns-clause-way
returns-clause-way g c told =
    way_opened g.M.Disk.tells c.args.wanted.now (g.M.Disk.story c.args.mirror.now).held c.in_ok-own.own (g.D.Disk.story c.args.disk.now) (g.D.Disk.story c.open_disk.new.disk) (g.D.Disk.story c.bring.new.disk)
    (g.met.D.Disk.sound c.args.disk.now told) (c.requires.fresh told) (c.in_ok-own.ensures.images told) (c.in_ok-own.ensures.opened told) (g.met.D.Disk.sound c.open_disk.new.disk told) (c.in_ok-own.ensures.durable told)
    (c.bring.ensures.beside told) (λ tells. c.bring.ensures.images told tells)

pub bring-requires-clause-ready : goal.bring-requires-clause-ready
bring-requires-clause-ready g c told = record {
  laid = (c.in_ok-own.ensures.keeps told).laid_out;
  way = (has_way (g.D.Disk.story c.args.disk.now).held (g.D.Disk.story c.open_disk.new.disk).held c.in_ok-own.own (c.in_ok-own.ensures.opened told)).0.objects;
  durable = c.in_ok-own.ensures.durable told;
}
