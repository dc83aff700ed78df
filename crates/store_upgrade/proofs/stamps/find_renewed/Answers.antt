use Rattle.std.proofs.Common.{subst, List}
use Rattle.store_opening.specs.Survey.{HeldFile}
use Rattle.store_upgrade.specs.Stamps.{IsRenewedAt}
use Rattle.store_upgrade.proofs.Stamped.{renewed_all}
use Rattle.store_upgrade.proofs.stamps.find_renewed.Goals as goal

pub returns-clause-renewed : goal.returns-clause-renewed
returns-clause-renewed g c told =
    renewed_all c.in_ok-names.names.entries c.in_ok-files.files.items c.in_ok-renewed_among.field-0.items c.args.moved.now (g.D.Disk.story c.args.disk.now).held (c.in_ok-files.ensures.read told) c.in_ok-names.ensures
    (subst (λ (l : List HeldFile). IsRenewedAt c.in_ok-names.names.entries l c.in_ok-renewed_among.field-0.items) c.deref.ensures.value c.in_ok-renewed_among.ensures.at)
