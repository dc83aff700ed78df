use Rattle.std.proofs.Common.{sym, subst}
use Rattle.outside_traits.specs.Store.{Store}
use Rattle.store_upgrade.specs.Steps.{RoundIsPut}
use Rattle.store_upgrade.proofs.Called.{on_ok_of}
use Rattle.store_upgrade.proofs.records.put_synced.Goals as goal

pub returns-clause-put : goal.returns-clause-put
returns-clause-put g c told =
    on_ok_of c.sync.result (subst (λ (h : Store). RoundIsPut c.args.added.now c.args.round (g.D.Disk.story c.args.disk.now).held h) (sym (c.sync.ensures.same told).held) (c.in_ok-put_round.ensures.put told))
