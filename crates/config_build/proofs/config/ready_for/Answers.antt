use Rattle.std.proofs.Common.{sym, subst, ℕ, List}
use Rattle.outside_traits.specs.Passes.{Passes}
use Rattle.outside_traits.proofs.Calls.{syncs_passes}
use Rattle.multi_config.specs.Parts.{MakesReady}
use Rattle.config_build.proofs.Ways.{empty_of}
use Rattle.config_build.proofs.config.ready_for.Goals as goal

pub returns-then-is_empty-clause-way : goal.returns-then-is_empty-clause-way
returns-then-is_empty-clause-way g c told =
    let before = g.D.Disk.story c.args.disk.now in
    let empty = empty_of c.args.mc.now c.is_empty.result c.is_empty.ensures c.if-is_empty.true in
    subst (λ (m : List ℕ). Passes before (g.D.Disk.story c.sync.new.self) (MakesReady m before.held)) (sym empty) (syncs_passes (g.met.D.Disk.sound c.args.disk.now told) (c.sync.ensures.told told))
