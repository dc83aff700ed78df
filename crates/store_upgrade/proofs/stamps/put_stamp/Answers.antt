use Rattle.std.proofs.Common.{◌∙◌, sym, subst}
use Rattle.outside_traits.specs.Store.{IsFree}
use Rattle.store_upgrade.proofs.Stamped.{free_held}
use Rattle.store_upgrade.proofs.stamps.put_stamp.Goals as goal

pub put_staged-requires-clause-free : goal.put_staged-requires-clause-free
put_staged-requires-clause-free g c told =
    subst (IsFree (g.D.Disk.story c.args.disk.now).held) (sym (c.as_str-2.ensures ∙ c.in_ok-to.ensures)) (free_held (g.D.Disk.story c.args.disk.now) (g.met.D.Disk.sound c.args.disk.now told) _ (c.requires.held told))
