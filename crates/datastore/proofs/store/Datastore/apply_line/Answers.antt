use Rattle.std.proofs.Common.{subst, sym, IfSome}
use Rattle.datastore.specs.Looked.{AreOf}
use Rattle.value_maps.specs.Maps.{Keeps}
use Rattle.datastore.specs.Store.{all_entries}
use Rattle.value_maps.proofs.Keeping.{keeps_step}
use Rattle.datastore.proofs.Storing.{entries_step}
use Rattle.datastore.proofs.store.Datastore.apply_line.Goals as goal

pub invariant_of-self-2 : goal.invariant_of-self-2
invariant_of-self-2 c =
    let old = c.self.inside.maps in
    let past = c.self.inside.past.items in
    let new = c.change.new.self in
    let own = c.self.inside.entries.items in
    let line = c.args.line in
    let goes = c.in_ok-change.ensures.ok in
    let more = c.push_reserved.new.self.items in
    record {
      keeps = subst (λ l. Keeps l new) (entries_step old new past own c.reserve.new.self.items more line goes.same c.in_ok-reserve.ensures.items c.push_reserved.ensures.items) (keeps_step (all_entries old past own) old new line c.self.invariant.keeps goes);
      settles = subst (λ o. IfSome o (AreOf (all_entries new past more))) (sym c.forget.ensures) tt;
    }
