use Rattle.std.proofs.Common.{◌∙◌, ap, sym, subst, Ok}
use Rattle.meta_model.specs.Frozen as frozen
use Rattle.value_maps.specs.Maps.{Keeps}
use Rattle.datastore.specs.Anew.{IsAnew}
use Rattle.datastore.specs.Store.{all_entries}
use Rattle.datastore.proofs.Retold.{moved_view, frozen_moved}
use Rattle.datastore.proofs.store.Datastore.freeze.Goals as goal

pub invariant_of-result : goal.invariant_of-result
invariant_of-result c =
    let old = c.self.inside.maps in
    let past = c.self.inside.past.items in
    let own = c.self.inside.entries in
    let list = all_entries old past own.items in
    let made = c.in_ok-maps.maps in
    let now = c.in_ok-past.past.items in
    let is = subst (λ l. IsAnew l old c.in_ok-anew.anew) (sym c.self.view_is) c.in_ok-anew.ensures.ok in
    let p = c.in_ok-maps.ensures list c.self.invariant.keeps is in
    let view = ap (all_entries made now) c.new.ensures.items ∙ moved_view old made past now own p.0 c.in_ok-past.ensures in
    record { keeps = subst (λ l. Keeps l made) (sym view) p.1; settles = tt }

pub returns-clause-ok : goal.returns-clause-ok
returns-clause-ok c =
    let old = c.self.inside.maps in
    let past = c.self.inside.past.items in
    let own = c.self.inside.entries in
    let list = all_entries old past own.items in
    let made = c.in_ok-maps.maps in
    let now = c.in_ok-past.past.items in
    let is = subst (λ l. IsAnew l old c.in_ok-anew.anew) (sym c.self.view_is) c.in_ok-anew.ensures.ok in
    let p = c.in_ok-maps.ensures list c.self.invariant.keeps is in
    let view = ap (all_entries made now) c.new.ensures.items ∙ moved_view old made past now own p.0 c.in_ok-past.ensures in
    ap frozen.frozen (sym c.self.view_is) ∙ frozen_moved list old c.in_ok-anew.anew c.self.invariant.keeps is ∙ ap Ok (sym view)
