use Rattle.std.proofs.Common.{◌≡◌, subst, IfOk, filter, is_some, List, ℕ}
use Rattle.meta_model.specs.Base as base
use Rattle.meta_model.specs.Text.{is_in}
use Rattle.datastore.specs.Store.{all_entries}
use Rattle.datastore.proofs.store.Datastore.flagged.Goals as goal

pub returns-clause-names : goal.returns-clause-names
returns-clause-names c = subst (λ l. IfOk c.flagged.result (λ made. made ≡ filter (λ t. is_some (base.flag l t c.args.flag.now)) (base.names l))) c.self.view_is
    (c.flagged.ensures.names (all_entries c.self.inside.maps c.self.inside.past.items c.self.inside.entries.items) c.self.invariant.keeps)

pub returns-clause-all : goal.returns-clause-all
returns-clause-all c = subst (λ l. IfOk c.flagged.result (λ made. (t : List ℕ) → is_in t made ≡ is_some (base.flag l t c.args.flag.now))) c.self.view_is
    (c.flagged.ensures.all (all_entries c.self.inside.maps c.self.inside.past.items c.self.inside.entries.items) c.self.invariant.keeps)
