-- What is kept of a store for the keys of its tasks.
use Rattle.std.specs.Prelude.{◌≡◌, ℕ, List, Ok, codes}
use Rattle.task_model.specs.Leads.{value_words}
use Rattle.var_deps.specs.declared.exports.Exports.{Exports}
use Rattle.var_deps.specs.declared.table.Table.{Table}
use Rattle.var_deps.specs.Exports.{AreExports}
use Rattle.var_deps.specs.Kept.{IsRight}

-- What is kept is right, and the words that say which names are left out, and which tasks are of the shared state, are the store's.
pub record IsOfStore (table : Table) (exports : Exports) (sstate : List (List ℕ)) : Type 0 where
  pub right : IsRight table.shared
  pub reached : AreExports table.shared.seen.store.now table.shared.ignored exports
  pub left_out : value_words table.shared.seen.store.now (codes "BB_BASEHASH_IGNORE_VARS") ≡ Ok table.shared.ignored
  pub given : value_words table.shared.seen.store.now (codes "SSTATETASKS") ≡ Ok sstate
