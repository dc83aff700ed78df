-- What is kept is of the store.
use Rattle.std.proofs.Common.{◌≡◌, sym, ◌∙◌, ap, subst, ℕ, List, Ok, codes}
use Rattle.meta_model.specs.declared.entry.EntryLine.{EntryLine}
use Rattle.meta_model.specs.Text.{is_in}
use Rattle.task_model.specs.Leads.{value_words}
use Rattle.task_model.specs.Keys.{key, key_over}
use Rattle.var_deps.specs.declared.exports.Exports.{Exports}
use Rattle.var_deps.specs.declared.table.Table.{Table}
use Rattle.var_deps.specs.Exports.{AreExports}
use Rattle.var_deps.specs.Kept.{IsRight, IsReady, task_view}
use Rattle.var_deps.specs.OfStore.{IsOfStore}
use Rattle.var_deps.proofs.Lines.{key_is}

-- what is kept of exported names is right, where the store and the names that are left out are the same
pub still_exports : (t : Table) (store : List EntryLine) (ignored : List (List ℕ)) (exports : Exports) → t.shared.seen.store.now ≡ store → t.shared.ignored ≡ ignored → AreExports store ignored exports → AreExports t.shared.seen.store.now t.shared.ignored exports
still_exports t store ignored exports s i x = subst (λ l. AreExports l t.shared.ignored exports) (sym s) (subst (λ l. AreExports store l exports) (sym i) x)

pub of_store : (t : Table) (store : List EntryLine) (ignored sstate : List (List ℕ)) (exports : Exports) → IsRight t.shared → t.shared.seen.store.now ≡ store → t.shared.ignored ≡ ignored
    → AreExports store ignored exports → value_words store (codes "BB_BASEHASH_IGNORE_VARS") ≡ Ok ignored → value_words store (codes "SSTATETASKS") ≡ Ok sstate → IsOfStore t exports sstate
of_store t store ignored sstate exports right s i x a b = record {
  right = right;
  reached = still_exports t store ignored exports s i x;
  left_out = subst (λ l. value_words l (codes "BB_BASEHASH_IGNORE_VARS") ≡ Ok t.shared.ignored) (sym s) (subst (λ l. value_words store (codes "BB_BASEHASH_IGNORE_VARS") ≡ Ok l) (sym i) a);
  given = subst (λ l. value_words l (codes "SSTATETASKS") ≡ Ok sstate) (sym s) b;
}

-- it stays so, where the store and the names that are left out are the same
pub still_of_store : (t made : Table) (exports : Exports) (sstate : List (List ℕ)) → IsOfStore t exports sstate → IsRight made.shared → made.shared.seen.store.now ≡ t.shared.seen.store.now → made.shared.ignored ≡ t.shared.ignored → IsOfStore made exports sstate
still_of_store t made exports sstate is right s i = of_store made t.shared.seen.store.now t.shared.ignored sstate exports right s i is.reached is.left_out is.given

-- the key of the task
pub key_of_table : (t : Table) (store : List EntryLine) (task : List ℕ) (exports : Exports) (sstate : List (List ℕ)) → IsOfStore t exports sstate → IsReady t → t.shared.seen.store.now ≡ store → t.task ≡ task → t.sstate ≡ is_in task sstate → key store task ≡ key_over (task_view t)
key_of_table t store task exports sstate is ready s n b =
    subst (λ l. key l task ≡ key_over (task_view t)) s (subst (λ m. key t.shared.seen.store.now m ≡ key_over (task_view t)) n
    (key_is t.shared.seen.store.now t.task t.shared.seen.task t.shared.ignored sstate t.sstate is.left_out is.given (b ∙ ap (λ m. is_in m sstate) (sym n)) ready.seen))
