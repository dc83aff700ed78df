-- What a store's names lead to, kept for all its tasks.
use Rattle.std.specs.Prelude.{◌≡◌, ℕ, true, false, List, [], ◌∷◌, ◌++◌, map, ◌||◌, Some, None, Result, Ok}
use Rattle.std.specs.List.{list_any}
use Rattle.std.specs.BTreeMap.{get_by_text}
use Rattle.meta_model.specs.declared.value.Key.{Key}
use Rattle.meta_model.specs.Refusal.{Refusal, ◌>>=◌}
use Rattle.meta_model.specs.Active.{find_in}
use Rattle.task_model.specs.Views.{seen_by}
use Rattle.task_model.specs.Leads.{View}
use Rattle.task_model.specs.Keys.{Told}
use Rattle.var_deps.specs.declared.line.Known.{Known}
use Rattle.var_deps.specs.declared.table.Shared.{Shared}
use Rattle.var_deps.specs.declared.table.Table.{Table}
use Rattle.var_deps.specs.Seen.{seen_with}
use Rattle.var_deps.specs.Reading.{view_by}
use Rattle.var_deps.specs.Known.{IsKnown, read_line}

-- the view of names that aren't the task
abbrev pub shared_view : Shared → View
shared_view shared = view_by shared.seen.store.now shared.seen.task shared.ignored false []

-- Each name that is kept is right.
pub record IsRight (shared : Shared) : Type 0 where
  pub known : (name : List ℕ) (known : Known) → get_by_text shared.known name ≡ Some known → IsKnown (shared_view shared) false name known

-- Two keep what is read of one store in one way.
pub record IsSame (old new : Shared) : Type 0 where
  pub store : new.seen.store.now ≡ old.seen.store.now
  pub task : new.seen.task ≡ old.seen.task
  pub ignored : new.ignored ≡ old.ignored

-- the view of the task
abbrev pub task_view : Table → View
task_view table = view_by table.shared.seen.store.now table.shared.seen.task table.shared.ignored table.sstate table.task

-- What is kept is right for the task, which sees the store as the definitions say.
pub record IsReady (table : Table) : Type 0 where
  pub right : IsRight table.shared
  pub own : IsKnown (task_view table) true table.task table.own
  pub seen : seen_with table.shared.seen.store.now table.shared.seen.task ≡ seen_by table.task (find_in table.shared.seen.store.now)

-- Two are of one task of one store.
pub record StaysSo (old new : Table) : Type 0 where
  pub shared : IsSame old.shared new.shared
  pub task : new.task ≡ old.task
  pub sstate : new.sstate ≡ old.sstate

-- The task sees the store as it is, and its line is told.
pub record Shares (table : Table) : Type 0 where
  pub seen : table.shared.seen.task ≡ None
  pub told : (told : Told) × (read_line (task_view table) true table.task ≡ Ok told)

-- a key with more lines
abbrev pub key_behind : Key → Result (List Told) Refusal → Result Key Refusal
key_behind key more = do
  told ← more
  Ok (record { lines = key.lines ++ map (λ t. t.line) told; excluded = key.excluded || list_any (λ t. t.left_out) told })

-- a line alone
abbrev pub one_line : Result Told Refusal → Result (List Told) Refusal
one_line line = do
  told ← line
  Ok (told ∷ [])
