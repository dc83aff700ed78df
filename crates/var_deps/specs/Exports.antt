-- What the exported names of a store lead to.
use Rattle.std.specs.Prelude.{◌≡◌, ℕ, false, ◌||◌, is_some, List, [], ◌∷◌, ◌++◌, None, Result, Ok, codes}
use Rattle.meta_model.specs.declared.entry.EntryLine.{EntryLine}
use Rattle.meta_model.specs.Refusal.{Refusal, ◌>>=◌}
use Rattle.meta_model.specs.Forms.{asked_by}
use Rattle.task_model.specs.Leads.{View, Led, exported, flag_words, without}
use Rattle.task_model.specs.Keys.{IsLeast, names_led}
use Rattle.var_deps.specs.declared.exports.Exports.{Exports}
use Rattle.var_deps.specs.Known.{read_led}
use Rattle.var_deps.specs.Led.{led_of}
use Rattle.var_deps.specs.Reading.{view_by}

-- the view of who sees a store as it is, and has no name
abbrev pub plain_view : List EntryLine → List (List ℕ) → View
plain_view store ignored = view_by store None ignored false []

-- what a name leads to for a task that has another name and sees the store as it is
abbrev pub plain_led : List EntryLine → List (List ℕ) → List ℕ → List (List ℕ)
plain_led store ignored name = names_led (read_led (plain_view store ignored) false name)

-- What is kept of the exported names is right.
pub record AreExports (store : List EntryLine) (ignored : List (List ℕ)) (exports : Exports) : Type 0 where
  pub all : exports.all ≡ exported (plain_view store ignored)
  pub start : led_of exports.start ≡ without ignored exports.all
  pub reached : IsLeast (plain_led store ignored) exports.start.names.items exports.reached.items

-- what a key starts with, where these names are exported
abbrev pub starting_with : View → List (List ℕ) → Result Led Refusal
starting_with view names = do
  after ← flag_words view view.task (codes "postfuncs")
  before ← flag_words view view.task (codes "prefuncs")
  let others = without view.ignored (before ++ (after ++ names)) in
      Ok (record { names = view.task ∷ others.names; left_out = is_some (asked_by view.task) || others.left_out })
