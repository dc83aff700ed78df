-- The rule of the table: some tale is known, and the three parts hold of it.
use Rattle.std.specs.Prelude.{◌≡◌, ℕ, List, length, Option, slice_index}
use Rattle.atomic_table.specs.Table.{State}
use Rattle.turn_lock.specs.declared.rule.View.{View}
use Rattle.turn_lock.specs.Line.{Line}
use Rattle.turn_lock.specs.Book.{Book}
use Rattle.turn_lock.specs.Turn.{Turn}

module _ {S N E : Type 0} (name_of : S → N) (tale_of : S → List E) (author : E → ℕ) where
  pub record Kept (name : N) (seats : ℕ) (s : State (Option S) (View N E)) : Type 0 where
    pub known : List E
    pub wide : length s.words ≡ 2
    pub line : Line (slice_index s.words 0) (slice_index s.words 1) s.views
    pub book : Book author name seats known s.views
    pub turn : Turn name_of tale_of name (slice_index s.words 0) known s.homes s.views
