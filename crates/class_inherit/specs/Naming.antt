-- What statements name.
use Rattle.std.specs.Prelude.{ℕ, Bool, true, List, Option, Result}
use Rattle.load_model.specs.LoadRefusal.{LoadRefusal, Place, asked_at, ◌>>=◌}
use Rattle.load_model.specs.Loading.{Reads, Sources, Loaded, Origin, includes_after, classes_after}
use Rattle.class_inherit.specs.Reading.{text_for, words_in}

-- the files that the text of an `include` or `require` names
abbrev pub includes_named : Reads → Sources → Place → Origin → Bool → Option (List ℕ) → List ℕ → Loaded → Result Loaded LoadRefusal
includes_named read sources place origin must layer text loaded = asked_at place (words_in loaded.lines (text_for layer text)) >>= λ words. includes_after read sources place origin must words loaded

-- the classes that the text of an `inherit` names
abbrev pub classes_named : Reads → Sources → Place → List ℕ → Loaded → Result Loaded LoadRefusal
classes_named read sources place text loaded = asked_at place (words_in loaded.lines text) >>= λ names. classes_after read sources place true names loaded
