-- The tale of a run as its seats hand it on: each entry with whether it had been printed, that is its line and all lines before it.
use Rattle.std.specs.Prelude.{ℕ, zero, suc, Bool, true, false, if◌then◌else◌, List, [], ◌∷◌, map}
use Rattle.meta_model.specs.declared.event.Logged.{Logged}
use Rattle.run_workers.specs.declared.shared.Told.{Told}

abbrev pub tell : Bool → Logged → Told
tell printed entry = record { logged = entry; printed = printed }

-- the tale, of which so many entries at the front had been printed
abbrev pub told : List Logged → ℕ → List Told
told [] n = []
told (e ∷ tale) zero = tell false e ∷ told tale zero
told (e ∷ tale) (suc n) = tell true e ∷ told tale n

-- the entries
abbrev pub logged_in : List Told → List Logged
logged_in tale = map (λ e. e.logged) tale

-- those that had been printed
abbrev pub printed_in : List Told → List Logged
printed_in [] = []
printed_in (e ∷ tale) = if e.printed then e.logged ∷ printed_in tale else printed_in tale
