-- Which paths patterns name.
use Rattle.std.specs.Prelude.{◌≡◌, ℕ, Bool, true, ◌&&◌, ◌||◌, ◌==◌, ◌++◌, List, Option, IsSome}
use Rattle.std.specs.List.{list_any}
use Rattle.meta_model.specs.Text.{is_in, begins_with}
use Rattle.outside_traits.specs.Store.{IsListing}
use Rattle.load_model.specs.Paths.{has_ending}
use Rattle.load_model.specs.Patterns.{matches}

abbrev pub matches_any : List (List ℕ) → List ℕ → Bool
matches_any globs path = list_any (λ glob. matches glob path) globs

abbrev pub is_wanted : List (List ℕ) → List ℕ → List ℕ → Bool
is_wanted globs ending path = has_ending ending path && matches_any globs path

-- a byte that stands for others in a pattern
abbrev pub is_wild : ℕ → Bool
is_wild c = c == 42 || c == 63

-- whether one of these heads begins the path
abbrev pub begun_by : List (List ℕ) → List ℕ → Bool
begun_by heads path = list_any (λ head. begins_with head path) heads

-- files are held at the paths, and they have each held path that one of these heads begins
pub record IsFound (heads : List (List ℕ)) (held : List ℕ → Option (List ℕ)) (paths : List (List ℕ)) : Type 0 where
  pub are_held : (q : List ℕ) → is_in q paths ≡ true → IsSome (held q)
  pub all : (q : List ℕ) → begun_by heads q ≡ true → IsSome (held q) → is_in q paths ≡ true

-- files are held at the paths, and they have each held path that one of these patterns matches
pub record IsCover (globs : List (List ℕ)) (held : List ℕ → Option (List ℕ)) (paths : List (List ℕ)) : Type 0 where
  pub are_held : (q : List ℕ) → is_in q paths ≡ true → IsSome (held q)
  pub all : (q : List ℕ) → matches_any globs q ≡ true → IsSome (held q) → is_in q paths ≡ true

-- some paths, and behind them those that begin with the head
pub record IsJoined (head : List ℕ) (held : List ℕ → Option (List ℕ)) (before paths : List (List ℕ)) : Type 0 where
  pub listing : List (List ℕ)
  pub listed : IsListing head held listing
  pub joined : paths ≡ before ++ listing
