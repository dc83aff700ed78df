-- Which run the words ask for.
use Rattle.std.proofs.Common.{◌≡◌, ◌∙◌, ap, sym, subst, Ok, ℕ, List}
use Rattle.answer_model.specs.declared.asked.Asked.{Asked}
use Rattle.answer_model.specs.declared.asked.Asked.TheVariants.{Configs, Runs, Shows}
use Rattle.answer_model.specs.declared.asked.RunRequest.{RunRequest}
use Rattle.answer_model.specs.declared.asked.ShowMode.{ShowMode}
use Rattle.answer_model.specs.Asked.{AskConfigs, AskRun, AskShows, asked_of}

-- words ask for one run alone
pub same_request : (words : List (List ℕ)) (asked request : RunRequest) → AskRun words asked → AskRun words request → asked ≡ request
same_request words asked request first second = let both = sym first ∙ second in cc

-- the words ask for the run that was handed on
pub asks_for : (words : List (List ℕ)) (asked : Asked) (request : RunRequest) → asked_of words ≡ Ok asked → asked ≡ Runs request → AskRun words request
asks_for words asked request asks is = asks ∙ ap Ok is

-- what holds of the run that the words ask for holds of each such run
pub at_request : (P : RunRequest → Type 0) (words : List (List ℕ)) (asked : RunRequest) → AskRun words asked → P asked → (request : RunRequest) → AskRun words request → P request
at_request P words asked first holds request second = subst P (same_request words asked request first second) holds

-- ---- the same of several configurations

same_configs : (words : List (List ℕ)) (asked request : RunRequest) → AskConfigs words asked → AskConfigs words request → asked ≡ request
same_configs words asked request first second = let both = sym first ∙ second in cc

pub asks_configs : (words : List (List ℕ)) (asked : Asked) (request : RunRequest) → asked_of words ≡ Ok asked → asked ≡ Configs request → AskConfigs words request
asks_configs words asked request asks is = asks ∙ ap Ok is

pub at_configs : (P : RunRequest → Type 0) (words : List (List ℕ)) (asked : RunRequest) → AskConfigs words asked → P asked → (request : RunRequest) → AskConfigs words request → P request
at_configs P words asked first holds request second = subst P (same_configs words asked request first second) holds

same_shows : (words : List (List ℕ)) (what other : ShowMode) (asked request : RunRequest) → AskShows words what asked → AskShows words other request → (what ≡ other) × (asked ≡ request)
same_shows words what other asked request first second = let both = sym first ∙ second in (cc, cc)

pub asks_shows : (words : List (List ℕ)) (asked : Asked) (what : ShowMode) (request : RunRequest) → asked_of words ≡ Ok asked → asked ≡ Shows what request → AskShows words what request
asks_shows words asked what request asks is = asks ∙ ap Ok is

pub at_shows : (P : ShowMode → RunRequest → Type 0) (words : List (List ℕ)) (what : ShowMode) (asked : RunRequest) → AskShows words what asked → P what asked → (other : ShowMode) (request : RunRequest) → AskShows words other request → P other request
at_shows P words what asked first holds other request second =
    let same = same_shows words what other asked request first second in
    subst (λ (m : ShowMode). P m request) same.0 (subst (λ (r : RunRequest). P what r) same.1 holds)
