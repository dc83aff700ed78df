-- Words one after another.
use Rattle.std.proofs.Common.{◌≡◌, refl, ap, sym, List, [], ◌∷◌, ◌++◌, append_assoc, Result, Ok, Err}
use Rattle.multi_config.specs.declared.places.Placed.{Placed}
use Rattle.multi_config.specs.Words.{WordRefusal, with_first}

-- places behind those that are there, where no word is refused
abbrev pub behind : List Placed → Result (List Placed) WordRefusal → Result (List Placed) WordRefusal
behind before (Err fault) = Err fault
behind before (Ok rest) = Ok (before ++ rest)

pub behind_first : (before : List Placed) (place : Placed) (rest : Result (List Placed) WordRefusal) → behind before (with_first (Ok place) rest) ≡ behind (before ++ place ∷ []) rest
behind_first before place (Err fault) = refl
behind_first before place (Ok rest) = ap Ok (sym (append_assoc before (place ∷ []) rest))
