-- What one physical line does to the lines found so far.
use Rattle.std.specs.Prelude.{◌≡◌, ℕ, suc, List, [], ◌∷◌, ◌++◌, Result, Ok, Err, if◌then◌else◌}
use Rattle.meta_model.specs.Lines.{Standing, outside, joining, inside, OrFault, logical_from, opens_body}
use Rattle.meta_model.specs.declared.line.Line.{Line}
use Rattle.meta_model.specs.declared.line.Place.TheVariants.{Plain}
use Rattle.bb_lexer.specs.declared.step.Stand.{Stand}
use Rattle.bb_lexer.specs.declared.step.Stand.TheVariants.{Outside, Joining, Inside}
use Rattle.bb_lexer.specs.declared.fault.LexFault.{LexFault}
use Rattle.bb_lexer.specs.Faults.{IsFaultOf, IsWantOfMemory}

-- where the next physical line stands, in the definition's words
abbrev pub standing_of : Stand → Standing
standing_of Outside = outside
standing_of (Joining begun text) = joining begun text
standing_of Inside = inside

-- lines in front of what was found
abbrev pub onto : {A : Type 0} → List A → OrFault (List A) → OrFault (List A)
onto xs (Ok ys) = Ok (xs ++ ys)
onto xs (Err e) = Err e

-- A step with line p at number n: whatever lines follow, what is found behind the new lines from the next standing
-- on is what is found behind the old ones from this standing on; or the fault is what is found.
abbrev pub Steps : Standing → ℕ → List ℕ → List Line → List Line → Result Stand LexFault → Type 0
Steps s n p old new (Ok next) = (ps : List (List ℕ)) → onto new (logical_from (standing_of next) (suc n) ps) ≡ onto old (logical_from s n (p ∷ ps))
Steps s n p old new (Err fault) = (ps : List (List ℕ)) → IsFaultOf fault (logical_from s n (p ∷ ps))

-- A whole logical line goes behind the others, and the next physical line stands where it says.
abbrev pub IsWhole : ℕ → List ℕ → List Line → List Line → Result Stand LexFault → Type 0
IsWhole n text old new (Ok next) = (new ≡ old ++ record { number = n; place = Plain; text = text } ∷ []) × (standing_of next ≡ (if opens_body text then inside else outside))
IsWhole n text old new (Err fault) = IsWantOfMemory fault
