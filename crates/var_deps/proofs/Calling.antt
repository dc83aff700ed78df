-- Runs that are passed over, since they are no functions.
use Rattle.std.proofs.Common.{◌≡◌, refl, sym, ◌∙◌, ap, ℕ, ◌+◌, List, [], ◌∷◌, ◌++◌, take, drop, Some, None, Ok, position, append_assoc, append-nil, add-one, false, if◌then◌else◌}
use Rattle.meta_model.specs.Expansion.{Find}
use Rattle.meta_model.specs.Refusal.{◌>>=◌}
use Rattle.meta_model.specs.Text.{non_empty, is_empty}
use Rattle.task_model.specs.Views.{is_function}
use Rattle.task_model.specs.Leads.{functions_of, runs}
use Rattle.var_deps.specs.Reading.{function_named}
use Rattle.var_deps.specs.Runs.{separates}
use Rattle.var_deps.proofs.Behind.{functions_in_turn, bind_ok}
use Rattle.var_deps.proofs.Cuts.{runs_at, runs_last}

-- a name that is no function
pub passed : (find : Find) (list : List (List ℕ)) (name : List ℕ) (more : List (List ℕ)) → function_named find name ≡ Ok [] → functions_of find (list ++ more) ≡ functions_of find (list ++ name ∷ more)
passed find [] name more e =
    sym (functions_in_turn find name more ∙ ap (λ m. m >>= (λ some. functions_of find more >>= (λ rest. Ok (some ++ rest)))) e ∙ bind_ok (functions_of find more))
passed find (x ∷ xs) name more e =
    ap (λ m. find.at x >>= (λ found. m >>= (λ rest. Ok (if is_function found then x ∷ rest else rest)))) (passed find xs name more e)

-- one that may be
pub taken : (find : Find) (list made : List (List ℕ)) (name : List ℕ) (more : List (List ℕ)) → made ≡ list ++ name ∷ [] → functions_of find (made ++ more) ≡ functions_of find (list ++ name ∷ more)
taken find list made name more e = ap (functions_of find) (ap (λ l. l ++ more) e ∙ append_assoc list (name ∷ []) more)

pub one_run : (run : List ℕ) (more : List (List ℕ)) → is_empty run ≡ false → run ∷ more ≡ non_empty (run ∷ []) ++ more
one_run [] more e = absurd cc
one_run (c ∷ run) more e = refl

-- a run, and the rest behind it
pub run_more : (find : Find) (rest after : List ℕ) (list made : List (List ℕ)) (i : ℕ) → Some i ≡ position separates rest → after ≡ drop (i + 1) rest
    → ((more : List (List ℕ)) → functions_of find (made ++ more) ≡ functions_of find (list ++ (non_empty (take i rest ∷ []) ++ more))) → functions_of find (made ++ runs after) ≡ functions_of find (list ++ runs rest)
run_more find rest after list made i e a h =
    h (runs after) ∙ ap (λ q. functions_of find (list ++ (non_empty (take i rest ∷ []) ++ runs q))) (a ∙ ap (λ j. drop j rest) (add-one i))
    ∙ ap (λ l. functions_of find (list ++ l)) (sym (runs_at rest i (sym e)))

-- the last run
pub run_end : (find : Find) (rest : List ℕ) (list made : List (List ℕ)) → None ≡ position separates rest
    → ((more : List (List ℕ)) → functions_of find (made ++ more) ≡ functions_of find (list ++ (non_empty (rest ∷ []) ++ more))) → functions_of find made ≡ functions_of find (list ++ runs rest)
run_end find rest list made e h =
    ap (functions_of find) (sym (append-nil made)) ∙ h [] ∙ ap (λ l. functions_of find (list ++ l)) (append-nil (non_empty (rest ∷ [])) ∙ sym (runs_last rest (sym e)))
