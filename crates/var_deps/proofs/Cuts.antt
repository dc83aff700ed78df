-- Where a text is cut at its first byte that is in no run.
use Rattle.std.proofs.Common.{◌≡◌, refl, ◌∙◌, ap, arith, ℕ, zero, suc, ◌<◌, ◌≤◌, Bool, true, false, cond, not, List, [], ◌∷◌, ◌++◌, length, take, drop, get_or, Some, None, position}
use Rattle.std.specs.List.{slice_split}
use Rattle.std.proofs.lemmas.List.Quantifiers.{position-Some}
use Rattle.meta_model.proofs.Unfound.{none_before}
use Rattle.meta_model.specs.Text.{is_empty, non_empty}
use Rattle.task_model.specs.Leads.{runs}
use Rattle.var_deps.specs.Runs.{separates, IsRun}

split_at : (bs : List ℕ) (i : ℕ) → i < length bs → separates (get_or bs i 0) ≡ true → ((k : ℕ) → k < i → separates (get_or bs k 0) ≡ false)
    → slice_split separates bs ≡ take i bs ∷ slice_split separates (drop (suc i) bs)
split_at [] i lt at before = absurd (omega arith)
split_at (b ∷ bs) zero lt at before = rw at refl
split_at (b ∷ bs) (suc i) lt at before = rw (before 0 (omega arith), split_at bs i (omega arith) at (λ k h. before (suc k) (omega arith))) refl

pub runs_at : (bs : List ℕ) (i : ℕ) → position separates bs ≡ Some i → runs bs ≡ non_empty (take i bs ∷ []) ++ runs (drop (suc i) bs)
runs_at bs i e =
    let h = position-Some separates bs i 0 e in
    ap non_empty (split_at bs i h.0 h.1 h.2) ∙ first (is_empty (take i bs)) (take i bs) (runs (drop (suc i) bs))
  where
    first : (b : Bool) (piece : List ℕ) (rest : List (List ℕ)) → cond (not b) (piece ∷ rest) rest ≡ cond (not b) (piece ∷ []) [] ++ rest
    first true piece rest = refl
    first false piece rest = refl

split_none : (bs : List ℕ) → ((k : ℕ) → k < length bs → separates (get_or bs k 0) ≡ false) → slice_split separates bs ≡ bs ∷ []
split_none [] h = refl
split_none (b ∷ bs) h = rw (h 0 (omega arith), split_none bs (λ k lt. h (suc k) (omega arith))) refl

-- the last run
pub runs_last : (bs : List ℕ) → position separates bs ≡ None → runs bs ≡ non_empty (bs ∷ [])
runs_last bs e = ap non_empty (split_none bs (none_before separates bs 0 e))

-- what stands before the first such byte is a run

run_all : (bs : List ℕ) → ((k : ℕ) → k < length bs → separates (get_or bs k 0) ≡ false) → IsRun bs
run_all [] h = refl
run_all (b ∷ bs) h = rw (h 0 (omega arith)) (run_all bs (λ k lt. h (suc k) (omega arith)))

run_before : (bs : List ℕ) (i : ℕ) → i ≤ length bs → ((k : ℕ) → k < i → separates (get_or bs k 0) ≡ false) → IsRun (take i bs)
run_before bs zero lt h = refl
run_before [] (suc i) lt h = refl
run_before (b ∷ bs) (suc i) lt h = rw (h 0 (omega arith)) (run_before bs i (omega arith) (λ k below. h (suc k) (omega arith)))

pub run_first : (bs : List ℕ) (i : ℕ) → position separates bs ≡ Some i → IsRun (take i bs)
run_first bs i e = let h = position-Some separates bs i 0 e in run_before bs i (omega (arith, h.0)) h.2

pub run_last : (bs : List ℕ) → position separates bs ≡ None → IsRun bs
run_last bs e = run_all bs (none_before separates bs 0 e)
