-- Parts of an output that are laid one by one, where none of their paths is too long.
use Rattle.std.proofs.Common.{◌≡◌, ◌∙◌, sym, subst, refl, ℕ, ◌+◌, ◌<◌, zero, suc, add-one, arith, Bool, true, false, List, [], ◌∷◌, length, take, get_or, Some, None, Ok, Err}
use Rattle.std.specs.Prelude.{IfOk, Option, Result, slice_index_or}
use Rattle.std.specs.List.{list_any}
use Rattle.std.proofs.lemmas.Bool.Decides.{Decides-ltb}
use Rattle.tree_model.specs.declared.entry.Entry.{Entry}
use Rattle.tree_model.specs.declared.text.Mem.{Mem}
use Rattle.tree_model.specs.Folder.{IsFirstUnclean, placed, renamed}
use Rattle.meta_model.specs.CleanBuild.{Entries, is_long}
use Rattle.meta_model.proofs.Bools.{or_first, or_later}
use Rattle.task_worker.specs.Parts.{IsShortPart}

-- one more item for which a test fails
any_next : {A : Type 0} (f : A → Bool) (xs : List A) (i : ℕ) (d : A) → i < length xs → list_any f (take i xs) ≡ false → f (get_or xs i d) ≡ false → list_any f (take (suc i) xs) ≡ false
any_next f [] i d lt front here = absurd (omega arith)
any_next f (x ∷ xs) zero d lt front here = rw here refl
any_next f (x ∷ xs) (suc i) d lt front here = by (f x) refl (λ rest. any_next f xs i d (omega arith) rest here)
  where
    by : (b : Bool) → f x ≡ b → (list_any f (take i xs) ≡ false → list_any f (take (suc i) xs) ≡ false) → list_any f (take (suc (suc i)) (x ∷ xs)) ≡ false
    by true e next = let no : true ≡ false = sym (or_first (f x) (list_any f (take i xs)) e) ∙ front in absurd (cc)
    by false e next = rw e (next (let rest = rw e at front in rest))

pub any_more : {A : Type 0} (f : A → Bool) (xs : List A) (i : ℕ) (d : A) → i < length xs → list_any f (take i xs) ≡ false → f (get_or xs i d) ≡ false → list_any f (take (i + 1) xs) ≡ false
any_more f xs i d lt front here = rw add-one (any_next f xs i d lt front here)

-- a part of which a path is too long once it is renamed
long_from : (rename : List ℕ → List ℕ) (part : Entries) (place : ℕ) → place < length part → ((d : List ℕ × Entry) → 3072 < length (rename (slice_index_or part place d).0)) → list_any is_long (renamed rename part) ≡ true
long_from rename [] place lt long = absurd (omega arith)
long_from rename (e ∷ part) zero lt long = or_first _ _ ((Decides-ltb 3072 (length (rename e.0))).1 (long e))
long_from rename (e ∷ part) (suc n) lt long = or_later _ _ (long_from rename part n (omega arith) (λ d. long d))

-- what is answered of a path that can't be placed
pub refused : (folder path : List ℕ) (part : Entries) (r : Result (Option Entries) Mem) → IsFirstUnclean (placed folder) part path → IfOk r (λ made. (made ≡ None) × (3072 < length path)) → IfOk r (IsShortPart (renamed (placed folder) part))
refused folder path part (Ok None) u ok = long_from (placed folder) part u.place u.within (λ d. subst (λ (p : List ℕ). 3072 < length p) (u.is d) ok.1)
refused folder path part (Ok (Some t)) u ok = let no : Some t ≡ None = ok.0 in absurd (cc)
refused folder path part (Err e) u ok = tt
