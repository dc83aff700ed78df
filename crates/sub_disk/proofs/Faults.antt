-- The count of faults of a folder's disk, and what follows for a prefix.
use Rattle.std.proofs.Common.{◌≡◌, ◌≤◌, ◌∙◌, sym, ap, subst, arith, ℕ, Bool, true, false, List, [], ◌∷◌, ◌++◌, length, All, None, inl, inr, append_assoc, append-nil, length-append}
use Rattle.std.proofs.lemmas.List.Elements.{All-append}
use Rattle.tree_model.specs.Path.{IsClean, IsPart, inside, parts_of}
use Rattle.tree_model.proofs.FolderLemmas.{clean_outside, parts_inside}
use Rattle.outside_traits.specs.Fault.{Counts, Rose}
use Rattle.outside_traits.specs.Store.{IsOpen, Store}
use Rattle.sub_disk.specs.Sub.{FaultsSince, IsPlace, IsPrefix, IsReachable}
use Rattle.sub_disk.proofs.Texts.{split_at}

-- ---- faults

pub counts_start : (start count : ℕ) → count ≡ start → FaultsSince start count 0
counts_start start count is = record { later = omega (arith, is); rose = λ some. absurd (omega (arith, some)); stayed = λ none. is }

-- one call more
pub counts_more : (start old new mine more : ℕ) (failed : Bool) → FaultsSince start old mine → Counts old new failed → Counts mine more failed → FaultsSince start new more
counts_more start old new mine more false so_far there here =
    let same : more ≡ mine = here.stayed in
    let stood : new ≡ old = there.stayed in
    subst (λ (n : ℕ). FaultsSince start n more) (sym stood) (subst (λ (f : ℕ). FaultsSince start old f) (sym same) so_far)
counts_more start old new mine more true so_far there here =
    let rose : Rose old new = there.rose in
    let mine_rose : Rose mine more = here.rose in
    let later = so_far.later in
    let after = there.later in
    record {
      later = omega (arith, later, after);
      rose = λ some. omega (arith, rose, later);
      stayed = λ none. absurd (omega (arith, none, mine_rose));
    }

-- ---- prefixes

clean_inside : (folder path : List ℕ) → IsClean folder → IsClean path → length (inside folder path) ≤ 4096 → IsClean (inside folder path)
clean_inside folder path folder_clean clean le = record {
  short = le;
  parts = subst (λ (ps : List (List ℕ)). All IsPart ps) (sym (parts_inside folder path)) (All-append IsPart (parts_of folder) (parts_of path) folder_clean.parts clean.parts);
}

pub place_is : (prefix : List ℕ) → IsPrefix prefix → IsPlace prefix
place_is prefix (inl is) = subst IsPlace (sym is) (record { on = λ path clean le. clean; off = λ path clean. clean })
place_is prefix (inr folder) =
    let front : (path : List ℕ) → prefix ++ path ≡ inside folder.0 path = λ path. ap (λ (p : List ℕ). p ++ path) folder.2 ∙ append_assoc folder.0 (47 ∷ []) path in
    record {
      on = λ path clean le. subst IsClean (sym (front path)) (clean_inside folder.0 path folder.1 clean (subst (λ (p : List ℕ). length p ≤ 4096) (front path) le));
      off = λ path clean. clean_outside folder.0 path (subst IsClean (front path) clean);
    }

-- a folder that stands open is one whose paths nothing is in the way of
pub reachable : (folder : List ℕ) (held : Store) → IsOpen folder held → IsReachable (inside folder []) held
reachable folder held open_at q rest is = elim (split_at folder (47 ∷ []) q rest is) [
  | inl above ↦ open_at.above q above
  | inr at ↦ by at.0 at.1 at.2
]
  where
    by : (s : List ℕ) → q ≡ folder ++ s → 47 ∷ [] ≡ s ++ 47 ∷ rest → held q ≡ None
    by [] e f = ap held (e ∙ append-nil folder) ∙ open_at.at
    by (x ∷ s) e f = absurd (let l = ap length f in let m = length-append s (47 ∷ rest) in omega (arith, l, m))
