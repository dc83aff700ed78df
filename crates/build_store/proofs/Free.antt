-- What is written stands at free paths.
use Rattle.std.proofs.Common.{◌≡◌, ◌≢◌, ◌∙◌, sym, ap, refl, ℕ, ◌<◌, ◌≤◌, ◌⊎◌, inl, inr, List, [], ◌∷◌, None, arith, get_or, append_assoc}
use Rattle.std.specs.Prelude.{codes, IsSome}
use Rattle.tree_model.specs.declared.hash.Hash.{Hash}
use Rattle.tree_model.specs.Hash.{hash_text}
use Rattle.tree_model.specs.Path.{IsBelow, inside}
use Rattle.outside_traits.specs.Store.{IsFree, Store, slashes}
use Rattle.outside_traits.proofs.Folders.{above_under}
use Rattle.outside_traits.proofs.Held.{none_unless}
use Rattle.stamp_store.specs.Stamp.{old_path, staged_path}
use Rattle.store_opening.specs.Named.{IsName}
use Rattle.store_opening.specs.Paths.{IsLaidOut, IsTemporary, staged_record_path}
use Rattle.store_model.specs.Paths.{key_path, record_path}
use Rattle.store_opening.proofs.Areas.{differ}
use Rattle.store_opening.proofs.Clean.{name_slashes}
use Rattle.store_opening.proofs.Slashes.{slashes_inside}

-- a path in a folder without slashes is free, where nothing is held at the folder, or in it above or below the path
free_in : (held : Store) (top path : List ℕ) → slashes top ≡ 0 → held top ≡ None → ((r : List ℕ) → IsSome (held (inside top r)) → IsBelow r path ⊎ IsBelow path r → ⊥) → IsFree held (inside top path)
free_in held top path plain none apart = record { above = λ q up. by q (above_under top path q up); below = below }
  where
    by : (q : List ℕ) → IsBelow q top ⊎ ((q ≡ top) ⊎ ((r : List ℕ) × (q ≡ inside top r) × IsBelow r path)) → held q ≡ None
    by q (inl up) = let e = ap slashes up.1 ∙ slashes_inside q up.0 in absurd (omega (arith, e, plain))
    by q (inr (inl same)) = ap held same ∙ none
    by q (inr (inr w)) = ap held w.1 ∙ none_unless (held (inside top w.0)) (λ some. apart w.0 some (inl w.2))

    below : (q : List ℕ) → IsBelow (inside top path) q → held q ≡ None
    below q down =
        let is : q ≡ inside top (inside path down.0) = down.1 ∙ append_assoc top (47 ∷ path) (47 ∷ down.0) in
        ap held is ∙ none_unless (held (inside top (inside path down.0))) (λ some. apart (inside path down.0) some (inr (down.0, refl)))

-- a path below another has more slashes
more_slashes : (p q : List ℕ) → IsBelow p q → slashes p < slashes q
more_slashes p q below = let e = ap slashes below.1 ∙ slashes_inside p below.0 in omega (arith, e)

-- a name is free, where no path in the folder has a slash
free_name : (held : Store) (top : List ℕ) (name : Hash) → slashes top ≡ 0 → IsName name → held top ≡ None → ((r : List ℕ) → IsSome (held (inside top r)) → slashes r ≡ 0) → IsFree held (inside top (hash_text name))
free_name held top name plain is none alone = free_in held top (hash_text name) plain none (λ r some which. by r (alone r some) which)
  where
    by : (r : List ℕ) → slashes r ≡ 0 → IsBelow r (hash_text name) ⊎ IsBelow (hash_text name) r → ⊥
    by r flat (inl up) = let m = more_slashes r (hash_text name) up in let n = name_slashes name is in omega (arith, m, n)
    by r flat (inr down) = let m = more_slashes (hash_text name) r down in omega (arith, m, flat)

pub free_record : (held : Store) (name : Hash) → IsName name → IsLaidOut held → IsFree held (record_path name)
free_record held name is laid = free_name held (codes "rec2") name refl is laid.at_records laid.records

pub free_key : (held : Store) (name : Hash) → IsName name → IsLaidOut held → IsFree held (key_path name)
free_key held name is laid = free_name held (codes "key") name refl is laid.at_keys laid.keys

-- the first byte of what stands above a path
first_above : (r path : List ℕ) (c : ℕ) → c ≢ 47 → IsBelow r (c ∷ path) → get_or r 0 0 ≡ c
first_above [] path c ne up = absurd (ne (ap (λ (l : List ℕ). get_or l 0 0) up.1))
first_above (x ∷ r) path c ne up = sym (ap (λ (l : List ℕ). get_or l 0 0) up.1)

first_below : (r path : List ℕ) (c : ℕ) → IsBelow (c ∷ path) r → get_or r 0 0 ≡ c
first_below r path c down = ap (λ (l : List ℕ). get_or l 0 0) down.1

pub free_staged_record : (held : Store) (name : Hash) → IsName name → IsLaidOut held → IsFree held (staged_record_path name)
free_staged_record held name is laid = free_in held (codes "tmp") (inside (codes "rec2") (hash_text name)) refl laid.at_temporary (λ r some which. by r (laid.temporary r some) which)
  where
    slashes_are : slashes (inside (codes "rec2") (hash_text name)) ≡ 1
    slashes_are = let e = slashes_inside (codes "rec2") (hash_text name) in let n = name_slashes name is in omega (arith, e, n)

    by : (r : List ℕ) → IsTemporary r → IsBelow r (inside (codes "rec2") (hash_text name)) ⊎ IsBelow (inside (codes "rec2") (hash_text name)) r → ⊥
    by r (inl t) (inl up) = let m = more_slashes r (inside (codes "rec2") (hash_text name)) up in let e = ap slashes t.1 ∙ slashes_inside (codes "rec2") t.0 in omega (arith, m, slashes_are, e)
    by r (inl t) (inr down) = let m = more_slashes (inside (codes "rec2") (hash_text name)) r down in let e = ap slashes t.1 ∙ slashes_inside (codes "rec2") t.0 in let n = t.2 in omega (arith, m, slashes_are, e, n)
    by r (inr (inl t)) which = by_stamp which
      where
        by_stamp : IsBelow r (inside (codes "rec2") (hash_text name)) ⊎ IsBelow (inside (codes "rec2") (hash_text name)) r → ⊥
        by_stamp (inl up) = differ 115 114 refl (sym (ap (λ (l : List ℕ). get_or l 0 0) t.1) ∙ first_above r (101 ∷ 99 ∷ 50 ∷ 47 ∷ hash_text name) 114 (differ 114 47 refl) up)
        by_stamp (inr down) = differ 115 114 refl (sym (ap (λ (l : List ℕ). get_or l 0 0) t.1) ∙ first_below r (101 ∷ 99 ∷ 50 ∷ 47 ∷ hash_text name) 114 down)
    by r (inr (inr t)) which = by_old which
      where
        by_old : IsBelow r (inside (codes "rec2") (hash_text name)) ⊎ IsBelow (inside (codes "rec2") (hash_text name)) r → ⊥
        by_old (inl up) = differ 111 114 refl (sym (ap (λ (l : List ℕ). get_or l 0 0) t.1) ∙ first_above r (101 ∷ 99 ∷ 50 ∷ 47 ∷ hash_text name) 114 (differ 114 47 refl) up)
        by_old (inr down) = differ 111 114 refl (sym (ap (λ (l : List ℕ). get_or l 0 0) t.1) ∙ first_below r (101 ∷ 99 ∷ 50 ∷ 47 ∷ hash_text name) 114 down)

-- paths under `tmp/` with one part more: what is held there has at most two slashes
few_slashes : (r : List ℕ) → IsTemporary r → slashes r ≤ 2
few_slashes r (inl t) = let e = ap slashes t.1 ∙ slashes_inside (codes "rec2") t.0 in let n = t.2 in omega (arith, e, n)
few_slashes r (inr (inl t)) = let e = ap slashes t.1 ∙ slashes_inside (codes "stamp") t.0 in let n = t.2 in omega (arith, e, n)
few_slashes r (inr (inr t)) = let e = ap slashes t.1 ∙ slashes_inside (codes "old") t.0 in let n = t.2 in omega (arith, e, n)

-- one that begins with another byte than `r` has two
two_slashes : (r : List ℕ) → IsTemporary r → get_or r 0 0 ≢ 114 → slashes r ≡ 2
two_slashes r (inl t) ne = absurd (ne (ap (λ (l : List ℕ). get_or l 0 0) t.1))
two_slashes r (inr (inl t)) ne = let e = ap slashes t.1 ∙ slashes_inside (codes "stamp") t.0 in let n = t.2 in omega (arith, e, n)
two_slashes r (inr (inr t)) ne = let e = ap slashes t.1 ∙ slashes_inside (codes "old") t.0 in let n = t.2 in omega (arith, e, n)

free_temporary : (held : Store) (c : ℕ) (path : List ℕ) → c ≢ 114 → c ≢ 47 → slashes (c ∷ path) ≡ 2 → IsLaidOut held → IsFree held (inside (codes "tmp") (c ∷ path))
free_temporary held c path ne slash two laid = free_in held (codes "tmp") (c ∷ path) refl laid.at_temporary (λ r some which. by r (laid.temporary r some) which)
  where
    by : (r : List ℕ) → IsTemporary r → IsBelow r (c ∷ path) ⊎ IsBelow (c ∷ path) r → ⊥
    by r t (inl up) = let m = more_slashes r (c ∷ path) up in let e = two_slashes r t (λ f. ne (sym (first_above r path c slash up) ∙ f)) in omega (arith, m, e, two)
    by r t (inr down) = let m = more_slashes (c ∷ path) r down in let e = few_slashes r t in omega (arith, m, e, two)

pub free_staged : (held : Store) (folder : List ℕ) → slashes folder ≡ 1 → IsLaidOut held → IsFree held (staged_path folder)
free_staged held folder one laid = free_temporary held 115 (116 ∷ 97 ∷ 109 ∷ 112 ∷ 47 ∷ folder) (differ 115 114 refl) (differ 115 47 refl) (let e = slashes_inside (codes "stamp") folder in omega (arith, e, one)) laid

pub free_old : (held : Store) (folder : List ℕ) → slashes folder ≡ 1 → IsLaidOut held → IsFree held (old_path folder)
free_old held folder one laid = free_temporary held 111 (108 ∷ 100 ∷ 47 ∷ folder) (differ 111 114 refl) (differ 111 47 refl) (let e = slashes_inside (codes "old") folder in omega (arith, e, one)) laid
