-- Numbers that are put into an ascending list of keys.
use Rattle.std.proofs.Common.{◌≡◌, ◌∙◌, sym, ap, subst, refl, ℕ, ◌+◌, ◌<◌, arith, get_or, List, [], ◌∷◌, ◌++◌, Contains, length, take, ◌⊎◌, inl, inr}
use Rattle.std.specs.BTreeSet.{insert_key}
use Rattle.std.specs.Ordering.{nat_cmp}
use Rattle.std.specs.declared.cmp.Ordering.{Ordering}
use Rattle.std.specs.declared.cmp.Ordering.TheVariants.{Less, Equal, Greater}
use Rattle.std.proofs.lemmas.Cmp.{ranked}
use Rattle.std.proofs.lemmas.List.{take_more}
use Rattle.std.proofs.lemmas.List.Elements.{Contains-append_cases, Contains-append_left, Contains-append_right, Contains-push_cases}
use Rattle.setscene_plan.specs.Reworks.{PutsAll}

first_of : (x : ℕ) (xs : List ℕ) → Contains (x ∷ xs) x
first_of x xs = (0, omega arith, refl)

kept : (xs : List ℕ) (k t : ℕ) → Contains xs t → Contains (insert_key nat_cmp xs k) t
kept [] k t h = absurd (omega (arith, h.1))
kept (x ∷ xs) k t h = by (nat_cmp k x) refl (kept xs k t)
  where
    by : (o : Ordering) → nat_cmp k x ≡ o → (Contains xs t → Contains (insert_key nat_cmp xs k) t) → Contains (insert_key nat_cmp (x ∷ xs) k) t
    by Less e more = rw e (Contains-append_right (k ∷ []) (x ∷ xs) t h)
    by Equal e more = rw e h
    by Greater e more = rw e (elim (Contains-append_cases (x ∷ []) xs t h) [ inl a ↦ Contains-append_left (x ∷ []) (insert_key nat_cmp xs k) t a | inr b ↦ Contains-append_right (x ∷ []) (insert_key nat_cmp xs k) t (more b) ])

put : (xs : List ℕ) (k : ℕ) → Contains (insert_key nat_cmp xs k) k
put [] k = first_of k []
put (x ∷ xs) k = by (nat_cmp k x) refl (put xs k)
  where
    by : (o : Ordering) → nat_cmp k x ≡ o → Contains (insert_key nat_cmp xs k) k → Contains (insert_key nat_cmp (x ∷ xs) k) k
    by Less e more = rw e (first_of k (x ∷ xs))
    by Equal e more = let same : k ≡ x = ranked k x Equal (sym e) in rw e (subst (Contains (x ∷ xs)) (sym same) (first_of x xs))
    by Greater e more = rw e (Contains-append_right (x ∷ []) (insert_key nat_cmp xs k) k more)

only : (xs : List ℕ) (k t : ℕ) → Contains (insert_key nat_cmp xs k) t → Contains xs t ⊎ (t ≡ k)
only [] k t h = inr (one h)
  where
    one : Contains (k ∷ []) t → t ≡ k
    one h = elim (Contains-push_cases [] k t h) [ inl none ↦ absurd (omega (arith, none.1)) | inr e ↦ sym e ]
only (x ∷ xs) k t h = by (nat_cmp k x) refl (only xs k t)
  where
    by : (o : Ordering) → nat_cmp k x ≡ o → (Contains (insert_key nat_cmp xs k) t → Contains xs t ⊎ (t ≡ k)) → Contains (x ∷ xs) t ⊎ (t ≡ k)
    by Less e more = elim (Contains-append_cases (k ∷ []) (x ∷ xs) t (rw e at h)) [
      | inl a ↦ elim (Contains-push_cases [] k t a) [ inl none ↦ absurd (omega (arith, none.1)) | inr same ↦ inr (sym same) ]
      | inr b ↦ inl b
    ]
    by Equal e more = inl (rw e at h)
    by Greater e more = elim (Contains-append_cases (x ∷ []) (insert_key nat_cmp xs k) t (rw e at h)) [
      | inl a ↦ inl (Contains-append_left (x ∷ []) xs t a)
      | inr b ↦ elim (more b) [ inl c ↦ inl (Contains-append_right (x ∷ []) xs t c) | inr same ↦ inr same ]
    ]

-- one key
pub puts_one : (xs : List ℕ) (k : ℕ) → PutsAll (k ∷ []) xs (insert_key nat_cmp xs k)
puts_one xs k = record {
  kept = kept xs k;
  put = λ t h. elim (Contains-push_cases [] k t h) [ inl none ↦ absurd (omega (arith, none.1)) | inr same ↦ subst (Contains (insert_key nat_cmp xs k)) same (put xs k) ];
  only = λ t h. elim (only xs k t h) [ inl old ↦ inl old | inr same ↦ inr (subst (Contains (k ∷ [])) (sym same) (first_of k [])) ];
}

pub puts_none : (xs : List ℕ) → PutsAll [] xs xs
puts_none xs = record { kept = λ t h. h; put = λ t h. absurd (omega (arith, h.1)); only = λ t h. inl h }

pub puts_more : (tasks old mid new : List ℕ) (i k : ℕ) → i < length tasks → get_or tasks i 0 ≡ k → PutsAll (take i tasks) old mid → PutsAll (k ∷ []) mid new → PutsAll (take (i + 1) tasks) old new
puts_more tasks old mid new i k lt is before one =
    let grown : take (i + 1) tasks ≡ take i tasks ++ k ∷ [] = take_more tasks i 0 lt ∙ ap (λ y. take i tasks ++ y ∷ []) is in
    rw grown (record {
      kept = λ t h. one.kept t (before.kept t h);
      put = λ t h. elim (Contains-append_cases (take i tasks) (k ∷ []) t h) [ inl front ↦ one.kept t (before.put t front) | inr last ↦ one.put t last ];
      only = λ t h. elim (one.only t h) [
        | inl earlier ↦ elim (before.only t earlier) [ inl o ↦ inl o | inr front ↦ inr (Contains-append_left (take i tasks) (k ∷ []) t front) ]
        | inr last ↦ inr (Contains-append_right (take i tasks) (k ∷ []) t last)
      ];
    })
