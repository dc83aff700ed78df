-- Records that are marked, one after another.
use Rattle.std.proofs.Common.{◌≡◌, ◌∙◌, sym, ap, refl, subst, arith, ℕ, zero, suc, ◌+◌, ◌-◌, ◌<◌, ◌≤◌, Bool, true, false, List, [], ◌∷◌, length, get_or, set, ◌⊎◌, inl, inr}
use Rattle.std.specs.Prelude.{Contains}
use Rattle.std.proofs.lemmas.Bool.{cases_eq}
use Rattle.std.proofs.lemmas.List.{get_or-set_other, get_or-set_same, get_or_default, length-set}
use Rattle.store_keep.specs.Keep.{IsClosure, IsMarked, LeadsTo, NameEarlier, Names, further, here, named_by}
use Rattle.store_keep.specs.Passes.{IsMarkedUpTo, IsMarkedWith, IsPassed}

-- ---- marks

pub set_marked : (marks : List Bool) (p v : ℕ) → p < length marks → IsMarked marks v → IsMarked (set marks p true) v
set_marked marks p v lt m = elim (cases_eq v p) [
  | inl same ↦ subst (λ (x : ℕ). get_or (set marks p true) x false ≡ true) (sym same) (get_or-set_same marks p true false lt)
  | inr ne ↦ get_or-set_other marks p v true false ne ∙ m
]

pub set_only : (marks : List Bool) (p v : ℕ) → IsMarked (set marks p true) v → IsMarked marks v ⊎ (v ≡ p)
set_only marks p v m = elim (cases_eq v p) [
  | inl same ↦ inr same
  | inr ne ↦ inl (sym (get_or-set_other marks p v true false ne) ∙ m)
]

pub up_start : (old : List Bool) (places : List ℕ) → IsMarkedUpTo old places 0 old
up_start old places = record {
  long = refl;
  kept = λ v m. m;
  added = λ j d lt in_places. absurd (omega (arith, lt));
  only = λ v m. inl m;
}

pub up_more : (old marks : List Bool) (places : List ℕ) (i p : ℕ) → i < length places → get_or places i p ≡ p → p < length old → IsMarkedUpTo old places i marks → IsMarkedUpTo old places (i + 1) (set marks p true)
up_more old marks places i p lt is within u = record {
  long = length-set marks p true ∙ u.long;
  kept = λ v m. set_marked marks p v inside (u.kept v m);
  added = added;
  only = only;
}
  where
    inside : p < length marks
    inside = let e = u.long in omega (arith, e, within)

    added : (j d : ℕ) → j < i + 1 → j < length places → IsMarked (set marks p true) (get_or places j d)
    added j d less in_places = elim (cases_eq j i) [
      | inl same ↦
          let at : get_or places j d ≡ p = ap (λ (x : ℕ). get_or places x d) same ∙ get_or_default places i d p lt ∙ is in
          subst (λ (x : ℕ). get_or (set marks p true) x false ≡ true) (sym at) (get_or-set_same marks p true false inside)
      | inr ne ↦ set_marked marks p (get_or places j d) inside (u.added j d (omega (arith, less, ne)) in_places)
    ]

    only : (v : ℕ) → IsMarked (set marks p true) v → IsMarked old v ⊎ ((j : ℕ) × (j < i + 1) × (get_or places j v ≡ v))
    only v m = elim (set_only marks p v m) [
      | inl was ↦ elim (u.only v was) [
        | inl o ↦ inl o
        | inr at ↦ inr (at.0, omega (arith, at.1), at.2)
      ]
      | inr same ↦ inr (i, omega arith, ap (λ (x : ℕ). get_or places i x) same ∙ is ∙ sym same)
    ]

pub up_end : (old marks : List Bool) (places : List ℕ) (i : ℕ) → length places ≤ i → i ≤ length places → IsMarkedUpTo old places i marks → IsMarkedWith old places marks
up_end old marks places i all most u = record {
  long = u.long;
  kept = u.kept;
  added = λ v c. subst (λ (x : ℕ). get_or marks x false ≡ true) c.2 (u.added c.0 v (let lt = c.1 in omega (arith, lt, all)) c.1);
  only = λ v m. elim (u.only v m) [
    | inl o ↦ inl o
    | inr at ↦ inr (at.0, (let lt = at.1 in omega (arith, lt, most)), at.2)
  ];
}

-- ---- from the last record back

nothing_past : (edges : List (List ℕ)) (v : ℕ) → length edges ≤ v → named_by edges v ≡ []
nothing_past [] v le = refl
nothing_past (x ∷ edges) zero le = absurd (omega (arith, le))
nothing_past (x ∷ edges) (suc v) le = nothing_past edges v (omega (arith, le))

pub passed_start : (edges : List (List ℕ)) (roots : List Bool) → IsPassed edges roots roots (length edges)
passed_start edges roots = record {
  long = refl;
  kept = λ v m. m;
  only = λ v m. (v, m, here v);
  closed = λ v w le m n. absurd (let c = subst (λ (ws : List ℕ). Contains ws w) (nothing_past edges v le) n in let lt = c.1 in omega (arith, lt));
}

pub passed_marked : (edges : List (List ℕ)) (roots old new : List Bool) (k : ℕ) → NameEarlier edges → IsPassed edges roots old (k + 1) → IsMarked old k → IsMarkedWith old (named_by edges k) new → IsPassed edges roots new k
passed_marked edges roots old new k earlier p mk w = record {
  long = w.long ∙ p.long;
  kept = λ v m. w.kept v (p.kept v m);
  only = only;
  closed = closed;
}
  where
    only : (v : ℕ) → IsMarked new v → (r : ℕ) × IsMarked roots r × LeadsTo edges r v
    only v m = elim (w.only v m) [
      | inl was ↦ p.only v was
      | inr named ↦ let at = p.only k mk in (at.0, at.1, further at.0 k v at.2 named)
    ]

    closed : (v u : ℕ) → k ≤ v → IsMarked new v → Names edges v u → IsMarked new u
    closed v u le m n = elim (w.only v m) [
      | inl was ↦ elim (cases_eq v k) [
        | inl same ↦ w.added u (subst (λ (x : ℕ). Names edges x u) same n)
        | inr ne ↦ w.kept u (p.closed v u (omega (arith, le, ne)) was n)
      ]
      | inr named ↦ absurd (let lt = earlier k v named in omega (arith, lt, le))
    ]

pub passed_unmarked : (edges : List (List ℕ)) (roots marks : List Bool) (k : ℕ) → get_or marks k false ≡ false → IsPassed edges roots marks (k + 1) → IsPassed edges roots marks k
passed_unmarked edges roots marks k un p = record {
  long = p.long;
  kept = p.kept;
  only = p.only;
  closed = λ v u le m n. elim (cases_eq v k) [
    | inl same ↦ absurd (let e : true ≡ false = sym m ∙ ap (λ (x : ℕ). get_or marks x false) same ∙ un in cc)
    | inr ne ↦ p.closed v u (omega (arith, le, ne)) m n
  ];
}

led : (edges : List (List ℕ)) (roots marks : List Bool) → IsPassed edges roots marks 0 → (r v : ℕ) → IsMarked roots r → LeadsTo edges r v → IsMarked marks v
led edges roots marks p r v m (here x) = p.kept x m
led edges roots marks p r v m (further x w u l n) = p.closed w u (omega arith) (led edges roots marks p x w m l) n

pub passed_end : (edges : List (List ℕ)) (roots marks : List Bool) (k : ℕ) → k ≤ 0 → IsPassed edges roots marks k → IsClosure edges roots marks
passed_end edges roots marks k le p =
    let all : IsPassed edges roots marks 0 = subst (IsPassed edges roots marks) (let e : k ≡ 0 = omega (arith, le) in e) p in
    record { long = p.long; whole = λ r v m l. led edges roots marks all r v m l; only = p.only }

pub within_marks : (edges : List (List ℕ)) (v : ℕ) (ws : List ℕ) (marks roots : List Bool) → NameEarlier edges → ws ≡ named_by edges v → v < length edges → length marks ≡ length roots → length roots ≡ length edges → (k d : ℕ) → k < length ws → get_or ws k d < length marks
within_marks edges v ws marks roots earlier is lt long whole k d inside =
    let c : Contains (named_by edges v) (get_or ws k d) = subst (λ (xs : List ℕ). Contains xs (get_or ws k d)) is (k, inside, get_or_default ws k (get_or ws k d) d inside) in
    let less = earlier v (get_or ws k d) c in
    omega (arith, less, lt, long, whole)

pub passed_on : (edges : List (List ℕ)) (roots old new : List Bool) (n : ℕ) (ws : List ℕ) → 0 < n → NameEarlier edges → IsPassed edges roots old n → IsMarked old (n - 1) → ws ≡ named_by edges (n - 1) → IsMarkedWith old ws new → IsPassed edges roots new (n - 1)
passed_on edges roots old new n ws some earlier p mk is w =
    let e : n ≡ n - 1 + 1 = omega (arith, some) in
    passed_marked edges roots old new (n - 1) earlier (subst (IsPassed edges roots old) e p) mk (subst (λ (xs : List ℕ). IsMarkedWith old xs new) is w)
