-- A search for all that some nodes lead to.
use Rattle.std.proofs.Common.{◌≡◌, sym, ◌∙◌, ap, subst, refl, arith, ℕ, zero, suc, ◌+◌, ◌<◌, ◌≤◌, Bool, true, false, List, [], ◌∷◌, ◌++◌, length, Some, None, ◌⊎◌, inl, inr, nat_eq, slice_get}
use Rattle.std.proofs.lemmas.Bool.{cases_lt}
use Rattle.meta_model.specs.Walks.{Walk, LeadsTo}
use Rattle.graph_walk.specs.Frontier.{is_found, with_node, with_nodes, Has, IsSearch, AreNext}
use Rattle.graph_walk.proofs.Finding.{place_kept, place_within, slice_last, same_numbers}

-- membership as a test
pub has_found : (xs : List ℕ) (v : ℕ) → is_found xs v ≡ true → Has xs v
has_found [] v e = absurd cc
has_found (x ∷ xs) v e = by_first (nat_eq v x) refl (has_found xs v)
  where
    by_first : (b : Bool) → nat_eq v x ≡ b → (is_found xs v ≡ true → Has xs v) → Has (x ∷ xs) v
    by_first true f later = (0, ap Some (sym (same_numbers v x f)))
    by_first false f later = let rest = later (rw f at e) in (suc rest.0, rest.1)

itself : (v : ℕ) → nat_eq v v ≡ true
itself v = by_same (nat_eq v v) refl
  where
    by_same : (b : Bool) → nat_eq v v ≡ b → nat_eq v v ≡ true
    by_same true e = e
    by_same false e = absurd (grind (arith, e))

pub found_has : (xs : List ℕ) (v k : ℕ) → slice_get xs k ≡ Some v → is_found xs v ≡ true
found_has [] v k e = absurd cc
found_has (x ∷ xs) v zero e = let same : x ≡ v = cc in rw (same, itself v) refl
found_has (x ∷ xs) v (suc k) e = by_first (nat_eq v x) refl (found_has xs v k e)
  where
    by_first : (b : Bool) → nat_eq v x ≡ b → is_found xs v ≡ true → is_found (x ∷ xs) v ≡ true
    by_first true f later = rw f refl
    by_first false f later = rw f later

-- what is found stays found, and the nodes that are put are found

pub kept_all : (found ws : List ℕ) (k v : ℕ) → slice_get found k ≡ Some v → slice_get (with_nodes found ws) k ≡ Some v
kept_all found [] k v e = e
kept_all found (w ∷ ws) k v e = kept_all (with_node found w) ws k v (place_kept found w k v e)

put_one : (found : List ℕ) (w : ℕ) → Has (with_node found w) w
put_one found w = by_known (is_found found w) refl
  where
    by_known : (b : Bool) → is_found found w ≡ b → Has (with_node found w) w
    by_known true e = rw e (has_found found w e)
    by_known false e = rw e (length found, slice_last found w)

pub put_all : (found ws : List ℕ) (w : ℕ) → Has ws w → Has (with_nodes found ws) w
put_all found [] w (k, e) = absurd cc
put_all found (x ∷ xs) w (zero, e) =
    let same : x ≡ w = cc in
    let here = put_one found x in
    (here.0, kept_all (with_node found x) xs here.0 w (here.1 ∙ ap Some same))
put_all found (x ∷ xs) w (suc k, e) = put_all (with_node found x) xs w (k, e)

-- nothing else is found
one_or_old : (found : List ℕ) (w v : ℕ) → Has (with_node found w) v → Has found v ⊎ (w ≡ v)
one_or_old found w v = by_known (is_found found w) refl
  where
    in_push : (xs : List ℕ) (k : ℕ) → slice_get (xs ++ w ∷ []) k ≡ Some v → Has xs v ⊎ (w ≡ v)
    in_push [] zero e = inr cc
    in_push [] (suc k) e = absurd cc
    in_push (x ∷ xs) zero e = inl (0, e)
    in_push (x ∷ xs) (suc k) e = elim (in_push xs k e) [ inl h ↦ inl (suc h.0, h.1) | inr h ↦ inr h ]

    by_known : (b : Bool) → is_found found w ≡ b → Has (with_node found w) v → Has found v ⊎ (w ≡ v)
    by_known true e h = inl (rw e at h)
    by_known false e h = let g : Has (found ++ w ∷ []) v = rw e at h in in_push found g.0 g.1

pub old_or_new : (found ws : List ℕ) (v : ℕ) → Has (with_nodes found ws) v → Has found v ⊎ Has ws v
old_or_new found [] v h = inl h
old_or_new found (w ∷ ws) v h = elim (old_or_new (with_node found w) ws v h) [
  | inl g ↦ elim (one_or_old found w v g) [ inl old ↦ inl old | inr same ↦ inr (0, ap Some same) ]
  | inr g ↦ inr (suc g.0, g.1)
]

-- walks

pub walk_on : (R : ℕ → ℕ → Type 0) (n a b c : ℕ) → Walk R n a b → R b c → Walk R (suc n) a c
walk_on R zero a b c w r = (c, subst (λ x. R x c) (sym w) r, refl)
walk_on R (suc n) a b c (d, first, rest) r = (d, first, walk_on R n d b c rest r)

module _ (R : ℕ → ℕ → Type 0) (starts : List ℕ) where
  -- the search goes on by one node
  pub search_step : (found : List ℕ) (next at : ℕ) (ws : List ℕ) → IsSearch R starts found next → slice_get found next ≡ Some at → AreNext R at ws → IsSearch R starts (with_nodes found ws) (next + 1)
  search_step found next at ws search here are = record {
    reached = λ v h. by_age v (old_or_new found ws v h);
    begun = λ a h. let old = search.begun a h in (old.0, kept_all found ws old.0 a old.1);
    closed = λ k v w lt is r. by_place k v w lt is r (cases_lt k next);
  }
    where
      by_age : (v : ℕ) → Has found v ⊎ Has ws v → (a : ℕ) × Has starts a × LeadsTo R a v
      by_age v (inl old) = search.reached v old
      by_age v (inr new) =
          let before = search.reached at (next, here) in
          (before.0, before.1, (suc before.2.0, walk_on R before.2.0 before.0 at v before.2.1 (are.sound v new)))

      by_place : (k v w : ℕ) → k < next + 1 → slice_get (with_nodes found ws) k ≡ Some v → R v w → (k < next) ⊎ (next ≤ k) → Has (with_nodes found ws) w
      by_place k v w lt is r (inl front) =
          let within : k < length found = omega (arith, front, place_within found next at here) in
          let old = there found k within in
          let same : Some old.0 ≡ Some v = sym (kept_all found ws k old.0 old.1) ∙ is in
          let one : old.0 ≡ v = cc in
          let got = search.closed k v w front (old.1 ∙ ap Some one) r in
          (got.0, kept_all found ws got.0 w got.1)
        where
          there : (xs : List ℕ) (j : ℕ) → j < length xs → (x : ℕ) × (slice_get xs j ≡ Some x)
          there [] j l = absurd (omega (arith, l))
          there (x ∷ xs) zero l = (x, refl)
          there (x ∷ xs) (suc j) l = there xs j (omega (arith, l))
      by_place k v w lt is r (inr last) =
          let place : k ≡ next = omega (arith, lt, last) in
          let same : Some at ≡ Some v = sym (kept_all found ws next at here) ∙ ap (slice_get (with_nodes found ws)) (sym place) ∙ is in
          let one : at ≡ v = cc in
          put_all found ws w (are.whole w (subst (λ x. R x w) (sym one) r))

  -- a search whose nodes have all been gone through has found all
  all_walks : (found : List ℕ) (next : ℕ) → IsSearch R starts found next → length found ≤ next → (n a b : ℕ) → Has found a → Walk R n a b → Has found b
  all_walks found next search end zero a b h w = subst (Has found) w h
  all_walks found next search end (suc n) a b h (c, first, rest) = all_walks found next search end n c b (search.closed h.0 a c (omega (arith, end, place_within found h.0 a h.1)) h.1 first) rest

  pub search_whole : (found : List ℕ) (next : ℕ) → IsSearch R starts found next → length found ≤ next → (a b : ℕ) → Has starts a → LeadsTo R a b → Has found b
  search_whole found next search end a b start (n, w) = all_walks found next search end n a b (search.begun a start) w

  pub search_first : IsSearch R starts (with_nodes [] starts) 0
  search_first = record {
    reached = λ v h. elim (old_or_new [] starts v h) [ inl old ↦ absurd (let f : None ≡ Some v = old.1 in cc) | inr new ↦ (v, new, (0, refl)) ];
    begun = λ a h. put_all [] starts a h;
    closed = λ k v w lt is r. absurd (omega (arith, lt));
  }
