-- How nodes are found.
use Rattle.std.proofs.Common.{◌≡◌, ◌≢◌, sym, ◌∙◌, ap, subst, refl, arith, ℕ, zero, suc, ◌+◌, ◌<◌, Bool, true, false, List, [], ◌∷◌, ◌++◌, length, take, get_or, set, Option, Some, None, ◌⊎◌, inl, inr, nat_eq, slice_get, get_or-set_same, get_or-set_other}
use Rattle.std.specs.List.{AllZip}
use Rattle.std.proofs.lemmas.Bool.{cases_eq}
use Rattle.std.proofs.lemmas.List.{length_push, get_or_append_left, get_or_push, get_or_default}
use Rattle.std.proofs.lemmas.List.Folds.{list_any_at, list_any_none}
use Rattle.std.proofs.lemmas.List.Elements.{all_zip_more}
use Rattle.std.proofs.lemmas.List.Sums.{sum_by-set, fold_more}
use Rattle.std.proofs.lemmas.Option.{get_or_from_slice_get}
use Rattle.graph_walk.specs.Frontier.{is_found, with_node, with_nodes, free, number_of, IsFrontier, room}

pub same_numbers : (a b : ℕ) → nat_eq a b ≡ true → a ≡ b
same_numbers a b e = grind (arith, e)

-- a place within a list
pub place_within : {A : Type 0} (xs : List A) (k : ℕ) (x : A) → slice_get xs k ≡ Some x → k < length xs
place_within [] k x e = absurd cc
place_within (y ∷ ys) zero x e = omega arith
place_within (y ∷ ys) (suc k) x e = omega (arith, place_within ys k x e)

pub slice_push : {A : Type 0} (xs : List A) (y x : A) (k : ℕ) → slice_get xs k ≡ Some x → slice_get (xs ++ y ∷ []) k ≡ Some x
slice_push [] y x k e = absurd cc
slice_push (z ∷ zs) y x zero e = e
slice_push (z ∷ zs) y x (suc k) e = slice_push zs y x k e

pub slice_last : {A : Type 0} (xs : List A) (y : A) → slice_get (xs ++ y ∷ []) (length xs) ≡ Some y
slice_last [] y = refl
slice_last (z ∷ zs) y = slice_last zs y

module _ (found : List ℕ) (numbers : List (Option ℕ)) (frontier : IsFrontier found numbers) where
  pub known : (node k : ℕ) → number_of numbers node ≡ Some k → found ≡ with_node found node
  known node k e =
      let at = frontier.placed node k e in
      let same : nat_eq node (get_or found k node) ≡ true = grind (arith, get_or_from_slice_get found k node node at) in
      let here : is_found found node ≡ true = list_any_at (nat_eq node) found k node (place_within found k node at) same in
      rw here refl

  not_found : (node : ℕ) → number_of numbers node ≡ None → is_found found node ≡ false
  not_found node e = list_any_none (nat_eq node) found (λ k d lt. by_same (nat_eq node (get_or found k d)) k d lt refl)
    where
      by_same : (b : Bool) (k d : ℕ) → k < length found → nat_eq node (get_or found k d) ≡ b → nat_eq node (get_or found k d) ≡ false
      by_same true k d lt same =
          let is : get_or found k 0 ≡ node = sym (get_or_default found k d 0 lt) ∙ sym (same_numbers node (get_or found k d) same) in
          let f : None ≡ Some k = sym e ∙ ap (number_of numbers) (sym is) ∙ frontier.numbered k lt in
          absurd cc
      by_same false k d lt same = same

  pub unknown : (node : ℕ) → number_of numbers node ≡ None → found ++ node ∷ [] ≡ with_node found node
  unknown node e = rw (not_found node e) refl

  pub put : (node : ℕ) → node < length numbers → number_of numbers node ≡ None → IsFrontier (found ++ node ∷ []) (set numbers node (Some (length found)))
  put node lt e = record {
    numbered = λ k within. numbered_now k within (cases_eq k (length found));
    placed = λ other k is. placed_now other k is (cases_eq other node);
  }
    where
      numbered_now : (k : ℕ) → k < length (found ++ node ∷ []) → (k ≡ length found) ⊎ (k ≡ length found → ⊥) → number_of (set numbers node (Some (length found))) (get_or (found ++ node ∷ []) k 0) ≡ Some k
      numbered_now k within (inl last) =
          let is : get_or (found ++ node ∷ []) k 0 ≡ node = get_or_push found node 0 k (sym last) in
          ap (number_of (set numbers node (Some (length found)))) is ∙ get_or-set_same numbers node (Some (length found)) None lt ∙ ap Some (sym last)
      numbered_now k within (inr front) =
          let inside : k < length found = omega (arith, within, front, length_push found node) in
          let is : get_or (found ++ node ∷ []) k 0 ≡ get_or found k 0 = get_or_append_left found (node ∷ []) 0 k inside in
          let apart : get_or found k 0 ≢ node = λ same. (let f : None ≡ Some k = sym e ∙ ap (number_of numbers) (sym same) ∙ frontier.numbered k inside in cc) in
          ap (number_of (set numbers node (Some (length found)))) is ∙ get_or-set_other numbers node (get_or found k 0) (Some (length found)) None apart ∙ frontier.numbered k inside

      placed_now : (other k : ℕ) → number_of (set numbers node (Some (length found))) other ≡ Some k → (other ≡ node) ⊎ (other ≡ node → ⊥) → slice_get (found ++ node ∷ []) k ≡ Some other
      placed_now other k is (inl same) =
          let f : Some (length found) ≡ Some k = sym (get_or-set_same numbers node (Some (length found)) None lt) ∙ ap (number_of (set numbers node (Some (length found)))) (sym same) ∙ is in
          let g : length found ≡ k = cc in
          subst (λ n. slice_get (found ++ node ∷ []) n ≡ Some other) g (slice_last found node ∙ ap Some (sym same))
      placed_now other k is (inr apart) = slice_push found node other k (frontier.placed other k (sym (get_or-set_other numbers node other (Some (length found)) None apart) ∙ is))

  pub room_kept : (node : ℕ) → node < length numbers → number_of numbers node ≡ None → room (found ++ node ∷ []) (set numbers node (Some (length found))) ≡ room found numbers
  room_kept node lt e = omega (arith, length_push found node, sum_by-set free numbers node (Some (length found)) None lt, ap free e)

-- what the code reads
pub number_read : (numbers : List (Option ℕ)) (node : ℕ) (o : Option ℕ) → node < length numbers → o ≡ get_or numbers node o → number_of numbers node ≡ o
number_read numbers node o lt is = sym (is ∙ get_or_default numbers node o None lt)

-- what was found stays at its place

pub place_kept : (found : List ℕ) (node k v : ℕ) → slice_get found k ≡ Some v → slice_get (with_node found node) k ≡ Some v
place_kept found node k v e = by_known (is_found found node) refl
  where
    by_known : (b : Bool) → is_found found node ≡ b → slice_get (with_node found node) k ≡ Some v
    by_known true f = rw f e
    by_known false f = rw f (slice_push found node v k e)

places_kept : (found : List ℕ) (node : ℕ) (nodes places : List ℕ) → AllZip (λ n place. slice_get found place ≡ Some n) nodes places → AllZip (λ n place. slice_get (with_node found node) place ≡ Some n) nodes places
places_kept found node [] [] h = h
places_kept found node [] (p ∷ ps) h = absurd h
places_kept found node (n ∷ ns) [] h = absurd h
places_kept found node (n ∷ ns) (p ∷ ps) h = (place_kept found node p n h.0, places_kept found node ns ps h.1)

-- one more node in a loop
pub found_more : (start nodes : List ℕ) (i : ℕ) (node : ℕ) (found new : List ℕ) → i < length nodes → node ≡ get_or nodes i node → found ≡ with_nodes start (take i nodes) → new ≡ with_node found node → new ≡ with_nodes start (take (i + 1) nodes)
found_more start nodes i node found new lt is before now = now ∙ rw before (sym (fold_more with_node start nodes i node lt ∙ ap (with_node (with_nodes start (take i nodes))) (sym is)))

pub places_more : (nodes : List ℕ) (i : ℕ) (node place : ℕ) (found new places : List ℕ) → i < length nodes → node ≡ get_or nodes i node → new ≡ with_node found node → slice_get new place ≡ Some node
    → AllZip (λ n p. slice_get found p ≡ Some n) (take i nodes) places → AllZip (λ n p. slice_get new p ≡ Some n) (take (i + 1) nodes) (places ++ place ∷ [])
places_more nodes i node place found new places lt is now here before =
    all_zip_more (λ n p. slice_get new p ≡ Some n) nodes places i node place lt is (subst (λ (xs : List ℕ). AllZip (λ n p. slice_get xs p ≡ Some n) (take i nodes) places) (sym now) (places_kept found node (take i nodes) places before)) here
