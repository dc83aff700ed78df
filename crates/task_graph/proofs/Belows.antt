-- The recipes that a recipe leads to.
use Rattle.std.proofs.Common.{◌≡◌, sym, ◌∙◌, ap, subst, refl, arith, ℕ, zero, suc, ◌+◌, ◌<◌, ◌≤◌, List, [], ◌∷◌, ◌++◌, length, get_or, Some, None, Option, All, slice_get, ◌⊎◌, inl, inr, length-append}
use Rattle.std.proofs.lemmas.Bool.{cases_lt}
use Rattle.std.proofs.lemmas.List.{get_or_append_left, get_or-append-add, get_or_past}
use Rattle.std.proofs.lemmas.List.Sums.{fold-append}
use Rattle.std.proofs.lemmas.Option.{slice_get_read, get_or_from_slice_get}
use Rattle.meta_model.specs.Walks.{LeadsTo}
use Rattle.task_graph.specs.declared.needed.Needed.{Needed}
use Rattle.graph_walk.specs.Frontier.{with_node, with_nodes, number_of, Has, IsFrontier, IsSearch, AreNext}
use Rattle.task_graph.specs.Below.{edges_of, RecipeEdge, AreNumbersWithin, AreRecipesFrom}
use Rattle.graph_walk.proofs.Searching.{has_found, found_has, search_step, search_whole, search_first}

pub edges_here : (all : List Needed) (recipe : ℕ) (d : Needed) → recipe < length all → d ≡ get_or all recipe d → edges_of all recipe ≡ d.building.found.items ++ d.running.found.items
edges_here all recipe d lt is = let here : slice_get all recipe ≡ Some d = slice_get_read all (length all) recipe d refl lt is in rw here refl

all_front : (P : ℕ → Type 0) (xs ys : List ℕ) → All P (xs ++ ys) → All P xs
all_front P xs ys all k d lt = subst P (get_or_append_left xs ys d k lt) (all k d (omega (arith, lt, length-append xs ys)))

all_back : (P : ℕ → Type 0) (xs ys : List ℕ) → All P (xs ++ ys) → All P ys
all_back P xs ys all k d lt = subst P (get_or-append-add xs ys k d) (all (length xs + k) d (omega (arith, lt, length-append xs ys)))

pub building_within : (all : List Needed) (recipe count : ℕ) (d : Needed) (xs : List ℕ) → AreNumbersWithin all → recipe < length all → d ≡ get_or all recipe d → xs ≡ d.building.found.items → count ≡ length all → All (λ n. n < count) xs
building_within all recipe count d xs numbers lt is same long =
    subst (λ (c : ℕ). All (λ n. n < c) xs) (sym long) (subst (λ (l : List ℕ). All (λ n. n < length all) l) (sym same) (all_front (λ n. n < length all) d.building.found.items d.running.found.items (subst (λ (l : List ℕ). All (λ n. n < length all) l) (edges_here all recipe d lt is) (numbers recipe))))

pub running_within : (all : List Needed) (recipe count : ℕ) (d : Needed) (xs : List ℕ) → AreNumbersWithin all → recipe < length all → d ≡ get_or all recipe d → xs ≡ d.running.found.items → count ≡ length all → All (λ n. n < count) xs
running_within all recipe count d xs numbers lt is same long =
    subst (λ (c : ℕ). All (λ n. n < c) xs) (sym long) (subst (λ (l : List ℕ). All (λ n. n < length all) l) (sym same) (all_back (λ n. n < length all) d.building.found.items d.running.found.items (subst (λ (l : List ℕ). All (λ n. n < length all) l) (edges_here all recipe d lt is) (numbers recipe))))

pub found_both : (all : List Needed) (recipe : ℕ) (d : Needed) (start xs ys : List ℕ) → recipe < length all → d ≡ get_or all recipe d → xs ≡ d.building.found.items → ys ≡ d.running.found.items → with_nodes (with_nodes start xs) ys ≡ with_nodes start (edges_of all recipe)
found_both all recipe d start xs ys lt is same_xs same_ys = rw (same_xs, same_ys, edges_here all recipe d lt is) (sym (fold-append with_node start d.building.found.items d.running.found.items))

-- a node that is found is a node
pub found_within : (found : List ℕ) (numbers : List (Option ℕ)) (next at : ℕ) → IsFrontier found numbers → next < length found → at ≡ get_or found next at → at < length numbers
found_within found numbers next at frontier lt is = by_place (cases_lt at (length numbers))
  where
    here : get_or found next 0 ≡ at
    here = get_or_from_slice_get found next at 0 (slice_get_read found (length found) next at refl lt is)

    by_place : (at < length numbers) ⊎ (length numbers ≤ at) → at < length numbers
    by_place (inl within) = within
    by_place (inr past) = let f : None ≡ Some next = sym (get_or_past numbers at None past) ∙ ap (number_of numbers) (sym here) ∙ frontier.numbered next lt in absurd cc

edges_are_next : (all : List Needed) (m : ℕ) → AreNext (RecipeEdge all) m (edges_of all m)
edges_are_next all m = record { sound = λ n h. found_has (edges_of all m) n h.0 h.1; whole = λ n e. has_found (edges_of all m) n e }

pub recipes_step : (all : List Needed) (starts found new : List ℕ) (next at : ℕ) → IsSearch (RecipeEdge all) starts found next → next < length found → at ≡ get_or found next at → new ≡ with_nodes found (edges_of all at) → IsSearch (RecipeEdge all) starts new (next + 1)
recipes_step all starts found new next at search lt is now =
    subst (λ (l : List ℕ). IsSearch (RecipeEdge all) starts l (next + 1)) (sym now)
    (search_step (RecipeEdge all) starts found next at (edges_of all at) search (slice_get_read found (length found) next at refl lt is) (edges_are_next all at))

pub recipes_first : (all : List Needed) (recipe : ℕ) (old new : List ℕ) → old ≡ [] → new ≡ with_nodes old (recipe ∷ []) → IsSearch (RecipeEdge all) (recipe ∷ []) new 0
recipes_first all recipe old new empty now = subst (λ (l : List ℕ). IsSearch (RecipeEdge all) (recipe ∷ []) l 0) (sym (now ∙ ap (λ (l : List ℕ). with_nodes l (recipe ∷ [])) empty)) (search_first (RecipeEdge all) (recipe ∷ []))

pub recipes_done : (all : List Needed) (recipe : ℕ) (found : List ℕ) (next : ℕ) → IsSearch (RecipeEdge all) (recipe ∷ []) found next → length found ≤ next → AreRecipesFrom all recipe found
recipes_done all recipe found next search end = record {
  sound = λ n h. from_start n (search.reached n h);
  whole = λ n w. search_whole (RecipeEdge all) (recipe ∷ []) found next search end recipe n (0, refl) w;
}
  where
    from_start : (n : ℕ) → (a : ℕ) × Has (recipe ∷ []) a × LeadsTo (RecipeEdge all) a n → LeadsTo (RecipeEdge all) recipe n
    from_start n (a, (zero, e), w) = let same : recipe ≡ a = cc in subst (λ x. LeadsTo (RecipeEdge all) x n) (sym same) w
    from_start n (a, (suc k, e), w) = absurd (let f : None ≡ Some a = e in cc)
