-- What drafts say of their tasks, and their order.
use Rattle.std.proofs.Common.{◌≡◌, sym, ◌∙◌, ap, subst, refl, arith, ℕ, ◌+◌, ◌<◌, true, false, List, [], ◌∷◌, ◌++◌, length, map, get_or, Some, All, slice_get, slice_index}
use Rattle.std.specs.Prelude.{IsPermutation}
use Rattle.std.specs.List.{range_with_len}
use Rattle.std.specs.List.Sorted.{IsSortedBy}
use Rattle.std.specs.Cmp.{IsTotalOrder}
use Rattle.std.specs.Cmp.Lexicographic.{bytes_decides}
use Rattle.std.specs.Ordering.{is_lt, ordering_reverse}
use Rattle.std.specs.declared.cmp.Ordering.{Ordering}
use Rattle.std.specs.declared.cmp.Ordering.TheVariants.{Less, Equal, Greater}
use Rattle.std.proofs.lemmas.Cmp.{nat_cmp_total, nat_list_cmp_total, on_total, then_total}
use Rattle.std.proofs.lemmas.List.{map_push}
use Rattle.std.proofs.lemmas.List.FromFn.{map-range_with_len_more}
use Rattle.std.proofs.lemmas.List.Sorted.{ranks_by, sorted_far, IsPermutation-map, All-permutation}
use Rattle.std.proofs.lemmas.Option.{get_or_from_slice_get}
use Rattle.meta_model.specs.declared.facts.FactSet.{FactSet}
use Rattle.meta_model.specs.declared.facts.RecipeFacts.{RecipeFacts}
use Rattle.meta_model.specs.declared.facts.TaskFacts.{TaskFacts}
use Rattle.meta_model.specs.declared.facts.TaskId.{TaskId}
use Rattle.meta_model.specs.Needs.{Task}
use Rattle.meta_model.specs.GraphRefusal.{pn_of}
use Rattle.meta_model.specs.TaskGraph.{id_of, id_cmp}
use Rattle.graph_walk.proofs.Finding.{place_within}
use Rattle.task_graph.specs.declared.order.Draft.{Draft}
use Rattle.task_graph.specs.declared.table.Spot.{Spot}
use Rattle.task_graph.specs.declared.table.TaskTable.{TaskTable}
use Rattle.task_graph.specs.Table.{IsTable, number_of_task}
use Rattle.task_graph.specs.Edges.{IsNumbered}
use Rattle.task_graph.specs.Order.{IsIdOf, IsRecipeOf, IsDraftOf, IsDraft, AreDrafts, draft_cmp, place_of}
use Rattle.task_graph.proofs.Tabled.{number_at}
use Rattle.task_graph.proofs.Needing.{IsRead, standing, recipe_within}

-- tasks as they are written
pub ids_total : IsTotalOrder id_cmp
ids_total = then_total (on_total (λ (x : TaskId). x.pn) nat_list_cmp_total) (on_total (λ (x : TaskId). x.task) nat_list_cmp_total)

pub drafts_total : IsTotalOrder draft_cmp
drafts_total = then_total (on_total (λ (d : Draft). d.depth) nat_cmp_total) (on_total (λ (d : Draft). d.id) ids_total)

-- the second isn't less, so the first isn't greater
pub not_greater : {K : Type 0} (cmp : K → K → Ordering) → IsTotalOrder cmp → (x y : K) → is_lt (cmp y x) ≡ false → cmp x y ≡ Greater → ⊥
not_greater cmp total x y not_less greater = by_other (cmp y x) refl
  where
    by_other : (o : Ordering) → cmp y x ≡ o → ⊥
    by_other Less e = let f : true ≡ false = sym (ap is_lt e) ∙ not_less in cc
    by_other Equal e = let f : Greater ≡ Equal = sym greater ∙ total.antisymm x y ∙ ap ordering_reverse e in cc
    by_other Greater e = let f : Greater ≡ Less = sym greater ∙ total.antisymm x y ∙ ap ordering_reverse e in cc

module _ (facts : FactSet) (table : TaskTable) (is_table : IsTable facts table) where
  module _ (u n : ℕ) (r : RecipeFacts) (t : TaskFacts) (read : IsRead facts table.spots.items u n r t) where
    -- what is read of the task with a number is that task's
    told_by : (a : Task) → number_of_task table a ≡ Some u → (pn_of facts a.0 ≡ r.pn) × (a.1 ≡ t.task)
    told_by a e =
        let at = number_at facts table is_table a u e in
        let s : Some (record { recipe = a.0; place = at.place }) ≡ Some (record { recipe = n; place = read.place }) = sym at.spot ∙ read.spot in
        let v : record { recipe = a.0; place = at.place } ≡ record { recipe = n; place = read.place } = cc in
        let number : a.0 ≡ n = ap (λ (x : Spot). x.recipe) v in
        let place : at.place ≡ read.place = ap (λ (x : Spot). x.place) v in
        let q : Some at.recipe ≡ Some r = sym at.recipe_is ∙ ap (slice_get facts.recipes) number ∙ read.recipe_is in
        let recipe : at.recipe ≡ r = cc in
        let g : Some at.told ≡ Some t = sym at.stands ∙ ap (λ (x : RecipeFacts). slice_get x.tasks at.place) recipe ∙ ap (slice_get r.tasks) place ∙ read.told_is in
        let told : at.told ≡ t = cc in
        (rw at.recipe_is (ap (λ (x : RecipeFacts). x.pn) recipe), sym ((bytes_decides at.told.task a.1).0 at.named) ∙ ap (λ (x : TaskFacts). x.task) told)

    pub id_written : (mc pn task : List ℕ) → mc ≡ [] → pn ≡ r.pn → task ≡ t.task → IsIdOf facts table u (record { mc = mc; pn = pn; task = task })
    id_written mc pn task e f g a number = together (told_by a number)
      where
        together : (pn_of facts a.0 ≡ r.pn) × (a.1 ≡ t.task) → record { mc = mc; pn = pn; task = task } ≡ id_of facts a
        together (h, i) = ap (λ (x : List ℕ). record { mc = x; pn = pn; task = task }) e ∙ ap (λ (x : List ℕ). record { mc = []; pn = x; task = task }) (f ∙ sym h) ∙ ap (λ (x : List ℕ). record { mc = []; pn = pn_of facts a.0; task = x }) (g ∙ sym i)

  -- the recipe of the task with a number, as it is read
  pub recipe_told : (u : ℕ) (s : Spot) → IsNumbered table u → s ≡ get_or table.spots.items u s → IsRecipeOf table u s.recipe
  recipe_told u s numbered read a e =
      let at = number_at facts table is_table a u e in
      let here : s ≡ record { recipe = a.0; place = at.place } = read ∙ get_or_from_slice_get table.spots.items u (record { recipe = a.0; place = at.place }) s at.spot in
      ap (λ (x : Spot). x.recipe) here

  pub recipe_fits : (u : ℕ) (s : Spot) → IsNumbered table u → s ≡ get_or table.spots.items u s → s.recipe < length facts.recipes
  recipe_fits u s numbered read = recipe_within facts table.spots.items u (standing facts table is_table u numbered) s read facts.recipes refl

  pub number_within : (u : ℕ) → IsNumbered table u → u < length table.spots.items
  number_within u numbered = let stands = standing facts table is_table u numbered in place_within table.spots.items u stands.spot stands.spot_is

  pub draft_is : (found depths : List ℕ) (i v depth : ℕ) (draft : Draft) → IsNumbered table v → slice_get found i ≡ Some v → IsDraftOf facts table i v depth draft → depth ≡ slice_index depths i → IsDraft facts table found depths draft
  draft_is found depths i v depth draft (a, e) stands is deep = record {
    task = a;
    at = (v, ap (slice_get found) is.placed ∙ stands, e);
    recipe = is.recipe a e;
    id = is.id a e;
    deep = is.deep ∙ deep ∙ ap (slice_index depths) (sym is.placed);
  }

-- places in a row, one more
pub places_more : (drafts : List Draft) (draft : Draft) (i : ℕ) → map place_of drafts ≡ range_with_len 0 i → draft.place ≡ i → map place_of (drafts ++ draft ∷ []) ≡ range_with_len 0 (i + 1)
places_more drafts draft i e f = map_push place_of drafts draft ∙ ap (λ (l : List ℕ). l ++ draft.place ∷ []) e ∙ ap (λ n. range_with_len 0 i ++ n ∷ []) f ∙ sym (range_more i)
  where
    same_map : (l : List ℕ) → map (λ (x : ℕ). x) l ≡ l
    same_map [] = refl
    same_map (x ∷ xs) = ap (λ (l : List ℕ). x ∷ l) (same_map xs)

    range_more : (n : ℕ) → range_with_len 0 (n + 1) ≡ range_with_len 0 n ++ n ∷ []
    range_more n = sym (same_map (range_with_len 0 (n + 1))) ∙ map-range_with_len_more (λ (x : ℕ). x) 0 n n (omega arith) ∙ ap (λ (l : List ℕ). l ++ n ∷ []) (same_map (range_with_len 0 n))

-- drafts stay drafts when they are put in order
pub drafts_ordered : (facts : FactSet) (table : TaskTable) (found depths : List ℕ) (drafts sorted : List Draft) → All (IsDraft facts table found depths) drafts → map place_of drafts ≡ range_with_len 0 (length found)
    → IsPermutation drafts sorted → IsSortedBy (λ m n. is_lt (draft_cmp m n)) sorted → AreDrafts facts table found depths sorted
drafts_ordered facts table found depths drafts sorted each places moved up = record {
  each = All-permutation (IsDraft facts table found depths) drafts sorted moved each;
  places = subst (λ (l : List ℕ). IsPermutation l (map place_of sorted)) places (IsPermutation-map place_of drafts sorted moved);
  ascend = λ i j d lt within. not_greater draft_cmp drafts_total (get_or sorted i d) (get_or sorted j d) (sorted_far (λ m n. is_lt (draft_cmp m n)) (ranks_by drafts_total (λ (x : Draft). x)) sorted up i j d (omega (arith, lt)) within);
}
