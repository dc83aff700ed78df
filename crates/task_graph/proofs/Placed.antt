-- From the places of the tasks that are found to the tasks: their edges, depths and cycles.
use Rattle.std.proofs.Common.{◌≡◌, sym, ◌∙◌, ap, subst, refl, arith, ℕ, zero, suc, ◌<◌, List, [], ◌∷◌, length, get_or, Some, All, Contains, slice_get, slice_index}
use Rattle.std.specs.List.{AllZip}
use Rattle.std.proofs.lemmas.Option.{get_or_from_slice_get}
use Rattle.meta_model.specs.declared.facts.FactSet.{FactSet}
use Rattle.meta_model.specs.declared.facts.Target.{Target}
use Rattle.meta_model.specs.Walks.{Walk, IsDepth, IsCycle, ClosesAt}
use Rattle.meta_model.specs.Needs.{Task, Needs}
use Rattle.meta_model.specs.TaskGraph.{IsReached}
use Rattle.task_graph.specs.declared.table.TaskTable.{TaskTable}
use Rattle.graph_walk.specs.Frontier.{Has}
use Rattle.task_graph.specs.Table.{IsTable}
use Rattle.graph_walk.specs.Edges.{AreWithin, HasEdge, edges_from}
use Rattle.graph_walk.specs.declared.depth.Depths.{Depths}
use Rattle.graph_walk.specs.declared.depth.Depths.TheVariants.{Found, Cycle}
use Rattle.task_graph.specs.Levels.{AreLevels}
use Rattle.graph_walk.specs.Found.{HasCycle, AreDepths}
use Rattle.task_graph.specs.Reached.{TaskEdge, AreReached, StandsAt, HasTaskCycle}
use Rattle.graph_walk.proofs.Finding.{place_within}
use Rattle.task_graph.proofs.Tabled.{one_task, task_numbered}
use Rattle.task_graph.proofs.Reaching.{slice_there, there, all_from_has, needs_task}

module _ (facts : FactSet) (table : TaskTable) (is_table : IsTable facts table) (targets : List Target) (found : List ℕ) (edges : List (List ℕ)) (ends : List ℕ) (are : AreReached facts table targets found edges ends) where
  pub edges_within : AreWithin edges
  edges_within = all_from_has (λ (ws : List ℕ). All (λ w. w < length edges) ws) edges (λ ws h. all_from_has (λ w. w < length edges) ws (λ p held. within ws h p held))
    where
      within : (ws : List ℕ) → Has edges ws → (p : ℕ) → Has ws p → p < length edges
      within ws (k, e) p held =
          let at = there found k (omega (arith, place_within edges k ws e, are.long)) in
          let got = (are.needs k at.0 ws at.1 e).sound p held in
          omega (arith, place_within found p got.0 got.1, are.long)

  -- one step
  pub step_down : (i j : ℕ) (a : Task) → StandsAt table found i a → HasEdge edges i j → (b : Task) × StandsAt table found j b × Needs facts a b
  step_down i j a (v, e, number) (k, lt, is) =
      let row = there edges i (omega (arith, place_within found i v e, are.long)) in
      let same : edges_from edges i ≡ row.0 = get_or_from_slice_get edges i row.0 [] row.1 in
      let held : Has row.0 j = (k, slice_there row.0 k j (subst (λ (l : List ℕ). k < length l) same lt) (subst (λ (l : List ℕ). get_or l k j ≡ j) same is)) in
      let got = (are.needs i v row.0 e row.1).sound j held in
      by_edge got.0 got.1 got.2
    where
      by_edge : (w : ℕ) → slice_get found j ≡ Some w → TaskEdge facts table v w → (b : Task) × StandsAt table found j b × Needs facts a b
      by_edge w f (c, d, at_c, at_d, needs) =
          let one : c ≡ a = one_task facts table is_table c a v at_c number in
          (d, (w, f, at_d), subst (λ x. Needs facts x d) one needs)

  pub step_up : (i : ℕ) (a b : Task) → StandsAt table found i a → Needs facts a b → (j : ℕ) × StandsAt table found j b × HasEdge edges i j
  step_up i a b (v, e, number) needs =
      let row = there edges i (omega (arith, place_within found i v e, are.long)) in
      let same : edges_from edges i ≡ row.0 = get_or_from_slice_get edges i row.0 [] row.1 in
      let at_b = task_numbered facts table is_table b (needs_task facts a b needs) in
      let got = (are.needs i v row.0 e row.1).whole at_b.0 (a, b, number, at_b.1, needs) in
      let j : ℕ = got.0 in
      let held : Contains row.0 j = (got.1.0, place_within row.0 got.1.0 j got.1.1, get_or_from_slice_get row.0 got.1.0 j j got.1.1) in
      (j, (at_b.0, got.2, at_b.1), subst (λ (l : List ℕ). Contains l j) (sym same) held)

  walk_down : (n i k : ℕ) (a : Task) → StandsAt table found i a → Walk (HasEdge edges) n i k → (b : Task) × Walk (Needs facts) n a b
  walk_down zero i k a at w = (a, refl)
  walk_down (suc n) i k a at (j, edge, rest) =
      let down = step_down i j a at edge in
      let more = walk_down n j k down.0 down.1 rest in
      (more.0, (down.0, down.2, more.1))

  walk_up : (n i : ℕ) (a b : Task) → StandsAt table found i a → Walk (Needs facts) n a b → (k : ℕ) × Walk (HasEdge edges) n i k
  walk_up zero i a b at w = (i, refl)
  walk_up (suc n) i a b at (c, needs, rest) =
      let up = step_up i a c at needs in
      let more = walk_up n up.0 c b up.1 rest in
      (more.0, (up.0, up.2, more.1))

  -- a place's depth is that of its task
  pub depth_of_task : (i depth : ℕ) (a : Task) → StandsAt table found i a → IsDepth (HasEdge edges) i depth → IsDepth (Needs facts) a depth
  depth_of_task i depth a at is = record {
    walk = walk_down depth i is.walk.0 a at is.walk.1;
    longest = λ n b w. (let up = walk_up n i a b at w in is.longest n up.0 up.1);
  }

  -- the task at a place
  pub task_at : (i : ℕ) → i < length found → (a : Task) × StandsAt table found i a × IsReached facts targets a
  task_at i lt =
      let node = there found i lt in
      let got = are.sound node.0 (i, node.1) in
      (got.0, (node.0, node.1, got.1), got.2)

  pub same_task : (i : ℕ) (a b : Task) → StandsAt table found i a → StandsAt table found i b → a ≡ b
  same_task i a b (v, e, f) (w, g, h) =
      let s : Some v ≡ Some w = sym e ∙ g in
      let one : v ≡ w = cc in
      one_task facts table is_table a b w (f ∙ ap Some one) h

  edge_needs : (i j : ℕ) (a b : Task) → StandsAt table found i a → StandsAt table found j b → HasEdge edges i j → Needs facts a b
  edge_needs i j a b at_a at_b edge = let down = step_down i j a at_a edge in subst (Needs facts a) (same_task j down.0 b down.1 at_b) down.2

  tasks_at : (nodes : List ℕ) → ((i : ℕ) → Has nodes i → i < length found) → (tasks : List Task) × AllZip (λ i a. StandsAt table found i a × IsReached facts targets a) nodes tasks
  tasks_at [] within = ([], tt)
  tasks_at (i ∷ is) within =
      let first = task_at i (within i (0, refl)) in
      let rest = tasks_at is (λ j h. within j (suc h.0, h.1)) in
      (first.0 ∷ rest.0, ((first.1, first.2), rest.1))

  closes : (first : ℕ) (start : Task) → StandsAt table found first start → (nodes : List ℕ) (tasks : List Task) → AllZip (λ i a. StandsAt table found i a × IsReached facts targets a) nodes tasks → ClosesAt (HasEdge edges) first nodes → ClosesAt (Needs facts) start tasks
  closes first start at [] [] zip closed = closed
  closes first start at [] (a ∷ tasks) zip closed = absurd zip
  closes first start at (i ∷ nodes) [] zip closed = absurd zip
  closes first start at (i ∷ []) (a ∷ []) zip closed = edge_needs i first a start zip.0.0 at closed
  closes first start at (i ∷ []) (a ∷ (b ∷ tasks)) zip closed = absurd zip.1
  closes first start at (i ∷ (j ∷ nodes)) (a ∷ []) zip closed = absurd zip.1
  closes first start at (i ∷ (j ∷ nodes)) (a ∷ (b ∷ tasks)) zip closed = (edge_needs i j a b zip.0.0 zip.1.0.0 closed.0, closes first start at (j ∷ nodes) (b ∷ tasks) zip.1 closed.1)

  -- a cycle of places is one of tasks
  pub task_cycle : (nodes : List ℕ) → HasCycle edges nodes → HasTaskCycle facts table targets found nodes
  task_cycle nodes has =
      let made = tasks_at nodes (λ i h. omega (arith, subst (λ m. m < length edges) (get_or_from_slice_get nodes h.0 i i h.1) (has.nodes h.0 i (place_within nodes h.0 i h.1)), are.long)) in
      record { tasks = made.0; at = made.1; closed = by_nodes nodes made.0 made.1 has.closed }
    where
      by_nodes : (xs : List ℕ) (tasks : List Task) → AllZip (λ i a. StandsAt table found i a × IsReached facts targets a) xs tasks → IsCycle (HasEdge edges) xs → IsCycle (Needs facts) tasks
      by_nodes [] [] zip closed = closed
      by_nodes [] (a ∷ tasks) zip closed = absurd zip
      by_nodes (i ∷ xs) [] zip closed = absurd zip
      by_nodes (i ∷ xs) (a ∷ tasks) zip closed = closes i a zip.0.0 (i ∷ xs) (a ∷ tasks) zip closed

  pub levels_are : (rows : List (List ℕ)) (depths : Depths) → rows ≡ edges → AreDepths rows depths → AreLevels facts table targets found depths
  levels_are rows depths same are_depths = by_kind depths (subst (λ (l : List (List ℕ)). AreDepths l depths) same are_depths)
    where
      by_kind : (d : Depths) → AreDepths edges d → AreLevels facts table targets found d
      by_kind (Found depths) has = record {
        long = has.long ∙ are.long;
        each = λ i a at. depth_of_task i (slice_index depths.items i) a at (has.each i (omega (arith, place_within found i at.0 at.1, are.long)));
        small = all_from_has (λ depth. depth < 65536) depths.items (λ d h. omega (arith, subst (λ m. m < length edges) (get_or_from_slice_get depths.items h.0 d d h.1) (has.small h.0 d (place_within depths.items h.0 d h.1)), are.long, are.few));
      }
      by_kind (Cycle nodes) has = task_cycle nodes.items has
