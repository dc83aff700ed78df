-- That what is emitted is the graph of the targets.
use Rattle.std.proofs.Common.{◌≡◌, sym, ◌∙◌, ap, subst, refl, arith, ℕ, ◌<◌, ◌≤◌, List, [], ◌∷◌, length, map, get_or, Some, All, Contains, slice_get, slice_index, Option, None}
use Rattle.std.specs.Prelude.{Any, Ok}
use Rattle.std.specs.Option.{option_map}
use Rattle.std.specs.List.{AllZip}
use Rattle.std.specs.Result.{result_ok}
use Rattle.std.specs.declared.cmp.Ordering.TheVariants.{Greater}
use Rattle.std.proofs.lemmas.List.Elements.{All-map}
use Rattle.std.proofs.lemmas.Option.{get_or_from_slice_get, slice_get-get_or}
use Rattle.meta_model.specs.declared.facts.FactSet.{FactSet}
use Rattle.meta_model.specs.declared.facts.Target.{Target}
use Rattle.meta_model.specs.declared.facts.TaskId.{TaskId}
use Rattle.meta_model.specs.declared.facts.Node.{Node}
use Rattle.meta_model.specs.declared.facts.Graph.{Graph}
use Rattle.meta_model.specs.Walks.{IsDepth}
use Rattle.meta_model.specs.Needs.{Task, Needs}
use Rattle.meta_model.specs.GraphRefusal.{target_task}
use Rattle.meta_model.specs.TaskGraph.{IsReached, id_of, node_task, node_at, node_cmp, HasDependencies, IsGraph, HasNoRefusal}
use Rattle.graph_walk.specs.Edges.{edges_from}
use Rattle.graph_walk.specs.Frontier.{Has}
use Rattle.graph_walk.proofs.Finding.{place_within}
use Rattle.task_graph.specs.declared.order.Draft.{Draft}
use Rattle.task_graph.specs.declared.table.TaskTable.{TaskTable}
use Rattle.task_graph.specs.Table.{IsTable, number_of_task}
use Rattle.task_graph.specs.Context.{IsNumberOf}
use Rattle.task_graph.specs.Edges.{IsNumbered}
use Rattle.task_graph.specs.Reached.{StandsAt, AreReached, HasTaskCycle}
use Rattle.task_graph.specs.Levels.{HasTaskDepths}
use Rattle.task_graph.specs.Order.{IsDraft, AreNumbers, IsNodeOf, IsEmitted, draft_cmp}
use Rattle.task_graph.proofs.Tabled.{one_task}
use Rattle.task_graph.proofs.Reaching.{zip_left, zip_right, all_from_has}
use Rattle.task_graph.proofs.Ranked.{has_contains, contains_has, all_has, drafts_long, place_found, one_draft}
use Rattle.task_graph.proofs.Placed.{same_task, step_down, step_up}

zip_length : {A B : Type 0} (P : A → B → Type 0) (xs : List A) (ys : List B) → AllZip P xs ys → length xs ≡ length ys
zip_length P [] [] h = refl
zip_length P [] (y ∷ ys) h = absurd h
zip_length P (x ∷ xs) [] h = absurd h
zip_length P (x ∷ xs) (y ∷ ys) h = omega (arith, zip_length P xs ys h.1)

-- what is known of the node with a number
record IsSeen (facts : FactSet) (table : TaskTable) (found : List ℕ) (edges : List (List ℕ)) (depths ranks : List ℕ) (drafts : List Draft) (k : ℕ) (node : Node) : Type 0 where
  draft : Draft
  drafted : slice_get drafts k ≡ Some draft
  at : StandsAt table found draft.place (node_task node)
  written : node.id ≡ id_of facts (node_task node)
  id : node.id ≡ draft.id
  depth : node.depth ≡ draft.depth
  deep : node.depth ≡ slice_index depths draft.place
  deps : AreNumbers ranks (edges_from edges draft.place) node.deps

-- the node of a task at a place
record IsMet (graph : Graph) (ranks : List ℕ) (place : ℕ) (a : Task) : Type 0 where
  number : ℕ
  node : Node
  there : slice_get graph.nodes number ≡ Some node
  task : node_task node ≡ a
  rank : slice_get ranks place ≡ Some number

module _ (facts : FactSet) (table : TaskTable) (is_table : IsTable facts table) (targets : List Target) (found : List ℕ) (edges : List (List ℕ)) (ends : List ℕ) (are : AreReached facts table targets found edges ends)
    (depths : List ℕ) (deep : HasTaskDepths facts table found depths) (graph : Graph) (made : IsEmitted facts table found edges ends depths graph) where
  see : (k : ℕ) (node : Node) (draft : Draft) → slice_get made.drafts k ≡ Some draft → IsNodeOf made.ranks edges draft node → IsSeen facts table found edges depths made.ranks made.drafts k node
  see k node draft e is =
      let of_draft : IsDraft facts table found depths draft = all_has (IsDraft facts table found depths) made.drafts made.are.each draft (k, e) in
      let id_is : node.id ≡ id_of facts of_draft.task = is.id ∙ of_draft.id in
      let name : node.id.task ≡ of_draft.task.1 = ap (λ (x : TaskId). x.task) id_is in
      let number : node.recipe ≡ of_draft.task.0 = is.recipe ∙ of_draft.recipe in
      let task : node_task node ≡ of_draft.task = ap (λ n. (n, node.id.task)) number ∙ ap (λ q. (of_draft.task.0, q)) name in
      record {
        draft = draft;
        drafted = e;
        at = subst (StandsAt table found draft.place) (sym task) of_draft.at;
        written = id_is ∙ ap (id_of facts) (sym task);
        id = is.id;
        depth = is.deep;
        deep = is.deep ∙ of_draft.deep;
        deps = is.deps;
      }

  seen : (k : ℕ) (node : Node) → slice_get graph.nodes k ≡ Some node → IsSeen facts table found edges depths made.ranks made.drafts k node
  seen k node e = let draft = zip_right (IsNodeOf made.ranks edges) made.drafts graph.nodes k node made.nodes e in see k node draft.0 draft.1 draft.2

  meet : (p : ℕ) (a : Task) → StandsAt table found p a → IsMet graph made.ranks p a
  meet p a at =
      let place = place_found (length found) made.drafts made.are.places p (place_within found p at.0 at.1) in
      let k : ℕ = place.0 in
      let draft : Draft = place.1 in
      let node = zip_left (IsNodeOf made.ranks edges) made.drafts graph.nodes k draft made.nodes place.2 in
      let known = see k node.0 draft place.2 node.2 in
      record {
        number = k;
        node = node.0;
        there = node.1;
        task = same_task facts table is_table targets found edges ends are p (node_task node.0) a (at_place k node.0 draft place.2 place.3 known) at;
        rank = subst (λ q. slice_get made.ranks q ≡ Some k) place.3 (made.ranked.each k draft place.2);
      }
    where
      at_place : (k : ℕ) (node : Node) (draft : Draft) → slice_get made.drafts k ≡ Some draft → draft.place ≡ p → IsSeen facts table found edges depths made.ranks made.drafts k node → StandsAt table found p (node_task node)
      at_place k node draft e f known =
          let s : Some known.draft ≡ Some draft = sym known.drafted ∙ e in
          let same : known.draft ≡ draft = cc in
          subst (λ q. StandsAt table found q (node_task node)) (ap (λ (d : Draft). d.place) same ∙ f) known.at

  -- different nodes are those of different tasks
  one_node : (j k : ℕ) (m n : Node) → slice_get graph.nodes j ≡ Some m → slice_get graph.nodes k ≡ Some n → node_task m ≡ node_task n → j ≡ k
  one_node j k m n e f same = by_places (seen j m e) (seen k n f)
    where
      by_places : IsSeen facts table found edges depths made.ranks made.drafts j m → IsSeen facts table found edges depths made.ranks made.drafts k n → j ≡ k
      by_places first second =
          let s : Some first.at.0 ≡ Some second.at.0 = sym first.at.2 ∙ ap (number_of_task table) same ∙ second.at.2 in
          let one : first.at.0 ≡ second.at.0 = cc in
          one_draft (length found) made.drafts made.are.places j k first.draft second.draft first.drafted second.drafted
          (are.once first.draft.place second.draft.place second.at.0 (first.at.1 ∙ ap Some one) second.at.1)

  node_here : (k : ℕ) (a : Task) → node_at graph k ≡ Some a → (node : Node) × (slice_get graph.nodes k ≡ Some node) × (node_task node ≡ a)
  node_here k a e = by_node (slice_get graph.nodes k) refl e
    where
      by_node : (o : Option Node) → slice_get graph.nodes k ≡ o → option_map node_task o ≡ Some a → (node : Node) × (slice_get graph.nodes k ≡ Some node) × (node_task node ≡ a)
      by_node None f g = absurd cc
      by_node (Some node) f g = (node, f, let h : node_task node ≡ a = cc in h)

  node_met : (p : ℕ) (a : Task) (met : IsMet graph made.ranks p a) → node_at graph met.number ≡ Some a
  node_met p a met = rw met.there (ap Some met.task)

  dependencies : (k : ℕ) (node : Node) → slice_get graph.nodes k ≡ Some node → HasDependencies facts graph node
  dependencies k node e = by_seen (seen k node e)
    where
      sound : (known : IsSeen facts table found edges depths made.ranks made.drafts k node) → (j : ℕ) → Has node.deps j → (b : Task) × (node_at graph j ≡ Some b) × Needs facts (node_task node) b
      sound known j h =
          let from = known.deps.sound j h in
          let p : ℕ = from.0 in
          let down = step_down facts table is_table targets found edges ends are known.draft.place p (node_task node) known.at (has_contains (edges_from edges known.draft.place) p from.1) in
          let met = meet p down.0 down.1 in
          let s : Some met.number ≡ Some j = sym met.rank ∙ from.2 in
          let one : met.number ≡ j = cc in
          (down.0, subst (λ i. node_at graph i ≡ Some down.0) one (node_met p down.0 met), down.2)

      whole : (known : IsSeen facts table found edges depths made.ranks made.drafts k node) → (j : ℕ) (b : Task) → node_at graph j ≡ Some b → Needs facts (node_task node) b → Contains node.deps j
      whole known j b here needs =
          let up = step_up facts table is_table targets found edges ends are known.draft.place (node_task node) b known.at needs in
          let p : ℕ = up.0 in
          let met = meet p b up.1 in
          let other = node_here j b here in
          let one : met.number ≡ j = one_node met.number j met.node other.0 met.there other.1 (met.task ∙ sym other.2) in
          let held : Has node.deps met.number = known.deps.whole p met.number (contains_has (edges_from edges known.draft.place) p up.2) met.rank in
          has_contains node.deps j (subst (Has node.deps) one held)

      by_seen : IsSeen facts table found edges depths made.ranks made.drafts k node → HasDependencies facts graph node
      by_seen known = record {
        ascend = known.deps.ascend;
        sound = all_from_has (λ j. (b : Task) × (node_at graph j ≡ Some b) × Needs facts (node_task node) b) node.deps (sound known);
        whole = whole known;
      }

  is_reached : (k : ℕ) (node : Node) → IsSeen facts table found edges depths made.ranks made.drafts k node → IsReached facts targets (node_task node)
  is_reached k node known =
      let got = are.sound known.at.0 (known.draft.place, known.at.1) in
      subst (IsReached facts targets) (one_task facts table is_table got.0 (node_task node) known.at.0 got.1 known.at.2) got.2

  is_there : (a : Task) → IsReached facts targets a → Any (λ node. node_task node ≡ a) graph.nodes
  is_there a reached =
      let got = are.whole a reached in
      let met = meet got.2.0 a (got.0, got.2.1, got.1) in
      (met.number, met.node, place_within graph.nodes met.number met.node met.there, get_or_from_slice_get graph.nodes met.number met.node met.node met.there, met.task)

  ascends : (i j : ℕ) (m n : Node) → i < j → slice_get graph.nodes i ≡ Some m → slice_get graph.nodes j ≡ Some n → node_cmp m n ≡ Greater → ⊥
  ascends i j m n lt e f greater = by_drafts (seen i m e) (seen j n f)
    where
      by_drafts : IsSeen facts table found edges depths made.ranks made.drafts i m → IsSeen facts table found edges depths made.ranks made.drafts j n → ⊥
      by_drafts first second =
          let up = made.are.ascend i j first.draft lt (place_within made.drafts j second.draft second.drafted) in
          let left : get_or made.drafts i first.draft ≡ first.draft = get_or_from_slice_get made.drafts i first.draft first.draft first.drafted in
          let right : get_or made.drafts j first.draft ≡ second.draft = get_or_from_slice_get made.drafts j second.draft first.draft second.drafted in
          let same : draft_cmp first.draft second.draft ≡ node_cmp m n = rw (first.depth, second.depth, first.id, second.id) refl in
          up (rw (left, right) (same ∙ greater))

  end_is : (target : Target) (p : ℕ) → (u : ℕ) × (slice_get found p ≡ Some u) × IsNumberOf table (target_task facts target) u → (slice_index made.ranks p < length graph.nodes) × (node_at graph (slice_index made.ranks p) ≡ result_ok (target_task facts target))
  end_is target p (u, e, (b, is, number)) =
      let met = meet p b (u, e, number) in
      let rank : slice_index made.ranks p ≡ met.number = get_or_from_slice_get made.ranks p met.number 0 met.rank in
      (omega (arith, rank, place_within graph.nodes met.number met.node met.there), ap (node_at graph) rank ∙ node_met p b met ∙ sym (ap result_ok is))

  ends_are : (ts : List Target) (ps : List ℕ) → AllZip (λ target p. (u : ℕ) × (slice_get found p ≡ Some u) × IsNumberOf table (target_task facts target) u) ts ps → map (node_at graph) (map (slice_index made.ranks) ps) ≡ map (λ target. result_ok (target_task facts target)) ts
  ends_are [] [] h = refl
  ends_are [] (p ∷ ps) h = absurd h
  ends_are (t ∷ ts) [] h = absurd h
  ends_are (t ∷ ts) (p ∷ ps) h =
      ap (λ (x : Option Task). x ∷ map (node_at graph) (map (slice_index made.ranks) ps)) (end_is t p h.0).1 ∙ ap (λ (l : List (Option Task)). result_ok (target_task facts t) ∷ l) (ends_are ts ps h.1)

  ends_within : All (λ p. slice_index made.ranks p < length graph.nodes) ends
  ends_within = all_from_has (λ p. slice_index made.ranks p < length graph.nodes) ends (λ p h.
      let at = zip_right (λ target q. (u : ℕ) × (slice_get found q ≡ Some u) × IsNumberOf table (target_task facts target) u) targets ends h.0 p are.placed h.1 in (end_is at.0 p at.2).0)

  pub nodes_few : length graph.nodes ≤ 65536
  nodes_few = omega (arith, zip_length (IsNodeOf made.ranks edges) made.drafts graph.nodes made.nodes, drafts_long (length found) made.drafts made.are.places, are.few)

  pub graph_is : IsGraph facts targets graph
  graph_is = record {
    written = all_from_has (λ (node : Node). node.id ≡ id_of facts (node_task node)) graph.nodes (λ node h. (seen h.0 node h.1).written);
    sound = all_from_has (λ (node : Node). IsReached facts targets (node_task node)) graph.nodes (λ node h. is_reached h.0 node (seen h.0 node h.1));
    whole = is_there;
    once = λ i j d lt within same. omega (arith, lt, one_node i j (get_or graph.nodes i d) (get_or graph.nodes j d) (slice_get-get_or graph.nodes i d (omega (arith, lt, within))) (slice_get-get_or graph.nodes j d within) same);
    ascend = λ i j d lt within. ascends i j (get_or graph.nodes i d) (get_or graph.nodes j d) lt (slice_get-get_or graph.nodes i d (omega (arith, lt, within))) (slice_get-get_or graph.nodes j d within);
    dependencies = all_from_has (HasDependencies facts graph) graph.nodes (λ node h. dependencies h.0 node h.1);
    depths = all_from_has (λ (node : Node). IsDepth (Needs facts) (node_task node) node.depth) graph.nodes (λ node h.
        let known = seen h.0 node h.1 in subst (IsDepth (Needs facts) (node_task node)) (sym known.deep) (deep.each known.draft.place (node_task node) known.at));
    ends = ap (map (node_at graph)) made.targets ∙ ends_are targets ends are.placed;
    found = subst (λ (l : List ℕ). All (λ k. k < length graph.nodes) l) (sym made.targets) (All-map (λ k. k < length graph.nodes) (slice_index made.ranks) ends ends_within);
  }

-- nothing is refused
module _ (facts : FactSet) (table : TaskTable) (targets : List Target) (found : List ℕ) (edges : List (List ℕ)) (ends : List ℕ) (are : AreReached facts table targets found edges ends) where
  pub no_refusal : HasNoRefusal facts targets
  no_refusal = record {
    ends = all_from_has (λ target. (a : Task) × (target_task facts target ≡ Ok a)) targets (λ target h.
        let at = zip_left (λ t q. (u : ℕ) × (slice_get found q ≡ Some u) × IsNumberOf table (target_task facts t) u) targets ends h.0 target are.placed h.1 in (at.2.2.0, at.2.2.1));
    tasks = λ a refusal reached. let got = are.whole a reached in are.unrefused a got.0 refusal got.1 got.2;
  }

  -- the places of the targets
  pub ends_inside : All (λ p. p < length found) ends
  ends_inside = all_from_has (λ p. p < length found) ends (λ p h.
      let at = zip_right (λ target q. (u : ℕ) × (slice_get found q ≡ Some u) × IsNumberOf table (target_task facts target) u) targets ends h.0 p are.placed h.1 in place_within found p at.2.0 at.2.1)

  pub tasks_numbered : All (IsNumbered table) found
  tasks_numbered = all_from_has (IsNumbered table) found (λ v h. let got = are.sound v h in (got.0, got.1))

-- the places of a cycle
pub cycle_inside : (facts : FactSet) (table : TaskTable) (targets : List Target) (found places : List ℕ) → HasTaskCycle facts table targets found places → All (λ p. p < length found) places
cycle_inside facts table targets found places has = all_from_has (λ p. p < length found) places (λ p h.
    let at = zip_left (λ q a. StandsAt table found q a × IsReached facts targets a) places has.tasks h.0 p has.at h.1 in place_within found p at.2.0.0 at.2.0.1)
