-- The search for the tasks that targets reach.
use Rattle.std.proofs.Common.{◌≡◌, sym, ◌∙◌, ap, subst, refl, arith, ℕ, zero, suc, ◌+◌, ◌<◌, ◌≤◌, true, List, [], ◌∷◌, ◌++◌, length, take, get_or, Some, None, Option, Result, Ok, Err, ◌⊎◌, inl, inr, All, Any, slice_get}
use Rattle.std.specs.List.{AllZip}
use Rattle.std.proofs.lemmas.Bool.{cases_eq}
use Rattle.std.proofs.lemmas.List.{take_more}
use Rattle.std.proofs.lemmas.Option.{get_or_from_slice_get, slice_get-get_or}
use Rattle.meta_model.specs.declared.facts.FactSet.{FactSet}
use Rattle.meta_model.specs.declared.facts.Target.{Target}
use Rattle.meta_model.specs.declared.facts.TaskId.{TaskId}
use Rattle.meta_model.specs.Walks.{Walk}
use Rattle.meta_model.specs.Needs.{Task, Needs, is_task, by_order, by_depends, by_deptask, by_rdeptask, by_recrdeptask}
use Rattle.meta_model.specs.GraphRefusal.{GraphRefusal, target_task, IsRefused}
use Rattle.meta_model.specs.TaskGraph.{IsTarget, IsReached, HasMoreTasks, IsGraphRefusal}
use Rattle.task_graph.specs.declared.fault.GraphFault.{GraphFault}
use Rattle.task_graph.specs.declared.fault.GraphFault.TheVariants.{NoSuchTask, TaskCycle, NothingProvides, SeveralProvide, Tasks, BadThreads, Memory}
use Rattle.task_graph.specs.declared.table.TaskTable.{TaskTable}
use Rattle.task_graph.specs.Faults.{IsFaultOf, IsRefusalOf}
use Rattle.graph_walk.specs.Frontier.{Has, with_nodes, number_of, IsFrontier, IsSearch, AreNext}
use Rattle.task_graph.specs.Table.{IsTable, number_of_task}
use Rattle.task_graph.specs.Context.{IsNumberOf}
use Rattle.task_graph.specs.Edges.{IsNumbered, HasEdges, IsRefusedAt}
use Rattle.task_graph.specs.Reached.{TaskEdge, HasFoundNext, GoesBeyond, ArePlaces, AreReached, IsReaching}
use Rattle.graph_walk.proofs.Finding.{place_within, slice_push, slice_last}
use Rattle.graph_walk.proofs.Searching.{kept_all, search_step, search_first, search_whole}
use Rattle.task_graph.proofs.Refusals.{refusal_weaker}
use Rattle.task_graph.proofs.Tabled.{number_at, one_task, task_numbered}

pub fault_weaker : (P Q : GraphRefusal → Type 0) (C D : List TaskId → Type 0) (B E : Type 0) → ((r : GraphRefusal) → P r → Q r) → ((ids : List TaskId) → C ids → D ids) → (B → E) → (fault : GraphFault) → IsFaultOf P C B fault → IsFaultOf Q D E fault
fault_weaker P Q C D B E to closes beyond (NoSuchTask pn task) h = to _ h
fault_weaker P Q C D B E to closes beyond (TaskCycle tasks) h = closes tasks h
fault_weaker P Q C D B E to closes beyond (NothingProvides name) h = to _ h
fault_weaker P Q C D B E to closes beyond (SeveralProvide name pns) h = to _ h
fault_weaker P Q C D B E to closes beyond Tasks h = beyond h
fault_weaker P Q C D B E to closes beyond (BadThreads text) h = h
fault_weaker P Q C D B E to closes beyond Memory h = h

-- places

pub slice_there : {A : Type 0} (xs : List A) (k : ℕ) (x : A) → k < length xs → get_or xs k x ≡ x → slice_get xs k ≡ Some x
slice_there xs k x lt is = slice_get-get_or xs k x lt ∙ ap Some is

pub there : {A : Type 0} (xs : List A) (k : ℕ) → k < length xs → (x : A) × (slice_get xs k ≡ Some x)
there [] k lt = absurd (omega (arith, lt))
there (x ∷ xs) zero lt = (x, refl)
there (x ∷ xs) (suc k) lt = there xs k (omega (arith, lt))

module _ {A B : Type 0} (P : A → B → Type 0) where
  pub zip_right : (xs : List A) (ys : List B) (k : ℕ) (y : B) → AllZip P xs ys → slice_get ys k ≡ Some y → (x : A) × (slice_get xs k ≡ Some x) × P x y
  zip_right [] [] k y h e = absurd cc
  zip_right [] (z ∷ zs) k y h e = absurd h
  zip_right (x ∷ xs) [] k y h e = absurd h
  zip_right (x ∷ xs) (z ∷ zs) zero y h e = let same : z ≡ y = cc in (x, refl, subst (P x) same h.0)
  zip_right (x ∷ xs) (z ∷ zs) (suc k) y h e = zip_right xs zs k y h.1 e

  pub zip_left : (xs : List A) (ys : List B) (k : ℕ) (x : A) → AllZip P xs ys → slice_get xs k ≡ Some x → (y : B) × (slice_get ys k ≡ Some y) × P x y
  zip_left [] [] k x h e = absurd cc
  zip_left [] (z ∷ zs) k x h e = absurd h
  zip_left (w ∷ ws) [] k x h e = absurd h
  zip_left (w ∷ ws) (z ∷ zs) zero x h e = let same : w ≡ x = cc in (z, refl, subst (λ v. P v z) same h.0)
  zip_left (w ∷ ws) (z ∷ zs) (suc k) x h e = zip_left ws zs k x h.1 e

pub zip_push : {A B : Type 0} (P : A → B → Type 0) (xs : List A) (ys : List B) (x : A) (y : B) → AllZip P xs ys → P x y → AllZip P (xs ++ x ∷ []) (ys ++ y ∷ [])
zip_push P [] [] x y h p = (p, h)
zip_push P [] (z ∷ zs) x y h p = absurd h
zip_push P (w ∷ ws) [] x y h p = absurd h
zip_push P (w ∷ ws) (z ∷ zs) x y h p = (h.0, zip_push P ws zs x y h.1 p)

pub zip_more : {A B : Type 0} (P : A → B → Type 0) (xs : List A) (ys : List B) (i : ℕ) (x : A) (y : B) → i < length xs → x ≡ get_or xs i x → AllZip P (take i xs) ys → P x y → AllZip P (take (i + 1) xs) (ys ++ y ∷ [])
zip_more {A} P xs ys i x y lt is h p = subst (λ (l : List A). AllZip P l (ys ++ y ∷ [])) (sym (take_more xs i x lt ∙ ap (λ z. take i xs ++ z ∷ []) (sym is))) (zip_push P (take i xs) ys x y h p)

pub zip_map : {A B : Type 0} (P Q : A → B → Type 0) → ((x : A) (y : B) → P x y → Q x y) → (xs : List A) (ys : List B) → AllZip P xs ys → AllZip Q xs ys
zip_map P Q to [] [] h = h
zip_map P Q to [] (y ∷ ys) h = absurd h
zip_map P Q to (x ∷ xs) [] h = absurd h
zip_map P Q to (x ∷ xs) (y ∷ ys) h = (to x y h.0, zip_map P Q to xs ys h.1)

pub zip_join : {A B C : Type 0} (P : A → B → Type 0) (Q : B → C → Type 0) (R : A → C → Type 0) → ((x : A) (y : B) (z : C) → P x y → Q y z → R x z) → (xs : List A) (ys : List B) (zs : List C) → AllZip P xs ys → AllZip Q ys zs → AllZip R xs zs
zip_join P Q R to [] [] [] g h = g
zip_join P Q R to [] [] (z ∷ zs) g h = absurd h
zip_join P Q R to [] (y ∷ ys) zs g h = absurd g
zip_join P Q R to (x ∷ xs) [] zs g h = absurd g
zip_join P Q R to (x ∷ xs) (y ∷ ys) [] g h = absurd h
zip_join P Q R to (x ∷ xs) (y ∷ ys) (z ∷ zs) g h = (to x y z g.0 h.0, zip_join P Q R to xs ys zs g.1 h.1)

pub all_from_has : {A : Type 0} (P : A → Type 0) (xs : List A) → ((x : A) → Has xs x → P x) → All P xs
all_from_has P xs h k d lt = h (get_or xs k d) (k, slice_get-get_or xs k d lt)

pub all_weaker : (P Q : ℕ → Type 0) (xs : List ℕ) → ((x : ℕ) → P x → Q x) → All P xs → All Q xs
all_weaker P Q xs to all k d lt = to (get_or xs k d) (all k d lt)

-- one place, one node
pub one_place : (found : List ℕ) (numbers : List (Option ℕ)) → IsFrontier found numbers → (i j v : ℕ) → slice_get found i ≡ Some v → slice_get found j ≡ Some v → i ≡ j
one_place found numbers frontier i j v e f =
    let at_i : number_of numbers v ≡ Some i = ap (number_of numbers) (sym (get_or_from_slice_get found i v 0 e)) ∙ frontier.numbered i (place_within found i v e) in
    let at_j : number_of numbers v ≡ Some j = ap (number_of numbers) (sym (get_or_from_slice_get found j v 0 f)) ∙ frontier.numbered j (place_within found j v f) in
    let g : Some i ≡ Some j = sym at_i ∙ at_j in
    cc

pub needs_task : (facts : FactSet) (a b : Task) → Needs facts a b → is_task facts b ≡ true
needs_task facts a b (by_order t e) = t
needs_task facts a b (by_depends t e) = t
needs_task facts a b (by_deptask t e) = t
needs_task facts a b (by_rdeptask t e) = t
needs_task facts a b (by_recrdeptask t e) = t

pub same_ok : {A E : Type 0} (r : Result A E) (x y : A) → r ≡ Ok x → r ≡ Ok y → x ≡ y
same_ok r x y e f = let g : Ok x ≡ Ok y = sym e ∙ f in cc

-- the tasks of a list of numbers
record HasTasksOf (P : Task → Type 0) (number : Task → Option ℕ) (found : List ℕ) : Type 0 where
  tasks : List Task
  long : length tasks ≡ length found
  each : (k : ℕ) (a : Task) → slice_get tasks k ≡ Some a → (v : ℕ) × (slice_get found k ≡ Some v) × (number a ≡ Some v) × P a

gathered : (P : Task → Type 0) (number : Task → Option ℕ) (found : List ℕ) → ((v : ℕ) → Has found v → (a : Task) × (number a ≡ Some v) × P a) → HasTasksOf P number found
gathered P number [] h = record { tasks = []; long = refl; each = λ k a e. absurd (let f : None ≡ Some a = e in cc) }
gathered P number (v ∷ vs) h =
    let first = h v (0, refl) in
    let rest = gathered P number vs (λ w held. h w (suc held.0, held.1)) in
    record { tasks = first.0 ∷ rest.tasks; long = ap suc rest.long; each = λ k a e. by_place first rest k a e }
  where
    by_place : (first : (a : Task) × (number a ≡ Some v) × P a) (rest : HasTasksOf P number vs) (k : ℕ) (a : Task) → slice_get (first.0 ∷ rest.tasks) k ≡ Some a → (w : ℕ) × (slice_get (v ∷ vs) k ≡ Some w) × (number a ≡ Some w) × P a
    by_place first rest zero a e = let same : first.0 ≡ a = cc in (v, refl, ap number (sym same) ∙ first.1, subst P same first.2)
    by_place first rest (suc k) a e = rest.each k a e

module _ (facts : FactSet) (table : TaskTable) (is_table : IsTable facts table) where
  walk_numbers : (n u v : ℕ) (a : Task) → number_of_task table a ≡ Some u → Walk (TaskEdge facts table) n u v → (b : Task) × (number_of_task table b ≡ Some v) × Walk (Needs facts) n a b
  walk_numbers zero u v a e w = (a, e ∙ ap Some w, refl)
  walk_numbers (suc n) u v a e (m, (c, d, at_c, at_d, needs), rest) =
      let same : c ≡ a = one_task facts table is_table c a u at_c e in
      let more = walk_numbers n m v d at_d rest in
      (more.0, more.1, (d, subst (λ x. Needs facts x d) same needs, more.2))

  walk_tasks : (n : ℕ) (a b : Task) (u : ℕ) → number_of_task table a ≡ Some u → Walk (Needs facts) n a b → (v : ℕ) × (number_of_task table b ≡ Some v) × Walk (TaskEdge facts table) n u v
  walk_tasks zero a b u e w = (u, ap (number_of_task table) (sym w) ∙ e, refl)
  walk_tasks (suc n) a b u e (c, needs, rest) =
      let at_c = task_numbered facts table is_table c (needs_task facts a c needs) in
      let more = walk_tasks n c b at_c.0 at_c.1 rest in
      (more.0, more.1, (at_c.0, (a, c, e, at_c.1, needs), more.2))

  pub edges_next : (u : ℕ) (needed : List ℕ) → IsNumbered table u → HasEdges facts table u needed → AreNext (TaskEdge facts table) u needed
  edges_next u needed (a, e) has = record {
    sound = λ w h. let got = (has.edges a e).sound w h in (a, got.0, e, got.1, got.2);
    whole = λ w edge. by_edge w edge;
  }
    where
      by_edge : (w : ℕ) → TaskEdge facts table u w → Has needed w
      by_edge w (c, d, at_c, at_d, needs) = (has.edges c at_c).whole d w at_d needs

  pub edges_within : (u : ℕ) (needed : List ℕ) → IsNumbered table u → HasEdges facts table u needed → All (λ n. n < length table.spots.items) needed
  edges_within u needed (a, e) has = all_from_has (λ n. n < length table.spots.items) needed (λ w h. let got = (has.edges a e).sound w h in let at = number_at facts table is_table got.0 w got.1 in place_within table.spots.items w _ at.spot)

  module _ (targets : List Target) where
    pub starts_within : (starts : List ℕ) → AllZip (λ target u. IsNumberOf table (target_task facts target) u) targets starts → All (λ n. n < length table.spots.items) starts
    starts_within starts meant = all_from_has (λ n. n < length table.spots.items) starts (λ w h. let got = zip_right (λ target u. IsNumberOf table (target_task facts target) u) targets starts h.0 w meant h.1 in
        let at = number_at facts table is_table got.2.0 w got.2.2 in place_within table.spots.items w _ at.spot)

    -- what is found are tasks that are reached
    pub reached_all : (starts found : List ℕ) (next : ℕ) → AllZip (λ target u. IsNumberOf table (target_task facts target) u) targets starts → IsSearch (TaskEdge facts table) starts found next → (v : ℕ) → Has found v → (a : Task) × (number_of_task table a ≡ Some v) × IsReached facts targets a
    reached_all starts found next meant search v h =
        let from = search.reached v h in
        let start = from.1 in
        let target = zip_right (λ target u. IsNumberOf table (target_task facts target) u) targets starts start.0 from.0 meant start.1 in
        let walked = walk_numbers from.2.0 from.0 v target.2.0 target.2.2 from.2.1 in
        let is_target : IsTarget facts targets target.2.0 = (start.0, target.0, place_within targets start.0 target.0 target.1, get_or_from_slice_get targets start.0 target.0 target.0 target.1, target.2.1) in
        (walked.0, walked.1, (target.2.0, is_target, (from.2.0, walked.2)))

    pub more_tasks : (starts found : List ℕ) (numbers : List (Option ℕ)) (next : ℕ) → AllZip (λ target u. IsNumberOf table (target_task facts target) u) targets starts → IsSearch (TaskEdge facts table) starts found next → IsFrontier found numbers → 65536 < length found → HasMoreTasks facts targets 65536
    more_tasks starts found numbers next meant search frontier many =
        let all = gathered (IsReached facts targets) (number_of_task table) found (reached_all starts found next meant search) in
        record {
          tasks = all.tasks;
          many = omega (arith, many, all.long);
          once = λ i j d lt within same. apart all i j d lt within same;
          reached = all_from_has (IsReached facts targets) all.tasks (λ a h. (all.each h.0 a h.1).3);
        }
      where
        apart : (all : HasTasksOf (IsReached facts targets) (number_of_task table) found) (i j : ℕ) (d : Task) → i < j → j < length all.tasks → get_or all.tasks i d ≡ get_or all.tasks j d → ⊥
        apart all i j d lt within same =
            let first = all.each i (get_or all.tasks i d) (slice_get-get_or all.tasks i d (omega (arith, lt, within))) in
            let second = all.each j (get_or all.tasks j d) (slice_get-get_or all.tasks j d within) in
            let f : Some first.0 ≡ Some second.0 = sym first.2 ∙ ap (number_of_task table) same ∙ second.2 in
            let one : first.0 ≡ second.0 = cc in
            let place : i ≡ j = one_place found numbers frontier i j second.0 (first.1 ∙ ap Some one) second.1 in
            omega (arith, lt, place)

    pub reaching_first : (starts found ends : List ℕ) (numbers : List (Option ℕ)) → AllZip (λ target u. IsNumberOf table (target_task facts target) u) targets starts → found ≡ with_nodes [] starts → IsFrontier found numbers → length numbers ≡ length table.spots.items → length found ≤ 65536
        → AllZip (λ n p. slice_get found p ≡ Some n) starts ends → IsReaching facts table targets found numbers 0 [] ends
    reaching_first starts found ends numbers meant put frontier count few placed = record {
      starts = starts;
      meant = meant;
      placed = placed;
      frontier = frontier;
      count = count;
      few = few;
      search = subst (λ (l : List ℕ). IsSearch (TaskEdge facts table) starts l 0) (sym put) (search_first (TaskEdge facts table) starts);
      long = refl;
      behind = omega arith;
      needs = λ k v places e f. absurd (let g : None ≡ Some places = f in cc);
      unrefused = λ k v lt. absurd (omega (arith, lt));
    }

    module _ (found : List ℕ) (numbers : List (Option ℕ)) (next : ℕ) (edges : List (List ℕ)) (ends : List ℕ) (state : IsReaching facts table targets found numbers next edges ends) where
      pub reaching_number : (v : ℕ) → Has found v → IsNumbered table v
      reaching_number v h = let got = reached_all state.starts found next state.meant state.search v h in (got.0, got.1)

      module _ (at : ℕ) (here : slice_get found next ≡ Some at) where
        pub next_refused : (refusal : GraphRefusal) → IsRefusedAt facts table at refusal → IsGraphRefusal facts targets refusal
        next_refused refusal (a, e, refused) =
            let got = reached_all state.starts found next state.meant state.search at (next, here) in
            let same : got.0 ≡ a = one_task facts table is_table got.0 a at got.1 e in
            inr (a, subst (IsReached facts targets) same got.2, refused)

        pub next_beyond : GoesBeyond facts table at found → HasMoreTasks facts targets 65536
        next_beyond beyond =
            more_tasks state.starts (with_nodes found beyond.needed) beyond.numbers (next + 1) state.meant
            (search_step (TaskEdge facts table) state.starts found next at beyond.needed state.search here (edges_next at beyond.needed (reaching_number at (next, here)) beyond.edges)) beyond.frontier beyond.many

        pub reaching_step : (new : List ℕ) (numbered : List (Option ℕ)) (places : List ℕ) → HasFoundNext facts table at found new places → IsFrontier new numbered → length numbered ≡ length table.spots.items → length new ≤ 65536
            → IsReaching facts table targets new numbered (next + 1) (edges ++ places ∷ []) ends
        reaching_step new numbered places has frontier count few = record {
          starts = state.starts;
          meant = state.meant;
          placed = zip_map (λ n p. slice_get found p ≡ Some n) (λ n p. slice_get new p ≡ Some n) (λ n p e. kept p n e) state.starts ends state.placed;
          frontier = frontier;
          count = count;
          few = few;
          search = subst (λ (l : List ℕ). IsSearch (TaskEdge facts table) state.starts l (next + 1)) (sym has.grown) (search_step (TaskEdge facts table) state.starts found next at has.needed state.search here are_next);
          long = length_push_here edges places ∙ ap (λ n. n + 1) state.long;
          behind = omega (arith, place_within new next at (kept next at here));
          needs = λ k v ps e f. needs_by k v ps e f (cases_here k);
          unrefused = λ k v lt e a refusal number refused. unrefused_by k v lt e a refusal number refused (cases_here k);
        }
          where
            length_push_here : {A : Type 0} (xs : List A) (x : A) → length (xs ++ x ∷ []) ≡ length xs + 1
            length_push_here [] x = refl
            length_push_here (y ∷ ys) x = let e = length_push_here ys x in omega (arith, e)

            cases_here : (k : ℕ) → (k ≡ next) ⊎ (k ≡ next → ⊥)
            cases_here k = cases_eq k next

            are_next : AreNext (TaskEdge facts table) at has.needed
            are_next = edges_next at has.needed (reaching_number at (next, here)) has.edges

            kept : (k v : ℕ) → slice_get found k ≡ Some v → slice_get new k ≡ Some v
            kept k v e = subst (λ (l : List ℕ). slice_get l k ≡ Some v) (sym has.grown) (kept_all found has.needed k v e)

            old_node : (k v : ℕ) → k < length found → slice_get new k ≡ Some v → slice_get found k ≡ Some v
            old_node k v lt e =
                let old = there found k lt in
                let f : Some old.0 ≡ Some v = sym (kept k old.0 old.1) ∙ e in
                old.1 ∙ f

            new_places : ArePlaces (TaskEdge facts table) new at places
            new_places = record {
              sound = λ p h. (let got = zip_right (λ n q. slice_get new q ≡ Some n) has.needed places h.0 p has.placed h.1 in (got.0, got.2, are_next.sound got.0 (h.0, got.1)));
              whole = λ w r. (let held = are_next.whole w r in let got = zip_left (λ n q. slice_get new q ≡ Some n) has.needed places held.0 w has.placed held.1 in (got.0, (held.0, got.1), got.2));
            }

            at_is : (v : ℕ) → slice_get new next ≡ Some v → at ≡ v
            at_is v e = let f : Some at ≡ Some v = sym (kept next at here) ∙ e in cc

            within : next < length found
            within = place_within found next at here

            needs_by : (k v : ℕ) (ps : List ℕ) → slice_get new k ≡ Some v → slice_get (edges ++ places ∷ []) k ≡ Some ps → (k ≡ next) ⊎ (k ≡ next → ⊥) → ArePlaces (TaskEdge facts table) new v ps
            needs_by k v ps e f (inl last) =
                let g : Some places ≡ Some ps = sym (slice_last edges places) ∙ ap (slice_get (edges ++ places ∷ [])) (state.long ∙ sym last) ∙ f in
                let same : places ≡ ps = cc in
                subst (λ (l : List ℕ). ArePlaces (TaskEdge facts table) new v l) same (subst (λ w. ArePlaces (TaskEdge facts table) new w places) (at_is v (ap (slice_get new) (sym last) ∙ e)) new_places)
            needs_by k v ps e f (inr other) =
                let lt : k < next = omega (arith, other, place_within (edges ++ places ∷ []) k ps f, length_push_here edges places, state.long) in
                let old = there edges k (omega (arith, lt, state.long)) in
                let g : Some old.0 ≡ Some ps = sym (slice_push edges places old.0 k old.1) ∙ f in
                let same : old.0 ≡ ps = cc in
                let before = state.needs k v ps (old_node k v (omega (arith, lt, within)) e) (old.1 ∙ ap Some same) in
                record {
                  sound = λ p h. (let got = before.sound p h in (got.0, kept p got.0 got.1, got.2));
                  whole = λ w r. (let got = before.whole w r in (got.0, got.1, kept got.0 w got.2));
                }

            unrefused_by : (k v : ℕ) → k < next + 1 → slice_get new k ≡ Some v → (a : Task) (refusal : GraphRefusal) → number_of_task table a ≡ Some v → IsRefused facts a refusal → (k ≡ next) ⊎ (k ≡ next → ⊥) → ⊥
            unrefused_by k v lt e a refusal number refused (inl last) = has.edges.whole a refusal (number ∙ ap Some (sym (at_is v (ap (slice_get new) (sym last) ∙ e)))) refused
            unrefused_by k v lt e a refusal number refused (inr other) =
                let front : k < next = omega (arith, lt, other) in
                state.unrefused k v front (old_node k v (omega (arith, front, within)) e) a refusal number refused

      pub reaching_done : length found ≤ next → AreReached facts table targets found edges ends
      reaching_done end = record {
        few = state.few;
        long = omega (arith, end, state.behind, state.long);
        sound = reached_all state.starts found next state.meant state.search;
        whole = λ a reached. whole_by a reached;
        once = one_place found numbers state.frontier;
        needs = state.needs;
        unrefused = λ a v refusal number held refused. state.unrefused held.0 v (omega (arith, end, place_within found held.0 v held.1, state.behind)) held.1 a refusal number refused;
        placed = zip_join (λ target u. IsNumberOf table (target_task facts target) u) (λ n p. slice_get found p ≡ Some n) (λ target p. (u : ℕ) × (slice_get found p ≡ Some u) × IsNumberOf table (target_task facts target) u) (λ target u p meant e. (u, e, meant)) targets state.starts ends state.meant state.placed;
      }
        where
          whole_by : (a : Task) → IsReached facts targets a → (v : ℕ) × (number_of_task table a ≡ Some v) × Has found v
          whole_by a (b, (k, target, lt, is, e), (n, w)) =
              let start = zip_left (λ target u. IsNumberOf table (target_task facts target) u) targets state.starts k target state.meant (slice_there targets k target lt is) in
              let same : start.2.0 ≡ b = same_ok (target_task facts target) start.2.0 b start.2.1 e in
              let walked = walk_tasks n b a start.0 (ap (number_of_task table) (sym same) ∙ start.2.2) w in
              (walked.0, walked.1, search_whole (TaskEdge facts table) state.starts found next state.search end start.0 walked.0 (k, start.1) (n, walked.2))

-- a target that is refused
pub target_refused : (facts : FactSet) (targets : List Target) (i : ℕ) (target : Target) → i < length targets → target ≡ get_or targets i target → (fault : GraphFault) → IsRefusalOf (λ r. target_task facts target ≡ Err r) fault → IsRefusalOf (λ r. Any (λ t. target_task facts t ≡ Err r) targets) fault
target_refused facts targets i target lt is fault h = refusal_weaker (λ r. target_task facts target ≡ Err r) (λ r. Any (λ t. target_task facts t ≡ Err r) targets) (λ r e. (i, target, lt, sym is, e)) fault h
