-- The loops of `put_tree`, step by step.
use Rattle.std.proofs.Common.{◌≡◌, ◌≢◌, inl, inr, ℕ, ◌+◌, ◌<◌, ◌≤◌, List, [], ◌∷◌, ◌++◌, length, get_or, take, drop, None, Result, Ok, Err, Some, refl, sym, ◌∙◌, ap, subst, arith, append_assoc, length-append, take-append-drop}
use Rattle.std.specs.Prelude.{Contains, IsSome, OnOk}
use Rattle.std.proofs.lemmas.List.{get_or_default, take_at, drop_more}
use Rattle.std.proofs.Math.Seq.{get_or-append_seam}
use Rattle.std.proofs.lemmas.Bool.{cases_eq, false≢true}
use Rattle.std.specs.Option.{is_some}
use Rattle.tree_model.specs.declared.entry.Entry.{Entry}
use Rattle.outside_traits.specs.declared.fault.DiskFault.{DiskFault}
use Rattle.tree_model.specs.Path.{IsBelow, inside}
use Rattle.tree_model.specs.Tree.{IsTree, entry_at}
use Rattle.outside_traits.specs.Store.{Store, ChangesAt, IsCleared, IsListing, IsFree, IsOpen, HoldsTree, LaysTree, PutsEntry}
use Rattle.outside_traits.proofs.Laid.{found_in, holds_tree, tree_apart, tree_found}
use Rattle.outside_traits.specs.Story.{Story}
use Rattle.outside_traits.specs.Answers.{Lists, Reads, Writes, Removes}
use Rattle.outside_traits.specs.Passes.{Clears, Passes, Same}
use Rattle.outside_traits.proofs.Puts.{path_cases}
use Rattle.outside_traits.proofs.Runs.{passes_none, passes_so}
use Rattle.outside_traits.proofs.Calls.{ChangesAt-same, lists_passes, reads_passes, removes_passes, same_so, same_then, writes_passes}
use Rattle.outside_traits.proofs.Held.{lists_held, removes_others, removes_ok, removed_some}
use Rattle.outside_traits.proofs.Folders.{Lays, LaysTree-changes, LaysTree-puts, LaysTree-same, Ways, free_within, lays_more, lays_same, open_changes, some_none, under_same, ways_clears, ways_none}

-- the folder and the paths above it that are shorter than n are clear
pub record Clearing (folder : List ℕ) (n : ℕ) (a b : Story) : Type 0 where
  pub ways : Ways folder a b
  pub at : b.held folder ≡ None
  pub above : (k : ℕ) → k < n → get_or folder k 0 ≡ 47 → b.held (take k folder) ≡ None

-- what isn't held stays so where a path is cleared
cleared_none : {p : List ℕ} {a b : Story} {T : Type 0} {v : T} (q : List ℕ) → Clears p a b (Ok v) → a.held q ≡ None → b.held q ≡ None
cleared_none {p} {a} {b} q did none = elim (path_cases q p) [
  | inl same ↦ ap b.held same ∙ did.gone
  | inr ne ↦ did.changes.held.others q ne ∙ none
]

pub clearing_start : {folder : List ℕ} {a b : Story} {T : Type 0} {v : T} → Clears folder a b (Ok v) → Clearing folder 0 a b
clearing_start {folder} {a} did = record {
  ways = ways_clears (inl refl) (ways_none folder a) did;
  at = did.gone;
  above = λ k lt is. absurd (omega arith);
}

split_at : (folder : List ℕ) (n : ℕ) → n < length folder → get_or folder n 0 ≡ 47 → IsBelow (take n folder) folder
split_at folder n lt is = (
  drop (n + 1) folder,
  sym (take-append-drop n folder) ∙ ap (λ (l : List ℕ). take n folder ++ l) (drop_more folder n 0 lt ∙ ap (λ (b : ℕ). b ∷ drop (n + 1) folder) is),
)

pub clearing_ways : {folder p : List ℕ} {n : ℕ} {a b c : Story} {T : Type 0} {r : Result T DiskFault} → n < length folder → get_or folder n 0 ≡ 47 → p ≡ take n folder
    → Clearing folder n a b → Clears p b c r → Ways folder a c
clearing_ways {folder} {p} {n} lt is p_is so_far did = ways_clears (inr (subst (λ (q : List ℕ). IsBelow q folder) (sym p_is) (split_at folder n lt is))) so_far.ways did

pub clearing_more : {folder p : List ℕ} {n : ℕ} {a b c : Story} {T : Type 0} {v : T} → n < length folder → get_or folder n 0 ≡ 47 → p ≡ take n folder
    → Clearing folder n a b → Clears p b c (Ok v) → Clearing folder (n + 1) a c
clearing_more {folder} {p} {n} {a} {b} {c} lt is p_is so_far did = record {
  ways = clearing_ways lt is p_is so_far did;
  at = cleared_none folder did so_far.at;
  above = above;
}
  where
    above : (k : ℕ) → k < n + 1 → get_or folder k 0 ≡ 47 → c.held (take k folder) ≡ None
    above k less at_k = elim (cases_eq k n) [
      | inl same ↦ ap (λ (m : ℕ). c.held (take m folder)) same ∙ ap c.held (sym p_is) ∙ did.gone
      | inr other ↦ cleared_none (take k folder) did (so_far.above k (omega arith) at_k)
    ]

pub clearing_skips : {folder : List ℕ} {n : ℕ} {a b : Story} → get_or folder n 0 ≢ 47 → Clearing folder n a b → Clearing folder (n + 1) a b
clearing_skips {folder} {n} {a} {b} not so_far = record { ways = so_far.ways; at = so_far.at; above = above }
  where
    above : (k : ℕ) → k < n + 1 → get_or folder k 0 ≡ 47 → b.held (take k folder) ≡ None
    above k less at_k = elim (cases_eq k n) [
      | inl same ↦ absurd (not (ap (λ (m : ℕ). get_or folder m 0) (sym same) ∙ at_k))
      | inr other ↦ so_far.above k (omega arith) at_k
    ]

pub clearing_end : {folder : List ℕ} {a b : Story} (n : ℕ) → length folder ≤ n → Clearing folder n a b → IsOpen folder b.held
clearing_end {folder} {a} {b} n all so_far = record { at = so_far.at; above = above }
  where
    above : (q : List ℕ) → IsBelow q folder → b.held q ≡ None
    above q below =
        let long = ap length below.1 ∙ length-append q (47 ∷ below.0) in
        let at_it : get_or folder (length q) 0 ≡ 47 = ap (λ (l : List ℕ). get_or l (length q) 0) below.1 ∙ get_or-append_seam q 47 below.0 0 in
        let is : take (length q) folder ≡ q = ap (λ (l : List ℕ). take (length q) l) below.1 ∙ take_at q (47 ∷ below.0) (length q) refl in
        ap b.held (sym is) ∙ so_far.above (length q) (omega arith) at_it

-- of the listed paths from the place n on those are gone that the tree hasn't
pub record Emptying (folder : List ℕ) (tree : List (List ℕ × Entry)) (paths : List (List ℕ)) (n : ℕ) (a b : Story) : Type 0 where
  pub lays : Lays folder tree a b
  pub open_at : IsOpen folder b.held
  pub gone : (k : ℕ) (rest : List ℕ) → n ≤ k → k < length paths → get_or paths k [] ≡ inside folder rest → IsSome (b.held (inside folder rest)) → IsSome (entry_at tree rest)
  pub shrinks : (q : List ℕ) → IsSome (b.held q) → IsSome (a.held q)

pub emptying_start : {folder prefix : List ℕ} (tree : List (List ℕ × Entry)) {paths : List (List ℕ)} {a b : Story} {r : Result (List (List ℕ)) DiskFault} (n : ℕ) → length paths ≤ n → IsOpen folder a.held → Lists prefix a b r → Emptying folder tree paths n a b
emptying_start {folder} tree {paths} {a} {b} n all open_at did = record {
  lays = lays_same folder tree (lists_passes did);
  open_at = subst (IsOpen folder) (sym (lists_held did)) open_at;
  gone = λ k rest from less is some. absurd (omega arith);
  shrinks = λ q some. subst (λ (h : Store). IsSome (h q)) (lists_held did) some;
}

-- a listed path stands behind the prefix, and is held
pub listed_rest : (folder : List ℕ) {prefix : List ℕ} {paths : List (List ℕ)} {h : Store} (k : ℕ) → prefix ≡ inside folder [] → IsListing prefix h paths → k < length paths
    → (rest : List ℕ) × (get_or paths k [] ≡ inside folder rest) × (get_or paths k [] ≡ prefix ++ rest) × IsSome (h (inside folder rest))
listed_rest folder {prefix} {paths} {h} k prefix_is listing lt =
    let q = get_or paths k [] in
    let held = listing.are_held q (k, lt, get_or_default paths k q [] lt) in
    let is : q ≡ inside folder held.0.0 = held.0.1 ∙ ap (λ (l : List ℕ). l ++ held.0.0) prefix_is ∙ append_assoc folder (47 ∷ []) held.0.0 in
    (held.0.0, is, held.0.1, subst (λ (p : List ℕ). IsSome (h p)) is held.1)

-- the tree hasn't the path, which is removed, or that is refused
module _ {folder p : List ℕ} {tree : List (List ℕ × Entry)} {paths : List (List ℕ)} (n : ℕ) {a b : Story} (rest : List ℕ) (p_is : p ≡ inside folder rest) (was : IsSome (a.held (inside folder rest))) (without : entry_at tree rest ≡ None) (so_far : Emptying folder tree paths (n + 1) a b) where
  removal : (j k : Store) → ChangesAt p j k → LaysTree folder tree a.held j k
  removal j k change = LaysTree-changes folder tree rest a.held j k
      (λ is. false≢true (sym (ap is_some without) ∙ sym (ap is_some is) ∙ was))
      (subst (λ (q : List ℕ). ChangesAt q j k) p_is change)

  pub emptying_lays : {c : Story} {T : Type 0} {r : Result T DiskFault} → Removes p b c r → Lays folder tree a c
  emptying_lays did = lays_more folder tree removal so_far.lays (removes_passes did)

  pub emptying_more : {c : Story} {T : Type 0} {v : T} → get_or paths n [] ≡ inside folder rest → Removes p b c (Ok v) → Emptying folder tree paths n a c
  emptying_more {c} at_n did = record {
    lays = emptying_lays did;
    open_at = open_changes folder p b.held c.held (rest, p_is) (removes_others did) so_far.open_at;
    gone = gone;
    shrinks = λ q some. so_far.shrinks q (removed_some q did some);
  }
    where
      gone : (k : ℕ) (r : List ℕ) → n ≤ k → k < length paths → get_or paths k [] ≡ inside folder r → IsSome (c.held (inside folder r)) → IsSome (entry_at tree r)
      gone k r from less is some = elim (cases_eq k n) [
        | inl same ↦
            let e : inside folder r ≡ p = sym is ∙ ap (λ (m : ℕ). get_or paths m []) same ∙ at_n ∙ sym p_is in
            absurd (false≢true (sym (ap is_some (ap c.held e ∙ removes_ok did)) ∙ some))
        | inr other ↦ so_far.gone k r (omega arith) less is (removed_some (inside folder r) did some)
      ]

-- the tree has the path, which stays
pub emptying_skips : {folder : List ℕ} {tree : List (List ℕ × Entry)} {paths : List (List ℕ)} {n : ℕ} {a b : Story} (rest : List ℕ) → get_or paths n [] ≡ inside folder rest → IsSome (entry_at tree rest)
    → Emptying folder tree paths (n + 1) a b → Emptying folder tree paths n a b
emptying_skips {folder} {tree} {paths} {n} {a} {b} rest at_n here so_far = record { lays = so_far.lays; open_at = so_far.open_at; gone = gone; shrinks = so_far.shrinks }
  where
    gone : (k : ℕ) (r : List ℕ) → n ≤ k → k < length paths → get_or paths k [] ≡ inside folder r → IsSome (b.held (inside folder r)) → IsSome (entry_at tree r)
    gone k r from less is some = elim (cases_eq k n) [
      | inl same ↦
          let e : inside folder rest ≡ inside folder r = sym at_n ∙ ap (λ (m : ℕ). get_or paths m []) (sym same) ∙ is in
          subst (λ (q : List ℕ). IsSome (entry_at tree q)) (under_same folder rest r e) here
      | inr other ↦ so_far.gone k r (omega arith) less is some
    ]

pub emptying_end : {folder prefix : List ℕ} {tree : List (List ℕ × Entry)} {paths : List (List ℕ)} {a b : Story} → prefix ≡ inside folder [] → IsListing prefix a.held paths → Emptying folder tree paths 0 a b → IsCleared folder tree paths b.held
emptying_end {folder} {prefix} {tree} {paths} {a} {b} prefix_is listing so_far = record {
  ascending = listing.ascending;
  within = λ q some. let at_k = are_listed q some in so_far.gone at_k.0 q (omega arith) at_k.1 (get_or_default paths at_k.0 [] (inside folder q) at_k.1 ∙ at_k.2) some;
  are_listed = are_listed;
  outside = so_far.open_at;
}
  where
    are_listed : (q : List ℕ) → IsSome (b.held (inside folder q)) → Contains paths (inside folder q)
    are_listed q some = listing.all (inside folder q) (q, sym (ap (λ (l : List ℕ). l ++ q) prefix_is ∙ append_assoc folder (47 ∷ []) q)) (so_far.shrinks (inside folder q) some)

-- the first n entries of the tree are held, and at those behind what was held
pub record Filling (folder : List ℕ) (tree : List (List ℕ × Entry)) (n : ℕ) (a b : Story) : Type 0 where
  pub lays : Lays folder tree a b
  pub open_at : IsOpen folder b.held
  pub within : (q : List ℕ) → IsSome (b.held (inside folder q)) → IsSome (entry_at tree q)
  pub first : (k : ℕ) (d : List ℕ × Entry) → k < n → b.held (inside folder (get_or tree k d).0) ≡ Some (get_or tree k d).1
  pub later : (k : ℕ) (d : List ℕ × Entry) → n ≤ k → k < length tree → b.held (inside folder (get_or tree k d).0) ≡ a.held (inside folder (get_or tree k d).0)

pub filling_start : {folder : List ℕ} {tree : List (List ℕ × Entry)} {listed : List (List ℕ)} {a : Story} → IsCleared folder tree listed a.held → Filling folder tree 0 a a
filling_start {folder} {tree} {listed} {a} cleared = record {
  lays = passes_none a (LaysTree folder tree a.held) (LaysTree-same folder tree a.held);
  open_at = cleared.outside;
  within = cleared.within;
  first = λ k d lt. absurd (omega arith);
  later = λ k d from less. refl;
}

module _ {folder : List ℕ} {tree : List (List ℕ × Entry)} {n : ℕ} {a b : Story} (item : List ℕ × Entry) (lt : n < length tree) (is_tree : IsTree tree) (is_item : item ≡ get_or tree n item) (so_far : Filling folder tree n a b) where
  item_found : entry_at tree item.0 ≡ Some item.1
  item_found = ap (λ (x : List ℕ × Entry). entry_at tree x.0) is_item ∙ tree_found tree n item is_tree lt ∙ ap (λ (x : List ℕ × Entry). Some x.1) (sym is_item)

  as_was : b.held (inside folder item.0) ≡ a.held (inside folder item.0)
  as_was = ap (λ (x : List ℕ × Entry). b.held (inside folder x.0)) is_item ∙ so_far.later n item (omega arith) lt ∙ ap (λ (x : List ℕ × Entry). a.held (inside folder x.0)) (sym is_item)

  pub filling_free : IsFree b.held (inside folder item.0)
  filling_free = free_within folder tree b.held item.0 is_tree so_far.open_at so_far.within (ap is_some item_found)

  -- what is held at the next path is listed
  pub filling_listed : {listed : List (List ℕ)} → IsCleared folder tree listed a.held → IsSome (b.held (inside folder item.0)) → Contains listed (inside folder item.0)
  filling_listed cleared some = cleared.are_listed item.0 (subst IsSome as_was some)

  pub filling_lays : {c : Story} → Passes b c (PutsEntry (inside folder item.0) item.1 b.held) → Lays folder tree a c
  filling_lays put = lays_more folder tree (λ i j puts. LaysTree-puts folder tree item.0 item.1 a.held b.held i j item_found as_was puts) so_far.lays put

  pub filling_more : {c : Story} → Passes b c (PutsEntry (inside folder item.0) item.1 b.held) → c.held (inside folder item.0) ≡ Some item.1 → Filling folder tree (n + 1) a c
  filling_more {c} put now = record {
    lays = filling_lays put;
    open_at = open_changes folder (inside folder item.0) b.held c.held (item.0, refl) (record { others = put.held.others }) so_far.open_at;
    within = within;
    first = first;
    later = later;
  }
    where
      within : (q : List ℕ) → IsSome (c.held (inside folder q)) → IsSome (entry_at tree q)
      within q some = elim (path_cases (inside folder q) (inside folder item.0)) [
        | inl same ↦ ap (λ (x : List ℕ). is_some (entry_at tree x)) (under_same folder q item.0 same) ∙ ap is_some item_found
        | inr ne ↦ so_far.within q (subst IsSome (put.held.others (inside folder q) ne) some)
      ]

      -- another entry of the tree stays
      other : (k : ℕ) (d : List ℕ × Entry) → k ≢ n → k < length tree → c.held (inside folder (get_or tree k d).0) ≡ b.held (inside folder (get_or tree k d).0)
      other k d ne less = put.held.others (inside folder (get_or tree k d).0)
          (λ same. tree_apart tree k n d is_tree ne less lt (under_same folder (get_or tree k d).0 item.0 same ∙ ap (λ (x : List ℕ × Entry). x.0) (is_item ∙ get_or_default tree n item d lt)))

      first : (k : ℕ) (d : List ℕ × Entry) → k < n + 1 → c.held (inside folder (get_or tree k d).0) ≡ Some (get_or tree k d).1
      first k d less = elim (cases_eq k n) [
        | inl same ↦
            let at_k : get_or tree k d ≡ item = ap (λ (m : ℕ). get_or tree m d) same ∙ get_or_default tree n d item lt ∙ sym is_item in
            ap (λ (x : List ℕ × Entry). c.held (inside folder x.0)) at_k ∙ now ∙ ap (λ (x : List ℕ × Entry). Some x.1) (sym at_k)
        | inr ne ↦ let before : k < n = omega arith in other k d ne (omega arith) ∙ so_far.first k d before
      ]

      later : (k : ℕ) (d : List ℕ × Entry) → n + 1 ≤ k → k < length tree → c.held (inside folder (get_or tree k d).0) ≡ a.held (inside folder (get_or tree k d).0)
      later k d from less = let ne : k ≢ n = omega arith in let behind : n ≤ k = omega arith in other k d ne less ∙ so_far.later k d behind less

pub filling_end : {folder : List ℕ} {tree : List (List ℕ × Entry)} {a b : Story} (n : ℕ) → n ≡ length tree → IsTree tree → Filling folder tree n a b → HoldsTree folder tree b.held
filling_end {folder} {tree} {a} {b} n all is_tree so_far =
    holds_tree folder tree b.held is_tree (record { each = λ k d lt. so_far.first k d (omega (arith, all)); only = λ q some. found_in tree q (so_far.within q some) }) so_far.open_at

-- the entry was read at its path, and nothing changed
pub puts_held : {p : List ℕ} {e : Entry} {a b : Story} → Passes a b Same → Passes a b (PutsEntry p e a.held)
puts_held {p} {e} {a} run = same_so (PutsEntry p e a.held) (λ i. record { others = λ q ne. refl; right = λ is. refl }) run

-- the entry wasn't held, and was written, or that was refused
pub puts_written : {p : List ℕ} {e : Entry} {a b c : Story} {T : Type 0} {r : Result T DiskFault} → (a.held p ≡ Some e → ⊥) → Passes a b Same → Writes p e b c r → Passes a c (PutsEntry p e a.held)
puts_written {p} {e} {a} wrong looked did = passes_so (PutsEntry p e a.held) (same_then (ChangesAt-same p) looked (writes_passes did))
    (λ i j change. record { others = change.others; right = λ is. absurd (wrong is) })

-- nothing was held at the path
pub clears_nothing : {p : List ℕ} {a b : Story} → Reads p a b (Ok None) → Clears p a b {T = Unit {0}} (Ok (tt {0}))
clears_nothing {p} {a} {b} did = record {
  changes = same_so (ChangesAt p) (ChangesAt-same p) (reads_passes did);
  untouched = λ none. reads_passes did;
  gone = ap (λ (s : Story). s.held p) did.answers.1 ∙ sym did.answers.0;
}

-- what was held at it was removed
pub clears_held : {p : List ℕ} {a b c : Story} {e : Entry} (r : Result (Unit {0}) DiskFault) → Reads p a b (Ok (Some e)) → Removes p b c r → Clears p a c r
clears_held {p} {a} {b} {c} {e} r looked did = record {
  changes = same_then (ChangesAt-same p) (reads_passes looked) (removes_passes did);
  untouched = λ none. absurd (some_none e (sym looked.answers.0) none);
  gone = gone r did;
}
  where
    gone : (q : Result (Unit {0}) DiskFault) → Removes p b c q → OnOk q (c.held p ≡ None)
    gone (Ok v) d = removes_ok d
    gone (Err f) d = tt
