-- What is decided of nodes is decided of the rows that they are read from.
use Rattle.std.proofs.Common.{◌≡◌, ◌∙◌, sym, ap, refl, subst, arith, ℕ, suc, ◌<◌, Bool, true, List, [], ◌∷◌, length, Some, inl, inr}
use Rattle.std.specs.Prelude.{Contains, slice_get}
use Rattle.std.proofs.lemmas.List.{length-set}
use Rattle.tree_model.specs.declared.hash.Hash.{Hash}
use Rattle.store_model.specs.declared.signature.EquivRow.{EquivRow}
use Rattle.store_keep.specs.Keep.{AreClosed, Names}
use Rattle.store_keep.specs.Tries.{AreKept, AreTried, IsTried}
use Rattle.store_keep.proofs.Trying.{kept_are_closed}
use Rattle.store_clean.specs.declared.deciding.Chosen.{Chosen}
use Rattle.store_clean.specs.declared.nodes.Node.{Node}
use Rattle.store_clean.specs.Naming.{AreEdges, NamesEarlier, names_in, names_of, place_in}
use Rattle.store_clean.specs.Deciding.{AreRoots, IsDecided, IsNameOrder}
use Rattle.store_clean.specs.Steps.{AreNodeEdges, AreNodesBy, IsChosen, IsNode, IsTitled, node_names}
use Rattle.store_clean.proofs.Known.{one_known, titled_names}
use Rattle.store_clean.proofs.Lists.{item_at, past_end}

-- ---- how many marks there are

tried_long : (edges : List (List ℕ)) (limit : ℕ) (before after : List Bool) (k : ℕ) → IsTried edges limit before k after → length after ≡ length before
tried_long edges limit before after k (inl same) = ap length same.1
tried_long edges limit before after k (inr (inl same)) = ap length same.1
tried_long edges limit before after k (inr (inr with)) = elim with.2 [
  | inl kept ↦ ap length kept.1 ∙ with.1.long ∙ length-set before k true
  | inr passed ↦ ap length passed.1
]

tries_long : (edges : List (List ℕ)) (limit : ℕ) (before after : List Bool) (order : List ℕ) → AreTried edges limit before order after → length after ≡ length before
tries_long edges limit before after [] t = ap length t
tries_long edges limit before after (k ∷ order) t = tries_long edges limit t.0 after order t.2 ∙ tried_long edges limit before t.0 k t.1

pub kept_long : (edges : List (List ℕ)) (roots marks : List Bool) (order : List ℕ) (limit : ℕ) → AreKept edges roots order limit marks → length marks ≡ length roots
kept_long edges roots marks order limit kept = tries_long edges limit kept.first marks order kept.tried ∙ kept.closure.long

-- ---- edges

module _ (rows : List EquivRow) (nodes : List Node) (edges : List (List ℕ)) (titled : AreNodesBy IsTitled rows nodes) (are : AreNodesBy IsNode rows nodes) (named : AreNodeEdges nodes edges) where
  names_are : node_names nodes ≡ names_of rows
  names_are = titled_names rows nodes titled

  -- what stands at a place below the end
  row_at_place : (v : ℕ) → v < length edges → (row : EquivRow) × (slice_get rows v ≡ Some row)
  row_at_place v lt = item_at rows v (omega (arith, lt, named.long, are.long))

  forth : (v w : ℕ) → Names edges v w → NamesEarlier rows v w
  forth v w n =
      let r = row_at_place v (past_end edges v w n) in
      let node = are.each v r.0 r.1 in
      let p = (named.each v node.0 node.1 w).0 n in
      record {
        earlier = p.0;
        row = r.0;
        stands = r.1;
        name = p.1.0;
        named = record { known = node.2.known; named = subst (λ (l : List Hash). Contains l p.1.0) node.2.of.needs p.1.1 };
        place = subst (λ (l : List Hash). place_in l p.1.0 ≡ Some w) names_are p.1.2;
      }

  back : (v w : ℕ) → NamesEarlier rows v w → Names edges v w
  back v w n =
      let node = are.each v n.row n.stands in
      let same : names_in n.named.known.stored ≡ node.0.needs = ap names_in (one_known n.row n.named.known node.2.known) ∙ sym node.2.of.needs in
      (named.each v node.0 node.1 w).1 (n.earlier, (n.name, subst (λ (l : List Hash). Contains l n.name) same n.named.named, subst (λ (l : List Hash). place_in l n.name ≡ Some w) (sym names_are) n.place))

  pub edges_are : AreEdges rows edges
  edges_are = record { long = named.long ∙ are.long; each = λ v w. (forth v w, back v w) }

-- ---- what was decided

pub decided_of : (rows : List EquivRow) (nodes : List Node) (roots : List Hash) (limit : ℕ) (chosen : Chosen) → AreNodesBy IsTitled rows nodes → AreNodesBy IsNode rows nodes → IsChosen nodes roots limit chosen → IsDecided rows roots limit chosen.marks.items
decided_of rows nodes roots limit chosen titled are c =
    let names : node_names nodes ≡ names_of rows = titled_names rows nodes titled in
    record {
      edges = chosen.edges.items;
      are_edges = edges_are rows nodes chosen.edges.items titled are c.edges;
      first = c.first;
      are_roots = subst (λ (l : List Hash). AreRoots l roots c.first) names c.are_roots;
      order = c.order;
      in_order = subst (λ (l : List Hash). IsNameOrder l c.order) names c.in_order;
      kept = c.kept;
    }

pub marks_long : (nodes : List Node) (roots : List Hash) (limit : ℕ) (chosen : Chosen) → IsChosen nodes roots limit chosen → length chosen.marks.items ≡ length nodes
marks_long nodes roots limit chosen c = kept_long chosen.edges.items c.first chosen.marks.items c.order limit c.kept ∙ c.are_roots.long ∙ length_names nodes
  where
    length_names : (ns : List Node) → length (node_names ns) ≡ length ns
    length_names [] = refl
    length_names (n ∷ ns) = ap suc (length_names ns)

pub marks_closed : (nodes : List Node) (roots : List Hash) (limit : ℕ) (chosen : Chosen) → IsChosen nodes roots limit chosen → AreClosed chosen.edges.items chosen.marks.items
marks_closed nodes roots limit chosen c = kept_are_closed chosen.edges.items c.first chosen.marks.items c.order limit c.kept

-- a place names earlier ones alone
pub names_earlier : (nodes : List Node) (edges : List (List ℕ)) → AreNodeEdges nodes edges → (v w : ℕ) → Names edges v w → w < v
names_earlier nodes edges named v w n =
    let node = item_at nodes v (omega (arith, past_end edges v w n, named.long)) in
    ((named.each v node.0 node.1 w).0 n).0
