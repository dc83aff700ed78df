-- Nodes that are read one after another.
use Rattle.std.proofs.Common.{◌≡◌, ◌∙◌, sym, ap, refl, subst, arith, ℕ, zero, suc, ◌+◌, ◌<◌, ◌≤◌, List, [], ◌∷◌, ◌++◌, length, take, None, Some, ◌⊎◌, inl, inr}
use Rattle.std.specs.Prelude.{slice_get}
use Rattle.std.specs.List.{AllByRecursion}
use Rattle.std.proofs.lemmas.Bool.{cases_lt}
use Rattle.std.proofs.lemmas.List.{take_all, take_more}
use Rattle.std.proofs.lemmas.Option.{get_or_from_slice_get, slice_get_within}
use Rattle.store_model.specs.declared.signature.EquivRow.{EquivRow}
use Rattle.store_clean.specs.declared.nodes.Node.{Node}
use Rattle.store_clean.specs.Steps.{AreNodesBy}
use Rattle.store_clean.proofs.Lists.{get_last, get_push, some_one}

push_long : {A : Type 0} (xs : List A) (y : A) → length (xs ++ y ∷ []) ≡ length xs + 1
push_long [] y = refl
push_long (x ∷ xs) y = let n = push_long xs y in omega (arith, n)

pub nodes_first : (P : EquivRow → Node → Type 0) (rows : List EquivRow) (nodes : List Node) → nodes ≡ [] → AreNodesBy P (take 0 rows) nodes
nodes_first P rows nodes empty = subst (AreNodesBy P (take 0 rows)) (sym empty) (record { long = refl; each = λ k row e. absurd (let none : None ≡ Some row = e in cc) })

module _ (P : EquivRow → Node → Type 0) (rows : List EquivRow) (n : ℕ) (row : EquivRow) (node : Node) (nodes new : List Node) (at : slice_get rows n ≡ Some row) (was : AreNodesBy P (take n rows) nodes) (p : P row node) (grown : new ≡ nodes ++ node ∷ []) where
  below : n < length rows
  below = slice_get_within rows n row at

  more : take (n + 1) rows ≡ take n rows ++ row ∷ []
  more = take_more rows n row below ∙ ap (λ z. take n rows ++ z ∷ []) (get_or_from_slice_get rows n row row at)

  each_more : (k : ℕ) (r : EquivRow) → slice_get (take n rows ++ row ∷ []) k ≡ Some r → (x : Node) × (slice_get (nodes ++ node ∷ []) k ≡ Some x) × P r x
  each_more k r e = by (cases_lt k (length (take n rows)))
    where
      by : (k < length (take n rows)) ⊎ (length (take n rows) ≤ k) → (x : Node) × (slice_get (nodes ++ node ∷ []) k ≡ Some x) × P r x
      by (inl less) =
          let w = was.each k r (sym (get_push (take n rows) row k less) ∙ e) in
          let long = was.long in
          (w.0, get_push nodes node k (omega (arith, less, long)) ∙ w.1, w.2)
      by (inr past) =
          let lt = slice_get_within (take n rows ++ row ∷ []) k r e in
          let long : length (take n rows ++ row ∷ []) ≡ length (take n rows) + 1 = push_long (take n rows) row in
          let here : k ≡ length (take n rows) = omega (arith, past, lt, long) in
          let there : k ≡ length nodes = here ∙ sym was.long in
          let one : row ≡ r = some_one (slice_get (take n rows ++ row ∷ []) k) row r (ap (slice_get (take n rows ++ row ∷ [])) here ∙ get_last (take n rows) row) e in
          (node, ap (slice_get (nodes ++ node ∷ [])) there ∙ get_last nodes node, subst (λ (x : EquivRow). P x node) one p)

  pub nodes_next : AreNodesBy P (take (n + 1) rows) new
  nodes_next = subst (λ (l : List EquivRow). AreNodesBy P l new) (sym more) (subst (AreNodesBy P (take n rows ++ row ∷ [])) (sym grown) (record {
    long = push_long nodes node ∙ ap (λ m. m + 1) was.long ∙ sym (push_long (take n rows) row);
    each = each_more;
  }))

pub nodes_all : (P : EquivRow → Node → Type 0) (rows : List EquivRow) (n : ℕ) (nodes : List Node) → length rows ≤ n → AreNodesBy P (take n rows) nodes → AreNodesBy P rows nodes
nodes_all P rows n nodes past was = subst (λ (l : List EquivRow). AreNodesBy P l nodes) (take_all n rows past) was

-- what holds of each row holds of the one at a place
pub row_each : (P : EquivRow → Type 0) (rows : List EquivRow) (k : ℕ) (row : EquivRow) → AllByRecursion P rows → slice_get rows k ≡ Some row → P row
row_each P [] k row all e = absurd (let none : None ≡ Some row = e in cc)
row_each P (r ∷ rows) zero row all e = let same : r ≡ row = cc in subst P same all.0
row_each P (r ∷ rows) (suc k) row all e = row_each P rows k row all.1 e
