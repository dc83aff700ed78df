-- How large a tree is, by its manifest.
use Rattle.std.proofs.Common.{◌≡◌, ◌∙◌, sym, ap, refl, ℕ, ◌+◌, List, [], ◌∷◌, ◌++◌, subst, arith, inl, inr, Bool, true, false, true≢false, Option, Some, None}
use Rattle.std.specs.Prelude.{◌↔◌, max, min, sum_by, ◌-◌, ◌^◌, IsTrue, IfSome, IfNone, MatchBool}
use Rattle.std.proofs.lemmas.List.{length-map}
use Rattle.std.proofs.lemmas.List.Sums.{sum_by-append}
use Rattle.tree_model.specs.declared.entry.Entry.{Entry}
use Rattle.tree_model.specs.declared.entry.Entry.TheVariants.{File, Link}
use Rattle.tree_model.specs.declared.manifest.ManifestLine.{ManifestLine}
use Rattle.tree_model.specs.declared.tree.Size.{Size}
use Rattle.tree_model.specs.Manifest.{manifest_lines, line_of}
use Rattle.tree_model.specs.Size.{Exceeds, size_of, largest_of, bytes_of, entry_length}
use Rattle.tree_model.specs.Tree.{IsTree, entry_at}
use Rattle.tree_model.proofs.LawLemmas.{same_trees}
use Rattle.outside_traits.specs.Reading.{IsUnder, IsReading}
use Rattle.outside_traits.specs.Store.{HoldsTree, IsOpen, Store}
use Rattle.sstate_objects.specs.Matching.{IsMatching, largest_line, size_told}
use Rattle.store_model.specs.Available.{Matches}

-- a line has the length of its entry
line_length : (e : List ℕ × Entry) → (line_of e).length ≡ entry_length e.1
line_length (path, File exec bytes) = refl
line_length (path, Link target) = refl

largest_told : (tree : List (List ℕ × Entry)) → largest_line (manifest_lines tree) ≡ largest_of tree
largest_told [] = refl
largest_told (e ∷ es) = λ i. max (line_length e i) (largest_told es i)

-- the sum of the lengths of lines is that of the entries
bytes_told : (tree : List (List ℕ × Entry)) → sum_by (λ (l : ManifestLine). l.length) (manifest_lines tree) ≡ bytes_of tree
bytes_told [] = refl
bytes_told (e ∷ es) =
    sum_by-append (λ (l : ManifestLine). l.length) (line_of e ∷ []) (manifest_lines es)
    ∙ (λ i. (ap (λ n. 0 + n) (line_length e)) i + bytes_told es i)
    ∙ sym (sum_by-append (λ (x : List ℕ × Entry). entry_length x.1) (e ∷ []) es)

-- a manifest tells the size of its tree
pub size_is_told : (tree : List (List ℕ × Entry)) → size_told (manifest_lines tree) ≡ size_of tree
size_is_told tree = λ i. record { entries = length-map tree line_of i; largest = largest_told tree i; bytes = min (bytes_told tree i) (2 ^ 64 - 1) }

-- the greatest length of one line more
pub largest_more : (lines : List ManifestLine) (line : ManifestLine) → largest_line (lines ++ line ∷ []) ≡ max (largest_line lines) line.length
largest_more [] line = omega arith
largest_more (l ∷ lines) line = let rest = largest_more lines line in omega (arith, rest)

-- what is held under a folder is one tree
pub one_under : (folder : List ℕ) (held : Store) (one other : List (List ℕ × Entry)) → IsUnder folder one held → IsTree other → HoldsTree folder other held → one ≡ other
one_under folder held one other u t h = same_trees one other u.is_tree t (λ q. sym (u.entries q) ∙ h.entries q)

within_itself : (size : Size) → Exceeds size size → ⊥
within_itself size (inl h) = omega (arith, h)
within_itself size (inr (inl h)) = omega (arith, h)
within_itself size (inr (inr h)) = omega (arith, h)

holds_under : (folder : List ℕ) (held : Store) (found tree : List (List ℕ × Entry)) → IsOpen folder held → IsUnder folder found held → found ≡ tree → HoldsTree folder tree held
holds_under folder held found tree free u same = record { entries = λ path. u.entries path ∙ ap (λ t. entry_at t path) same; outside = free }

-- whether a folder holds a tree, by what is read of it
pub holds_told : (b : Bool) (folder : List ℕ) (held now : Store) (max : Size) (found tree : List (List ℕ × Entry)) → now ≡ held → IsOpen folder held → IsTree tree → IsReading folder max now (Some found)
    → (IsTrue b ↔ (found ≡ tree)) → MatchBool b (HoldsTree folder tree held) (HoldsTree folder tree held → ⊥)
holds_told true folder held now max found tree same free is_tree read told = holds_under folder held found tree free (subst (IsUnder folder found) same read.0) (told.0 refl)
holds_told false folder held now max found tree same free is_tree read told = λ h. true≢false (sym (told.1 (one_under folder held found tree (subst (IsUnder folder found) same read.0) is_tree h)))

pub holds_nothing : (folder : List ℕ) (held now : Store) (max : Size) (tree : List (List ℕ × Entry)) → now ≡ held → max ≡ size_of tree → IsTree tree → IsReading folder max now None → HoldsTree folder tree held → ⊥
holds_nothing folder held now max tree same is is_tree read h =
    let one = one_under folder held read.0 tree (subst (IsUnder folder read.0) same read.1) is_tree h in
    within_itself (size_of tree) (subst (λ t. Exceeds (size_of t) (size_of tree)) one (subst (Exceeds (size_of read.0)) is read.2))

-- what is read against a manifest
pub matching_told : (folder : List ℕ) (lines : List ManifestLine) (held now : Store) (max : Size) (found : List (List ℕ × Entry)) (kept : Option (List (List ℕ × Entry))) → now ≡ held → IsOpen folder held → IsTree found
    → IsReading folder max now (Some found) → IfSome kept (λ k. (k ≡ found) × (lines ≡ manifest_lines found)) → IfNone kept (lines ≡ manifest_lines found → ⊥) → IsMatching folder lines held kept
matching_told folder lines held now max found (Some k) same free is_tree read some none =
    (subst IsTree (sym some.0) is_tree, (holds_under folder held found k free (subst (IsUnder folder found) same read.0) (sym some.0), some.1 ∙ ap manifest_lines (sym some.0)))
matching_told folder lines held now max found None same free is_tree read some none =
    λ m. none (m.manifest ∙ ap manifest_lines (sym (one_under folder held found m.tree (subst (IsUnder folder found) same read.0) m.is_tree m.holds)))

pub matches_nothing : (folder : List ℕ) (lines : List ManifestLine) (held now : Store) (max : Size) → now ≡ held → max ≡ size_told lines → IsReading folder max now None → Matches held folder lines → ⊥
matches_nothing folder lines held now max same is read m =
    let one = one_under folder held read.0 m.tree (subst (IsUnder folder read.0) same read.1) m.is_tree m.holds in
    let size : max ≡ size_of m.tree = is ∙ ap size_told m.manifest ∙ size_is_told m.tree in
    within_itself (size_of m.tree) (subst (λ t. Exceeds (size_of t) (size_of m.tree)) one (subst (Exceeds (size_of read.0)) size read.2))

pub free_at : (b : Bool) (P Q : Type 0) → MatchBool b P Q → b ≡ true → P
free_at true P Q m e = m
free_at false P Q m e = absurd (true≢false (sym e))
