-- The bytes of a manifest line by line, and the tree of one file.
use Rattle.std.proofs.Common.{◌≡◌, ◌<◌, ◌≤◌, ◌+◌, ◌∙◌, ℕ, zero, suc, List, [], ◌∷◌, ◌++◌, length, take, map, get_or, refl, sym, ap, subst, arith, Bool, true, false, Some, All}
use Rattle.std.specs.Prelude.{if◌then◌else◌}
use Rattle.std.specs.List.{flat_map}
use Rattle.std.specs.Str.{bytes_eq}
use Rattle.std.proofs.lemmas.List.{append-nil, flat_map_more, map_more, take_all}
use Rattle.sha2.specs.Hashers.{Holds256}
use Rattle.sha2.specs.declared.Sha256.{Sha256}
use Rattle.tree_model.specs.declared.entry.Entry.{Entry}
use Rattle.tree_model.specs.Bytes.{line_bytes}
use Rattle.tree_model.specs.Manifest.{line_of}
use Rattle.tree_model.specs.Path.{IsClean}
use Rattle.tree_model.specs.Tree.{IsTree, entry_at, put}
use Rattle.tree_model.proofs.LawLemmas.{same_trees}
use Rattle.outside_traits.specs.Bench.{Entries}

-- what was fed behind a message, with the lines of the first entries
pub record HasFed (before now : Sha256) (xs : Entries) (i : ℕ) : Type 0 where
  pub lines : (m : List ℕ) → Holds256 before m → Holds256 now (m ++ flat_map line_bytes (map line_of (take i xs)))

pub fed_none : (h : Sha256) (xs : Entries) → HasFed h h xs 0
fed_none h xs = record { lines = λ m holds. subst (λ (l : List ℕ). Holds256 h l) (sym (append-nil m)) holds }

pub fed_more : (before now next : Sha256) (xs : Entries) (i : ℕ) (e : List ℕ × Entry) → i < length xs → e ≡ get_or xs i e → HasFed before now xs i → ((m : List ℕ) → Holds256 now m → Holds256 next (m ++ line_bytes (line_of e))) → HasFed before next xs (i + 1)
fed_more before now next xs i e lt is so_far step = record {
  lines = λ m holds. subst (λ (l : List ℕ). Holds256 next l) (more m) (step (m ++ flat_map line_bytes (map line_of (take i xs))) (so_far.lines m holds));
}
  where
    more : (m : List ℕ) → (m ++ flat_map line_bytes (map line_of (take i xs))) ++ line_bytes (line_of e) ≡ m ++ flat_map line_bytes (map line_of (take (i + 1) xs))
    more m =
        flat_map_more line_bytes m (map line_of (take i xs)) (line_of e)
        ∙ ap (λ x. m ++ flat_map line_bytes (map line_of (take i xs) ++ line_of x ∷ [])) is
        ∙ ap (λ l. m ++ flat_map line_bytes l) (sym (map_more line_of xs i e lt))

pub fed_all : (before now : Sha256) (xs : Entries) (i : ℕ) → length xs ≤ i → HasFed before now xs i → (m : List ℕ) → Holds256 before m → Holds256 now (m ++ flat_map line_bytes (map line_of xs))
fed_all before now xs i le fed m holds = subst (λ (l : Entries). Holds256 now (m ++ flat_map line_bytes (map line_of l))) (take_all i xs le) (fed.lines m holds)

-- a tree that holds one entry alone
alone_at : (path q : List ℕ) (e : Entry) → (if bytes_eq path q then Some e else entry_at [] q) ≡ entry_at ((path, e) ∷ []) q
alone_at path q e = by (bytes_eq path q) refl
  where
    by : (t : Bool) → bytes_eq path q ≡ t → (if bytes_eq path q then Some e else entry_at [] q) ≡ entry_at ((path, e) ∷ []) q
    by true h = simp h
    by false h = simp h

one_tree : (path : List ℕ) (e : Entry) → IsClean path → IsTree ((path, e) ∷ [])
one_tree path e clean = record {
  clean = one;
  ordered = λ i j d lt within. absurd (omega arith);
}
  where
    one : All (λ (x : List ℕ × Entry). IsClean x.0) ((path, e) ∷ [])
    one zero d lt = clean
    one (suc k) d lt = absurd (omega arith)

pub tree_of_one : (path : List ℕ) (e : Entry) (tree : Entries) → IsClean path → IsTree tree → entry_at tree ≡ put (entry_at []) path (Some e) → tree ≡ (path, e) ∷ []
tree_of_one path e tree clean is same = same_trees tree ((path, e) ∷ []) is (one_tree path e clean) (λ q. ap (λ f. f q) same ∙ alone_at path q e)
